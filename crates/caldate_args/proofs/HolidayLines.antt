-- The lines of a file of holidays, one after another.
use Rattle.std.proofs.Common.{◌≡◌, ◌⊎◌, ℕ, ◌+◌, ◌<◌, ◌≤◌, List, [], ◌∷◌, ◌++◌, length, refl, sym, ap, ◌∙◌, subst, inl, inr, arith, append_assoc, length-append}
use Rattle.std.specs.List.{slice_split}
use Rattle.std.specs.Prelude.{◌↔◌, Contains}
use Rattle.std.proofs.lemmas.List.{append-nil}
use Rattle.std.proofs.lemmas.List.Elements.{All-nil, All-push, Contains-append_left, Contains-push, Contains-push_cases}
use Rattle.std.proofs.lemmas.List.Splits.{length-slice_split, slice_split_at, slice_split_none}
use Rattle.cal_holidays.specs.Holidays.{AreMore}
use Rattle.cal_time.specs.Counted.{IsRising}
use Rattle.cal_time.specs.Date.{julian_day_at}
use Rattle.caldate_lines.specs.Lines.{is_end, lines_of, without_empty_last}
use Rattle.caldate_lines.specs.RunStates.{HasNoFeed}
use Rattle.caldate_lines.proofs.Splits.{part_counts}
use Rattle.caldate_args.specs.Holidays.{AreHolidays, IsDayOf, IsErrorAt, IsHolidayOf, IsInvalidLine, IsLine, IsLineError, IsValidLine}
use Rattle.caldate_args.specs.declared.holidays.holiday_line.HolidayLine.{HolidayLine}
use Rattle.caldate_args.specs.declared.holidays.read_holidays_error.HolidayLineError.{HolidayLineError}
use Rattle.caldate_args.specs.declared.holidays.read_holidays_error.HolidayLineError.TheVariants.{NoDate, InvalidRule, TooMany}

-- a line, and those after it
pub first_cut : (line after : List ℕ) → HasNoFeed line → lines_of (line ++ 10 ∷ after) ≡ line ∷ lines_of after
first_cut line after n = ap without_empty_last (slice_split_at is_end line 10 after n refl) ∙ part_counts line (slice_split is_end after) (omega (arith, length-slice_split is_end after))

pub last_cut : (line : List ℕ) → HasNoFeed line → 0 < length line → lines_of line ≡ line ∷ lines_of []
last_cut [] n some = absurd (omega (arith, some))
last_cut (b ∷ bs) n some = ap without_empty_last (slice_split_none is_end (b ∷ bs) n)

-- ---- one more line
-- the days of a line and those of the lines before it
from_days : (lines : List (List ℕ)) (line : List ℕ) (meaning : HolidayLine) (days : List ℕ) (n : ℕ) → IsLine line meaning → AreHolidays lines days
    → IsDayOf meaning n ⊎ Contains days n → IsHolidayOf (lines ++ line ∷ []) n
from_days lines line meaning days n own h either = elim either [
  | inl new ↦ record { line = line; among = Contains-push lines line; is = record { meaning = meaning; is = own; day = new } }
  | inr old ↦
      let found = (h.each n).0 old in
      record { line = found.line; among = Contains-append_left lines (line ∷ []) found.line found.among; is = found.is }
]

into_days : (lines : List (List ℕ)) (line : List ℕ) (meaning : HolidayLine) (days : List ℕ) (n : ℕ) → ((other : HolidayLine) → IsLine line other → meaning ≡ other)
    → AreHolidays lines days → IsHolidayOf (lines ++ line ∷ []) n → IsDayOf meaning n ⊎ Contains days n
into_days lines line meaning days n one h found = elim (Contains-push_cases lines line found.line found.among) [
  | inl old ↦ inr ((h.each n).1 (record { line = found.line; among = old; is = found.is }))
  | inr same ↦
      let is = subst (λ l. IsLine l found.is.meaning) (sym same) found.is.is in
      inl (subst (λ m. IsDayOf m n) (sym (one found.is.meaning is)) found.is.day)
]

pub line_added : (lines : List (List ℕ)) (line : List ℕ) (meaning : HolidayLine) (days more : List ℕ) → IsLine line meaning
    → ((other : HolidayLine) → IsLine line other → meaning ≡ other) → IsRising julian_day_at more → ((n : ℕ) → Contains more n ↔ IsDayOf meaning n ⊎ Contains days n)
    → AreHolidays lines days → AreHolidays (lines ++ line ∷ []) more
line_added lines line meaning days more own one rising added h = record {
  valid = All-push IsValidLine lines line h.valid (meaning, own);
  rising = rising;
  each = λ n. (
    λ has. from_days lines line meaning days n own h ((added n).0 has),
    λ found. (added n).1 (into_days lines line meaning days n one h found),
  );
}

pub too_many : (lines : List (List ℕ)) (line : List ℕ) (meaning : HolidayLine) (days : List ℕ) (most : ℕ) → IsLine line meaning → AreHolidays lines days
    → AreMore (λ n. IsDayOf meaning n ⊎ Contains days n) most → AreMore (IsHolidayOf (lines ++ line ∷ [])) most
too_many lines line meaning days most own h more = record {
  days = more.days;
  rising = more.rising;
  more = more.more;
  each = λ n has. from_days lines line meaning days n own h (more.each n has);
}

pub line_invalid : (lines : List (List ℕ)) (line : List ℕ) (error : HolidayLineError) → IsInvalidLine line error → IsLineError lines line error
line_invalid lines line (NoDate error) h = h
line_invalid lines line (InvalidRule position) h = h
line_invalid lines line TooMany h = absurd h

-- ---- the lines so far
pub record IsSoFar (all rest : List ℕ) (number : ℕ) (days : List ℕ) : Type 0 where
  pub seen : List (List ℕ)
  pub cut : lines_of all ≡ seen ++ lines_of rest
  pub number_is : number ≡ length seen + 1
  pub are : AreHolidays seen days

pub none_so_far : (all : List ℕ) → IsSoFar all all 1 []
none_so_far all = record {
  seen = [];
  cut = refl;
  number_is = refl;
  are = record {
    valid = All-nil IsValidLine;
    rising = λ k d h. absurd (omega arith);
    each = λ n. (λ h. absurd (omega (arith, h.1)), λ h. absurd (omega (arith, h.among.1)));
  };
}

pub one_more_line : (all rest after line : List ℕ) (number : ℕ) (days more : List ℕ) → lines_of rest ≡ line ∷ lines_of after
    → ((lines : List (List ℕ)) → AreHolidays lines days → AreHolidays (lines ++ line ∷ []) more)
    → IsSoFar all rest number days → IsSoFar all after (number + 1) more
one_more_line all rest after line number days more e add s = record {
  seen = s.seen ++ line ∷ [];
  cut = s.cut ∙ ap (λ lines. s.seen ++ lines) e ∙ sym (append_assoc s.seen (line ∷ []) (lines_of after));
  number_is = omega (arith, s.number_is, length-append s.seen (line ∷ []));
  are = add s.seen s.are;
}

pub all_lines : (all rest : List ℕ) (number : ℕ) (days : List ℕ) → length rest ≤ 0 → IsSoFar all rest number days → AreHolidays (lines_of all) days
all_lines all [] number days h s = subst (λ lines. AreHolidays lines days) (sym (s.cut ∙ append-nil s.seen)) s.are
all_lines all (x ∷ xs) number days h s = absurd (omega (arith, h))

pub first_error : (all rest after line : List ℕ) (number : ℕ) (days : List ℕ) (error : HolidayLineError) → lines_of rest ≡ line ∷ lines_of after
    → length days ≤ 8192 → ((lines : List (List ℕ)) → AreHolidays lines days → IsLineError lines line error)
    → IsSoFar all rest number days → IsErrorAt (lines_of all) number error
first_error all rest after line number days error e few is s = record {
  before = s.seen;
  line = line;
  after = lines_of after;
  lines_are = s.cut ∙ ap (λ lines. s.seen ++ lines) e;
  readable = (days, s.are, few);
  number_is = s.number_is;
  is = is s.seen s.are;
}
