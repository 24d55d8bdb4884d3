-- The text of a moment is one that reads as that moment.
use Rattle.std.proofs.Common.{true, false, ◌≡◌, ℕ, zero, suc, ◌/◌, ◌%◌, ◌<◌, ◌≤◌, ℤ, pos, negsuc, ◌≤ℤ◌, unsigned_abs, List, [], ◌∷◌, ◌++◌, length, refl, sym, ap, ◌∙◌, arith, inl, inr, false}
use Rattle.std.specs.Prelude.{◌==◌}
use Rattle.std.proofs.lemmas.Bool.Decides.{nat_tests}
use Rattle.std.proofs.lemmas.Int.{ints}
use Rattle.std.proofs.lemmas.List.{append_assoc}
use Rattle.cal_time.proofs.Decimals.{decimals-few}
use Rattle.cal_time.specs.CalendarDay.{calendar_day}
use Rattle.cal_time.specs.Date.{year_at, month_at, day_of_month_at}
use Rattle.cal_time.specs.DateText.{digits_at_least}
use Rattle.cal_time.specs.Digits.{decimals}
use Rattle.cal_time.specs.Time.{hour_of, minute_of, second_of, nanosecond_of}
use Rattle.cal_time.proofs.DistinctTexts.{year-plain}
use Rattle.cal_datetime.specs.DateTime.{IsDateTime, date_at, time_at}
use Rattle.cal_datetime.specs.DateTimeLaws.{IsTime-time_at}
use Rattle.cal_datetime.specs.OffsetDateTime.{LocalAndOffset}
use Rattle.cal_text.specs.DateForms.{year_text}
use Rattle.cal_text.specs.declared.rfc3339.numbers.TimeOffset.{TimeOffset}
use Rattle.cal_text.specs.declared.rfc3339.numbers.TimeOffset.TheVariants.{Utc, Signed}
use Rattle.cal_text.specs.Rfc3339.{fraction_text, offset_text, moment_text, HasMomentText}
use Rattle.cal_text.specs.Rfc3339Form.{IsFraction, IsTimeOffset, IsOffsetOf, IsMomentText}
use Rattle.cal_text.proofs.Ranges.{month_at-below, day_of_month_at-below}
use Rattle.cal_text.proofs.PrintedDecimals.{decimals-digits, decimals-nanoseconds}

-- the fraction
digits-some : (ns : ℕ) → ns < 1000000000 → 0 < ns → IsFraction (46 ∷ decimals ns) ns
digits-some ns h some = inr (decimals ns, record { some = omega arith; all = decimals-digits ns h; bytes_are = refl; value = sym (decimals-nanoseconds ns h) })

not_zero : (k : ℕ) → (suc k == 0) ≡ false
not_zero k = grind (arith, nat_tests)

pub fraction : (ns : ℕ) → ns < 1000000000 → IsFraction (fraction_text ns) ns
fraction zero h = inl (refl, refl)
fraction (suc k) h = rw (not_zero k) (digits-some (suc k) h (omega arith))

pub fraction-long : (ns : ℕ) → ns < 1000000000 → length (fraction_text ns) ≤ 10
fraction-long zero h = omega arith
fraction-long (suc k) h = rw (not_zero k) (omega (arith, decimals-few (suc k)))

-- the offset
abbrev pub time_offset_at : ℤ → TimeOffset
time_offset_at (pos zero) = Utc
time_offset_at (pos (suc k)) = Signed false (suc k / 3600) (suc k / 60 % 60)
time_offset_at (negsuc k) = Signed true (suc k / 3600) (suc k / 60 % 60)

signed : (sign : ℕ) (xs ys : List ℕ) → sign ∷ [] ++ xs ++ 58 ∷ [] ++ ys ≡ sign ∷ (xs ++ 58 ∷ ys)
signed sign xs ys = simp append_assoc

pub offset-printed : (o : ℤ) → unsigned_abs o < 86400 → IsTimeOffset (offset_text o) (time_offset_at o)
offset-printed (pos zero) h = inl refl
offset-printed (pos (suc k)) h = rw (not_zero k) (omega arith, omega arith, signed 43 (digits_at_least 2 (suc k / 3600)) (digits_at_least 2 (suc k / 60 % 60)))
offset-printed (negsuc k) h = rw (not_zero k) (omega arith, omega arith, signed 45 (digits_at_least 2 (suc k / 3600)) (digits_at_least 2 (suc k / 60 % 60)))

pub offset : (o : ℤ) → unsigned_abs o < 86400 → unsigned_abs o % 60 ≡ 0 → IsOffsetOf (time_offset_at o) o
offset (pos zero) h whole = refl
offset (pos (suc k)) h whole = (omega arith, omega arith, omega (arith, ints, whole))
offset (negsuc k) h whole = (omega arith, omega arith, omega (arith, ints, whole))

-- the whole
year-digits : (y : ℤ) → pos 0 ≤ℤ y → y ≤ℤ pos 9999 → year_text y ≡ digits_at_least 4 (unsigned_abs y)
year-digits (pos k) low high = year-plain k (omega (arith, ints, high))
year-digits (negsuc k) low high = absurd (omega (arith, ints, low))

year-is : (y : ℤ) → pos 0 ≤ℤ y → y ≡ pos (unsigned_abs y)
year-is (pos k) low = refl
year-is (negsuc k) low = absurd (omega (arith, ints, low))

joined : (ys ms ds hs ns ss fs os : List ℕ) → ys ++ 45 ∷ [] ++ ms ++ 45 ∷ [] ++ ds ++ 84 ∷ [] ++ hs ++ 58 ∷ [] ++ ns ++ 58 ∷ [] ++ ss ++ fs ++ os
    ≡ (ys ++ 45 ∷ [] ++ ms ++ 45 ∷ [] ++ ds) ++ 84 ∷ ((hs ++ 58 ∷ [] ++ ns ++ 58 ∷ [] ++ ss) ++ (fs ++ os))
joined ys ms ds hs ns ss fs os = simp append_assoc

pub printed : (m : LocalAndOffset) → IsDateTime m.local → HasMomentText m → IsMomentText (moment_text m) m
printed m in_range has =
    let n = date_at m.local in
    let t = time_at m.local in
    let o = m.offset in
    let y = unsigned_abs (year_at n) in
    let below = (IsTime-time_at m.local).below_day in
    let ns : nanosecond_of t < 1000000000 = omega arith in
    let year : year_at n ≡ pos y = year-is (year_at n) has.from_year_0 in (
      record {
        year = y;
        month = month_at n;
        day = day_of_month_at n;
        hour = hour_of t;
        minute = minute_of t;
        second = second_of t;
        nanosecond = nanosecond_of t;
        offset = time_offset_at o;
      },
      record {
        numbers = record {
          year = omega (arith, ints, has.to_year_9999, has.from_year_0);
          month = month_at-below n;
          day = day_of_month_at-below n;
          hour = omega (arith, below);
          minute = omega arith;
          second = omega arith;
          nanosecond = ns;
        };
        separator = 84;
        fraction = fraction_text (nanosecond_of t);
        offset = offset_text o;
        is_separator = inl refl;
        is_fraction = fraction (nanosecond_of t) ns;
        is_offset = offset-printed o has.below_day;
        bytes_are = ap (λ ys. ys ++ 45 ∷ [] ++ digits_at_least 2 (month_at n) ++ 45 ∷ [] ++ digits_at_least 2 (day_of_month_at n) ++ 84 ∷ [] ++ digits_at_least 2 (hour_of t)
            ++ 58 ∷ [] ++ digits_at_least 2 (minute_of t) ++ 58 ∷ [] ++ digits_at_least 2 (second_of t) ++ fraction_text (nanosecond_of t) ++ offset_text o)
            (year-digits (year_at n) has.from_year_0 has.to_year_9999)
            ∙ joined (digits_at_least 4 y) (digits_at_least 2 (month_at n)) (digits_at_least 2 (day_of_month_at n)) (digits_at_least 2 (hour_of t)) (digits_at_least 2 (minute_of t))
            (digits_at_least 2 (second_of t)) (fraction_text (nanosecond_of t)) (offset_text o);
      },
      record {
        in_range = in_range;
        date = ap (λ z. calendar_day z (month_at n) (day_of_month_at n)) year;
        hour = omega (arith, below);
        minute = omega arith;
        second = omega arith;
        time = omega (arith, below);
        offset = offset o has.below_day has.whole_minutes;
      },
    )
