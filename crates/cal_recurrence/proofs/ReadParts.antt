-- The parts of a text that was written, read back one after another.
use Rattle.std.proofs.Common.{◌≡◌, ℕ, ◌+◌, ◌≤◌, Bool, true, false, cond, eqb, List, [], ◌∷◌, ◌++◌, append-nil, append_assoc, length, Option, Ok, ℤ, refl, sym, ap, subst, ◌∙◌, arith, inl, inr, lit<}
use Rattle.std.specs.Prelude.{codes, decimal, nat_le, option_map, ◌&&◌}
use Rattle.std.specs.List.{All}
use Rattle.std.proofs.lemmas.Bool.{and_right, cases_Bool, eqb-true}
use Rattle.std.proofs.lemmas.Bool.Decides.{nat_tests}
use Rattle.std.proofs.lemmas.List.Elements.{All-head, All-tail}
use Rattle.cal_time.specs.declared.Month.{Month}
use Rattle.cal_time.specs.declared.Weekday.{Weekday}
use Rattle.cal_time.specs.declared.Weekday.TheVariants as weekday
use Rattle.cal_schedule.specs.declared.rule.rule.Frequency.{Frequency}
use Rattle.cal_schedule.specs.declared.rule.rule.ByDay.{ByDay}
use Rattle.cal_schedule.specs.Pattern.{every}
use Rattle.cal_schedule.specs.declared.rule.pattern.Pattern.{Pattern}
use Rattle.cal_recurrence.specs.DateWords.{date_or_time_of}
use Rattle.cal_recurrence.specs.Spelled.{IsCount, IsMonthDay, IsByDay, IsHour, IsMinute, IsPosition, IsSecond, IsWeek, IsEnd, IsPeriod, IsSpelled}
use Rattle.cal_recurrence.specs.Drafts.{is_given, nothing, put, put_part, put_value, read_on}
use Rattle.cal_recurrence.specs.Text.{checked, list_of, parts_say, recurrence_of, ReadsBack}
use Rattle.cal_recurrence.specs.Words.{bytes_after, first_bytes, has_name, parts_at, frequency_of, weekday_of, count_of, month_of, month_day_of, week_of, by_day_of, by_hour_of, by_minute_of, by_second_of, position_of}
use Rattle.cal_recurrence.specs.Written.{period_text, weekday_text, month_text, by_day_text, position_text, date_or_time_text, interval_text, end_text, list_text, week_start_text, text_of}
use Rattle.cal_recurrence.specs.declared.clock_unit.ClockUnit.{ClockUnit}
use Rattle.cal_recurrence.specs.declared.draft.Draft.{Draft}
use Rattle.cal_recurrence.specs.declared.fault.RulePart.{RulePart}
use Rattle.cal_recurrence.specs.declared.fault.RulePart.TheVariants as part
use Rattle.cal_recurrence.specs.declared.recurrence.Recurrence.{Recurrence}
use Rattle.cal_recurrence.specs.declared.recurrence.RuleEnd.{RuleEnd}
use Rattle.cal_recurrence.specs.declared.recurrence.RuleEnd.TheVariants.{Never, Until, Count}
use Rattle.cal_recurrence.specs.declared.times_of_day.TimesOfDay.{TimesOfDay}
use Rattle.cal_recurrence.proofs.Avoided.{all-from, avoids, avoids-append, avoids-cons, cut-here, cut-nowhere}
use Rattle.cal_recurrence.proofs.ReadDates.{date-word}
use Rattle.cal_recurrence.proofs.ReadValues.{IsWord, IsValue, AreWords, one-word, list-value}
use Rattle.cal_recurrence.proofs.SaidParts.{read_said}
use Rattle.cal_recurrence.proofs.ReadWords.{clock-word, count-word, month-word, month_day-word, week-word, by_day-word, position-word, frequency-word, weekday-word}

-- ---- parts, each after a mark
abbrev parts_after : List ℕ → List (List ℕ)
parts_after [] = []
parts_after (mark ∷ text) = parts_at 59 text

-- after what the draft has, the rest of the text says r, on one line
record Says (draft : Draft) (rest : List ℕ) (r : Recurrence) : Type 0 where
  feed : avoids 10 rest ≡ true
  cut : (text : List ℕ) → avoids 59 text ≡ true → parts_at 59 (text ++ rest) ≡ text ∷ parts_after rest
  reads : (at : ℕ) → read_on at draft (parts_after rest) ≡ Ok r

-- a text has no end of a part or a line
record IsPlain (text : List ℕ) : Type 0 where
  feed : avoids 10 text ≡ true
  semicolon : avoids 59 text ≡ true

plain-value : {X : Type 0} (meaning : List ℕ → Option X) (x : X) (name value : List ℕ) → avoids 10 name ≡ true → avoids 59 name ≡ true
    → IsValue meaning x value → IsPlain (name ++ value)
plain-value meaning x name value feed semicolon h = record {
  feed = avoids-append 10 name value feed h.feed;
  semicolon = avoids-append 59 name value semicolon h.semicolon;
}

one-part : (draft more : Draft) (text rest : List ℕ) (r : Recurrence) → IsPlain text → put_part draft text ≡ Ok more
    → Says more rest r
    → Says draft (59 ∷ (text ++ rest)) r
one-part draft more text rest r plain put h = record {
  feed = avoids-cons 10 59 (text ++ rest) refl (avoids-append 10 text rest plain.feed h.feed);
  cut = λ first clean. cut-here 59 first (text ++ rest) clean;
  reads = λ at. rw (h.cut text plain.semicolon, put) (h.reads (at + length text + 1));
}

-- a value of a part that was not given before
given : {X : Type 0} (draft : Draft) (at : RulePart) (value : List ℕ) (meaning : List ℕ → Option X) (x : X) (to : X → Draft)
    → IsValue meaning x value → is_given draft at ≡ false → put draft at value ≡ option_map to (meaning value) → put_value draft value at ≡ Ok (to x)
given draft at value meaning x to h new e =
    rw (h.few, new, e, h.means) refl

-- ---- the parts in their order, each of which may be left out, and the draft after each
abbrev draft_of : Pattern → TimesOfDay → RuleEnd → Bool → Bool → Draft
draft_of pattern times end has_interval has_week_start = record {
  recurrence = record { pattern = pattern; times = times; end = end };
  has_frequency = true;
  has_interval = has_interval;
  has_week_start = has_week_start;
}

-- the times of day without lists
abbrev no_lists : Option ClockUnit → TimesOfDay
no_lists c = record { hours = []; minutes = []; seconds = []; clock = c }

frequency-said : (f : Frequency) (c : Option ClockUnit) (rest : List ℕ) (r : Recurrence) → IsPeriod f c → Says (draft_of (every f) (no_lists c) Never false false) rest r
    → Says nothing (59 ∷ ((codes "FREQ=" ++ period_text f c) ++ rest)) r
frequency-said f c rest r is h =
    let value = one-word frequency_of (f, c) (period_text f c) (frequency-word f c is) in
    one-part nothing (draft_of (every f) (no_lists c) Never false false) (codes "FREQ=" ++ period_text f c) rest r
    (plain-value frequency_of (f, c) (codes "FREQ=") (period_text f c) refl refl value)
    (given nothing part.Frequency (period_text f c) frequency_of (f, c) (λ x. draft_of (every x.0) (no_lists x.1) Never false false) value refl refl) h

interval-said : (p : Pattern) (c : Option ClockUnit) (n : ℕ) (rest : List ℕ) (r : Recurrence) → IsCount n
    → ((b : Bool) → Says (draft_of (record p { interval = n }) (no_lists c) Never b false) rest r)
    → Says (draft_of (record p { interval = 1 }) (no_lists c) Never false false) (interval_text n ++ rest) r
interval-said p c n rest r is h =
    let none = draft_of (record p { interval = 1 }) (no_lists c) Never false false in
    let value = one-word (count_of 4294967295) n (decimal n) (count-word n is) in
    let text : Bool → List ℕ = λ b. cond b [] (codes ";INTERVAL=" ++ decimal n) in
    elim (cases_Bool (eqb n 1)) as (λ _. Says none (interval_text n ++ rest) r) [
      | inl one ↦
          subst (λ b. Says none (text b ++ rest) r) (sym one)
          (subst (λ m. Says (draft_of (record p { interval = m }) (no_lists c) Never false false) rest r) (eqb-true n 1 one) (h false))
      | inr more ↦
          subst (λ b. Says none (text b ++ rest) r) (sym more)
          (one-part none (draft_of (record p { interval = n }) (no_lists c) Never true false) (codes "INTERVAL=" ++ decimal n) rest r
          (plain-value (count_of 4294967295) n (codes "INTERVAL=") (decimal n) refl refl value)
          (given none part.Interval (decimal n) (count_of 4294967295) n (λ x. draft_of (record p { interval = x }) (no_lists c) Never true false) value refl refl) (h true))
    ]

end-said : (p : Pattern) (c : Option ClockUnit) (i : Bool) (end : RuleEnd) (rest : List ℕ) (r : Recurrence) → IsEnd end → Says (draft_of p (no_lists c) end i false) rest r
    → Says (draft_of p (no_lists c) Never i false) (end_text end ++ rest) r
end-said p c i Never rest r is h = h
end-said p c i (Until last) rest r is h =
    let none = draft_of p (no_lists c) Never i false in
    let value = one-word date_or_time_of last (date_or_time_text last) (date-word last is) in
    one-part none (draft_of p (no_lists c) (Until last) i false) (codes "UNTIL=" ++ date_or_time_text last) rest r
    (plain-value date_or_time_of last (codes "UNTIL=") (date_or_time_text last) refl refl value)
    (given none part.Until (date_or_time_text last) date_or_time_of last (λ x. draft_of p (no_lists c) (Until x) i false) value refl refl) h
end-said p c i (Count n) rest r is h =
    let none = draft_of p (no_lists c) Never i false in
    let value = one-word (count_of 4294967295) n (decimal n) (count-word n is) in
    one-part none (draft_of p (no_lists c) (Count n) i false) (codes "COUNT=" ++ decimal n) rest r
    (plain-value (count_of 4294967295) n (codes "COUNT=") (decimal n) refl refl value)
    (given none part.Count (decimal n) (count_of 4294967295) n (λ x. draft_of p (no_lists c) (Count x) i false) value refl refl) h

-- a list, with the draft for each value of its part
list-said : {X : Type 0} (to : List X → Draft) (at : RulePart) (name : List ℕ) (meaning : List ℕ → Option X) (text : X → List ℕ)
    → ((value : List ℕ) → put_part (to []) (name ++ value) ≡ put_value (to []) value at) → is_given (to []) at ≡ false
    → ((value : List ℕ) → put (to []) at value ≡ option_map to (list_of meaning value))
    → avoids 10 name ≡ true → avoids 59 name ≡ true → (xs : List X) (rest : List ℕ) (r : Recurrence) → AreWords meaning text xs → length xs ≤ 62
    → Says (to xs) rest r
    → Says (to []) (list_text (59 ∷ name) text xs ++ rest) r
list-said to at name meaning text named new putting feed plain [] rest r words few h = h
list-said to at name meaning text named new putting feed plain (x ∷ xs) rest r words few h =
    let value = text x ++ list_text (codes ",") text xs in
    let is = list-value meaning text x xs words few in
    subst (λ words. Says (to []) (59 ∷ (words ++ rest)) r) (sym (append_assoc name (text x) (list_text (codes ",") text xs)))
    (one-part (to []) (to (x ∷ xs)) (name ++ value) rest r
    (plain-value (list_of meaning) (x ∷ xs) name value feed plain is)
    (named value ∙ given (to []) at value (list_of meaning) (x ∷ xs) to is new (putting value)) h)

week_start-given : (p : Pattern) (t : TimesOfDay) (end : RuleEnd) (i : Bool) (s : Weekday) (rest : List ℕ) (r : Recurrence)
    → Says (draft_of (record p { week_start = s }) t end i true) rest r
    → Says (draft_of (record p { week_start = weekday.Monday }) t end i false) ((codes ";WKST=" ++ weekday_text s) ++ rest) r
week_start-given p t end i s rest r h =
    let none = draft_of (record p { week_start = weekday.Monday }) t end i false in
    let value = one-word weekday_of s (weekday_text s) (weekday-word s) in
    one-part none (draft_of (record p { week_start = s }) t end i true) (codes "WKST=" ++ weekday_text s) rest r
    (plain-value weekday_of s (codes "WKST=") (weekday_text s) refl refl value)
    (given none part.WeekStart (weekday_text s) weekday_of s (λ x. draft_of (record p { week_start = x }) t end i true) value refl refl) h

week_start-said : (p : Pattern) (t : TimesOfDay) (end : RuleEnd) (i : Bool) (s : Weekday) (rest : List ℕ) (r : Recurrence)
    → ((b : Bool) → Says (draft_of (record p { week_start = s }) t end i b) rest r)
    → Says (draft_of (record p { week_start = weekday.Monday }) t end i false) (week_start_text s ++ rest) r
week_start-said p t end i weekday.Monday rest r h = h false
week_start-said p t end i weekday.Tuesday rest r h = week_start-given p t end i weekday.Tuesday rest r (h true)
week_start-said p t end i weekday.Wednesday rest r h = week_start-given p t end i weekday.Wednesday rest r (h true)
week_start-said p t end i weekday.Thursday rest r h = week_start-given p t end i weekday.Thursday rest r (h true)
week_start-said p t end i weekday.Friday rest r h = week_start-given p t end i weekday.Friday rest r (h true)
week_start-said p t end i weekday.Saturday rest r h = week_start-given p t end i weekday.Saturday rest r (h true)
week_start-said p t end i weekday.Sunday rest r h = week_start-given p t end i weekday.Sunday rest r (h true)

all-said : (r : Recurrence) (i s : Bool) → Says (draft_of r.pattern r.times r.end i s) [] r
all-said r i s = record {
  feed = refl;
  cut = λ text clean. ap (parts_at 59) (append-nil text) ∙ cut-nowhere 59 text clean;
  reads = λ at. refl;
}

-- ---- lists
words : {X : Type 0} (P : X → Type 0) (meaning : List ℕ → Option X) (text : X → List ℕ) → ((x : X) → P x → IsWord meaning x (text x))
    → (xs : List X) → All P xs → AreWords meaning text xs
words P meaning text word [] h = tt
words P meaning text word (x ∷ xs) h = (word x (All-head P x xs h), words P meaning text word xs (All-tail P x xs h))

month-words : (xs : List Month) → AreWords month_of month_text xs
month-words [] = tt
month-words (x ∷ xs) = (month-word x, month-words xs)

-- ---- the whole
grouped : (a b c d e f g h j k l m n : List ℕ)
    → a ++ b ++ c ++ d ++ e ++ f ++ g ++ h ++ j ++ k ++ l ++ m ++ n ≡ a ++ (b ++ (c ++ (d ++ (e ++ (f ++ (g ++ (h ++ (j ++ (k ++ (l ++ (m ++ (n ++ []))))))))))))
grouped a b c d e f g h j k l m n = simp (append_assoc, append-nil)

no-name : (r : Recurrence) → has_name (text_of r) ≡ false
unfolding first_bytes
no-name r = and_right (nat_le 6 (length (text_of r))) false refl

-- no list has more values than its part may have
pub record AreFew (r : Recurrence) : Type 0 where
  pub months : length r.pattern.months ≤ 62
  pub weeks : length r.pattern.weeks ≤ 62
  pub year_days : length r.pattern.year_days ≤ 62
  pub month_days : length r.pattern.month_days ≤ 62
  pub weekdays : length r.pattern.weekdays ≤ 62
  pub hours : length r.times.hours ≤ 62
  pub minutes : length r.times.minutes ≤ 62
  pub seconds : length r.times.seconds ≤ 62
  pub set_positions : length r.pattern.set_positions ≤ 62

said : (r : Recurrence) → AreFew r → IsSpelled r → Says nothing (59 ∷ text_of r) r
said r few h =
    let p = r.pattern in
    let t = r.times in
    let to : List Month → List ℤ → List ℤ → List ℤ → List ByDay → List ℤ → Pattern =
    λ m n y d w k. record { frequency = p.frequency; interval = p.interval; week_start = weekday.Monday; months = m; weeks = n; year_days = y; month_days = d; weekdays = w; set_positions = k } in
    let at : List ℕ → List ℕ → List ℕ → TimesOfDay = λ h m s. record { hours = h; minutes = m; seconds = s; clock = t.clock } in
    let days = to p.months p.weeks p.year_days p.month_days p.weekdays [] in
    let starts = week_start_text p.week_start ++ [] in
    let positions = list_text (codes ";BYSETPOS=") position_text p.set_positions ++ starts in
    let seconds = list_text (codes ";BYSECOND=") decimal t.seconds ++ positions in
    let minutes = list_text (codes ";BYMINUTE=") decimal t.minutes ++ seconds in
    let hours = list_text (codes ";BYHOUR=") decimal t.hours ++ minutes in
    let weekdays = list_text (codes ";BYDAY=") by_day_text p.weekdays ++ hours in
    let month_days = list_text (codes ";BYMONTHDAY=") position_text p.month_days ++ weekdays in
    let year_days = list_text (codes ";BYYEARDAY=") position_text p.year_days ++ month_days in
    let weeks = list_text (codes ";BYWEEKNO=") position_text p.weeks ++ year_days in
    let months = list_text (codes ";BYMONTH=") month_text p.months ++ weeks in
    let end = end_text r.end ++ months in
    let interval = interval_text p.interval ++ end in
    let week_words = words IsWeek week_of position_text week-word p.weeks h.each_week in
    let year_day_words = words IsPosition position_of position_text position-word p.year_days h.each_year_day in
    let day_words = words IsMonthDay month_day_of position_text month_day-word p.month_days h.each_month_day in
    let weekday_words = words IsByDay by_day_of by_day_text by_day-word p.weekdays h.each_weekday in
    let hour_words = words IsHour by_hour_of decimal (λ n. clock-word 23 n (lit< tt)) t.hours h.each_hour in
    let minute_words = words IsMinute by_minute_of decimal (λ n. clock-word 59 n (lit< tt)) t.minutes h.each_minute in
    let second_words = words IsSecond by_second_of decimal (λ n. clock-word 60 n (lit< tt)) t.seconds h.each_second in
    let position_words = words IsPosition position_of position_text position-word p.set_positions h.each_position in
    subst (λ text. Says nothing (59 ∷ text) r) (sym (grouped (codes "FREQ=" ++ period_text p.frequency t.clock) (interval_text p.interval) (end_text r.end)
    (list_text (codes ";BYMONTH=") month_text p.months)
    (list_text (codes ";BYWEEKNO=") position_text p.weeks)
    (list_text (codes ";BYYEARDAY=") position_text p.year_days)
    (list_text (codes ";BYMONTHDAY=") position_text p.month_days)
    (list_text (codes ";BYDAY=") by_day_text p.weekdays)
    (list_text (codes ";BYHOUR=") decimal t.hours)
    (list_text (codes ";BYMINUTE=") decimal t.minutes)
    (list_text (codes ";BYSECOND=") decimal t.seconds)
    (list_text (codes ";BYSETPOS=") position_text p.set_positions)
    (week_start_text p.week_start)))
    (frequency-said p.frequency t.clock interval r h.period (interval-said (to [] [] [] [] [] []) t.clock p.interval end r h.interval (λ i.
    end-said (to [] [] [] [] [] []) t.clock i r.end months r h.end (
    list-said (λ xs. draft_of (to xs [] [] [] [] []) (no_lists t.clock) r.end i false) part.Months (codes "BYMONTH=") month_of month_text (λ v. refl) refl (λ v. refl) refl refl p.months weeks r (month-words p.months) few.months (
    list-said (λ xs. draft_of (to p.months xs [] [] [] []) (no_lists t.clock) r.end i false) part.Weeks (codes "BYWEEKNO=") week_of position_text (λ v. refl) refl (λ v. refl) refl refl p.weeks year_days r week_words few.weeks (
    list-said (λ xs. draft_of (to p.months p.weeks xs [] [] []) (no_lists t.clock) r.end i false) part.YearDays (codes "BYYEARDAY=") position_of position_text (λ v. refl) refl (λ v. refl) refl refl p.year_days month_days r year_day_words few.year_days (
    list-said (λ xs. draft_of (to p.months p.weeks p.year_days xs [] []) (no_lists t.clock) r.end i false) part.MonthDays (codes "BYMONTHDAY=") month_day_of position_text (λ v. refl) refl (λ v. refl) refl refl p.month_days weekdays r day_words few.month_days (
    list-said (λ xs. draft_of (to p.months p.weeks p.year_days p.month_days xs []) (no_lists t.clock) r.end i false) part.Weekdays (codes "BYDAY=") by_day_of by_day_text (λ v. refl) refl (λ v. refl) refl refl p.weekdays hours r weekday_words few.weekdays (
    list-said (λ xs. draft_of days (at xs [] []) r.end i false) part.Hours (codes "BYHOUR=") by_hour_of decimal (λ v. refl) refl (λ v. refl) refl refl t.hours minutes r hour_words few.hours (
    list-said (λ xs. draft_of days (at t.hours xs []) r.end i false) part.Minutes (codes "BYMINUTE=") by_minute_of decimal (λ v. refl) refl (λ v. refl) refl refl t.minutes seconds r minute_words few.minutes (
    list-said (λ xs. draft_of days (at t.hours t.minutes xs) r.end i false) part.Seconds (codes "BYSECOND=") by_second_of decimal (λ v. refl) refl (λ v. refl) refl refl t.seconds positions r second_words few.seconds (
    list-said (λ xs. draft_of (to p.months p.weeks p.year_days p.month_days p.weekdays xs) t r.end i false) part.Positions (codes "BYSETPOS=") position_of position_text (λ v. refl) refl (λ v. refl) refl refl p.set_positions starts r position_words few.set_positions (
    week_start-said (to p.months p.weeks p.year_days p.month_days p.weekdays p.set_positions) t r.end i p.week_start [] r (λ s.
    all-said r i s))))))))))))))

-- the parts of the text, the first of which begins at byte `at`
says-it : (at : ℕ) (r : Recurrence) → AreFew r → IsSpelled r → parts_say at (parts_at 59 (text_of r)) ≡ Ok r
says-it at r few h =
    let no-error : checked at (parts_at 59 (text_of r)) (Ok r) ≡ Ok r = rw (h.allowed, h.ranked) refl in
    ap (checked at (parts_at 59 (text_of r))) (sym (read_said at (parts_at 59 (text_of r))) ∙ (said r few h).reads at) ∙ no-error

unnamed : (r : Recurrence) → AreFew r → IsSpelled r → recurrence_of (text_of r) ≡ Ok r
unnamed r few h = rw (no-name r) (says-it 0 r few h)

pub after-name : (text : List ℕ) → recurrence_of (codes "RRULE:" ++ text) ≡ parts_say 6 (parts_at 59 text)
unfolding first_bytes bytes_after
after-name text =
    let long : nat_le 6 (length (codes "RRULE:" ++ text)) ≡ true = grind (arith, nat_tests) in
    ap (λ b. cond (b && true) (parts_say 6 (parts_at 59 text)) (parts_say 0 (parts_at 59 (codes "RRULE:" ++ text)))) long

pub reads_back : (r : Recurrence) (text : List ℕ) → text ≡ text_of r → AreFew r → IsSpelled r → ReadsBack r text
reads_back r text e few h =
    subst (ReadsBack r) (sym e) (record {
      alone = unnamed r few h;
      named = after-name (text_of r) ∙ says-it 6 r few h;
      one_line = all-from 10 (text_of r) (said r few h).feed;
    })
