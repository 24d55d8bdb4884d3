-- A parsed recurrence is spelled: each value is a value of its part.
use Rattle.std.proofs.Common.{◌≡◌, ℕ, zero, suc, ◌+◌, ◌-◌, ◌/◌, ◌%◌, ◌<◌, ◌≤◌, Bool, true, false, cond, eqb, List, [], ◌∷◌, length, take, drop, Option, Some, None, Ok, Err, ℤ, pos, refl, sym, ap, ◌∙◌, subst, arith}
use Rattle.std.specs.Prelude.{⊤, codes, min, nat_le, nat_lt, neg_ℤ, slice_index, option_map, option_and_then, ◌&&◌, is_some, unwrap_or, IfSome, ◌≤ℤ◌}
use Rattle.std.specs.List.{All}
use Rattle.std.specs.Option.{option_map_or, option_or, option_zip}
use Rattle.std.specs.Str.Parse.{digits_value}
use Rattle.std.proofs.lemmas.Bool.{and_parts}
use Rattle.std.proofs.lemmas.Bool.Decides.{nat_tests}
use Rattle.std.proofs.lemmas.Int.{ints}
use Rattle.std.proofs.lemmas.List.{length-take}
use Rattle.std.proofs.lemmas.List.Elements.{All-cons, All-nil}
use Rattle.std.proofs.lemmas.Option.{IfSome_then}
use Rattle.std.proofs.lemmas.Str.Parse.{digits_value_short}
use Rattle.cal_time.specs.Date.{last_day, year_at}
use Rattle.cal_time.specs.Filters.{IsFirstDay, first_matching}
use Rattle.cal_time.specs.SignedDuration.{day}
use Rattle.cal_time.specs.Time.{nanosecond_of, time_of}
use Rattle.cal_time.specs.declared.Weekday.{Weekday}
use Rattle.cal_datetime.specs.DateTime.{date_time}
use Rattle.cal_datetime.specs.DateTimeLaws.{IsDateTime-date_time, date_at-date_time, time_at-date_time}
use Rattle.cal_schedule.specs.declared.rule.rule.ByDay.TheVariants.{Every, Nth}
use Rattle.cal_schedule.specs.declared.rule.rule.Frequency.{Frequency}
use Rattle.cal_schedule.specs.declared.rule.rule.Frequency.TheVariants.{Daily}
use Rattle.cal_recurrence.specs.DateWords.{date_or_time_of, day_with, has_digits, time_with, with_time, with_zone}
use Rattle.cal_recurrence.specs.Days.{excluded, ranks_alone}
use Rattle.cal_recurrence.specs.Spelled.{HasFourDigits, IsCount, IsDateOrTime, IsIndex, IsMonthDay, IsByDay, IsHour, IsMinute, IsPosition, IsSecond, IsWeek, IsEnd, IsPeriod, IsSpelled, IsWhole}
use Rattle.cal_recurrence.specs.Text.{each, end_said, fault, first_error, list_of, place_of, recurrence_said, said, valid_parts_say, value_in}
use Rattle.cal_recurrence.specs.Words.{bytes_after, by_hour_of, by_minute_of, by_second_of, clock_value_of, first_bytes, is_alike, parts_at, up_to, frequency_of, is_number, number_of, from_one_to, count_of, short_count_of, index_of, weekday_of, month_day_of, week_of, by_day_of, position_of}
use Rattle.cal_recurrence.specs.declared.clock_unit.ClockUnit.{ClockUnit}
use Rattle.cal_recurrence.specs.declared.date_or_time.DateOrTime.{DateOrTime}
use Rattle.cal_recurrence.specs.declared.date_or_time.DateOrTime.TheVariants.{Date, Local, Utc}
use Rattle.cal_recurrence.specs.declared.fault.ParseRuleError.{ParseRuleError}
use Rattle.cal_recurrence.specs.declared.fault.ParseRuleErrorKind.TheVariants.{Missing}
use Rattle.cal_recurrence.specs.declared.fault.RulePart.{RulePart}
use Rattle.cal_recurrence.specs.declared.fault.RulePart.TheVariants as part
use Rattle.cal_recurrence.specs.declared.recurrence.Recurrence.{Recurrence}
use Rattle.cal_recurrence.specs.declared.recurrence.RuleEnd.TheVariants.{Never, Until, Count}
use Rattle.cal_recurrence.proofs.Dates.{has_them}
use Rattle.cal_recurrence.proofs.Numbers.{digits, is_numeral}

-- ---- values that are there
pub guarded : {X : Type 0} (P : X → Type 0) (b : Bool) (x : X) → (b ≡ true → P x) → IfSome (cond b (Some x) None) P
guarded P true x h = h refl
guarded P false x h = tt

pub either : {X : Type 0} (P : X → Type 0) (b : Bool) (o p : Option X) → (b ≡ true → IfSome o P) → IfSome p P → IfSome (cond b o p) P
either P true o p h k = h refl
either P false o p h k = k

mapped : {X Y : Type 0} (P : X → Type 0) (Q : Y → Type 0) (f : X → Y) (o : Option X) → ((x : X) → P x → Q (f x)) → IfSome o P
    → IfSome (option_map f o) Q
mapped P Q f None h k = tt
mapped P Q f (Some x) h k = h x k

pub if_there : {X Y : Type 0} (P : X → Type 0) (Q : Y → Type 0) (f : X → Option Y) (o : Option X) → ((x : X) → P x → IfSome (f x) Q)
    → IfSome o P → IfSome (option_and_then f o) Q
if_there P Q f None h k = tt
if_there P Q f (Some x) h k = h x k

any : {X : Type 0} (o : Option X) → IfSome o (λ x. ⊤)
any None = tt
any (Some x) = tt

-- ---- numbers
abbrev IsUpTo : ℕ → ℕ → Type 0
IsUpTo most n = (1 ≤ n) × (n ≤ most)

one-to : (most n : ℕ) → IfSome (from_one_to most n) (IsUpTo most)
one-to most n =
    guarded (IsUpTo most) (nat_le 1 n && nat_le n most) n
    (λ e. let both = and_parts (nat_le 1 n) (nat_le n most) e in (grind (arith, nat_tests, both.0), grind (arith, nat_tests, both.1)))

counted : (most : ℕ) (word : List ℕ) → IfSome (count_of most word) (IsUpTo most)
counted most word = if_there (λ n. ⊤) (IsUpTo most) (from_one_to most) (number_of word) (λ n h. one-to most n) (any (number_of word))

short-counted : (size most : ℕ) (word : List ℕ) → IfSome (short_count_of size most word) (IsUpTo most)
short-counted size most word = either (IsUpTo most) (nat_le (length word) size) (count_of most word) None (λ e. counted most word) tt

minus : (most n : ℕ) → IsUpTo most n → IsIndex most (neg_ℤ (pos n))
minus most zero h = absurd (omega (arith, h.0))
minus most (suc n) h = h

indexed : (size most : ℕ) (word : List ℕ) → IfSome (index_of size most word) (IsIndex most)
indexed size most word =
    let after = short_count_of size most (drop 1 word) in
    let plain = short_count_of size most word in
    let minus_is = mapped (IsUpTo most) (IsIndex most) (λ n. neg_ℤ (pos n)) after (minus most) (short-counted size most (drop 1 word)) in
    let plus_is = mapped (IsUpTo most) (IsIndex most) pos after (λ n h. h) (short-counted size most (drop 1 word)) in
    let plain_is = mapped (IsUpTo most) (IsIndex most) pos plain (λ n h. h) (short-counted size most word) in
    let positive = cond (eqb (slice_index word 0) 43) (option_map pos after) (option_map pos plain) in
    either (IsIndex most) (eqb (slice_index word 0) 45) (option_map (λ n. neg_ℤ (pos n)) after) positive (λ e. minus_is)
    (either (IsIndex most) (eqb (slice_index word 0) 43) (option_map pos after) (option_map pos plain) (λ e. plus_is) plain_is)

-- ---- times of day
at-most : (most n : ℕ) → IfSome (up_to (min most 60) n) (λ k. k ≤ most)
at-most most n = guarded (λ k. k ≤ most) (nat_le n (min most 60)) n (λ e. grind (arith, nat_tests, e))

clock-valued : (most : ℕ) (word : List ℕ) → IfSome (clock_value_of most word) (λ k. k ≤ most)
clock-valued most word =
    let number = option_and_then (up_to (min most 60)) (number_of word) in
    either (λ k. k ≤ most) (nat_le (length word) 2) number None
    (λ e. if_there (λ n. ⊤) (λ k. k ≤ most) (up_to (min most 60)) (number_of word) (λ n h. at-most most n) (any (number_of word))) tt

counts : (word : List ℕ) → IfSome (count_of 4294967295 word) IsCount
counts word = IfSome_then (count_of 4294967295 word) (counted 4294967295 word) (λ n h. (h.0, omega (arith, h.1)))

-- ---- weekdays and days
zipped : (o : Option ℤ) (w : Option Weekday) → IfSome o (IsIndex 53)
    → IfSome (option_map (λ both. Nth both.0 both.1) (option_zip o w)) IsByDay
zipped None w h = tt
zipped (Some z) None h = tt
zipped (Some z) (Some w) h = h

by_days : (word : List ℕ) → IfSome (by_day_of word) IsByDay
by_days word =
    let front = length word - 2 in
    either IsByDay (eqb front 0) (option_map Every (weekday_of word))
    (option_map (λ both. Nth both.0 both.1) (option_zip (index_of 2 53 (take front word)) (weekday_of (drop front word))))
    (λ e. mapped (λ w. ⊤) IsByDay Every (weekday_of word) (λ w h. tt) (any (weekday_of word)))
    (zipped (index_of 2 53 (take front word)) (weekday_of (drop front word)) (indexed 2 53 (take front word)))

year-within : (z : ℤ) (n : ℕ) → z ≡ pos n → n ≤ 9999 → (pos 0 ≤ℤ z) × (z ≤ℤ pos 9999)
year-within z n e h = subst (λ y. (pos 0 ≤ℤ y) × (y ≤ℤ pos 9999)) (sym e) (omega (arith, ints), omega (arith, ints, h))

day-within : (n : ℕ) → n < 100000000 → IfSome (day_with n) HasFourDigits
unfolding day_with
day-within n small = within (day_with n) (first_matching (has_digits n) 0 (last_day + 1) (day_with n) refl)
  where
    within : (o : Option ℕ) → IfSome o (IsFirstDay (has_digits n) 0 (last_day + 1)) → IfSome o HasFourDigits
    within None h = tt
    within (Some k) h =
        let year = year-within (year_at k) (n / 10000) (ap (λ d. d.year) (has_them n (n / 100 % 100) k refl h.passes)) (omega (arith, small)) in
        (omega (arith, h.within), year.0, year.1)

numbers : (word : List ℕ) → length word ≤ 8 → IfSome (number_of word) (λ n. n < 100000000)
numbers word e =
    guarded (λ n. n < 100000000) (is_number word) (digits_value 10 word)
    (λ h. omega (arith, digits_value_short digits word 8 (is_numeral word h).0 e))

length-first : (n : ℕ) (word : List ℕ) → length (first_bytes n word) ≤ n
unfolding first_bytes
length-first n word = omega (arith, length-take n word)

-- a time of day without a fraction of a second
abbrev IsWholeTime : ℕ → Type 0
IsWholeTime t = (t < day) × (nanosecond_of t ≡ 0)

whole-time : (h m s : ℕ) → h < 24 → m < 60 → IsWholeTime (time_of h m (min s 59) 0)
whole-time h m s e f =
    let few : min s 59 ≤ 59 = grind (arith, nat_tests) in
    (omega (arith, e, f, few), omega (arith, few))

times : (k : ℕ) → IfSome (time_with k) IsWholeTime
times k =
    let hour = nat_lt (k / 10000) 24 in
    let minute = nat_lt (k / 100 % 100) 60 in
    let second = nat_le (k % 100) 60 in
    guarded IsWholeTime (hour && (minute && second)) (time_of (k / 10000) (k / 100 % 100) (min (k % 100) 59) 0)
    (λ e. let both = and_parts hour (minute && second) e in
    whole-time (k / 10000) (k / 100 % 100) (k % 100) (grind (arith, nat_tests, both.0)) (grind (arith, nat_tests, (and_parts minute second both.1).0)))

whole : (n t : ℕ) → HasFourDigits n → IsWholeTime t → IsWhole (date_time n t)
whole n t h k =
    (IsDateTime-date_time n t h.0 k.0, subst HasFourDigits (sym (date_at-date_time n t k.0)) h, ap nanosecond_of (time_at-date_time n t k.0) ∙ k.1)

zoned : (zone : List ℕ) (z : ℤ) → IsWhole z → IfSome (with_zone zone z) IsDateOrTime
zoned zone z h =
    let utc = is_alike zone (codes "Z") in
    either IsDateOrTime (eqb (length zone) 0) (Some (Local z)) (cond utc (Some (Utc z)) None) (λ e. h) (guarded IsDateOrTime utc (Utc z) (λ e. h))

timed : (time : List ℕ) (n : ℕ) → HasFourDigits n → IfSome (with_time time n) IsDateOrTime
timed time n h =
    let clock = number_of (first_bytes 6 (bytes_after 1 time)) in
    let zone = bytes_after 6 (bytes_after 1 time) in
    let reading = option_and_then (λ t. with_zone zone (date_time n t)) (option_and_then time_with clock) in
    let marked = is_alike (first_bytes 1 time) (codes "T") in
    either IsDateOrTime (eqb (length time) 0) (Some (Date n)) (cond (nat_lt (length time) 7) None (cond marked reading None)) (λ e. h)
    (either IsDateOrTime (nat_lt (length time) 7) None (cond marked reading None) (λ e. tt)
    (either IsDateOrTime marked reading None
    (λ e. if_there IsWholeTime IsDateOrTime (λ t. with_zone zone (date_time n t)) (option_and_then time_with clock) (λ t k. zoned zone (date_time n t) (whole n t h k))
    (if_there (λ k. ⊤) IsWholeTime time_with clock (λ k p. times k) (any clock))) tt))

pub dates : (word : List ℕ) → IfSome (date_or_time_of word) IsDateOrTime
dates word =
    let number = number_of (first_bytes 8 word) in
    let day = option_and_then day_with number in
    let reading = option_and_then (with_time (bytes_after 8 word)) day in
    either IsDateOrTime (nat_lt (length word) 8) None reading (λ e. tt)
    (if_there HasFourDigits IsDateOrTime (with_time (bytes_after 8 word)) day (timed (bytes_after 8 word))
    (if_there (λ n. n < 100000000) HasFourDigits day_with number day-within (numbers (first_bytes 8 word) (omega (arith, length-first 8 word)))))

-- ---- lists
one-more : {X : Type 0} (P : X → Type 0) (o : Option X) (p : Option (List X)) → IfSome o P → IfSome p (All P)
    → IfSome (option_map (λ both. both.0 ∷ both.1) (option_zip o p)) (All P)
one-more P None p h k = tt
one-more P (Some x) None h k = tt
one-more P (Some x) (Some xs) h k = All-cons P x xs h k

pub each-is : {X : Type 0} (P : X → Type 0) (meaning : List ℕ → Option X) → ((word : List ℕ) → IfSome (meaning word) P)
    → (words : List (List ℕ)) → IfSome (each meaning words) (All P)
each-is P meaning h [] = All-nil P
each-is P meaning h (word ∷ words) = one-more P (meaning word) (each meaning words) (h word) (each-is P meaning h words)

list-is : {X : Type 0} (P : X → Type 0) (meaning : List ℕ → Option X) → ((word : List ℕ) → IfSome (meaning word) P)
    → (value : List ℕ) → IfSome (list_of meaning value) (All P)
list-is P meaning h value = each-is P meaning h (parts_at 44 value)

-- ---- parts
period-if : (b : Bool) (x : Frequency × Option ClockUnit) (o : Option (Frequency × Option ClockUnit)) → IsPeriod x.0 x.1 → IfSome o (λ y. IsPeriod y.0 y.1)
    → IfSome (cond b (Some x) o) (λ y. IsPeriod y.0 y.1)
period-if true x o h k = h
period-if false x o h k = k

periods : (word : List ℕ) → IfSome (frequency_of word) (λ x. IsPeriod x.0 x.1)
periods word =
    period-if (is_alike word (codes "DAILY")) _ _ tt (
    period-if (is_alike word (codes "WEEKLY")) _ _ tt (
    period-if (is_alike word (codes "MONTHLY")) _ _ tt (
    period-if (is_alike word (codes "YEARLY")) _ _ tt (
    period-if (is_alike word (codes "HOURLY")) _ _ refl (
    period-if (is_alike word (codes "MINUTELY")) _ _ refl (
    period-if (is_alike word (codes "SECONDLY")) _ None refl tt))))))

-- ---- the whole
-- a meaning, or the default
or-default : {X : Type 0} (P : X → Type 0) (default : X) (o : Option X) → P default → IfSome o P → P (unwrap_or o default)
or-default P default None d h = d
or-default P default (Some x) d h = h

said-is : {X : Type 0} (P : X → Type 0) (meaning : List ℕ → Option X) (default : X) → P default → ((word : List ℕ) → IfSome (meaning word) P)
    → (value : Option (List ℕ)) → P (said meaning default value)
said-is P meaning default d h None = d
said-is P meaning default d h (Some word) = or-default P default (meaning word) d (h word)

list-said : {X : Type 0} (P : X → Type 0) (meaning : List ℕ → Option X) → ((word : List ℕ) → IfSome (meaning word) P)
    → (value : Option (List ℕ)) → All P (said (list_of meaning) [] value)
list-said P meaning h value = said-is (All P) (list_of meaning) [] (All-nil P) (list-is P meaning h) value

end-is : (until count : Option (List ℕ)) → IsEnd (end_said until count)
end-is until count =
    either-end (option_and_then date_or_time_of until) (option_and_then (count_of 4294967295) count)
    (if_there (λ word. ⊤) IsDateOrTime date_or_time_of until (λ word h. dates word) (any until))
    (if_there (λ word. ⊤) IsCount (count_of 4294967295) count (λ word h. counts word) (any count))
  where
    either-end : (u : Option DateOrTime) (c : Option ℕ) → IfSome u IsDateOrTime → IfSome c IsCount → IsEnd (unwrap_or (option_or (option_map Until u) (option_map Count c)) Never)
    either-end (Some last) c h k = h
    either-end None (Some n) h k = k
    either-end None None h k = tt

said_is_spelled : (values : RulePart → Option (List ℕ)) → excluded (recurrence_said values) ≡ None → ranks_alone (recurrence_said values) ≡ false
    → IsSpelled (recurrence_said values)
said_is_spelled values allowed ranked = record {
  period = said-is (λ x. IsPeriod x.0 x.1) frequency_of (Daily, None) tt periods (values part.Frequency);
  interval = said-is IsCount (count_of 4294967295) 1 (omega arith, omega arith) counts (values part.Interval);
  each_week = list-said IsWeek week_of (indexed 2 53) (values part.Weeks);
  each_year_day = list-said IsPosition position_of (indexed 3 366) (values part.YearDays);
  each_month_day = list-said IsMonthDay month_day_of (indexed 2 31) (values part.MonthDays);
  each_weekday = list-said IsByDay by_day_of by_days (values part.Weekdays);
  each_hour = list-said IsHour by_hour_of (clock-valued 23) (values part.Hours);
  each_minute = list-said IsMinute by_minute_of (clock-valued 59) (values part.Minutes);
  each_second = list-said IsSecond by_second_of (clock-valued 60) (values part.Seconds);
  each_position = list-said IsPosition position_of (indexed 3 366) (values part.Positions);
  allowed = allowed;
  ranked = ranked;
  end = end-is (values part.Until) (values part.Count);
}

pub valid_is_spelled : (at : ℕ) (texts : List (List ℕ)) (r : Recurrence)
    → Ok r ≡ valid_parts_say at texts → excluded r ≡ None → ranks_alone r ≡ false → IsSpelled r
valid_is_spelled at texts r e =
    let values = value_in texts in
    by (first_error at [] texts) (is_some (values part.Frequency)) (fault (place_of (codes "FREQ") at texts) Missing) (recurrence_said values) e (said_is_spelled values)
  where
    by : (o : Option ParseRuleError) (b : Bool) (missing : ParseRuleError) (said : Recurrence) → Ok r ≡ option_map_or Err o (cond b (Ok said) (Err missing))
        → (excluded said ≡ None → ranks_alone said ≡ false → IsSpelled said) → excluded r ≡ None → ranks_alone r ≡ false → IsSpelled r
    by (Some why) b missing said e h = absurd (cc)
    by None false missing said e h = absurd (cc)
    by None true missing said e h = let is : said ≡ r = cc in subst (λ x. excluded x ≡ None → ranks_alone x ≡ false → IsSpelled x) is h
