-- The days and readings of a text, read back.
use Rattle.std.proofs.Math.Nat.{pow-suc}
use Rattle.std.proofs.Common.{◌≡◌, ℕ, zero, suc, ◌+◌, ◌-◌, ◌*◌, ◌/◌, ◌%◌, ◌<◌, ◌≤◌, ◌^◌, true, false, eqb, List, [], ◌∷◌, ◌++◌, append-nil, append_assoc, length, Some, ℤ, pos, negsuc, inl, inr, refl, sym, ap, ◌∙◌, arith, lit<, slice_get}
use Rattle.std.specs.Prelude.{◌⊎◌, codes, decimal, min, nat_le, nat_lt, replicate, option_and_then, ◌≤ℤ◌}
use Rattle.std.specs.Char.{digit_value}
use Rattle.std.specs.Str.{all_ascii_digits}
use Rattle.std.specs.Str.Parse.{digits_value, digits_value_after}
use Rattle.std.proofs.lemmas.Bool.{and_from, and_parts, false_from_ne_true, ne_eqb}
use Rattle.std.proofs.lemmas.Bool.Decides.{nat_tests}
use Rattle.std.proofs.lemmas.Fmt.{digits_decimal, digits_value-decimal, length-decimal-le}
use Rattle.std.proofs.lemmas.Int.{ints}
use Rattle.std.proofs.lemmas.List.{drop-append-le, drop_all, length-append, length-replicate, take-append-le, take_all}
use Rattle.cal_time.specs.Date.{last_day, year_at, month_at, day_of_month_at, IsDate, HasCalendarDate}
use Rattle.cal_time.specs.DateText.{digits_at_least, sign_text, year_text}
use Rattle.cal_time.specs.Days.{month_at-range, day_of_month_at-range}
use Rattle.cal_time.specs.Filters.{filter-first}
use Rattle.cal_time.specs.Laws.{calendar_date-one}
use Rattle.cal_time.specs.SignedDuration.{day}
use Rattle.cal_time.specs.Time.{hour_of, minute_of, nanosecond_of, second_of, time_of}
use Rattle.cal_datetime.specs.DateTime.{date_at, date_time, time_at}
use Rattle.cal_datetime.specs.DateTimeLaws.{IsTime-time_at, date_time-parts}
use Rattle.cal_schedule.proofs.WeekdaysOfMonths.{days_in_month-most}
use Rattle.cal_recurrence.specs.DateWords.{date_or_time_of, day_with, has_digits, time_with, with_time, with_zone}
use Rattle.cal_recurrence.specs.Spelled.{HasFourDigits, IsDateOrTime, IsWhole}
use Rattle.cal_recurrence.specs.Words.{bytes_after, first_bytes, number_of}
use Rattle.cal_recurrence.specs.Written.{date_or_time_text, day_text, reading_text}
use Rattle.cal_recurrence.specs.declared.date_or_time.DateOrTime.{DateOrTime}
use Rattle.cal_recurrence.specs.declared.date_or_time.DateOrTime.TheVariants.{Date, Local, Utc}
use Rattle.cal_recurrence.proofs.Avoided.{avoids, avoids-append, avoids-cons}
use Rattle.cal_recurrence.proofs.Dates.{same_date, has_them, passes}
use Rattle.cal_recurrence.proofs.Numbers.{digits}
use Rattle.cal_recurrence.proofs.ReadValues.{IsWord}
use Rattle.cal_recurrence.proofs.ReadWords.{digits-avoid, number-back}

-- ---- digits that spell a number
record AreDigits (width n : ℕ) (ds : List ℕ) : Type 0 where
  all : all_ascii_digits ds ≡ true
  size : length ds ≡ width
  value : digits_value 10 ds ≡ n

zeros-all : (k : ℕ) (ds : List ℕ) → all_ascii_digits ds ≡ true → all_ascii_digits (replicate k 48 ++ ds) ≡ true
zeros-all zero ds h = h
zeros-all (suc k) ds h = zeros-all k ds h

zeros-value : (k : ℕ) (ds : List ℕ) → digits_value 10 (replicate k 48 ++ ds) ≡ digits_value 10 ds
zeros-value zero ds = refl
zeros-value (suc k) ds = zeros-value k ds

filled : (width n : ℕ) → 0 < width → n < 10 ^ width → n < 10 ^ 9 → AreDigits width n (digits_at_least width n)
filled width n some below small =
    let short = length-decimal-le width n some below (omega (arith, small)) in
    let zeros : List ℕ = replicate (width - length (decimal n)) 48 in
    record {
      all = zeros-all (width - length (decimal n)) (decimal n) (digits_decimal digits n (omega (arith, small)));
      size = length-append zeros (decimal n) ∙ omega (arith, short, length-replicate {A = ℕ} (width - length (decimal n)) 48);
      value = zeros-value (width - length (decimal n)) (decimal n) ∙ digits_value-decimal digits n (omega (arith, small));
    }

all-append : (xs ys : List ℕ) → all_ascii_digits xs ≡ true → all_ascii_digits ys ≡ true → all_ascii_digits (xs ++ ys) ≡ true
all-append [] ys h k = k
all-append (x ∷ xs) ys h k = let both = and_parts _ _ h in and_from _ _ both.0 (all-append xs ys both.1 k)

value-after : (n : ℕ) (ds : List ℕ) → digits_value_after 10 n ds ≡ n * 10 ^ length ds + digits_value 10 ds
value-after n [] = omega arith
value-after n (x ∷ xs) =
    let power = pow-suc 10 (length xs) in
    omega (arith, value-after (n * 10 + digit_value x) xs, value-after (0 * 10 + digit_value x) xs, ap (λ p. n * p) power)

value-append : (n : ℕ) (xs ys : List ℕ) → digits_value_after 10 n (xs ++ ys) ≡ digits_value_after 10 (digits_value_after 10 n xs) ys
value-append n [] ys = refl
value-append n (x ∷ xs) ys = value-append (n * 10 + digit_value x) xs ys

two-more : (width n m : ℕ) (xs ys : List ℕ) → AreDigits width n xs → AreDigits 2 m ys → AreDigits (width + 2) (n * 100 + m) (xs ++ ys)
two-more width n m xs ys h k = record {
  all = all-append xs ys h.all k.all;
  size = omega (arith, length-append xs ys, h.size, k.size);
  value =
      value-append 0 xs ys ∙ ap (λ v. digits_value_after 10 v ys) h.value ∙ value-after n ys
      ∙ ap (λ size. n * 10 ^ size + digits_value 10 ys) k.size ∙ omega (arith, k.value);
}

-- ---- the day
day-back : (number n : ℕ) → IsDate n → HasCalendarDate (pos (number / 10000)) (number / 100 % 100) (number % 100) n
    → day_with number ≡ Some n
unfolding day_with
day-back number n date h =
    let first = filter-first (has_digits number) 0 (last_day + 1) n (record {
      not_before = omega arith;
      within = omega (arith, date);
      passes = passes number (number / 100 % 100) n refl h;
      none_before = λ j low less. false_from_ne_true _ (λ on.
          let same = calendar_date-one (pos (number / 10000)) (number / 100 % 100) (number % 100) j n
          (omega (arith, less, date)) date (has_them number (number / 100 % 100) j refl on) h in
          omega (arith, same, less));
    }) in
    ap (λ days. slice_get days 0) first

-- a text of eight digits that spells a day
record SpellsDay (n : ℕ) (ds : List ℕ) : Type 0 where
  all : all_ascii_digits ds ≡ true
  size : length ds ≡ 8
  day : option_and_then day_with (number_of ds) ≡ Some n

plain-year : (y : ℕ) → y ≤ 9999 → sign_text (pos y) ≡ []
plain-year y h = grind (arith, nat_tests)

four_digits : (z : ℤ) → pos 0 ≤ℤ z → z ≤ℤ pos 9999 → (y : ℕ) × (z ≡ pos y) × (y ≤ 9999)
four_digits (pos y) low high = (y, refl, omega (arith, ints, high))
four_digits (negsuc y) low high = absurd (omega (arith, ints, low))

-- the text of two numbers of two digits after these digits
four-more : (width n a b : ℕ) (ds : List ℕ) → AreDigits width n ds → a < 100 → b < 100
    → AreDigits (width + 2 + 2) ((n * 100 + a) * 100 + b) (ds ++ digits_at_least 2 a ++ digits_at_least 2 b)
four-more width n a b ds h few less =
    two-more (width + 2) (n * 100 + a) b _ _ (two-more width n a ds _ h (filled 2 a (lit< tt) (omega (arith, few)) (omega (arith, few))))
    (filled 2 b (lit< tt) (omega (arith, less)) (omega (arith, less)))

spelled : (y m d n : ℕ) → IsDate n → year_at n ≡ pos y → month_at n ≡ m → day_of_month_at n ≡ d → y ≤ 9999 → m < 100 → d < 100
    → SpellsDay n (day_text n)
spelled y m d n date e f g small few less =
    let number = (y * 100 + m) * 100 + d in
    let year : year_text (year_at n) ≡ digits_at_least 4 y = ap year_text e ∙ ap (λ sign. sign ++ digits_at_least 4 y) (plain-year y small) in
    let word = digits_at_least 4 y ++ digits_at_least 2 m ++ digits_at_least 2 d in
    let same : day_text n ≡ word = rw (year, f, g) refl in
    let are : AreDigits 8 number word =
    four-more 4 y m d _ (filled 4 y (lit< tt) (omega (arith, small)) (omega (arith, small))) few less in
    let year_is : y ≡ number / 10000 = omega (arith, few, less) in
    let month_is : m ≡ number / 100 % 100 = omega (arith, few, less) in
    let day_is : d ≡ number % 100 = omega (arith, few, less) in
    let has = same_date _ _ _ n (e ∙ ap pos year_is) (f ∙ month_is) (g ∙ day_is) in
    record {
      all = ap all_ascii_digits same ∙ are.all;
      size = ap length same ∙ are.size;
      day =
          ap (λ w. option_and_then day_with (number_of w)) same
          ∙ ap (option_and_then day_with) (number-back word number are.all (omega (arith, are.size)) are.value (omega (arith, small, few, less)))
          ∙ day-back number n date has;
    }

day-spelled : (n : ℕ) → HasFourDigits n → SpellsDay n (day_text n)
day-spelled n h =
    let year = four_digits (year_at n) h.1 h.2 in
    let day = day_of_month_at-range n in
    spelled year.0 (month_at n) (day_of_month_at n) n h.0 year.1 refl refl year.2 (omega (arith, (month_at-range n).1))
    (omega (arith, day.1, days_in_month-most (year_at n) (month_at n)))

-- the day, and what follows it
day-then : (n : ℕ) (ds rest : List ℕ) → SpellsDay n ds → date_or_time_of (ds ++ rest) ≡ with_time rest n
unfolding first_bytes bytes_after
day-then n ds rest h =
    let word = ds ++ rest in
    let long : nat_lt (length word) 8 ≡ false = grind (arith, nat_tests, h.size, length-append ds rest) in
    let front : first_bytes 8 word ≡ ds = take-append-le 8 ds rest (omega (arith, h.size)) ∙ take_all 8 ds (omega (arith, h.size)) in
    let after : bytes_after 8 word ≡ rest = drop-append-le 8 ds rest (omega (arith, h.size)) ∙ ap (λ bytes. bytes ++ rest) (drop_all 8 ds (omega (arith, h.size))) in
    rw (long, after, front, h.day) refl

-- ---- the time of day
abbrev clock_digits : ℕ → List ℕ
clock_digits t = digits_at_least 2 (hour_of t) ++ digits_at_least 2 (minute_of t) ++ digits_at_least 2 (second_of t)

record SpellsTime (t : ℕ) (ds : List ℕ) : Type 0 where
  all : all_ascii_digits ds ≡ true
  size : length ds ≡ 6
  time : option_and_then time_with (number_of ds) ≡ Some t

time-back : (h m s t : ℕ) → h < 24 → m < 60 → s < 60 → time_of h m s 0 ≡ t → time_with ((h * 100 + m) * 100 + s) ≡ Some t
time-back h m s t few some less e =
    let number = (h * 100 + m) * 100 + s in
    let hour : number / 10000 ≡ h = omega (arith, some, less) in
    let minute : number / 100 % 100 ≡ m = omega (arith, some, less) in
    let second : number % 100 ≡ s = omega (arith, less) in
    let hours : nat_lt (number / 10000) 24 ≡ true = grind (arith, nat_tests, hour, few) in
    let minutes : nat_lt (number / 100 % 100) 60 ≡ true = grind (arith, nat_tests, minute, some) in
    let seconds : nat_le (number % 100) 60 ≡ true = grind (arith, nat_tests, second, less) in
    let plain : min (number % 100) 59 ≡ s = grind (arith, nat_tests, second, less) in
    rw (hours, minutes, seconds, hour, minute, plain, e) refl

time-spelled : (t : ℕ) → t < day → nanosecond_of t ≡ 0 → SpellsTime t (clock_digits t)
time-spelled t below none =
    let h = hour_of t in
    let m = minute_of t in
    let s = second_of t in
    let few : h < 24 = omega (arith, below) in
    let some : m < 60 = omega arith in
    let less : s < 60 = omega arith in
    let are : AreDigits 6 ((h * 100 + m) * 100 + s) (clock_digits t) = four-more 2 h m s _ (filled 2 h (lit< tt) (omega (arith, few)) (omega (arith, few))) (omega (arith, some)) (omega (arith, less)) in
    let whole : time_of h m s 0 ≡ t = omega (arith, none) in
    record {
      all = are.all;
      size = are.size;
      time =
          ap (option_and_then time_with) (number-back (clock_digits t) _ are.all (omega (arith, are.size)) are.value (omega (arith, few, some, less)))
          ∙ time-back h m s t few some less whole;
    }

-- the mark `T`, a time of day and the mark of its zone
time-then : (n t : ℕ) (ds zone : List ℕ) → SpellsTime t ds → with_time (84 ∷ (ds ++ zone)) n ≡ with_zone zone (date_time n t)
unfolding first_bytes bytes_after
time-then n t ds zone h =
    let clock = ds ++ zone in
    let size = length-append ds zone in
    let some : eqb (length (84 ∷ clock)) 0 ≡ false = ne_eqb _ _ (λ e. omega (arith, e)) in
    let long : nat_lt (length (84 ∷ clock)) 7 ≡ false = grind (arith, nat_tests, h.size, size) in
    let front : first_bytes 6 clock ≡ ds = take-append-le 6 ds zone (omega (arith, h.size)) ∙ take_all 6 ds (omega (arith, h.size)) in
    let after : bytes_after 6 clock ≡ zone = drop-append-le 6 ds zone (omega (arith, h.size)) ∙ ap (λ bytes. bytes ++ zone) (drop_all 6 ds (omega (arith, h.size))) in
    rw (some, long, after, front, h.time) refl

-- ---- the whole word
split-reading : (ds a b c : List ℕ) → ds ++ codes "T" ++ a ++ b ++ c ≡ ds ++ (84 ∷ (a ++ b ++ c))
split-reading ds a b c =
    simp append_assoc

reading-split : (z : ℤ) → reading_text z ≡ day_text (date_at z) ++ (84 ∷ clock_digits (time_at z))
reading-split z = split-reading (day_text (date_at z)) (digits_at_least 2 (hour_of (time_at z))) (digits_at_least 2 (minute_of (time_at z))) (digits_at_least 2 (second_of (time_at z)))

reading-spelled : (z : ℤ) → IsWhole z → SpellsTime (time_at z) (clock_digits (time_at z))
reading-spelled z h = time-spelled (time_at z) (IsTime-time_at z).below_day h.2

reading-back : (z : ℤ) (zone : List ℕ) → IsWhole z → date_or_time_of (reading_text z ++ zone) ≡ with_zone zone z
reading-back z zone h =
    let day = day_text (date_at z) in
    let clock = clock_digits (time_at z) in
    ap (λ w. date_or_time_of (w ++ zone)) (reading-split z) ∙ ap date_or_time_of (append_assoc day (84 ∷ clock) zone)
    ∙ day-then (date_at z) day (84 ∷ (clock ++ zone)) (day-spelled (date_at z) h.1)
    ∙ time-then (date_at z) (time_at z) clock zone (reading-spelled z h)
    ∙ ap (with_zone zone) (date_time-parts z h.0)

reading-avoids : (byte : ℕ) (z : ℤ) → (byte < 48) ⊎ (57 < byte) → eqb 84 byte ≡ false → IsWhole z → avoids byte (reading_text z) ≡ true
reading-avoids byte z out mark h =
    let clock = clock_digits (time_at z) in
    ap (avoids byte) (reading-split z)
    ∙ avoids-append byte (day_text (date_at z)) (84 ∷ clock) (digits-avoid byte (day_text (date_at z)) out (day-spelled (date_at z) h.1).all)
    (avoids-cons byte 84 clock mark (digits-avoid byte clock out (reading-spelled z h).all))

date-avoids : (byte : ℕ) (value : DateOrTime) → (byte < 48) ⊎ (57 < byte) → eqb 84 byte ≡ false → eqb 90 byte ≡ false → IsDateOrTime value
    → avoids byte (date_or_time_text value) ≡ true
date-avoids byte (Date n) out mark zone h = digits-avoid byte (day_text n) out (day-spelled n h).all
date-avoids byte (Local z) out mark zone h = reading-avoids byte z out mark h
date-avoids byte (Utc z) out mark zone h = avoids-append byte (reading_text z) (codes "Z") (reading-avoids byte z out mark h) (avoids-cons byte 90 [] zone refl)

date-back : (value : DateOrTime) → IsDateOrTime value → date_or_time_of (date_or_time_text value) ≡ Some value
date-back (Date n) h = ap date_or_time_of (sym (append-nil (day_text n))) ∙ day-then n (day_text n) [] (day-spelled n h)
date-back (Local z) h = ap date_or_time_of (sym (append-nil (reading_text z))) ∙ reading-back z [] h
date-back (Utc z) h = reading-back z (codes "Z") h

pub date-word : (value : DateOrTime) → IsDateOrTime value → IsWord date_or_time_of value (date_or_time_text value)
date-word value h = record {
  apart = (date-avoids 10 value (inl (lit< tt)) refl refl h, date-avoids 44 value (inl (lit< tt)) refl refl h, date-avoids 59 value (inr (lit< tt)) refl refl h);
  means = date-back value h;
}
