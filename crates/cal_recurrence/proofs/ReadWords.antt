-- The numbers and the names of a text, read back.
use Rattle.std.proofs.Common.{◌≡◌, ℕ, suc, ◌-◌, ◌<◌, ◌≤◌, ◌^◌, true, false, eqb, List, [], ◌∷◌, ◌++◌, length, take, drop, Some, None, ℤ, pos, negsuc, inl, inr, refl, ap, ◌∙◌, arith, lit<, Option, sym}
use Rattle.std.specs.Prelude.{◌⊎◌, decimal, min, neg_ℤ, nat_le, slice_index, option_map, option_and_then, ◌&&◌}
use Rattle.std.specs.Fmt.{signed_decimal}
use Rattle.std.specs.Str.{all_ascii_digits}
use Rattle.std.specs.Str.Parse.{digits_value}
use Rattle.std.proofs.lemmas.Bool.{and_from, cond-true, ne_eqb}
use Rattle.std.proofs.lemmas.Bool.Decides.{nat_tests}
use Rattle.std.proofs.lemmas.Fmt.{digits_decimal, digits_value-decimal, decimal_nonempty, length-decimal-le, first_decimal}
use Rattle.std.proofs.lemmas.List.{take-append-le, drop-append-le, take_all, drop_all, length-append}
use Rattle.std.proofs.lemmas.Str.Parse.{tells_all_ascii_digits}
use Rattle.cal_time.specs.Month.{number, index, month_of_index as month_with_index}
use Rattle.cal_time.specs.MonthCycle.{index-below, month_of_index-index}
use Rattle.cal_time.specs.declared.Month.{Month}
use Rattle.cal_time.specs.declared.Weekday.{Weekday}
use Rattle.cal_time.specs.declared.Weekday.TheVariants as weekday
use Rattle.cal_schedule.specs.declared.rule.rule.Frequency.{Frequency}
use Rattle.cal_schedule.specs.declared.rule.rule.Frequency.TheVariants as frequency
use Rattle.cal_schedule.specs.declared.rule.rule.ByDay.{ByDay}
use Rattle.cal_schedule.specs.declared.rule.rule.ByDay.TheVariants.{Every, Nth}
use Rattle.cal_recurrence.specs.Spelled.{IsPeriod, IsCount, IsIndex, IsByDay}
use Rattle.cal_recurrence.specs.Words.{is_number, number_of, from_one_to, clock_value_of, count_of, short_count_of, index_of, frequency_of, weekday_of, month_of, month_day_of, week_of, position_of, by_day_of}
use Rattle.cal_recurrence.specs.Written.{period_text, weekday_text, month_text, position_text, by_day_text}
use Rattle.cal_recurrence.specs.declared.clock_unit.ClockUnit.{ClockUnit}
use Rattle.cal_recurrence.specs.declared.clock_unit.ClockUnit.TheVariants as unit
use Rattle.cal_recurrence.proofs.Avoided.{avoids, avoids-append, avoids-cons}
use Rattle.cal_recurrence.proofs.Numbers.{digits, numeral_is}
use Rattle.cal_recurrence.proofs.ReadValues.{IsApart, IsWord}

-- ---- digits
outside : (c byte : ℕ) → 48 ≤ c → c ≤ 57 → (byte < 48) ⊎ (57 < byte) → eqb c byte ≡ false
outside c byte low high h = ne_eqb c byte (λ e. omega (arith, e, low, high, h))

pub digits-avoid : (byte : ℕ) (ds : List ℕ) → (byte < 48) ⊎ (57 < byte) → all_ascii_digits ds ≡ true → avoids byte ds ≡ true
digits-avoid byte [] h all = refl
digits-avoid byte (c ∷ cs) h all =
    let both = tells_all_ascii_digits.parts c cs all in
    avoids-cons byte c cs (outside c byte both.0.0 both.0.1 h) (digits-avoid byte cs h both.1)

decimal-avoids : (byte n : ℕ) → (byte < 48) ⊎ (57 < byte) → n < 2 ^ 32 → avoids byte (decimal n) ≡ true
decimal-avoids byte n h small = digits-avoid byte (decimal n) h (digits_decimal digits n (omega (arith, small)))

pub number-back : (word : List ℕ) (n : ℕ) → all_ascii_digits word ≡ true → 0 < length word → digits_value 10 word ≡ n → n < 4294967296
    → number_of word ≡ Some n
number-back word n all some value small =
    cond-true (is_number word) (Some (digits_value 10 word)) None (numeral_is word (all, some, omega (arith, value, small))) ∙ ap Some value

decimal-number : (n : ℕ) → n < 2 ^ 32 → number_of (decimal n) ≡ Some n
decimal-number n small =
    number-back (decimal n) n (digits_decimal digits n (omega (arith, small))) (decimal_nonempty n (omega (arith, small)))
    (digits_value-decimal digits n (omega (arith, small))) (omega (arith, small))

in-range : (most n : ℕ) → 1 ≤ n → n ≤ most → from_one_to most n ≡ Some n
in-range most n low high =
    cond-true (nat_le 1 n && nat_le n most) (Some n) None (and_from (nat_le 1 n) (nat_le n most) (grind (arith, nat_tests, low)) (grind (arith, nat_tests, high)))

count-back : (most n : ℕ) → 1 ≤ n → n ≤ most → n < 2 ^ 32 → count_of most (decimal n) ≡ Some n
count-back most n low high small = ap (option_and_then (from_one_to most)) (decimal-number n small) ∙ in-range most n low high

decimal-apart : (n : ℕ) → n < 2 ^ 32 → IsApart (decimal n)
decimal-apart n small = (decimal-avoids 10 n (inl (lit< tt)) small, decimal-avoids 44 n (inl (lit< tt)) small, decimal-avoids 59 n (inr (lit< tt)) small)

pub count-word : (n : ℕ) → IsCount n → IsWord (count_of 4294967295) n (decimal n)
count-word n h = record { apart = decimal-apart n h.1; means = count-back 4294967295 n h.0 (omega (arith, h.1)) h.1 }

short-back : (size most n : ℕ) → 0 < size → 1 ≤ n → n ≤ most → most < 10 ^ size → most < 1000 → short_count_of size most (decimal n) ≡ Some n
short-back size most n some low high two few =
    let short : length (decimal n) ≤ size = length-decimal-le size n some (omega (arith, high, two)) (omega (arith, high, few)) in
    let test : nat_le (length (decimal n)) size ≡ true = grind (arith, nat_tests, short) in
    rw test (count-back most n low high (omega (arith, high, few)))

-- ---- an index with its sign
plain-index : (size most : ℕ) (word : List ℕ) (n : ℕ) → 48 < slice_index word 0 → short_count_of size most word ≡ Some n
    → index_of size most word ≡ Some (pos n)
plain-index size most word n first h =
    let minus : eqb (slice_index word 0) 45 ≡ false = ne_eqb _ _ (λ e. omega (arith, e, first)) in
    let plus : eqb (slice_index word 0) 43 ≡ false = ne_eqb _ _ (λ e. omega (arith, e, first)) in
    rw (minus, plus, h) refl

pub index-back : (size most : ℕ) (z : ℤ) → 0 < size → most < 10 ^ size → most < 1000 → IsIndex most z → index_of size most (signed_decimal z) ≡ Some z
index-back size most (pos n) some two few h =
    let low : 1 ≤ n = h.0 in
    let high : n ≤ most = h.1 in
    plain-index size most (decimal n) n (first_decimal n (omega (arith, low)) (omega (arith, high, few))) (short-back size most n some low high two few)
index-back size most (negsuc n) some two few h =
    let low : 1 ≤ suc n = h.0 in
    let high : suc n ≤ most = h.1 in
    ap (option_map (λ n. neg_ℤ (pos n))) (short-back size most (suc n) some low high two few)

signed-avoids : (byte most : ℕ) (z : ℤ) → most < 1000 → IsIndex most z → eqb 45 byte ≡ false → (byte < 48) ⊎ (57 < byte)
    → avoids byte (signed_decimal z) ≡ true
signed-avoids byte most (pos n) two h minus out =
    let high : n ≤ most = h.1 in
    decimal-avoids byte n out (omega (arith, high, two))
signed-avoids byte most (negsuc n) two h minus out =
    let high : suc n ≤ most = h.1 in
    avoids-cons byte 45 (decimal (suc n)) minus (decimal-avoids byte (suc n) out (omega (arith, high, two)))

signed-apart : (most : ℕ) (z : ℤ) → most < 1000 → IsIndex most z → IsApart (signed_decimal z)
signed-apart most z few h = (signed-avoids 10 most z few h refl (inl (lit< tt)), signed-avoids 44 most z few h refl (inl (lit< tt)), signed-avoids 59 most z few h refl (inr (lit< tt)))

pub month_day-word : (z : ℤ) → IsIndex 31 z → IsWord month_day_of z (position_text z)
month_day-word z h = record { apart = signed-apart 31 z (lit< tt) h; means = index-back 2 31 z (lit< tt) (lit< tt) (lit< tt) h }

pub week-word : (z : ℤ) → IsIndex 53 z → IsWord week_of z (position_text z)
week-word z h = record { apart = signed-apart 53 z (lit< tt) h; means = index-back 2 53 z (lit< tt) (lit< tt) (lit< tt) h }

pub position-word : (z : ℤ) → IsIndex 366 z → IsWord position_of z (position_text z)
position-word z h = record { apart = signed-apart 366 z (lit< tt) h; means = index-back 3 366 z (lit< tt) (lit< tt) (lit< tt) h }

-- ---- an hour, a minute or a second
clock-back : (most n : ℕ) → n ≤ most → most ≤ 60 → clock_value_of most (decimal n) ≡ Some n
clock-back most n high few =
    let short : length (decimal n) ≤ 2 = length-decimal-le 2 n (lit< tt) (omega (arith, high, few)) (omega (arith, high, few)) in
    let test : nat_le (length (decimal n)) 2 ≡ true = grind (arith, nat_tests, short) in
    let within : nat_le n (min most 60) ≡ true = grind (arith, nat_tests, high, few) in
    rw (test, decimal-number n (omega (arith, high, few)), within) refl

pub clock-word : (most n : ℕ) → most ≤ 60 → n ≤ most → IsWord (clock_value_of most) n (decimal n)
clock-word most n few high = record { apart = decimal-apart n (omega (arith, high, few)); means = clock-back most n high few }

-- ---- names
number-most : (m : Month) → number m ≤ 12
number-most m = omega (arith, index-below m)

number-back_to : (m : Month) → month_with_index (number m - 1) ≡ m
number-back_to m = let same : number m - 1 ≡ index m = omega arith in ap month_with_index same ∙ month_of_index-index m

pub month-word : (m : Month) → IsWord month_of m (month_text m)
month-word m = record {
  apart = decimal-apart (number m) (omega (arith, number-most m));
  means = ap (option_map (λ n. month_with_index (n - 1))) (short-back 2 12 (number m) (lit< tt) (omega arith) (number-most m) (lit< tt) (lit< tt)) ∙ ap Some (number-back_to m);
}

pub frequency-word : (f : Frequency) (c : Option ClockUnit) → IsPeriod f c → IsWord frequency_of (f, c) (period_text f c)
frequency-word frequency.Daily None h = record { apart = (refl, refl, refl); means = refl }
frequency-word frequency.Weekly None h = record { apart = (refl, refl, refl); means = refl }
frequency-word frequency.Monthly None h = record { apart = (refl, refl, refl); means = refl }
frequency-word frequency.Yearly None h = record { apart = (refl, refl, refl); means = refl }
frequency-word f (Some unit.Hour) h = record { apart = (refl, refl, refl); means = ap (λ x. Some (x, Some unit.Hour)) (sym h) }
frequency-word f (Some unit.Minute) h = record { apart = (refl, refl, refl); means = ap (λ x. Some (x, Some unit.Minute)) (sym h) }
frequency-word f (Some unit.Second) h = record { apart = (refl, refl, refl); means = ap (λ x. Some (x, Some unit.Second)) (sym h) }

pub weekday-word : (w : Weekday) → IsWord weekday_of w (weekday_text w)
weekday-word weekday.Monday = record { apart = (refl, refl, refl); means = refl }
weekday-word weekday.Tuesday = record { apart = (refl, refl, refl); means = refl }
weekday-word weekday.Wednesday = record { apart = (refl, refl, refl); means = refl }
weekday-word weekday.Thursday = record { apart = (refl, refl, refl); means = refl }
weekday-word weekday.Friday = record { apart = (refl, refl, refl); means = refl }
weekday-word weekday.Saturday = record { apart = (refl, refl, refl); means = refl }
weekday-word weekday.Sunday = record { apart = (refl, refl, refl); means = refl }

two-letters : (w : Weekday) → length (weekday_text w) ≡ 2
two-letters weekday.Monday = refl
two-letters weekday.Tuesday = refl
two-letters weekday.Wednesday = refl
two-letters weekday.Thursday = refl
two-letters weekday.Friday = refl
two-letters weekday.Saturday = refl
two-letters weekday.Sunday = refl

every-back : (w : Weekday) → by_day_of (weekday_text w) ≡ Some (Every w)
every-back w =
    let none : length (weekday_text w) - 2 ≡ 0 = omega (arith, two-letters w) in
    rw (none, (weekday-word w).means) refl

nth-back : (index name : List ℕ) (z : ℤ) (w : Weekday) → 0 < length index → length name ≡ 2 → index_of 2 53 index ≡ Some z
    → weekday_of name ≡ Some w
    → by_day_of (index ++ name) ≡ Some (Nth z w)
nth-back index name z w some two e f =
    let front : length (index ++ name) - 2 ≡ length index = omega (arith, length-append index name, two) in
    let not_none : eqb (length index) 0 ≡ false = ne_eqb _ _ (λ h. omega (arith, h, some)) in
    let start : take (length index) (index ++ name) ≡ index = take-append-le (length index) index name (omega arith) ∙ take_all _ index (omega arith) in
    let rest : drop (length index) (index ++ name) ≡ name =
    drop-append-le (length index) index name (omega arith) ∙ ap (λ bytes. bytes ++ name) (drop_all _ index (omega arith)) in
    rw (front, not_none, start, rest, e, f) refl

signed-some : (most : ℕ) (z : ℤ) → most < 1000 → IsIndex most z → 0 < length (signed_decimal z)
signed-some most (pos n) two h = let high : n ≤ most = h.1 in decimal_nonempty n (omega (arith, high, two))
signed-some most (negsuc n) two h = omega arith

pub by_day-word : (d : ByDay) → IsByDay d → IsWord by_day_of d (by_day_text d)
by_day-word (Every w) h = record { apart = (weekday-word w).apart; means = every-back w }
by_day-word (Nth z w) h =
    let index = signed-apart 53 z (lit< tt) h in
    let name = weekday-word w in
    let joins = λ (byte : ℕ). avoids-append byte (signed_decimal z) (weekday_text w) in
    record {
      apart = (joins 10 index.0 name.apart.0, joins 44 index.1 name.apart.1, joins 59 index.2 name.apart.2);
      means = nth-back (signed_decimal z) (weekday_text w) z w (signed-some 53 z (lit< tt) h) (two-letters w) (index-back 2 53 z (lit< tt) (lit< tt) (lit< tt) h) name.means;
    }
