-- The day of a pair, found by its test.
use Rattle.std.proofs.Common.{◌≡◌, ℕ, Some, None, arith, ℤ, pos, ◌+ℤ◌, ◌-ℤ◌, ◌*ℤ◌, ◌≤ℤ◌, ◌<ℤ◌, unsigned_abs, Decides}
use Rattle.std.proofs.lemmas.Int.{ints}
use Rattle.cal_time.specs.Date.{julian_day_at, NoDate}
use Rattle.cal_time.specs.Pair.{HasPairNumber, NoPair}
use Rattle.cal_time.specs.SignedDuration.{day}
use Rattle.cal_time.proofs.Pairs.{times-day}
use Rattle.caltool.specs.Answers.{first_day_where, has_pair_number}
use Rattle.caltool.proofs.Days.{first_day_where-has, first_day_where-none}

abbrev Holds : ℤ → ℕ → Type 0
Holds z n = ((julian_day_at n *ℤ pos day) ≤ℤ z) × (z <ℤ ((julian_day_at n +ℤ pos 1) *ℤ pos day))

decides_pair : (z : ℤ) (n : ℕ) → Decides (has_pair_number z n) (Holds z n)
decides_pair z n = (λ p. (grind (arith, ints), grind (arith, ints)), λ h. grind (arith, ints))

one_day : (z : ℤ) (n m : ℕ) → Holds z n → Holds z m → n ≡ m
one_day z n m h f =
    let a = times-day (julian_day_at n) in
    let b = times-day (julian_day_at m) in
    let c = times-day (julian_day_at n +ℤ pos 1) in
    let d = times-day (julian_day_at m +ℤ pos 1) in
    omega (arith, ints)

holds : (z : ℤ) (n t : ℕ) → HasPairNumber z n t → Holds z n
holds z n t h =
    let a = times-day (julian_day_at n) in
    let b = times-day (julian_day_at n +ℤ pos 1) in
    let below = h.time.below_day in
    let same = h.number_is in
    (omega (arith, ints), omega (arith, ints))

pub first_day_where-pair : (z : ℤ) (n t : ℕ) → HasPairNumber z n t → first_day_where (has_pair_number z) ≡ Some n
first_day_where-pair z n t h =
    first_day_where-has (Holds z) (has_pair_number z) (decides_pair z) n h.date (holds z n t h) (λ m l f. one_day z m n f (holds z n t h))

pub rest-time : (z : ℤ) (n t : ℕ) → HasPairNumber z n t → unsigned_abs (z -ℤ julian_day_at n *ℤ pos day) ≡ t
rest-time z n t h = let same = h.number_is in omega (arith, ints)

no_day : (z : ℤ) → NoPair z → NoDate (Holds z)
no_day z none n l h =
    let a = times-day (julian_day_at n) in
    let b = times-day (julian_day_at n +ℤ pos 1) in
    let t = unsigned_abs (z -ℤ julian_day_at n *ℤ pos day) in
    none n t (record {
      date = l;
      time = record { below_day = omega (arith, ints) };
      number_is = omega (arith, ints);
    })

pub first_day_where-no_pair : (z : ℤ) → NoPair z → first_day_where (has_pair_number z) ≡ None
first_day_where-no_pair z none = first_day_where-none (Holds z) (has_pair_number z) (decides_pair z) (no_day z none)
