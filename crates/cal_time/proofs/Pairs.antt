-- A number splits into days and a time in one way, so a moved pair is one pair, or none.
use Rattle.std.proofs.Common.{◌≡◌, ℕ, ◌*◌, ◌<◌, ◌⊎◌, inl, inr, sym, ap, ◌∙◌, arith, ℤ, pos, negsuc, ◌+ℤ◌, ◌-ℤ◌, ◌*ℤ◌, ◌≤ℤ◌}
use Rattle.std.proofs.lemmas.Int.{ints}
use borrow.Author.Differences.{up, down}
use Rattle.cal_span.specs.SignedDuration.{day, whole_days}
use Rattle.cal_date.specs.Date.{IsDate, julian_day_at}
use Rattle.cal_date.specs.Arithmetic.{IsDateNumber}
use Rattle.cal_time.specs.Pair.{pair_number, HasPairNumber, NoPair}

-- The positive part and the negative part of a number of days in nanoseconds.
pub times-day : (s : ℤ) → (up (s *ℤ pos day) ≡ day * up s) × (down (s *ℤ pos day) ≡ day * down s)
times-day (pos n) = (omega (arith, ints), omega (arith, ints))
times-day (negsuc n) = (omega (arith, ints), omega (arith, ints))

-- The whole days of a duration don't have its opposite sign.
whole_days-sign : (v : ℤ) → (pos 0 ≤ℤ v → pos 0 ≤ℤ whole_days v) × (v ≤ℤ pos 0 → whole_days v ≤ℤ pos 0)
whole_days-sign (pos n) = (λ h. omega (arith, ints), λ h. omega (arith, ints))
whole_days-sign (negsuc n) = (λ h. omega (arith, ints), λ h. omega (arith, ints))

-- Equal numbers have the same day and the same time.
pub same_number : (j k : ℤ) (t u : ℕ) → t < day → u < day → j *ℤ pos day +ℤ pos t ≡ k *ℤ pos day +ℤ pos u → (j ≡ k) × (t ≡ u)
same_number j k t u a b e =
    let x = times-day j in
    let y = times-day k in
    (omega (arith, ints), omega (arith, ints))

-- The number z is k days after day n, at the time u.
pub record LiesAt (z : ℤ) (n : ℕ) (k : ℤ) (u : ℕ) : Type 0 where
  pub time : u < day
  pub number_is : z ≡ (julian_day_at n +ℤ k) *ℤ pos day +ℤ pos u

pub lies_after : (n t : ℕ) (v k : ℤ) (u : ℕ) → u < day → pos t +ℤ v ≡ k *ℤ pos day +ℤ pos u → LiesAt (pair_number n t +ℤ v) n k u
lies_after n t v k u below e =
    let x = times-day (julian_day_at n) in
    let y = times-day k in
    let z = times-day (julian_day_at n +ℤ k) in
    record { time = below; number_is = omega (arith, ints) }

pub lies_before : (n t : ℕ) (v k : ℤ) (u : ℕ) → u < day → pos t -ℤ v ≡ k *ℤ pos day +ℤ pos u → LiesAt (pair_number n t -ℤ v) n k u
lies_before n t v k u below e =
    let x = times-day (julian_day_at n) in
    let y = times-day k in
    let z = times-day (julian_day_at n +ℤ k) in
    record { time = below; number_is = omega (arith, ints) }

pub pair_at : (z : ℤ) (n : ℕ) (k : ℤ) (u m : ℕ) → LiesAt z n k u → IsDate m → pos m ≡ pos n +ℤ k → HasPairNumber z m u
pair_at z n k u m at h e =
    let day_is : julian_day_at m ≡ julian_day_at n +ℤ k = omega (arith, ints) in
    record {
      date = h;
      time = record { below_day = at.time };
      number_is = ap (λ j. j *ℤ pos day +ℤ pos u) day_is ∙ sym at.number_is;
    }

pub no_pair : (z : ℤ) (n : ℕ) (k : ℤ) (u : ℕ) (number : ℤ) → LiesAt z n k u → number ≡ pos n +ℤ k → ¬ IsDateNumber number → NoPair z
no_pair z n k u number at e none m t h =
    let same = same_number (julian_day_at m) (julian_day_at n +ℤ k) t u h.time.below_day at.time (h.number_is ∙ at.number_is) in
    let there : pos m ≡ number = omega (arith, ints, same.0) in
    none (record { not_before = omega (arith, ints); not_after = omega (arith, ints, h.date) })

-- c moves the number z further away from day n, or not at all.
pub record GoesAlong (n : ℕ) (z c : ℤ) : Type 0 where
  pub one_way : (pos n ≤ℤ z × pos 0 ≤ℤ c) ⊎ (z ≤ℤ pos n × c ≤ℤ pos 0)

pub along-add : (n : ℕ) (v c : ℤ) → (pos 0 ≤ℤ v → pos 0 ≤ℤ c) → (v ≤ℤ pos 0 → c ≤ℤ pos 0) → GoesAlong n (pos n +ℤ whole_days v) c
along-add n (pos d) c on back = let w = (whole_days-sign (pos d)).0 (omega (arith, ints)) in record { one_way = inl (omega (arith, ints), on (omega (arith, ints))) }
along-add n (negsuc d) c on back = let w = (whole_days-sign (negsuc d)).1 (omega (arith, ints)) in record { one_way = inr (omega (arith, ints), back (omega (arith, ints))) }

pub along-sub : (n : ℕ) (v c : ℤ) → (pos 0 ≤ℤ v → c ≤ℤ pos 0) → (v ≤ℤ pos 0 → pos 0 ≤ℤ c) → GoesAlong n (pos n -ℤ whole_days v) c
along-sub n (pos d) c back on = let w = (whole_days-sign (pos d)).0 (omega (arith, ints)) in record { one_way = inr (omega (arith, ints), back (omega (arith, ints))) }
along-sub n (negsuc d) c back on = let w = (whole_days-sign (negsuc d)).1 (omega (arith, ints)) in record { one_way = inl (omega (arith, ints), on (omega (arith, ints))) }

-- The date after the whole days is out of range only if the result is.
pub stays_outside : (n : ℕ) (z c : ℤ) → IsDate n → GoesAlong n z c → ¬ IsDateNumber z → ¬ IsDateNumber (z +ℤ c)
stays_outside n z c h along none both =
    elim along.one_way as (λ _. ⊥) [
      | inl on ↦ none (record { not_before = omega (arith, ints, on.0); not_after = omega (arith, ints, on.1, both.not_after) })
      | inr back ↦ none (record { not_before = omega (arith, ints, back.1, both.not_before); not_after = omega (arith, ints, back.0, h) })
    ]
