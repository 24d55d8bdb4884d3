-- Moments some days later, at another time of day.
use Rattle.std.proofs.Common.{◌≡◌, ℕ, ◌<◌, ◌≤◌, sym, ap, ◌∙◌, subst, arith, ℤ, pos, negsuc, unsigned_abs, w64, FitsSigned, ◌+ℤ◌, ◌-ℤ◌, ◌*ℤ◌}
use Rattle.std.proofs.lemmas.Int.{ints}
use Rattle.cal_time.specs.Date.{julian_day_at}
use Rattle.cal_time.specs.SignedDuration.{day, whole_days, IsDuration, IsMagnitudeWithin}
use Rattle.cal_time.proofs.Pairs.{times-day}
use Rattle.cal_datetime.specs.DateTime.{IsDateTime, date_time, date_at, time_at}
use Rattle.cal_datetime.specs.DateTimeLaws.{date_at-date_time, time_at-date_time, IsDateTime-date_time}
use Rattle.cal_c.specs.Moments.{IsMomentOrError}
use Rattle.cal_c.specs.declared.status.TheConstants.{OK, RESULT_OUT_OF_RANGE}
use Rattle.cal_c.specs.Values.{IsJulianDay, IsDurationPair, day_of, nanoseconds_in}
use Rattle.cal_c.specs.declared.results.Duration.{Duration}
use Rattle.cal_c.proofs.Days.{julian_day_at-day_of, IsDate-day_of}

-- the date-time k days after day n, at the time u
abbrev pub later : ℕ → ℤ → ℕ → ℤ
later n k u = (pos n +ℤ k) *ℤ pos day +ℤ pos u

pub later-add : (n t u : ℕ) (v k : ℤ) → pos t +ℤ v ≡ k *ℤ pos day +ℤ pos u → date_time n t +ℤ v ≡ later n k u
later-add n t u v k e =
    let x = times-day k in
    let y = times-day (pos n +ℤ k) in
    omega (arith, ints, e)

pub later-sub : (n t u : ℕ) (v k : ℤ) → pos t -ℤ v ≡ k *ℤ pos day +ℤ pos u → date_time n t -ℤ v ≡ later n k u
later-sub n t u v k e =
    let x = times-day k in
    let y = times-day (pos n +ℤ k) in
    omega (arith, ints, e)

-- A duration has at most 2^63 / 86400 whole days.
cut-within : (v : ℤ) → IsDuration v → IsMagnitudeWithin 106_751_991_167_300 (whole_days v)
cut-within (pos n) h = (omega (arith, ints, h.at_most), omega (arith, ints, h.at_most))
cut-within (negsuc n) h = (omega (arith, ints, h.at_least), omega (arith, ints, h.at_least))

whole_days-within : (d : Duration) (days : ℤ) → IsDurationPair d → FitsSigned w64 d.seconds → days ≡ whole_days (nanoseconds_in d) → IsMagnitudeWithin 106_751_991_167_300 days
whole_days-within d days pair fits e =
    let is : IsDuration (nanoseconds_in d) = record { at_least = omega (arith, ints, fits.sfits, pair.above); at_most = omega (arith, ints, fits.sfits, pair.below) } in
    subst (IsMagnitudeWithin 106_751_991_167_300) (sym e) (cut-within (nanoseconds_in d) is)

-- With a carry of one day they fit into 64 bits.
pub days-fit : (d : Duration) (days carried : ℤ) → IsDurationPair d → FitsSigned w64 d.seconds → days ≡ whole_days (nanoseconds_in d) → unsigned_abs carried ≤ 1
    → FitsSigned w64 (days +ℤ carried) × FitsSigned w64 (carried -ℤ days)
days-fit d days carried pair fits e small =
    let within = whole_days-within d days pair fits e in
    (omega (arith, ints, within.0, within.1, small), omega (arith, ints, within.0, within.1, small))

-- it is a day and a time of day
later-is : (j k : ℤ) (u : ℕ) → IsJulianDay j → IsJulianDay (j +ℤ k) → later (day_of j) k u ≡ date_time (day_of (j +ℤ k)) u
later-is j k u h there =
    let x = times-day (pos (day_of j) +ℤ k) in
    omega (arith, ints, h.not_before, there.not_before)

-- The moment with a later Julian day j + k and the time u.
pub later_moment : (j k l offset : ℤ) (t u : ℕ) → IsJulianDay j → t < day → IsJulianDay (j +ℤ k) → l ≡ j +ℤ k → u ≡ t
    → IsMomentOrError RESULT_OUT_OF_RANGE (later (day_of j) k t) offset (record { status = OK; unused = 0; moment = record { date = l; offset = offset; time = u } })
later_moment j k l offset t u h below there same_day same_time =
    let n = day_of (j +ℤ k) in
    let is = later-is j k t h there in
    let dates : l ≡ julian_day_at (date_at (later (day_of j) k t)) = same_day ∙ sym (julian_day_at-day_of (j +ℤ k) there) ∙ sym (ap julian_day_at (ap date_at is ∙ date_at-date_time n t below)) in
    let times : u ≡ time_at (later (day_of j) k t) = same_time ∙ sym (ap time_at is ∙ time_at-date_time n t below) in
    record {
      none = λ out. absurd (out (subst IsDateTime (sym is) (IsDateTime-date_time n t (IsDate-day_of (j +ℤ k) there) below)));
      moment = λ h i. record { status = OK; unused = 0; moment = record { date = dates i; offset = offset; time = times i } };
    }
