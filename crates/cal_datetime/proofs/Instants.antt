-- The instants of date-times at an offset, and the Unix times of instants.
use Rattle.std.proofs.Common.{◌≡◌, ℕ, ◌/◌, refl, sym, arith, ℤ, pos, negsuc, neg_ℤ, unsigned_abs, ◌+ℤ◌, ◌-ℤ◌, ◌*ℤ◌, ◌≤ℤ◌}
use Rattle.std.proofs.lemmas.Int.{ints}
use Rattle.std.specs.Int.{int_div_euclid, int_rem_euclid}
use Rattle.cal_time.specs.SignedDuration.{second, IsDuration}
use Rattle.cal_time.specs.Date.{first_julian_day, IsDate, HasJulianDay, NoDate}
use Rattle.cal_time.specs.Arithmetic.{IsDateNumber}
use Rattle.cal_time.specs.UtcOffset.{IsOffset, max_offset_seconds}
use Rattle.cal_datetime.specs.DateTime.{IsDateTime, date_time}
use Rattle.cal_datetime.specs.UnixTimeLaws.{div_euclid-one}
use Rattle.cal_datetime.specs.OffsetDateTime.{LocalAndOffset, IsInstant, instant, local_at, epoch_day, unix_epoch, unix_seconds}

-- what a clock at another offset shows
pub local-ahead : (m : LocalAndOffset) (ahead offset : ℤ) → ahead ≡ offset *ℤ pos second -ℤ m.offset *ℤ pos second → m.local +ℤ ahead ≡ local_at (instant m) offset
unfolding instant
local-ahead m ahead offset e = omega (arith, ints, e)

-- the seconds of an offset, in nanoseconds
pub IsInstant-less : (l o : ℤ) → IsDateTime l → IsOffset o → IsInstant (l -ℤ o *ℤ pos second)
IsInstant-less l o h k =
    let low : neg_ℤ (pos max_offset_seconds) ≤ℤ o = omega (arith, ints, k.magnitude) in
    let high : o ≤ℤ pos max_offset_seconds = omega (arith, ints, k.magnitude) in
    record { not_before = omega (arith, ints, h.not_before); not_after = omega (arith, ints, h.not_after) }

pub ruleset instants = (IsInstant-less)

-- the day of a Julian day
pub julian_day-in_range : (n : ℕ) (j : ℤ) → IsDate n → HasJulianDay j n → IsDateNumber (j -ℤ first_julian_day)
julian_day-in_range n j h e = record { not_before = omega (arith, ints, e); not_after = omega (arith, ints, e, h) }

pub julian_day-none : (j : ℤ) → NoDate (HasJulianDay j) → ¬ IsDateNumber (j -ℤ first_julian_day)
julian_day-none j none h =
    none (unsigned_abs (j -ℤ first_julian_day)) (omega (arith, ints, h.not_before, h.not_after)) (omega (arith, ints, h.not_before))

-- the date-time at UTC of a number of seconds and nanoseconds, from its day and its time
pub unix_date_time : (seconds days past nanoseconds : ℤ) (n t : ℕ) → seconds ≡ days *ℤ pos 86_400 +ℤ past → pos n ≡ epoch_day +ℤ days → pos t ≡ past *ℤ pos second +ℤ nanoseconds
    → date_time n t ≡ unix_epoch +ℤ (seconds *ℤ pos second +ℤ nanoseconds)
unix_date_time seconds days past nanoseconds n t e f g = omega (arith, ints, e, f, g)

-- a number is its quotient and its remainder by a day of seconds
pub days-and_past : (z : ℤ) → z ≡ int_div_euclid z (pos 86_400) *ℤ pos 86_400 +ℤ int_rem_euclid z (pos 86_400)
days-and_past (pos n) = omega (arith, ints)
days-and_past (negsuc n) = omega (arith, ints)

-- The Unix time in seconds, from the seconds of the day, the time and the offset.
pub unix_seconds-is : (m : LocalAndOffset) (q : ℤ) (n t : ℕ) → m.local ≡ date_time n t → q ≡ ((pos n -ℤ epoch_day) *ℤ pos 86_400 +ℤ pos (t / second)) -ℤ m.offset
    → q ≡ unix_seconds (instant m)
unfolding instant
unix_seconds-is m q n t e f = sym (div_euclid-one _ q (omega (arith, ints, e, f)) (omega (arith, ints, e, f)))

-- a Unix time of whole seconds is their number
pub unix_seconds-whole : (z seconds : ℤ) → z ≡ unix_epoch +ℤ seconds *ℤ pos second → unix_seconds z ≡ seconds
unix_seconds-whole z seconds e = div_euclid-one _ seconds (omega (arith, ints, e)) (omega (arith, ints, e))

-- the duration between two instants
pub apart-is_duration : (l m o p : ℤ) → IsDateTime l → IsDateTime m → IsOffset o → IsOffset p → IsDuration ((l -ℤ m) +ℤ (o *ℤ pos second -ℤ p *ℤ pos second))
apart-is_duration l m o p h k i j =
    let a : neg_ℤ (pos max_offset_seconds) ≤ℤ o = omega (arith, ints, i.magnitude) in
    let b : o ≤ℤ pos max_offset_seconds = omega (arith, ints, i.magnitude) in
    let c : neg_ℤ (pos max_offset_seconds) ≤ℤ p = omega (arith, ints, j.magnitude) in
    let d : p ≤ℤ pos max_offset_seconds = omega (arith, ints, j.magnitude) in
    record {
      at_least = omega (arith, ints, h.not_before, k.not_after);
      at_most = omega (arith, ints, h.not_after, k.not_before);
    }

pub instants-apart : (m k : LocalAndOffset) → (m.local -ℤ k.local) +ℤ (k.offset *ℤ pos second -ℤ m.offset *ℤ pos second) ≡ instant m -ℤ instant k
unfolding instant
instants-apart m k = omega (arith, ints)

-- A date-time at the same offset is v later if its instant is v later.
pub later_at : (m to : LocalAndOffset) (v : ℤ) → to.offset ≡ m.offset → v ≡ instant to -ℤ instant m → m.local +ℤ v ≡ to.local
unfolding instant
later_at m to v e f = omega (arith, ints, e, f)

pub earlier_at : (m to : LocalAndOffset) (v : ℤ) → to.offset ≡ m.offset → v ≡ instant m -ℤ instant to → m.local -ℤ v ≡ to.local
unfolding instant
earlier_at m to v e f = omega (arith, ints, e, f)

-- The date-time of an instant at an offset is unique.
pub shown_at : (m there : LocalAndOffset) (offset : ℤ) → there.offset ≡ offset → instant there ≡ instant m → local_at (instant m) offset ≡ there.local
unfolding instant
shown_at m there offset e f = omega (arith, ints, e, f)

-- the clock of a date-time shows its own instant again
pub own_clock : (m k : LocalAndOffset) → instant k ≡ instant m → local_at (instant k) m.offset ≡ m.local
own_clock m k e = shown_at k m m.offset refl (sym e)
