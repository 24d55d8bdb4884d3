-- The text of a Unix time says that time.
use Rattle.std.proofs.Common.{◌%◌, ◌<◌, ◌≤◌, ℤ, pos, negsuc, neg_ℤ, unsigned_abs, ◌*ℤ◌, ◌≤ℤ◌, refl, arith}
use Rattle.std.proofs.lemmas.Int.{ints}
use Rattle.cal_time.specs.SignedDuration.{second}
use Rattle.cal_time.specs.UtcOffset.{IsOffset}
use Rattle.cal_datetime.specs.DateTime.{IsDateTime}
use Rattle.cal_datetime.specs.OffsetDateTime.{LocalAndOffset, instant, unix_nanoseconds}
use Rattle.cal_text.specs.Rfc3339.{fraction_text}
use Rattle.cal_text.specs.UnixText.{HasUnixForm, unix_text}
use Rattle.cal_text.proofs.PrintedMoments.{fraction, fraction-long}

offset-low : (o : ℤ) → unsigned_abs o ≤ 93599 → neg_ℤ (pos 93599000000000) ≤ℤ (o *ℤ pos second)
offset-low (pos n) h = omega (arith, ints)
offset-low (negsuc n) h = omega (arith, ints)

offset-high : (o : ℤ) → unsigned_abs o ≤ 93599 → (o *ℤ pos second) ≤ℤ pos 93599000000000
offset-high (pos n) h = omega (arith, ints)
offset-high (negsuc n) h = omega (arith, ints)

-- the time of a moment
pub unix-small : (m : LocalAndOffset) → IsDateTime m.local → IsOffset m.offset → unsigned_abs (unix_nanoseconds (instant m)) < 40000000000000000000000
unfolding instant
unix-small m range o =
    let low = offset-low m.offset o.magnitude in
    let high = offset-high m.offset o.magnitude in
    omega (arith, ints, range.not_before, range.not_after, low, high)

pub printed : (v : ℤ) → unsigned_abs v < 40000000000000000000000 → HasUnixForm (unix_text v) v
printed v small =
    let past : unsigned_abs v % second < 1000000000 = omega arith in
    record {
      seconds = omega (arith, small);
      fraction = fraction_text (unsigned_abs v % second);
      is_fraction = fraction (unsigned_abs v % second) past;
      short = fraction-long (unsigned_abs v % second) past;
      bytes_are = refl;
    }
