use Rattle.std.proofs.Common.{◌≡◌, ◌+◌, ◌*◌, ◌/◌, ◌%◌, ap, arith, refl, pos, neg_ℤ, ◌+ℤ◌, to_z, of_z, w32, ◌∙◌}
use Rattle.std.proofs.lemmas.Int.{ints}
use Rattle.cal_date.specs.Date.{first_year, IsYear}
use Rattle.cal_date.specs.CountLaws.{days_of_months}
use Rattle.cal_date.specs.PackedDate.{leap_mark}
use Rattle.cal_date.proofs.Calendar.{stands_at}
use Rattle.cal_date.proofs.MonthStarts.{IsClamped, clamped}
use Rattle.cal_date.proofs.QuarterBounds.{place-is}
use Rattle.cal_date.proofs.date.Date.from_month_number_clamped.Goals as goal
use Rattle.cal_date.proofs.date.Date.from_month_number_clamped.Goals.{After-min}

-- The year, and its value in the code.
record Fits (c : After-min) : Type 0 where
  same : to_z w32 (of_z w32 (to_z w32 (c.from-place.result * 357913942 / 4294967296) +ℤ neg_ℤ (pos 999999))) ≡ first_year +ℤ pos (c.args.number / 12)
  year : IsYear (first_year +ℤ pos (c.args.number / 12))
  fits : IsClamped (first_year +ℤ pos (c.args.number / 12)) (c.args.number % 12) c.args.day c.min.result

fits : (c : After-min) → Fits c
fits c =
    let n = c.args.number in
    let y = first_year +ℤ pos (n / 12) in
    let at = place-is n (c.from-place.result * 357913942) _ c.requires.number (ap (λ k. k * 357913942) c.from-place.ensures) refl in
    let same : to_z w32 (of_z w32 (to_z w32 (c.from-place.result * 357913942 / 4294967296) +ℤ neg_ℤ (pos 999999))) ≡ y = omega (arith, ints, at.year, c.requires.number) in
    let leap = rw same at c.is_leap_year-leap.ensures in
    let begin = c.quarter_bound.ensures.value y leap ∙ ap (λ i. leap_mark y + days_of_months y i) at.months in
    let next = c.quarter_bound-2.ensures.value y leap ∙ ap (λ i. leap_mark y + days_of_months y i) at.next in
    let year : IsYear y = (omega (arith, ints, c.requires.number), omega (arith, ints, c.requires.number)) in
    record {
      same = same;
      year = year;
      fits = clamped y (n % 12) c.args.day _ _ _ year (omega arith) c.requires.min begin next (grind (arith, c.min.ensures, c.saturating_add-low.ensures, c.quarter_bound-2.ensures.max));
    }

pub pack_low_bits-requires-clause-low : goal.pack_low_bits-requires-clause-low
pack_low_bits-requires-clause-low c = let f = fits c in rw (f.same, f.fits.low_is) f.fits.ordinal

pub returns-clause-value : goal.returns-clause-value
returns-clause-value c =
    let f = fits c.before in
    let number = rw (f.same, f.fits.low_is) at c.pack_low_bits.ensures.value in
    rw number (stands_at (first_year +ℤ pos (c.args.number / 12)) (c.args.number % 12) _ f.year.0 (omega arith) f.fits.day).has
