use Rattle.std.proofs.Common.{◌≡◌, ◌∙◌, ◌+ℤ◌, refl, ap, pos, arith, of_z, FitsSigned, w64}
use Rattle.std.proofs.lemmas.Int.{ints, to_z-of_z}
use Rattle.cal_date.specs.Date.{year_at, ordinal_at}
use Rattle.cal_date.proofs.Dates.{stands, year-most, ordinal-most}
use Rattle.cal_date.proofs.SameYear.{index-added, near, moved_by_number}
use Rattle.cal_date.proofs.date.Date.checked_add_days.Goals as goal

pub returns-in-Some-clause-value : goal.returns-in-Some-clause-value
returns-in-Some-clause-value c =
    let n = c.args.self in
    let at = stands n in
    let days : FitsSigned w64 c.args.days = c.ranges.days in
    let cast : c.cast_unsigned-days.result ≡ of_z w64 c.args.days = c.cast_unsigned-days.ensures ∙ ap (of_z w64) (to_z-of_z w64 _ days) in
    let from : c.from.result ≡ ordinal_at n = c.from.ensures ∙ c.ordinal.ensures.value in
    let found = rw (cast, from) at c.in-Some.ensures.value in
    let ordinal = index-added c.args.days (ordinal_at n) days at.ordinal.0 (ordinal-most n) (omega (arith, found.0, year-most (year_at n))) in
    let moved = near n c.in-Some.date _ (pos n +ℤ c.args.days) _ c.in-Some.ensures.in_range found.0 found.1 ordinal (omega (arith, ints)) in
    moved.day

pub returns-clause-value : goal.returns-clause-value
returns-clause-value c =
    let days : FitsSigned w64 c.args.days = c.ranges.days in
    let cast : c.cast_unsigned-days.result ≡ of_z w64 c.args.days = c.cast_unsigned-days.ensures ∙ ap (of_z w64) (to_z-of_z w64 _ days) in
    let from : c.from-2.result ≡ c.args.self = c.from-2.ensures ∙ c.day_number.ensures.value in
    let found = rw (cast, from) at c.checked_from_number.ensures in
    moved_by_number c.args.self _ c.args.days c.checked_from_number.result days c.day_number.ensures.in_range refl found
