use Rattle.std.proofs.Common.{arith, ap, ◌∙◌, Ok, FitsSigned, w64, pos, subst, sym}
use Rattle.std.proofs.lemmas.Int.{ints, to_z-of_z}
use Rattle.cal_datetime.specs.DateTime.{IsDateTime}
use Rattle.cal_datetime.proofs.Instants.{days-and_past, unix_date_time}
use Rattle.cal_datetime.proofs.offset_date_time.unix.date_time_at_utc.Goals as goal

pub returns-in-Some-clause-instant : goal.returns-in-Some-clause-instant
returns-in-Some-clause-instant c =
    let f = c.ranges.seconds in
    let g = c.ranges.nanoseconds in
    let cut = days-and_past c.args.seconds in
    let x = simp to_z-of_z at c.div_euclid.ensures in
    let y = simp to_z-of_z at c.rem_euclid.ensures.value in
    let d : FitsSigned w64 c.div_euclid.result = omega (arith, ints, cut, f.sfits) in
    let r : FitsSigned w64 c.rem_euclid.result = omega (arith, ints, c.rem_euclid.ensures.lower_bound, c.rem_euclid.ensures.upper_bound) in
    let number = simp to_z-of_z at c.in-Some.ensures.value in
    let time = simp to_z-of_z at c.time_from_seconds-time.ensures in
    c.new_utc.ensures.instant ∙ unix_date_time c.args.seconds c.div_euclid.result c.rem_euclid.result c.args.nanoseconds _ _ (omega (arith, ints, cut, x, y)) number time

pub returns-in-Some-clause-value : goal.returns-in-Some-clause-value
returns-in-Some-clause-value c =
    let made = c.new_utc.ensures in
    let local = sym made.instant ∙ returns-in-Some-clause-instant c in
    λ _. ap Ok (made.value ∙ ap (λ l. record { local = l; offset = pos 0 }) local)

pub returns-in-Some-clause-error : goal.returns-in-Some-clause-error
returns-in-Some-clause-error c =
    let made = c.new_utc.ensures in
    let local = sym made.instant ∙ returns-in-Some-clause-instant c in
    (λ h. absurd h, λ out. out (subst IsDateTime local made.in_range))
