use Rattle.std.proofs.Common.{◌≡◌, subst, arith, to_z, of_z, w32}
use Rattle.std.proofs.lemmas.Int.{ints}
use Rattle.cal_schedule.specs.Until.{IsGreatest, IsMonthsUpTo}
use Rattle.cal_schedule.proofs.Untils.{leads-up}
use Rattle.cal_schedule.proofs.laws.not_past.Goals as goal

pub returns : goal.returns
returns c =
    let same : c.months_until.result ≡ to_z w32 (of_z w32 c.months_until.result) = omega (arith, ints) in
    leads-up _ _ _ _ c.requires (subst (IsGreatest (IsMonthsUpTo c.args.from c.args.to)) same (c.months_until.ensures.value_forward c.requires)) c.checked_add_months.ensures.value c.checked_add_months.ensures.none
