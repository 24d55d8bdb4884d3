use Rattle.std.proofs.Common.{get_or, pos, arith, rules, FitsSigned, w32}
use Rattle.std.proofs.lemmas.Int.{to_z-of_z}
use Rattle.std.proofs.lemmas.Grind.{common_steps}
use Rattle.std.proofs.lemmas.List.Elements.{All-more}
use Rattle.cal_c.specs.Values.{IsJulianDay, day_of}
use Rattle.cal_c.proofs.Recurring.{mapped_more}
use Rattle.cal_c.proofs.schedule.date_list.DateList+Date.from_julian_days.Goals as goal

pub loop-index-preserved : goal.loop-index-preserved
loop-index-preserved c =
    let kept = c.loop-index.invariant in
    let days = c.args.julian_days.now in
    let index = c.loop-index.index in
    let f : FitsSigned w32 (get_or days index (pos 0)) = search rules in
    let at = simp to_z-of_z at c.in_ok-valid_date.ensures in
    record {
      count = grind (arith, common_steps);
      days = mapped_more day_of days c.loop-index.list c.push.new.self index (pos 0) c.in_ok-valid_date.field-0 (omega arith) kept.days at.1 c.push.ensures;
      dates = All-more IsJulianDay days index (pos 0) (omega arith) kept.dates at.0;
    }
