use Rattle.std.proofs.Common.{◌≡◌, ◌-◌, sym, ap, ◌∙◌, arith}
use Rattle.cal_time.specs.Month.{index, month_of_index}
use Rattle.cal_time.specs.MonthCycle.{month_of_index-index}
use Rattle.cal_format.proofs.letters.month.Goals as goal

pub returns : goal.returns
returns c =
    let is : index c.nth_next.result ≡ c.args.number - 1 = omega (arith, c.nth_next.ensures, c.requires) in
    sym (month_of_index-index c.nth_next.result) ∙ ap month_of_index is
