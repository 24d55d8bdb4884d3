use Rattle.cal_c.proofs.Distinct.{of_permutation}
use Rattle.cal_c.proofs.schedule.workdays.sorting.fots_dates_sort.Goals as goal

pub returns : goal.returns
returns c = of_permutation c.args.dates.now c.sort_unstable.new.self c.move_distinct.new.numbers c.move_distinct.result c.sort_unstable.ensures.permutation c.move_distinct.ensures
