use Rattle.std.proofs.Common.{arith, length-take, take}
use Rattle.cal_holidays.proofs.DayLists.{contains_inserted, contains_same, is_inserted, rising_inserted}
use Rattle.cal_holidays.proofs.day_list.insert_date.Goals as goal

pub returns-in-Ok-clause-days : goal.returns-in-Ok-clause-days
returns-in-Ok-clause-days c =
    contains_same (take c.args.count c.args.days.now) c.in-Ok.field-0 c.args.date c.in-Ok.ensures.found.0 c.in-Ok.ensures.found.1

pub returns-in-Err-clause-rising : goal.returns-in-Err-clause-rising
returns-in-Err-clause-rising c =
    let s = is_inserted c.args.days.now c.copy_within.new.self c.args.count c.in-Err.at c.args.date (omega (arith, c.in-Err.ensures.most, length-take c.args.count c.args.days.now)) c.requires.room c.copy_within.ensures.len
    c.copy_within.ensures.by_index in
    rising_inserted _ _ c.in-Err.at c.args.date c.requires.rising s c.in-Err.ensures.before c.in-Err.ensures.after

pub returns-in-Err-clause-days : goal.returns-in-Err-clause-days
returns-in-Err-clause-days c =
    let s = is_inserted c.args.days.now c.copy_within.new.self c.args.count c.in-Err.at c.args.date (omega (arith, c.in-Err.ensures.most, length-take c.args.count c.args.days.now)) c.requires.room c.copy_within.ensures.len
    c.copy_within.ensures.by_index in
    contains_inserted _ _ c.in-Err.at c.args.date s
