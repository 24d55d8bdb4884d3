use Rattle.std.proofs.Common.{◌≡◌, ◌∙◌, ap, arith, length, get_or, pos, rules, w32}
use Rattle.std.proofs.lemmas.Int.{to_z_pos}
use Rattle.cal_schedule.specs.WorkdaysSplit.{marked_count}
use Rattle.cal_c.specs.CheckedWorkdays.{HavePlaces}
use Rattle.cal_c.specs.Results.{number_ok}
use Rattle.cal_c.specs.Weekmasks.{work_week, AreHolidays, IsWeekmask}
use Rattle.cal_c.proofs.CheckedHolidays.{marked-most}
use Rattle.cal_c.proofs.Needs.{met}
use Rattle.cal_c.proofs.schedule.workdays.checking.fots_workdays_view_count.Goals as goal

pub returns : goal.returns
returns c =
    let hs = c.args.holidays.now in
    let new = c.count_marked.new.marked_before in
    let w = work_week c.args.weekmask hs in
    let is_weekmask : IsWeekmask c.args.weekmask = search rules in
    let places : HavePlaces (length hs) (length c.args.marked_before.now) = search rules in
    let are : AreHolidays hs = search rules in
    let long : length new ≡ length c.args.marked_before.now = search rules in
    let count : get_or new (length hs) 0 ≡ marked_count w (length hs) = c.count_marked.ensures (length hs) (omega arith) in
    let number = to_z_pos w32 (get_or new (length hs) 0) (omega (arith, count, marked-most w (length hs), places.most)) in
    met is_weekmask
    (met places
    (met are
    (record { weekmask = is_weekmask; places = record { most = places.most; one_more = long ∙ places.one_more } }, record { holidays = are; counts = c.count_marked.ensures }, c.ok.ensures ∙ ap number_ok (number ∙ ap pos count))))
