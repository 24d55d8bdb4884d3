use Rattle.std.proofs.Common.{◌≡◌, ◌+◌, ◌++◌, ap, sym, ◌∙◌, subst, arith, length, take, drop, replicate, pos}
use Rattle.std.proofs.lemmas.List.{get_or-take, take_at}
use Rattle.cal_schedule.specs.WorkdaysSplit.{marked_count}
use Rattle.cal_c.specs.Weekmasks.{work_week, AreHolidays}
use Rattle.cal_c.proofs.schedule.workdays.checked_workdays.CheckedWorkdays.from_valid.Goals as goal

pub returns : goal.returns
returns c =
    let hs = c.args.holidays.now in
    let copied = c.copy_from_slice.new.self in
    let rest = drop (length hs) (replicate 1024 (pos 0)) in
    let same = c.copy_from_slice.ensures.after in
    let all : take (length hs) (copied ++ rest) ≡ hs = take_at copied rest (length hs) (ap length same) ∙ same in
    let long = ap length all in (
      record {
        limits = record { weekmask = c.requires.weekmask.0; length = c.requires.holidays.0 };
        counted = record {
          holidays = subst AreHolidays (sym all) c.requires.holidays.1;
          counts = λ i most.
              get_or-take (length hs + 1) c.count_marked.new.marked_before i 0 (omega (arith, most, long)) ∙ c.count_marked.ensures i (omega (arith, most, long))
              ∙ ap (λ h. marked_count (work_week c.args.weekmask h) i) (sym all);
        };
      },
      ap (work_week c.args.weekmask) all,
    )
