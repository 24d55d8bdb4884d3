use Rattle.std.proofs.Common.{◌≡◌, ◌+◌, ◌<◌, ◌%◌, ap, sym, ◌∙◌, arith, rules, false, get_or, pos, length, FitsSigned, w32}
use Rattle.std.proofs.lemmas.Int.{to_z-of_z}
use Rattle.std.proofs.lemmas.List.{length-set, length-map, get_or-map}
use Rattle.cal_schedule.specs.Ranks.{bit-most}
use Rattle.cal_schedule.specs.Workdays.{is_marked}
use Rattle.cal_schedule.specs.WorkdaysSplit.{marked_count}
use Rattle.cal_schedule.proofs.WorkdaysWeeks.{held-next, marked-is, set-next}
use Rattle.cal_c.specs.Values.{dates_in, day_of}
use Rattle.cal_c.specs.Weekmasks.{weekmask_in, work_week}
use Rattle.cal_c.proofs.schedule.workdays.checking.count_marked.Goals as goal

pub overflow_add-marked : goal.overflow_add-marked
overflow_add-marked c = omega (arith, c.loop-index.invariant.most, bit-most _ _ c.from-marked.ensures, c.requires.holidays.1)

pub loop-index-preserved : goal.loop-index-preserved
loop-index-preserved c =
    let hs = c.args.holidays.now in
    let w = work_week c.args.weekmask hs in
    let index = c.loop-index.index in
    let kept = c.loop-index.invariant in
    let f : FitsSigned w32 (get_or hs index (pos 0)) = search rules in
    let low : index < length hs = omega arith in
    let its = simp to_z-of_z at c.wrapped_number.ensures in
    let day = its (c.requires.holidays.0.dates index (pos 0) low) in
    let at : get_or (dates_in hs) index 0 ≡ day_of (get_or hs index (pos 0)) = get_or-map day_of hs index (pos 0) 0 low in
    let mark : get_or c.args.marks (c.wrapped_number.result % 7) false ≡ is_marked w.marks (get_or (dates_in hs) index 0) =
    ap (λ m. get_or m (c.wrapped_number.result % 7) false) c.requires.weekmask.1 ∙ ap (λ n. get_or (weekmask_in c.args.weekmask) (n % 7) false) (day ∙ sym at)
    ∙ sym (marked-is w.marks (get_or (dates_in hs) index 0)) in
    let next = held-next w index _ _ (omega (arith, length-map hs day_of)) mark c.from-marked.ensures in
    let sum : c.loop-index.marked + c.from-marked.result ≡ marked_count w (index + 1) = omega (arith, next, kept.marked) in
    record {
      room = omega (arith, kept.room, length-set c.loop-index.marked_before (index + 1) (c.loop-index.marked + c.from-marked.result));
      counts = set-next (marked_count w) c.loop-index.marked_before index _ (omega (arith, kept.room)) kept.counts sum;
      marked = sum;
      most = omega (arith, kept.most, bit-most _ _ c.from-marked.ensures);
    }

pub returns : goal.returns
returns c =
    let done : c.loop-index.index ≡ length c.args.holidays.now = omega (arith, c.loop-index.auto.index-end, c.loop-index-test.false) in
    λ i most. c.loop-index.invariant.counts i (omega (arith, done))
