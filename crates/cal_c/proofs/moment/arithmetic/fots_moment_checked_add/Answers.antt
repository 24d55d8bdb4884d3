use Rattle.std.proofs.Common.{w32, w64, FitsSigned, rules, ◌≤◌, unsigned_abs, ◌+ℤ◌, ap, ◌∙◌, sym, subst}
use Rattle.std.proofs.lemmas.Int.{to_z-of_z}
use Rattle.cal_time.specs.SignedDuration.{whole_days}
use Rattle.cal_c.specs.Moments.{IsMomentOrError}
use Rattle.cal_c.specs.declared.status.TheConstants.{RESULT_OUT_OF_RANGE}
use Rattle.cal_c.specs.Values.{day_of}
use Rattle.cal_c.proofs.Needs.{met}
use Rattle.cal_c.proofs.LaterMoments.{later-add, days-fit}
use Rattle.cal_c.proofs.moment.arithmetic.fots_moment_checked_add.Goals as goal

pub returns : goal.returns
returns c =
    let m = c.args.moment in
    let d = c.args.duration in
    let a = c.adjusting_add-adjustment in
    let v = c.in-Some-valid_duration.ensures in
    let f : FitsSigned w32 c.days_of.result = search rules in
    let carried = simp to_z-of_z at c.from.ensures ∙ c.days_of.ensures.value in
    let moved = rw (sym c.whole_days.ensures, sym carried, c.in-Some.ensures.1, v.1) at a.ensures.value in
    let is = later-add (day_of m.date) m.time a.result.1 _ (c.whole_days.result +ℤ c.from.result) moved in
    let g : FitsSigned w64 c.whole_days.result = search rules in
    let h : FitsSigned w64 c.from.result = search rules in
    let i : FitsSigned w64 d.seconds = search rules in
    let small = subst (λ z. unsigned_abs z ≤ 1) (sym (simp to_z-of_z at c.from.ensures)) c.days_of.ensures.range in
    let k = (days-fit d c.whole_days.result c.from.result v.0 i (c.whole_days.ensures ∙ ap whole_days v.1) small).0 in
    let there = simp to_z-of_z at c.at_later_day.ensures in
    met c.in-Some.ensures.0 (met v.0 (subst (λ z. IsMomentOrError RESULT_OUT_OF_RANGE z m.offset c.at_later_day.result) (sym is) there))
