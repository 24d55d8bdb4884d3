use Rattle.std.proofs.Common.{◌∙◌, arith, subst, sym}
use Rattle.std.proofs.lemmas.Grind.{common_steps}
use Rattle.cal_datetime.specs.OffsetDateTime.{instant}
use Rattle.cal_recurrence.specs.ZonedSet.{IsFirstAfter, Occurs, NoneAfter}
use Rattle.cal_c.specs.Moments.{IsMoment}
use Rattle.cal_c.specs.TextSets.{before, no_moment}
use Rattle.cal_c.proofs.Recurring.{kept_more, written_more}
use Rattle.cal_c.proofs.WrittenMoments.{before-next, moments_more}
use Rattle.cal_c.proofs.schedule.recurrences.moments.write_moments.Goals as goal

pub returns-in_default-clause-written : goal.returns-in_default-clause-written
returns-in_default-clause-written c =
    let kept = c.loop-index.invariant in
    let x = instant c.args.after in
    record {
      fits = omega arith;
      valid = kept.valid;
      moments = kept.written;
      all = λ less. subst (λ s. NoneAfter (Occurs s) (before x c.loop-index.moments c.loop-index.index)) kept.same (subst (NoneAfter (Occurs c.loop-index.set)) kept.last c.in_default.ensures.value);
      others = kept.others;
    }

pub loop-index-preserved : goal.loop-index-preserved
loop-index-preserved c =
    let kept = c.loop-index.invariant in
    let set = c.args.set.now in
    let x = instant c.args.after in
    let ms = c.loop-index.moments in
    let index = c.loop-index.index in
    let m = c.c_moment.result in
    let first = subst (λ s. IsFirstAfter (Occurs s) (before x ms index) c.in-Some.moment) kept.same
    (subst (λ y. IsFirstAfter (Occurs c.loop-index.set) y c.in-Some.moment) kept.last c.in-Some.ensures.value) in
    let here = subst (IsFirstAfter (Occurs set) (before x ms index)) (sym c.c_moment.ensures.value) first in
    record {
      same = c.in-Some.ensures.same ∙ kept.same;
      room = grind (arith, common_steps);
      last = before-next x ms index m c.in-Some.moment (omega arith) c.c_moment.ensures.value;
      valid = written_more no_moment (λ k one. IsMoment one) ms index m (omega arith) kept.valid c.c_moment.ensures.valid;
      written = moments_more set x ms index m (omega arith) kept.written here;
      others = kept_more no_moment c.args.moments.now ms index m kept.others;
    }
