use Rattle.std.proofs.Common.{◌∙◌, ap, subst, sym}
use Rattle.cal_c.specs.Moments.{local_and_offset_in, IsMoment}
use Rattle.cal_c.specs.declared.results.MomentResult.{MomentResult}
use Rattle.cal_c.proofs.WrittenMoments.{shown-moment, valid-moment}
use Rattle.cal_c.proofs.schedule.recurrences.moments.c_moment.Goals as goal

pub returns-clause-valid : goal.returns-clause-valid
returns-clause-valid c =
    subst IsMoment (sym (ap (λ (r : MomentResult). r.moment) c.ok.ensures))
    (valid-moment c.args.moment c.date.result c.time.result c.offset.result c.date.ensures.value c.date.ensures.range c.time.ensures.value c.time.ensures.range
    c.offset.ensures.value c.offset.ensures.range)

pub returns-clause-value : goal.returns-clause-value
returns-clause-value c =
    ap local_and_offset_in (ap (λ (r : MomentResult). r.moment) c.ok.ensures) ∙ shown-moment c.args.moment c.time.ensures.whole
