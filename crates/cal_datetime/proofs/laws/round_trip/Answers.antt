use Rattle.std.proofs.Common.{ap, ◌∙◌, subst}
use Rattle.cal_datetime.specs.DateTime.{IsDateTime}
use Rattle.cal_datetime.specs.OffsetDateTime.{instant, local_at}
use Rattle.cal_datetime.proofs.Instants.{own_clock}
use Rattle.cal_datetime.proofs.laws.round_trip.Goals as goal

pub to_offset-requires : goal.to_offset-requires
to_offset-requires c =
    let same = own_clock c.args.moment c.in-Some.moved c.in-Some.ensures.same_instant in
    rw (c.offset.ensures.value, same) (subst IsDateTime c.local.ensures.value c.local.ensures.range)

pub returns-in-Some-clause-value : goal.returns-in-Some-clause-value
returns-in-Some-clause-value c =
    let same = own_clock c.args.moment c.in-Some.moved c.in-Some.ensures.same_instant in
    let local = ap (local_at (instant c.in-Some.moved)) c.offset.ensures.value ∙ same in
    c.to_offset.ensures.value ∙ (λ i. record { local = local i; offset = c.offset.ensures.value i })
