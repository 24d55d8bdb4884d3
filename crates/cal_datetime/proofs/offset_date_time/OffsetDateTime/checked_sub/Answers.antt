use Rattle.std.proofs.Common.{◌-ℤ◌, Some, ap, ◌∙◌, sym, subst}
use Rattle.cal_datetime.specs.DateTime.{IsDateTime}
use Rattle.cal_datetime.proofs.Instants.{earlier_at}
use Rattle.cal_datetime.proofs.offset_date_time.OffsetDateTime.checked_sub.Goals as goal

pub returns-in-Some-clause-every : goal.returns-in-Some-clause-every
returns-in-Some-clause-every c = λ to _ e f.
    let local = c.in-Some.ensures.value.1 ∙ ap (λ l. l -ℤ c.args.duration) c.local.ensures.value ∙ earlier_at c.args.self to c.args.duration e f in
    let offset = c.offset.ensures.value ∙ sym e in
    ap Some (c.assume_offset.ensures.value ∙ (λ i. record { local = local i; offset = offset i }))

pub returns-in-None-clause-every : goal.returns-in-None-clause-every
returns-in-None-clause-every c = λ to h e f.
    let local = ap (λ l. l -ℤ c.args.duration) c.local.ensures.value ∙ earlier_at c.args.self to c.args.duration e f in
    absurd (c.in-None.ensures.value (subst IsDateTime (sym local) h))
