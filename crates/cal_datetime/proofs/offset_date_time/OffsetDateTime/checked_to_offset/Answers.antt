use Rattle.std.proofs.Common.{Some, arith, ap, ◌∙◌, sym, subst}
use Rattle.std.proofs.lemmas.Int.{ints}
use Rattle.cal_datetime.specs.DateTime.{IsDateTime}
use Rattle.cal_datetime.proofs.Instants.{local-ahead, shown_at}
use Rattle.cal_datetime.proofs.offset_date_time.OffsetDateTime.checked_to_offset.Goals as goal

pub returns-in-Some-clause-value : goal.returns-in-Some-clause-value
returns-in-Some-clause-value c =
    let e = local-ahead c.args.self c.offset_difference.result c.args.offset (rw c.offset.ensures.value at c.offset_difference.ensures) in
    let there = rw c.local.ensures.value at c.in-Some.ensures.value in
    rw (← e) (there.0, c.assume_offset.ensures.value ∙ ap (λ l. record { local = l; offset = c.args.offset }) there.1)

pub returns-in-Some-clause-same_instant : goal.returns-in-Some-clause-same_instant
returns-in-Some-clause-same_instant c =
    let e = local-ahead c.args.self c.offset_difference.result c.args.offset (rw c.offset.ensures.value at c.offset_difference.ensures) in
    omega (arith, ints, e, c.local.ensures.value, c.in-Some.ensures.value.1, c.assume_offset.ensures.instant)

pub returns-in-None-clause-value : goal.returns-in-None-clause-value
returns-in-None-clause-value c =
    let e = local-ahead c.args.self c.offset_difference.result c.args.offset (rw c.offset.ensures.value at c.offset_difference.ensures) in
    rw (← e) (rw c.local.ensures.value at c.in-None.ensures.value)

pub returns-in-Some-clause-every : goal.returns-in-Some-clause-every
returns-in-Some-clause-every c = λ there _ e f.
    let local = shown_at c.args.self there c.args.offset e f in
    ap Some ((returns-in-Some-clause-value c).1 ∙ (λ i. record { local = local i; offset = sym e i }))

pub returns-in-None-clause-every : goal.returns-in-None-clause-every
returns-in-None-clause-every c = λ there h e f.
    absurd (returns-in-None-clause-value c (subst IsDateTime (sym (shown_at c.args.self there c.args.offset e f)) h))
