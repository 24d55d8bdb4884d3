use Rattle.std.proofs.Common.{Some, Ok, Err, inl, inr, refl}
use Rattle.caldate_lines.specs.declared.no_answer.NoAnswer.TheVariants as why
use Rattle.caldate_run.proofs.Others.{beside, has_fields}
use Rattle.caldate_run.proofs.run.other.push_beside.Goals as goal

pub push_count-requires : goal.push_count-requires
push_count-requires c = record {
  room = c.requires.room;
  other = has_fields c.args.filter.now.request c.args.filter.now.field c.args.other c.requires.other;
}

pub returns-in-Err-clause-answered : goal.returns-in-Err-clause-answered
returns-in-Err-clause-answered c =
    (refl, beside c.args.filter.now c.args.other c.args.text.now c.args.asked.now (Err c.in-Err.why) (Err c.in-Err.why) c.requires.other c.in-Err.ensures refl)

pub returns-then-push_count-clause-answered : goal.returns-then-push_count-clause-answered
returns-then-push_count-clause-answered c =
    let asked = c.args.asked.now in
    let put = c.push_count.ensures.has c.if-push_count.true asked in (
      put.0,
      put.1,
      beside c.args.filter.now c.args.other c.args.text.now asked (Ok (Some put.0)) (Ok c.in-Ok.target) c.requires.other c.in-Ok.ensures
          (c.in-Ok-read_with.found, c.in-Ok-read_with.ensures.has, put.2),
    )

pub returns-else-push_count-clause-answered : goal.returns-else-push_count-clause-answered
returns-else-push_count-clause-answered c =
    let asked = c.args.asked.now in
    let none = c.push_count.ensures.none c.if-push_count.false in (
      none.0,
      beside c.args.filter.now c.args.other c.args.text.now asked (Err why.None) (Ok c.in-Ok.target) c.requires.other c.in-Ok.ensures
          (inr (c.in-Ok-read_with.found, c.in-Ok-read_with.ensures.has, none.1 asked)),
    )

pub returns-in-Err-read_with-clause-answered : goal.returns-in-Err-read_with-clause-answered
returns-in-Err-read_with-clause-answered c =
    let filter = c.args.filter.now in
    let asked = c.args.asked.now in
    let why = c.in-Err-read_with.why in
    (refl, beside filter c.args.other c.args.text.now asked (Err why) (Ok c.in-Ok.target) c.requires.other c.in-Ok.ensures (inl c.in-Err-read_with.ensures.error))
