use Rattle.std.proofs.Common.{refl, ap, subst, sym, Ok, Err}
use Rattle.std.specs.Prelude.{IsTrue}
use Rattle.cal_format.specs.Moment.{moment_of_time}
use Rattle.cal_format.specs.Reading.{are_apart}
use Rattle.cal_format.proofs.Moments.{time-holds}
use Rattle.cal_format.proofs.Alike.{times-alike}
use Rattle.cal_named_format.specs.Ambiguity.{ReadBack}
use Rattle.cal_named_format.specs.Rejection.{IsParsedIn}
use Rattle.cal_named_format.specs.Values.{HoldsTime}
use Rattle.cal_named_format.proofs.Parsed.{parsed-value, parsed-error}
use Rattle.cal_named_format.proofs.formats.parse_time.Goals as goal

pub parse-requires-clause-apart : goal.parse-requires-clause-apart
parse-requires-clause-apart c = subst (λ l. IsTrue (are_apart l)) (sym c.as_format.ensures.items) c.as_format.ensures.determines.0

pub parse-requires-clause-reads : goal.parse-requires-clause-reads
parse-requires-clause-reads c = subst (ReadBack c.args.names.now) (sym c.as_format.ensures.items) c.requires

pub returns-in-Err : goal.returns-in-Err
returns-in-Err c =
    let items = c.args.format.now in
    let parsed = subst (λ l. IsParsedIn c.args.names.now l c.args.text.now (Err c.in-Err.error)) c.as_format.ensures.items c.in-Err.ensures in
    parsed-error (HoldsTime items) moment_of_time c.args.names.now items c.args.text.now c.in-Err.error parsed (λ n h. time-holds items n c.as_format.ensures.determines h.0 h.1)

pub returns-in-Ok : goal.returns-in-Ok
returns-in-Ok c =
    let items = c.args.format.now in
    let m = c.in-Ok.moment in
    let determines = c.as_format.ensures.determines in
    let parsed = subst (λ l. IsParsedIn c.args.names.now l c.args.text.now (Ok m)) c.as_format.ensures.items c.in-Ok.ensures in
    let alike = times-alike items m (moment_of_time m.time) refl determines.1 in
    rw c.time.ensures (parsed-value (HoldsTime items) moment_of_time c.args.names.now items c.args.text.now m m.time determines.0 parsed (λ n h. time-holds items n determines h.0 h.1) (λ n h e. ap (λ v. v.time) e)
    (parsed.value.in_range.time, parsed.value.parts) alike)
