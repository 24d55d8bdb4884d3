use Rattle.std.proofs.Common.{◌≡◌, ◌∙◌, refl, subst, sym, Ok, Err}
use Rattle.std.specs.Prelude.{IsTrue}
use Rattle.cal_datetime.specs.DateTime.{date_time, date_at, time_at}
use Rattle.cal_datetime.specs.DateTimeLaws.{IsDateTime-date_time, date_at-date_time, time_at-date_time, date_time-parts}
use Rattle.cal_datetime.specs.OffsetDateTime.{LocalAndOffset}
use Rattle.cal_format.specs.Moment.{moment_of_offset_date_time}
use Rattle.cal_format.specs.Reading.{are_apart, holds_time}
use Rattle.cal_format.proofs.Alike.{AreAlike}
use Rattle.cal_format.proofs.Moments.{moment-holds}
use Rattle.cal_named_format.specs.Ambiguity.{ReadBack}
use Rattle.cal_named_format.specs.Rejection.{IsParsedIn}
use Rattle.cal_named_format.specs.Values.{HoldsOffsetDateTime}
use Rattle.cal_named_format.proofs.Parsed.{parsed-value, parsed-error}
use Rattle.cal_named_format.proofs.formats.parse_offset_date_time.Goals as goal

pub parse-requires-clause-apart : goal.parse-requires-clause-apart
parse-requires-clause-apart c = subst (λ l. IsTrue (are_apart l)) (sym c.as_format.ensures.items) c.as_format.ensures.determines.0

pub parse-requires-clause-reads : goal.parse-requires-clause-reads
parse-requires-clause-reads c = subst (ReadBack c.args.names.now) (sym c.as_format.ensures.items) c.requires

pub returns-in-Err : goal.returns-in-Err
returns-in-Err c =
    let items = c.args.format.now in
    let parsed = subst (λ l. IsParsedIn c.args.names.now l c.args.text.now (Err c.in-Err.error)) c.as_format.ensures.items c.in-Err.ensures in
    parsed-error (HoldsOffsetDateTime items) moment_of_offset_date_time c.args.names.now items c.args.text.now c.in-Err.error parsed
    (λ n h. moment-holds items n c.as_format.ensures.determines h.0 h.1 h.2 h.3 h.4)

pub returns-in-Ok : goal.returns-in-Ok
returns-in-Ok c =
    let items = c.args.format.now in
    let m = c.in-Ok.moment in
    let determines = c.as_format.ensures.determines in
    let parsed = subst (λ l. IsParsedIn c.args.names.now l c.args.text.now (Ok m)) c.as_format.ensures.items c.in-Ok.ensures in
    let below = parsed.value.in_range.time.below_day in
    let d : date_at (date_time m.date m.time) ≡ m.date = date_at-date_time m.date m.time below in
    let t : time_at (date_time m.date m.time) ≡ m.time = time_at-date_time m.date m.time below in
    let x : LocalAndOffset = record { local = date_time m.date m.time; offset = m.offset } in
    let same : m ≡ moment_of_offset_date_time x = λ i. record { date = sym d i; time = sym t i; offset = m.offset } in
    let alike = subst (AreAlike items m) same (refl, λ h. h, refl) in
    rw c.offset_date_time.ensures (parsed-value (HoldsOffsetDateTime items) moment_of_offset_date_time c.args.names.now items c.args.text.now m x determines.0 parsed
    (λ n h. moment-holds items n determines h.0 h.1 h.2 h.3 h.4) (λ n h e. λ i. record { local = ((λ j. date_time (e j).date (e j).time) ∙ date_time-parts n.local h.0) i; offset = (e i).offset })
    (IsDateTime-date_time m.date m.time parsed.value.in_range.date below, parsed.value.in_range.offset, alike.1 parsed.value.numbers, subst (λ n. IsTrue (holds_time items n)) (sym t) parsed.value.parts, parsed.value.offset_parts) alike)
