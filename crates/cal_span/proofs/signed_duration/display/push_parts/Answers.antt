use Rattle.cal_span.proofs.Text.{parts-appended}
use Rattle.cal_span.proofs.signed_duration.display.push_parts.Goals as goal

pub returns-clause-appended : goal.returns-clause-appended
returns-clause-appended c =
    let e = c.push_part-5.ensures.appended in
    let f = c.push_part-6.ensures.appended in
    let g = c.push_part-7.ensures.appended in
    let same = c.from-nanoseconds.ensures in
    parts-appended c.args.text.now _ _ _ _ _ _ _ c.args.seconds c.args.nanoseconds c.requires.below_second c.push_part.ensures.appended c.push_part-2.ensures.appended
    c.push_part-3.ensures.appended c.push_part-4.ensures.appended (rw same at e) (rw same at f) (rw same at g)
