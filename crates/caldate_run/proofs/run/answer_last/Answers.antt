use Rattle.std.proofs.Common.{◌≡◌, ◌<◌, ◌+◌, [], ◌∙◌, length, take, rules, sym, ap, subst, None}
use Rattle.std.specs.Prelude.{◌&&◌}
use Rattle.caldate_lines.specs.Calls.{Writes, kind_of}
use Rattle.caldate_lines.specs.Fields.{is_open}
use Rattle.caldate_lines.specs.Lines.{has_return, quotes_in}
use Rattle.caldate_lines.specs.RunStates.{NoEnd, quoting_in, quoting_of}
use Rattle.caldate_lines.proofs.Ends.{empty}
use Rattle.caldate_run.specs.Runs.{AnswersAll, EndsEarly}
use Rattle.caldate_run.proofs.Advances.{completed, none_last}
use Rattle.caldate_run.proofs.Unclosed.{err_map, ok_map, over_closed, over_none, over_open, return_stays}
use Rattle.caldate_run.proofs.run.answer_last.Goals as goal

pub returns-then-is_empty-clause-ok : goal.returns-then-is_empty-clause-ok
returns-then-is_empty-clause-ok g c =
    let zero : length c.args.line.now ≡ 0 = search rules in
    let none = empty c.args.line.now zero in
    over_none g.W.Sink.contents g.W.Sink.write_gives c.args.filter.now
    (λ lines start. AnswersAll c.args.filter.now lines c.args.progress.now.tally (g.W.Sink.contents start) (g.W.Sink.contents c.args.writer.now) × Writes g.W.Sink.write_gives start None c.args.writer.now)
    c.args.output.now c.args.writer.now c.args.progress.now c.args.line.now none (λ input start h.
    completed g.W.Sink.contents g.W.Sink.write_gives c.args.filter.now input start _ c.args.output.now c.args.progress.now.tally c.requires.none c.requires.done
    (none_last g.W.Sink.contents g.W.Sink.write_gives c.args.filter.now input start _ c.args.output.now c.args.line.now c.args.progress.now none h))

pub returns-then-not-ends_in_quotes-clause-ok : goal.returns-then-not-ends_in_quotes-clause-ok
returns-then-not-ends_in_quotes-clause-ok g c =
    let some : 0 < length c.args.line.now = search rules in
    let is = c.ends_in_quotes.ensures ∙ ap (λ q. has_return c.args.line.now && is_open (quotes_in c.args.filter.now.field (quoting_in c.args.filter.now.field q c.args.line.now))) c.quoting.ensures in
    ok_map c.answer_line.result (over_closed g.W.Sink.contents g.W.Sink.write_gives c.args.filter.now
    (λ lines start. AnswersAll c.args.filter.now lines c.answer_line.new.progress.tally (g.W.Sink.contents start) (g.W.Sink.contents c.answer_line.new.writer) × Writes g.W.Sink.write_gives start None c.answer_line.new.writer)
    c.args.output.now c.args.writer.now c.args.progress.now c.args.line.now c.ends_in_quotes.result c.if-not-ends_in_quotes.true c.requires.no_end some is) c.answer_line.ensures.ok

pub returns-then-not-ends_in_quotes-clause-err : goal.returns-then-not-ends_in_quotes-clause-err
returns-then-not-ends_in_quotes-clause-err g c =
    let some : 0 < length c.args.line.now = search rules in
    let is = c.ends_in_quotes.ensures ∙ ap (λ q. has_return c.args.line.now && is_open (quotes_in c.args.filter.now.field (quoting_in c.args.filter.now.field q c.args.line.now))) c.quoting.ensures in
    err_map c.answer_line.result (λ error. over_closed g.W.Sink.contents g.W.Sink.write_gives c.args.filter.now
    (λ lines start. EndsEarly c.args.filter.now error lines [] (g.W.Sink.contents start) (g.W.Sink.contents c.answer_line.new.writer) × Writes g.W.Sink.write_gives start (kind_of error) c.answer_line.new.writer)
    c.args.output.now c.args.writer.now c.args.progress.now c.args.line.now c.ends_in_quotes.result c.if-not-ends_in_quotes.true c.requires.no_end some is) c.answer_line.ensures.err

pub answer_line-requires-2-clause-no_end : goal.answer_line-requires-2-clause-no_end
answer_line-requires-2-clause-no_end g c =
    subst (NoEnd c.args.filter.now.field (quoting_of c.args.progress.now)) (sym c.before_returns-bytes.ensures)
    (return_stays c.args.filter.now.field (quoting_of c.args.progress.now) c.args.line.now c.requires.no_end)

pub returns-clause-ok : goal.returns-clause-ok
returns-clause-ok g c =
    let some : 0 < length c.args.line.now = search rules in
    let is = c.ends_in_quotes.ensures ∙ ap (λ q. has_return c.args.line.now && is_open (quotes_in c.args.filter.now.field (quoting_in c.args.filter.now.field q c.args.line.now))) c.quoting.ensures in
    ok_map c.answer_line-2.result (over_open g.W.Sink.contents g.W.Sink.write_gives c.args.filter.now
    (λ lines start. AnswersAll c.args.filter.now lines c.answer_line-2.new.progress.tally (g.W.Sink.contents start) (g.W.Sink.contents c.answer_line-2.new.writer) × Writes g.W.Sink.write_gives start None c.answer_line-2.new.writer)
    c.args.output.now c.args.writer.now c.args.progress.now c.args.line.now (take (length c.args.line.now + 1) c.before_returns-bytes.result) c.ends_in_quotes.result c.before_returns-bytes.ensures
    c.if-not-ends_in_quotes.false c.requires.no_end some is) c.answer_line-2.ensures.ok

pub returns-clause-err : goal.returns-clause-err
returns-clause-err g c =
    let some : 0 < length c.args.line.now = search rules in
    let is = c.ends_in_quotes.ensures ∙ ap (λ q. has_return c.args.line.now && is_open (quotes_in c.args.filter.now.field (quoting_in c.args.filter.now.field q c.args.line.now))) c.quoting.ensures in
    err_map c.answer_line-2.result (λ error. over_open g.W.Sink.contents g.W.Sink.write_gives c.args.filter.now
    (λ lines start. EndsEarly c.args.filter.now error lines [] (g.W.Sink.contents start) (g.W.Sink.contents c.answer_line-2.new.writer) × Writes g.W.Sink.write_gives start (kind_of error) c.answer_line-2.new.writer)
    c.args.output.now c.args.writer.now c.args.progress.now c.args.line.now (take (length c.args.line.now + 1) c.before_returns-bytes.result) c.ends_in_quotes.result c.before_returns-bytes.ensures
    c.if-not-ends_in_quotes.false c.requires.no_end some is) c.answer_line-2.ensures.err
