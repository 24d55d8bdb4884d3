use Rattle.std.proofs.Common.{inl, inr, refl}
use Rattle.cal_ics.proofs.FoundEvents.{is-event, other-end, unclosed-after, unclosed-at-end}
use Rattle.cal_ics.proofs.search.first_event.Goals as goal

pub returns-in_default-rest : goal.returns-in_default-rest
returns-in_default-rest c =
    let begin = c.in-Some.ensures in
    inl (unclosed-at-end c.args.text.now begin.0 c.in-Some.begin begin.1 c.in_default-rest.is)

pub returns-in_default-find_end : goal.returns-in_default-find_end
returns-in_default-find_end c =
    let begin = c.in-Some.ensures in
    inl (unclosed-after c.args.text.now begin.0 c.in-Some.begin c.in-Some-rest.lines begin.1 c.in-Some-rest.is c.in_default-find_end.ensures)

pub returns-then-not-end : goal.returns-then-not-end
returns-then-not-end c =
    let begin = c.in-Some.ensures in
    let end = c.in-Some-find_end.ensures in
    inr (other-end c.args.text.now begin.0 c.in-Some.begin c.in-Some-rest.lines end.0 c.in-Some-find_end.end begin.1 c.in-Some-rest.is end.1 c.if-not-end.true)

pub returns : goal.returns
returns c =
    let begin = c.in-Some.ensures in
    let end = c.in-Some-find_end.ensures in (
      begin.0,
      end.0,
      is-event c.args.text.now begin.0 c.in-Some.begin c.in-Some-rest.lines _ end.0 c.in-Some-find_end.end begin.1 c.in-Some-rest.is end.1 c.if-not-end.false refl,
    )
