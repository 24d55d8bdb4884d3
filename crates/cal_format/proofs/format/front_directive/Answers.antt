use Rattle.cal_format.proofs.Spellings.{front-fits, front-long, slice-all}
use Rattle.cal_format.proofs.format.front_directive.Goals as goal

pub returns-then-directive-text-clause-items : goal.returns-then-directive-text-clause-items
returns-then-directive-text-clause-items c =
    let g = rw slice-all at c.spelled_directive-directive.ensures.used in
    (front-long c.args.syntax c.args.text.now _ c.requires.some c.requires.escape g c.if-directive-text.true).items_are

pub returns-then-directive-text-clause-used : goal.returns-then-directive-text-clause-used
returns-then-directive-text-clause-used c =
    let g = rw slice-all at c.spelled_directive-directive.ensures.used in
    (front-long c.args.syntax c.args.text.now _ c.requires.some c.requires.escape g c.if-directive-text.true).used_is

pub returns-clause-items : goal.returns-clause-items
returns-clause-items c =
    let f = rw slice-all at c.spelled_directive-directive.ensures.items in
    let g = rw slice-all at c.spelled_directive-directive.ensures.used in
    (front-fits c.args.syntax c.args.text.now _ _ c.requires.some c.requires.escape f g c.if-directive-text.false).items_are

pub returns-clause-used : goal.returns-clause-used
returns-clause-used c =
    let f = rw slice-all at c.spelled_directive-directive.ensures.items in
    let g = rw slice-all at c.spelled_directive-directive.ensures.used in
    (front-fits c.args.syntax c.args.text.now _ _ c.requires.some c.requires.escape f g c.if-directive-text.false).used_is
