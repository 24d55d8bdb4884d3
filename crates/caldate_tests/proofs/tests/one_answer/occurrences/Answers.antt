use Rattle.std.proofs.Common.{subst, sym}
use Rattle.std.specs.Prelude.{Some}
use Rattle.caldate_run.specs.Recurring.{ListsOccurrences}
use Rattle.caldate_tests.proofs.tests.one_answer.occurrences.Goals as goal

pub returns : goal.returns
returns g c held old other ok too =
    let second = rw other at c.list_occurrences-2.ensures.lists in
    let new = g.W.Sink.contents c.list_occurrences-2.new.writer in
    c.one_list.ensures held _ _ _ _ ok too (rw old at c.list_occurrences.ensures.lists)
    (subst (λ asked. ListsOccurrences asked c.list_occurrences-2.result (Some held) new) (sym c.requires) second)
