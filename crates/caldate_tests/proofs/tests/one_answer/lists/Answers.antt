use Rattle.caldate_run.proofs.Listed.{lists-one}
use Rattle.caldate_tests.proofs.tests.one_answer.lists.Goals as goal

pub returns : goal.returns
returns g c held old other ok too =
    lists-one c.args.listing.now held _ _ _ _ ok too (rw old at c.list.ensures.lists) (rw other at c.list-2.ensures.lists)
