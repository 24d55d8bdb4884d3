use Rattle.caldate_tests.proofs.tests.one_answer.steps.Goals as goal

pub returns : goal.returns
returns g c held old other ok too =
    c.one_list_of_steps.ensures held _ _ _ _ ok too (rw old at c.list_moments.ensures.lists) (rw other at c.list_moments-2.ensures.lists)
