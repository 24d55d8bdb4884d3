use Rattle.caldate_run.proofs.MomentSteps.{lists_steps-one}
use Rattle.caldate_run.proofs.laws.one_list_of_steps.Goals as goal

pub returns : goal.returns
returns c = λ held outcome other new later ok too first second.
    lists_steps-one c.args.moments.now held outcome other new later c.one_local.ensures ok too first second
