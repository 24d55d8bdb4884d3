use Rattle.std.proofs.Common.{◌∙◌}
use Rattle.cal_tzif.proofs.Unique.{posix-one, ok_same}
use Rattle.cal_tzif.proofs.file.parse_posix.Goals as goal

pub returns-in-Ok-clause-every : goal.returns-in-Ok-clause-every
returns-in-Ok-clause-every c = λ zone h.
    ok_same c.from_parts.result zone (c.from_parts.ensures ∙ posix-one c.args.text.now _ zone c.in-Ok.ensures.value h)

pub returns-in-Err-clause-every : goal.returns-in-Err-clause-every
returns-in-Err-clause-every c = λ zone h. absurd (c.in-Err.ensures.none zone h)
