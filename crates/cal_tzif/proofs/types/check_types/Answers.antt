use Rattle.std.proofs.Common.{◌-◌, rules}
use Rattle.std.proofs.lemmas.Result.{IfErr-weaker}
use Rattle.cal_tzif.specs.Types.{AreAscii, AreTypes, IsEndError, IsTypesError}
use Rattle.cal_tzif.proofs.types.check_types.Goals as goal

pub returns-in-Err-clause-error : goal.returns-in-Err-clause-error
returns-in-Err-clause-error c = IsTypesError.one c.each.index (search rules) c.each.invariant c.in-Err.ensures.error

pub returns-in-Err-check_ascii-clause-error : goal.returns-in-Err-check_ascii-clause-error
returns-in-Err-check_ascii-clause-error c =
    let all : AreTypes c.args.bytes.now c.args.layout c.args.layout.kinds = search rules in
    IsTypesError.ascii all c.in-Err-check_ascii.ensures.error

pub returns-clause-error : goal.returns-clause-error
returns-clause-error c =
    let p = c.args.layout in
    let all : AreTypes c.args.bytes.now p p.kinds = search rules in
    let ascii : AreAscii c.args.bytes.now p.names (p.names_end - p.names) = search rules in
    IfErr-weaker c.check_end.result (IsEndError c.args.bytes.now p.names_end) (IsTypesError c.args.bytes.now p) (λ e h. IsTypesError.end all ascii h) c.check_end.ensures.error
