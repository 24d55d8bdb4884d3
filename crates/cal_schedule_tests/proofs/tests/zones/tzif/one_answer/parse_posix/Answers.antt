use Rattle.cal_tzif.specs.File.{IsPosix}
use Rattle.cal_tzif.specs.PosixError.{IsTextError}
use Rattle.cal_tzif.proofs.OneError.{result-one, text-one}
use Rattle.cal_schedule_tests.proofs.tests.zones.tzif.one_answer.parse_posix.Goals as goal

pub returns : goal.returns
returns c =
    let text = c.args.text.now in
    let a = c.parse_posix.ensures in
    let b = c.parse_posix-2.ensures in
    result-one (IsPosix text) (IsTextError text 0) (text-one text 0) _ _ a.value a.every a.error b.value b.every b.error
