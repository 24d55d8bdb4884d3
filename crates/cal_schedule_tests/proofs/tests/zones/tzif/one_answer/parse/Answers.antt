use Rattle.cal_tzif.specs.File.{IsFile, IsFileError}
use Rattle.cal_tzif.proofs.OneError.{result-one, file_error-one}
use Rattle.cal_schedule_tests.proofs.tests.zones.tzif.one_answer.parse.Goals as goal

pub returns : goal.returns
returns c =
    let bytes = c.args.bytes.now in
    let a = c.parse.ensures in
    let b = c.parse-2.ensures in
    result-one (IsFile bytes) (IsFileError bytes) (file_error-one bytes) _ _ a.value a.every a.error b.value b.every b.error
