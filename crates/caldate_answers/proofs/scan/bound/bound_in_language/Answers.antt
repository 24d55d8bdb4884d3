use Rattle.std.proofs.Common.{◌++◌, take}
use Rattle.cal_named_format.specs.Named.{HasFormIn}
use Rattle.caldate_answers.specs.Languages.{kind_items}
use Rattle.caldate_answers.proofs.InLanguage.{stop_in}
use Rattle.caldate_answers.proofs.TextBounds.{bounds_at}
use Rattle.caldate_answers.proofs.scan.bound.bound_in_language.Goals as goal

pub returns-in-UnexpectedByte-clause-front : goal.returns-in-UnexpectedByte-clause-front
returns-in-UnexpectedByte-clause-front c = λ offset n more found fits is.
    let f = c.args.format.now in
    let bytes = c.args.bytes.now in
    let stop = stop_in f.0 (kind_items f.1) bytes c.in-Err.error c.in-UnexpectedByte.at c.in-UnexpectedByte.is c.in-Err.ensures.error in
    (bounds_at (HasFormIn f.0 (kind_items f.1)) bytes c.in-UnexpectedByte.at stop).begins n fits
    (record { more = more; text = c.as_format-items.ensures.form offset (take n bytes ++ more) found is })

pub returns-in-UnexpectedByte-clause-error : goal.returns-in-UnexpectedByte-clause-error
returns-in-UnexpectedByte-clause-error c = λ n more any fits is.
    let f = c.args.format.now in
    let bytes = c.args.bytes.now in
    let stop = stop_in f.0 (kind_items f.1) bytes c.in-Err.error c.in-UnexpectedByte.at c.in-UnexpectedByte.is c.in-Err.ensures.error in
    (bounds_at (HasFormIn f.0 (kind_items f.1)) bytes c.in-UnexpectedByte.at stop).begins n fits
    (record { more = more; text = c.as_format-items.ensures.error_form (take n bytes ++ more) any is })
