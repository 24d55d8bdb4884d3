use Rattle.std.proofs.Common.{◌-ℤ◌, ap, subst, sym, ◌∙◌}
use Rattle.cal_time.specs.UtcOffset.{IsOffset}
use Rattle.cal_datetime.specs.OffsetDateTime.{instant, unix_nanoseconds}
use Rattle.cal_text.specs.UnixText.{HasUnixForm, unix_text}
use Rattle.cal_text.proofs.UnixPrinted.{unix-small, printed}
use Rattle.cal_text.proofs.unix.text.Text.new.Goals as goal

pub returns-clause-text : goal.returns-clause-text
returns-clause-text c =
    let m = c.args.moment in
    let small = unix-small m c.date.ensures.in_range (subst IsOffset c.offset.ensures.value c.offset.ensures.range) in
    let value = c.sub.ensures.0 ∙ ap (λ epoch. instant m -ℤ epoch) c.unix_epoch.ensures.instant in
    subst (λ v. HasUnixForm (unix_text v) (unix_nanoseconds (instant m))) (sym value) (printed (unix_nanoseconds (instant m)) small)
