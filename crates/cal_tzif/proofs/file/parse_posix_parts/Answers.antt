use Rattle.std.proofs.Common.{List, ap, sym, ◌∙◌}
use Rattle.cal_zone.specs.declared.change.Change.{Change}
use Rattle.cal_zone.specs.Table.{changes_in}
use Rattle.cal_zone.specs.Zone.{held}
use Rattle.cal_zone.specs.Timeline.{Timeline}
use Rattle.cal_tzif.specs.File.{IsPosix}
use Rattle.cal_tzif.proofs.Faults.{not_text}
use Rattle.cal_tzif.proofs.Files.{posix_is}
use Rattle.cal_tzif.proofs.Unique.{on_err}
use Rattle.cal_tzif.proofs.file.parse_posix_parts.Goals as goal

pub returns-in_err-footer-clause-none : goal.returns-in_err-footer-clause-none
returns-in_err-footer-clause-none c =
    on_err c.from_residual.result ((zone : Timeline) → IsPosix c.args.text.now zone → ⊥)
    (λ zone h. not_text c.args.text.now 0 c.in_err-footer.field-0.0 h.footer c.in_err-footer.ensures.error h.spelled)

pub returns-clause-value : goal.returns-clause-value
returns-clause-value c =
    posix_is c.args.text.now c.in_ok-footer.footer c.rule_type-first.result c.empty.result _ c.in_ok-footer.ensures.value c.rule_type-first.ensures c.empty.ensures
    (ap (λ (t : List Change). held c.rule_type-first.result t c.in_ok-footer.footer.rule c.in-Ok.skip) (ap (changes_in c.args.text.now) c.empty-in-Ok.ensures ∙ sym c.empty.ensures)
    ∙ c.in-Ok.ensures.value)
