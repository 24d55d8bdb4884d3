use Rattle.std.proofs.Common.{◌∙◌, ◌<◌, ℕ, List, length, ap, sym, refl, subst, arith, rules}
use Rattle.cal_zone.specs.declared.change.Change.{Change}
use Rattle.cal_zone.specs.declared.layout.Layout.{Layout}
use Rattle.cal_zone.specs.Table.{HasNoType}
use Rattle.cal_zone.specs.Zone.{held}
use Rattle.cal_zone.specs.Timeline.{Timeline}
use Rattle.cal_tzif.specs.File.{HasFooter, IsFooterError, IsFile, IsFileError}
use Rattle.cal_tzif.specs.Header.{second_header}
use Rattle.cal_tzif.specs.Types.{HasTypes, IsTypesError}
use Rattle.cal_tzif.specs.PosixError.{error_at}
use Rattle.cal_tzif.specs.declared.zone_error.ZoneErrorKind.TheVariants as kinds
use Rattle.cal_tzif.proofs.Faults.{not_footer}
use Rattle.cal_tzif.proofs.Files.{position_in, IsRead, file_is, not_file, order_error}
use Rattle.cal_tzif.proofs.Unique.{on_err}
use Rattle.cal_tzif.proofs.file.parse_parts.Goals as goal

pub returns-in-Err-clause-error : goal.returns-in-Err-clause-error
returns-in-Err-clause-error c =
    IsFileError.types c.in_ok-layout.ensures.valid
    (subst (λ (p : Layout). IsTypesError c.args.bytes.now p c.in-Err.error) c.in_ok-layout.ensures.value.0 c.in-Err.ensures.error)

pub returns-in_err-footer-clause-none : goal.returns-in_err-footer-clause-none
returns-in_err-footer-clause-none c =
    on_err c.from_residual-in_err-footer.result ((zone : Timeline) → IsFile c.args.bytes.now zone → ⊥)
    (λ zone h. not_footer c.args.bytes.now (second_header c.args.bytes.now).end c.in_err-footer.field-0.0 h.footer
    (subst (λ (n : ℕ). IsFooterError c.args.bytes.now n c.in_err-footer.field-0.0) c.in_ok-layout.ensures.value.1 c.in_err-footer.ensures.error) h.text)

pub returns-in-Err-new-clause-error : goal.returns-in-Err-new-clause-error
returns-in-Err-new-clause-error c =
    let bytes = c.args.bytes.now in
    let types : HasTypes bytes c.in_ok-layout.layout = search rules in
    IsFileError.index c.in_ok-layout.ensures.valid (subst (HasTypes bytes) c.in_ok-layout.ensures.value.0 types)
    c.in_ok-footer.footer (subst (λ (n : ℕ). HasFooter bytes n c.in_ok-footer.footer) c.in_ok-layout.ensures.value.1 c.in_ok-footer.ensures.value)
    c.in-Err-new.position (subst (λ (p : Layout). HasNoType bytes p c.in-Err-new.position) c.in_ok-layout.ensures.value.0 c.in-Err-new.ensures.error) c.at.ensures

pub timeline_position-position-requires : goal.timeline_position-position-requires
timeline_position-position-requires c =
    let bytes = c.args.bytes.now in
    let room : length bytes < 9223372036854775808 = search rules in
    position_in bytes c.in_ok-layout.layout c.in_ok-layout.end 9223372036854775808 c.first_type-first.result c.in-Ok.table c.footer_rule-rule.result
    c.in_ok-layout.ensures.inside.0 c.in-Ok.ensures.value room (omega (arith, room, c.in_ok-footer.ensures.value.newlines.room)) c.in-Err-join.error c.in-Err-join.ensures.error

pub returns-in-Ok-join-clause-value : goal.returns-in-Ok-join-clause-value
returns-in-Ok-join-clause-value c =
    let types : HasTypes c.args.bytes.now c.in_ok-layout.layout = search rules in
    let v = c.in_ok-layout.ensures in
    let parts : IsRead c.args.bytes.now c.in_ok-layout.layout c.in_ok-layout.end c.in_ok-footer.footer c.first_type-first.result c.in-Ok.table c.footer_rule-rule.result =
    record { headers = v.valid; p_is = v.value.0; end_is = v.value.1; types = types; text = c.in_ok-footer.ensures.value; typed = c.in-Ok.ensures.typed; first_is = c.first_type-first.ensures; table_is = c.in-Ok.ensures.value; rule_is = c.footer_rule-rule.ensures } in
    file_is _ _ _ _ _ _ _ _ parts
    (ap (λ (t : List Change). held c.first_type-first.result t c.footer_rule-rule.result c.in-Ok-join.skip) (sym c.in-Ok.ensures.value) ∙ c.in-Ok-join.ensures.value)
    c.in-Ok-join.ensures.ordered

pub returns-in-Ok-join-clause-parts : goal.returns-in-Ok-join-clause-parts
returns-in-Ok-join-clause-parts c = (record { readable = c.in-Ok.ensures.typed.readable; skip = c.in-Ok-join.ensures.range }, refl)

pub returns-in-Err-join-clause-error : goal.returns-in-Err-join-clause-error
returns-in-Err-join-clause-error c =
    let types : HasTypes c.args.bytes.now c.in_ok-layout.layout = search rules in
    let v = c.in_ok-layout.ensures in
    let parts : IsRead c.args.bytes.now c.in_ok-layout.layout c.in_ok-layout.end c.in_ok-footer.footer c.first_type-first.result c.in-Ok.table c.footer_rule-rule.result =
    record { headers = v.valid; p_is = v.value.0; end_is = v.value.1; types = types; text = c.in_ok-footer.ensures.value; typed = c.in-Ok.ensures.typed; first_is = c.first_type-first.ensures; table_is = c.in-Ok.ensures.value; rule_is = c.footer_rule-rule.ensures } in
    order_error _ _ _ _ _ _ _ c.in-Err-join.error _ parts c.in-Err-join.ensures.error
    (c.at-in-Err-join.ensures ∙ ap (λ (n : ℕ). error_at (kinds.Timeline c.in-Err-join.error) n) c.timeline_position-position.ensures)

pub returns-in-Err-join-clause-none : goal.returns-in-Err-join-clause-none
returns-in-Err-join-clause-none c = λ zone h.
    let types : HasTypes c.args.bytes.now c.in_ok-layout.layout = search rules in
    let v = c.in_ok-layout.ensures in
    let parts : IsRead c.args.bytes.now c.in_ok-layout.layout c.in_ok-layout.end c.in_ok-footer.footer c.first_type-first.result c.in-Ok.table c.footer_rule-rule.result =
    record { headers = v.valid; p_is = v.value.0; end_is = v.value.1; types = types; text = c.in_ok-footer.ensures.value; typed = c.in-Ok.ensures.typed; first_is = c.first_type-first.ensures; table_is = c.in-Ok.ensures.value; rule_is = c.footer_rule-rule.ensures } in
    not_file _ _ _ _ _ _ _ zone parts c.in-Err-join.ensures.every h
