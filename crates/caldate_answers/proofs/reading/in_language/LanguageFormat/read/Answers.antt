use Rattle.std.proofs.Common.{refl, subst}
use Rattle.cal_format.proofs.Outcomes.{no-result, same-result}
use Rattle.cal_named_format.specs.Rejection.{IsRejectionIn}
use Rattle.cal_named_format.proofs.Named.{Reads}
use Rattle.caldate_answers.specs.FormatErrors.{IsFormatError}
use Rattle.caldate_answers.specs.Languages.{Determines, kind_items}
use Rattle.caldate_answers.specs.Readers.{IsFormatText}
use Rattle.caldate_answers.specs.declared.reading.value_format.ValueFormat.TheVariants.{InLanguage}
use Rattle.caldate_answers.proofs.InLanguage.{one_rejection_in, unrejected}
use Rattle.caldate_answers.proofs.Rejected.{read, rejected}
use Rattle.caldate_answers.proofs.reading.in_language.LanguageFormat.read.Goals as goal

pub returns-in-Ok : goal.returns-in-Ok
returns-in-Ok c =
    let f = c.args.self.now in
    let text = c.args.text.now in
    let own : Reads c.self.inside.names.now (kind_items c.self.inside.kind) = record { tables = c.table_counts.ensures; reads = c.self.invariant } in
    let reads = subst (λ p. Reads p.0 (kind_items p.1)) c.self.view_is own in
    let determines = subst (λ p. Determines p.1) c.self.view_is c.items_of-items.ensures.determines in (
      read (IsFormatText c.args.offset (InLanguage f) text) (IsFormatError (InLanguage f) text) c.in-Ok.found c.in-Ok.ensures.has
          (λ other h. same-result _ c.in-Ok.found other refl (c.in-Ok.ensures.every other h)),
      λ any h. unrejected c.args.offset f.0 f.1 text c.in-Ok.found any reads determines c.in-Ok.ensures.has h,
    )

pub returns-in-Err : goal.returns-in-Err
returns-in-Err c =
    let f = c.args.self.now in
    let text = c.args.text.now in
    let own : Reads c.self.inside.names.now (kind_items c.self.inside.kind) = record { tables = c.table_counts.ensures; reads = c.self.invariant } in
    let reads = subst (λ p. Reads p.0 (kind_items p.1)) c.self.view_is own in (
      rejected (IsFormatText c.args.offset (InLanguage f) text) (IsRejectionIn f.0 (kind_items f.1) text) c.in-Err.error _ c.format_reason_of.ensures
          (λ found h. no-result c.in-Err.error found (c.in-Err.ensures.every found h)) (one_rejection_in f.0 (kind_items f.1) text reads) c.in-Err.ensures.error,
      tt,
    )
