use Rattle.std.proofs.Common.{subst, sym}
use Rattle.cal_named_format.specs.Named.{HasFormIn}
use Rattle.cal_named_format.proofs.Named.{Reads}
use Rattle.caldate_answers.specs.FormatErrors.{IsFormatError}
use Rattle.caldate_answers.specs.Languages.{IsTextInLanguage, kind_items}
use Rattle.caldate_answers.specs.declared.reading.value_format.ValueFormat.TheVariants.{InLanguage}
use Rattle.caldate_answers.proofs.InLanguage.{error_form_in, has_form_in}
use Rattle.caldate_answers.proofs.reading.in_language.LanguageFormat.as_format.Goals as goal

pub returns-clause-form : goal.returns-clause-form
returns-clause-form c = λ offset text found is.
    let names = c.self.inside.names.now in
    let kind = c.self.inside.kind in
    let reads : Reads names (kind_items kind) = record { tables = c.table_counts.ensures; reads = c.self.invariant } in
    let own = subst (λ p. IsTextInLanguage offset p.0 p.1 text found) (sym c.self.view_is) is in
    subst (λ p. HasFormIn p.0 (kind_items p.1) text) c.self.view_is (has_form_in offset names kind text found reads c.items_of.ensures.determines own)

pub returns-clause-error_form : goal.returns-clause-error_form
returns-clause-error_form c = λ text any is.
    let names = c.self.inside.names.now in
    let kind = c.self.inside.kind in
    let reads : Reads names (kind_items kind) = record { tables = c.table_counts.ensures; reads = c.self.invariant } in
    let own = subst (λ p. IsFormatError (InLanguage p) text any) (sym c.self.view_is) is in
    subst (λ p. HasFormIn p.0 (kind_items p.1) text) c.self.view_is (error_form_in names (kind_items kind) text any reads own)
