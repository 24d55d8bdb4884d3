use Rattle.std.proofs.Common.{refl, subst}
use Rattle.caldate_lines.specs.Fields.{IsAfter}
use Rattle.caldate_lines.proofs.Cuts.{cut_at}
use Rattle.caldate_lines.proofs.input.fields.cut_field.Goals as goal

pub returns-clause-cut : goal.returns-clause-cut
returns-clause-cut c =
    let text = c.args.text.now in
    let rest = c.in_ok-rest.rest.now in
    let after = subst (λ k. IsAfter c.args.field k text rest) c.saturating_sub.ensures c.in_ok-rest.ensures.after in
    (cut_at c.args.field text rest c.in_ok-last.last.now c.first_length.result _ _ after c.in_ok-last.ensures.after c.first_length.ensures.first
    c.first_length.ensures.short refl refl).cut_is

pub returns-clause-whole : goal.returns-clause-whole
returns-clause-whole c =
    let text = c.args.text.now in
    let rest = c.in_ok-rest.rest.now in
    let after = subst (λ k. IsAfter c.args.field k text rest) c.saturating_sub.ensures c.in_ok-rest.ensures.after in
    (cut_at c.args.field text rest c.in_ok-last.last.now c.first_length.result _ _ after c.in_ok-last.ensures.after c.first_length.ensures.first
    c.first_length.ensures.short refl refl).whole
