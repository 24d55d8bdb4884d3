use Rattle.std.proofs.Common.{◌≡◌, ◌∙◌, ap, rules, sym, subst, true, FitsSigned, w32, w64}
use Rattle.std.proofs.lemmas.Int.{to_z-of_z}
use Rattle.std.specs.Prelude.{ℤ}
use Rattle.cal_zone.specs.declared.span.Span.{Span}
use Rattle.cal_zone.specs.Span.{IsSpan}
use Rattle.cal_zone.specs.Timeline.{Timeline, offset_at}
use Rattle.cal_c.proofs.columns.zones.offset_in.Goals.{then-not-contains, else-not-contains}
use Rattle.cal_c.proofs.columns.zones.offset_in.Goals as goal

of_span : (zone : Timeline) (x : ℤ) (s t : Span) → s ≡ t → IsSpan zone t → t.offset ≡ offset_at zone x → IsSpan zone s × (s.offset ≡ offset_at zone x)
of_span zone x s t e span offset = (subst (IsSpan zone) (sym e) span, ap (λ (r : Span). r.offset) e ∙ offset)

pub returns : goal.returns
returns c = λ order held.
    let zone = c.args.zone.now in
    let x = c.args.seconds in
    let s = c.if-not-contains.span in
    let is = to_z-of_z w64 x c.ranges.seconds in
    let fits : FitsSigned w32 s.offset = search rules in
    let found : IsSpan zone s × (s.offset ≡ offset_at zone x) =
    elim c.if-not-contains.branch [
      | then-not-contains w ↦
          let same : s ≡ w.span_after.result = search rules in
          of_span zone x s w.span_after.result same (w.span_after.ensures.span order) (w.span_after.ensures.offset order ∙ ap (offset_at zone) is)
      | else-not-contains w ↦
          let same : s ≡ c.args.span.now = search rules in
          let contained : c.contains.result ≡ true = search rules in
          let inside = c.contains.ensures.0 contained in
          of_span zone x s c.args.span.now same held (sym (held _ inside.0 inside.1) ∙ ap (offset_at zone) is)
    ] in
    (found.0, to_z-of_z w32 s.offset fits ∙ found.1)
