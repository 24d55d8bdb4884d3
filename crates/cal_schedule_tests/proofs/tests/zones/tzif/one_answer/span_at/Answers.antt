use Rattle.std.proofs.Common.{◌≡◌, ◌∙◌, ℕ, zero, suc, List, length, refl, sym, subst, arith, inl, inr}
use Rattle.std.proofs.lemmas.Bool.{cases_lt}
use Rattle.std.proofs.lemmas.Int.{ints}
use Rattle.std.specs.Prelude.{ℤ, ◌<ℤ◌, ◌≤ℤ◌}
use Rattle.cal_zone.specs.declared.change.Change.{Change}
use Rattle.cal_zone.specs.declared.span.Span.{Span}
use Rattle.cal_zone.specs.Span.{IsSpanAfter}
use Rattle.cal_zone.specs.Split.{IsSplit}
use Rattle.cal_zone.proofs.OneError.{same}
use Rattle.cal_schedule_tests.proofs.tests.zones.tzif.one_answer.span_at.Goals as goal

never : (a x : ℤ) → a ≤ℤ x → x <ℤ a → ⊥
never a x h k = omega (arith, ints)

split-one : (f : ℕ → ℤ) (n : ℕ) (x : ℤ) (a b : ℕ) → IsSplit f n x a a → IsSplit f n x b b → a ≡ b
split-one f n x a b h k =
    let first = h.inside in
    let second = k.inside in
    same a b (λ less. never (f a) x (k.below a less) (h.above a (omega arith) (omega arith))) (λ less. never (f b) x (h.below b less) (k.above b (omega arith) (omega arith)))

first-one : (cs : List Change) (n : ℕ) (s t : Span) → IsSpanAfter cs n s → IsSpanAfter cs n t → s.first ≡ t.first
first-one cs zero s t h k = h.unbounded_first refl ∙ sym (k.unbounded_first refl)
first-one cs (suc n) s t h k = h.first n refl ∙ sym (k.first n refl)

last-one : (cs : List Change) (n : ℕ) (s t : Span) → IsSpanAfter cs n s → IsSpanAfter cs n t → s.last ≡ t.last
last-one cs n s t h k = elim (cases_lt n (length cs)) as (λ _. s.last ≡ t.last) [
  | inl less ↦ h.last less ∙ sym (k.last less)
  | inr past ↦ h.unbounded_last past ∙ sym (k.unbounded_last past)
]

span-one : (s t : Span) → s.first ≡ t.first → s.last ≡ t.last → s.offset ≡ t.offset → s ≡ t
span-one s t f l o = λ i. record { first = f i; last = l i; offset = o i }

pub returns : goal.returns
returns c = λ order.
    let cs = c.args.zone.now.changes in
    let a = c.span_at.ensures.ends order in
    let b = c.span_by.ensures.ends order in
    let e = split-one _ _ _ a.count b.count a.split b.split in
    let h = subst (λ (n : ℕ). IsSpanAfter cs n c.span_at.result) e a.after in
    span-one _ _ (first-one cs b.count _ _ h b.after) (last-one cs b.count _ _ h b.after) (c.span_at.ensures.offset order ∙ sym (c.span_by.ensures.offset order))
