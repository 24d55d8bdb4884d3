-- Instants with one offset, and the readings that clocks show only there.
use Rattle.std.proofs.Common.{◌≡◌, ℕ, suc, ◌-◌, ◌<◌, ◌≤◌, ◌↔◌, ◌⊎◌, length, refl, sym, ap, ◌∙◌, arith, subst, inl, inr}
use Rattle.std.proofs.lemmas.Bool.{cases_lt}
use Rattle.std.proofs.lemmas.Int.{ints, by_lt_z}
use Rattle.std.specs.Prelude.{ℤ, pos, ◌<ℤ◌, ◌≤ℤ◌, ◌+ℤ◌, ◌-ℤ◌}
use Rattle.cal_zone.specs.declared.span.Span.{Span}
use Rattle.cal_zone.specs.Span.{HasAround, HasNear, IsSpan, IsSpanAfter}
use Rattle.cal_zone.specs.Split.{IsBracket}
use Rattle.cal_zone.specs.Timeline.{Timeline, InOrder, IsMoment, IsOffset, at, after_changes, offset_at, local_at}
use Rattle.cal_zone.proofs.Readings.{forth, offset_between, offset_in}

less : (a b c : ℤ) → a ≤ℤ b → b <ℤ c → a <ℤ c
less a b c h p = omega (arith, ints)

pub span_of : (zone : Timeline) → InOrder zone → (f l o : ℤ) (n : ℕ) → n ≤ length zone.changes
    → ((k : ℕ) → suc k ≡ n → f ≡ at zone.changes k) → (n < length zone.changes → l <ℤ at zone.changes n)
    → o ≡ after_changes zone.first.offset zone.changes n → (i : ℤ) → f ≤ℤ i → i ≤ℤ l → offset_at zone i ≡ o
span_of zone order f l o n inside start end after i low high =
    offset_between zone order i o n inside
    (λ k e. subst (λ (x : ℤ). x ≤ℤ i) (start k e) low)
    (λ within. less i l (at zone.changes n) high (end within))
    after

-- Offsets differ by at most 187198 seconds. So if all instants that far around one have its offset,
-- no other instant shows its reading.
inside : (f l e : ℤ) → f ≤ℤ (e -ℤ pos 187_198) → (e +ℤ pos 187_198) ≤ℤ l → (f ≤ℤ e) × (e ≤ℤ l)
inside f l e low high = (omega (arith, ints), omega (arith, ints))

near : (f l e L i o p : ℤ) → e ≡ (L -ℤ o) → IsOffset o → IsOffset p → (i +ℤ p) ≡ L → f ≤ℤ (e -ℤ pos 187_198) → (e +ℤ pos 187_198) ≤ℤ l → (f ≤ℤ i) × (i ≤ℤ l)
near f l e L i o p is g h shows low high = (omega (arith, ints, g.0, g.1, h.0, h.1), omega (arith, ints, g.0, g.1, h.0, h.1))

back : (e L o i p : ℤ) → e ≡ (L -ℤ o) → p ≡ o → (i +ℤ p) ≡ L → i ≡ e
back e L o i p is same shows = omega (arith, ints)

pub single_in : (zone : Timeline) → InOrder zone → (s : Span) → IsSpan zone s → (L e : ℤ) → e ≡ (L -ℤ s.offset)
    → s.first ≤ℤ (e -ℤ pos 187_198) → (e +ℤ pos 187_198) ≤ℤ s.last → (i : ℤ) → (i ≡ e) ↔ (local_at zone i ≡ L)
single_in zone order s span L e is low high i = (
  (λ same.
      let h = inside s.first s.last e low high in
      let o : offset_at zone i ≡ s.offset = ap (offset_at zone) same ∙ span e h.0 h.1 in
      ap (λ y. i +ℤ y) o ∙ forth L i s.offset (same ∙ is)),
  (λ shows.
      let h = inside s.first s.last e low high in
      let own : IsOffset s.offset = subst IsOffset (span e h.0 h.1) (offset_in zone order e) in
      let g = near s.first s.last e L i s.offset (offset_at zone i) is own (offset_in zone order i) shows low high in
      back e L s.offset i (offset_at zone i) is (span i g.0 g.1) shows),
)

-- A span of one instant.
pub only : (zone : Timeline) (x y o : ℤ) → y ≡ x → o ≡ offset_at zone x → (i : ℤ) → y ≤ℤ i → i ≤ℤ y → offset_at zone i ≡ o
only zone x y o e offset i low high = ap (offset_at zone) (same e low high) ∙ sym offset
  where
    same : y ≡ x → y ≤ℤ i → i ≤ℤ y → i ≡ x
    same e low high = omega (arith, ints)

-- The last instant before a change.
pub just_before : (l a : ℤ) → l ≡ a -ℤ pos 1 → l <ℤ a
just_before l a e = omega (arith, ints)

-- If a span doesn't decide a reading, one of its ends is near.
near_end : (f l r o : ℤ) → IsOffset o → ¬ ((f ≤ℤ ((r -ℤ o) -ℤ pos 187_198)) × (((r -ℤ o) +ℤ pos 187_198) ≤ℤ l))
    → ((r -ℤ pos 280_797) ≤ℤ f) ⊎ (l <ℤ (r +ℤ pos 280_797))
near_end f l r o own out =
    by_lt_z ((r -ℤ o) -ℤ pos 187_198) f (λ less. inl (low less))
    (λ early. inr (by_lt_z l ((r -ℤ o) +ℤ pos 187_198) high (λ late. absurd (out (early, late)))))
  where
    low : ((r -ℤ o) -ℤ pos 187_198) <ℤ f → (r -ℤ pos 280_797) ≤ℤ f
    low less = omega (arith, ints, own.0, own.1)

    high : l <ℤ ((r -ℤ o) +ℤ pos 187_198) → l <ℤ (r +ℤ pos 280_797)
    high less = omega (arith, ints, own.0, own.1)

near_at : (f : ℕ → ℤ) (start n k : ℕ) (r x : ℤ) → start ≤ k → k < n → x ≡ f k → (r -ℤ pos 280_797) ≤ℤ x → x ≤ℤ (r +ℤ pos 280_797) → HasNear f start n r
near_at f start n k r x from inside is low high = record {
  index = k;
  from = from;
  inside = inside;
  low = subst (λ (z : ℤ). (r -ℤ pos 280_797) ≤ℤ z) is low;
  high = subst (λ (z : ℤ). z ≤ℤ (r +ℤ pos 280_797)) is high;
}

-- If the span between two changes doesn't decide a reading between them, one of them is near.
pub near_between : (f : ℕ → ℤ) (start n count : ℕ) (s : Span) (r : ℤ) → start < count → count < n → s.first ≡ f (count - 1) → s.last ≡ f count -ℤ pos 1
    → IsOffset s.offset → f (count - 1) ≤ℤ r → r <ℤ f count → ¬ HasAround s (r -ℤ s.offset) → HasNear f start n r
near_between f start n count s r from inside first last own past ahead out =
    elim (near_end s.first s.last r s.offset own out) as (λ _. HasNear f start n r) [
      | inl low ↦ near_at f start n (count - 1) r s.first (omega arith) (omega arith) first low (omega (arith, ints, first))
      | inr high ↦ near_at f start n count r (f count) (omega arith) inside refl (omega (arith, ints)) (omega (arith, ints, last))
    ]

-- The same for a span that may have no change before or after it.
pub near_change : (zone : Timeline) (s : Span) (n : ℕ) (r : ℤ) → IsSpanAfter zone.changes n s → IsOffset s.offset → IsMoment r
    → IsBracket (at zone.changes) (length zone.changes) r n n → ¬ HasAround s (r -ℤ s.offset) → HasNear (at zone.changes) 0 (length zone.changes) r
near_change zone s n r is own moment b out =
    let cs = zone.changes in
    let inside = b.inside in
    elim (near_end s.first s.last r s.offset own out) as (λ _. HasNear (at cs) 0 (length cs) r) [
      | inl low ↦ elim (cases_lt 0 n) as (λ _. HasNear (at cs) 0 (length cs) r) [
        | inl some ↦
            let e : suc (n - 1) ≡ n = omega arith in
            near_at (at cs) 0 (length cs) (n - 1) r s.first (omega arith) (omega arith) (is.first (n - 1) e) low (omega (arith, ints, is.first (n - 1) e, b.below (n - 1) e))
        | inr none ↦ absurd (omega (arith, ints, is.unbounded_first (omega arith), moment.0))
      ]
      | inr high ↦ elim (cases_lt n (length cs)) as (λ _. HasNear (at cs) 0 (length cs) r) [
        | inl less ↦ near_at (at cs) 0 (length cs) n r (at cs n) (omega arith) less refl (omega (arith, ints, b.above less)) (omega (arith, ints, is.last less))
        | inr past ↦ absurd (omega (arith, ints, is.unbounded_last past, moment.1))
      ]
    ]
