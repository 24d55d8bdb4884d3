-- The linear walk through the changes ends where the count of them says.
use Rattle.std.proofs.Common.{◌≡◌, ℕ, zero, suc, ◌-◌, ◌<◌, ◌≤◌, List, [], ◌∷◌, length, refl, sym, ap, ◌∙◌, arith, true, false}
use Rattle.std.proofs.lemmas.Int.{ints}
use Rattle.std.specs.Prelude.{ℤ, ◌<ℤ◌, ◌≤ℤ◌, int_le}
use Rattle.std.specs.List.{slice_index_or}
use Rattle.cal_zone.specs.declared.change.Change.{Change}
use Rattle.cal_zone.specs.declared.local_type.LocalType.{LocalType}
use Rattle.cal_zone.specs.Timeline.{Timeline, kind_at, kind_from, after_changes, at, no_change, IsOffset}

pub is_past : (a b : ℤ) → a ≤ℤ b → int_le a b ≡ true
is_past a b h = grind (arith, ints)

is_ahead : (a b : ℤ) → b <ℤ a → int_le a b ≡ false
is_ahead a b h = grind (arith, ints)

-- If all changes are ahead, the first type holds.
kind_from-none : (kind : LocalType) (cs : List Change) (i : ℤ) → ((k : ℕ) → k < length cs → i <ℤ at cs k) → kind_from kind cs i ≡ kind
kind_from-none kind [] i h = refl
kind_from-none kind (c ∷ cs) i h =
    rw (is_ahead c.at i (h 0 (omega arith))) (kind_from-none kind cs i (λ k below. h (suc k) (omega arith)))

-- If the first n are past and the others ahead, the offset after n changes holds.
pub offset_from-count : (kind : LocalType) (cs : List Change) (i : ℤ) (n : ℕ)
    → ((k : ℕ) → k < n → k < length cs → at cs k ≤ℤ i)
    → ((k : ℕ) → n ≤ k → k < length cs → i <ℤ at cs k)
    → (kind_from kind cs i).offset ≡ after_changes kind.offset cs n
offset_from-count kind [] i zero below above = refl
offset_from-count kind [] i (suc n) below above = refl
offset_from-count kind (c ∷ cs) i zero below above = ap (λ (k : LocalType). k.offset) (kind_from-none kind (c ∷ cs) i (λ k. above k (omega arith)))
offset_from-count kind (c ∷ cs) i (suc n) below above =
    rw (is_past c.at i (below 0 (omega arith) (omega arith)), kind_from)
    (offset_from-count c.kind cs i n (λ k less inside. below (suc k) (omega arith) (omega arith)) (λ k more inside. above (suc k) (omega arith) (omega arith)))

-- So does the type of the last of the n.
kind_from-last : (kind : LocalType) (cs : List Change) (i : ℤ) (n : ℕ) → n < length cs
    → ((k : ℕ) → k ≤ n → at cs k ≤ℤ i)
    → ((k : ℕ) → n < k → k < length cs → i <ℤ at cs k)
    → kind_from kind cs i ≡ (slice_index_or cs n no_change).kind
kind_from-last kind [] i n inside below above = absurd (omega arith)
kind_from-last kind (c ∷ cs) i zero inside below above =
    rw (is_past c.at i (below 0 (omega arith))) (kind_from-none c.kind cs i (λ k h. above (suc k) (omega arith) (omega arith)))
kind_from-last kind (c ∷ cs) i (suc n) inside below above =
    rw (is_past c.at i (below 0 (omega arith)))
    (kind_from-last c.kind cs i n (omega arith) (λ k less. below (suc k) (omega arith)) (λ k more within. above (suc k) (omega arith) (omega arith)))

pub kind_at-first : (zone : Timeline) (i j : ℤ) → j ≡ i → ((k : ℕ) → 0 ≤ k → k < length zone.changes → j <ℤ at zone.changes k) → kind_at zone i ≡ zone.first
kind_at-first zone i j e above = ap (kind_at zone) (sym e) ∙ kind_from-none zone.first zone.changes j (λ k h. above k (omega arith) h)

pub kind_at-last : (zone : Timeline) (i j : ℤ) (n : ℕ) → j ≡ i → 0 < n → n ≤ length zone.changes
    → ((k : ℕ) → k < n → at zone.changes k ≤ℤ j)
    → ((k : ℕ) → n ≤ k → k < length zone.changes → j <ℤ at zone.changes k)
    → kind_at zone i ≡ (slice_index_or zone.changes (n - 1) no_change).kind
kind_at-last zone i j n e some inside below above =
    ap (kind_at zone) (sym e)
    ∙ kind_from-last zone.first zone.changes j (n - 1) (omega arith) (λ k h. below k (omega arith)) (λ k h within. above k (omega arith) within)

-- the offset after a change is that change's
pub after_changes-at : (offset : ℤ) (cs : List Change) (k : ℕ) → k < length cs → after_changes offset cs (suc k) ≡ (slice_index_or cs k no_change).kind.offset
after_changes-at offset [] k h = absurd (omega arith)
after_changes-at offset (c ∷ cs) zero h = refl
after_changes-at offset (c ∷ cs) (suc k) h = after_changes-at c.kind.offset cs k (omega arith)

pub after_changes-count : (offset : ℤ) (cs : List Change) (n : ℕ) → 0 < n → n ≤ length cs → after_changes offset cs n ≡ (slice_index_or cs (n - 1) no_change).kind.offset
after_changes-count offset cs zero some inside = absurd (omega arith)
after_changes-count offset cs (suc n) some inside =
    let e : suc n - 1 ≡ n = omega arith in rw e (after_changes-at offset cs n (omega arith))

-- and none is of 26 hours or more, where none of the changes' is
pub after_changes-offset : (offset : ℤ) (cs : List Change) (n : ℕ) → IsOffset offset → ((k : ℕ) → k < length cs → IsOffset (slice_index_or cs k no_change).kind.offset) → IsOffset (after_changes offset cs n)
after_changes-offset offset cs zero first each = first
after_changes-offset offset [] (suc n) first each = first
after_changes-offset offset (c ∷ cs) (suc n) first each = after_changes-offset c.kind.offset cs n (each 0 (omega arith)) (λ k h. each (suc k) (omega arith))
