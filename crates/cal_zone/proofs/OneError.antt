-- Changes and a rule have one error.
use Rattle.std.proofs.Common.{◌≡◌, ℕ, suc, ◌<◌, List, refl, sym, ap, subst, arith, inl, inr}
use Rattle.std.proofs.lemmas.Bool.{cases_lt}
use Rattle.std.specs.Prelude.{ℤ, ◌<ℤ◌, Option}
use Rattle.std.specs.List.{slice_index_or}
use Rattle.cal_zone.specs.declared.change.Change.{Change}
use Rattle.cal_zone.specs.declared.change_error.ChangeError.{ChangeError}
use Rattle.cal_zone.specs.declared.change_error.ChangeError.TheVariants.{FirstOffset, Offset, Instant, NotRising, Overlap}
use Rattle.cal_zone.specs.declared.local_type.LocalType.{LocalType}
use Rattle.cal_zone.specs.declared.rule.Rule.{Rule}
use Rattle.cal_zone.specs.declared.timeline_error.TimelineError.{TimelineError}
use Rattle.cal_zone.specs.declared.timeline_error.TimelineError.TheVariants as refused
use Rattle.cal_zone.specs.ChangeError.{IsChangeError, IsSound, Follows}
use Rattle.cal_zone.specs.Timeline.{at, begins, ends, IsOffset, no_change}
use Rattle.cal_zone.specs.Zone.{IsTimelineError}
use Rattle.cal_zone.proofs.Errors.{change_error}
use Rattle.cal_zone.proofs.Orders.{not_less}

-- Where one number is neither less nor more than another, they are the same.
pub same : (j k : ℕ) → (j < k → ⊥) → (k < j → ⊥) → j ≡ k
same j k less more = elim (cases_lt j k) as (λ _. j ≡ k) [
  | inl h ↦ absurd (less h)
  | inr h ↦ elim (cases_lt k j) as (λ _. j ≡ k) [ inl i ↦ absurd (more i) | inr i ↦ omega arith ]
]

-- A change with an error is not one without it.
offset_not : (first : ℤ) (cs : List Change) (k : ℕ) → IsChangeError first cs (Offset k) → IsSound cs k → ⊥
offset_not first cs k h sound = h.3 sound.offset

instant_not : (first : ℤ) (cs : List Change) (k : ℕ) → IsChangeError first cs (Instant k) → IsSound cs k → ⊥
instant_not first cs k h sound = h.4 sound.moment

rising_not : (first : ℤ) (cs : List Change) (k : ℕ) → IsChangeError first cs (NotRising k) → Follows first cs k → ⊥
rising_not first cs k h follows = not_less (at cs k) (at cs (suc k)) follows.rising h.4

overlap_not : (first : ℤ) (cs : List Change) (k : ℕ) → IsChangeError first cs (Overlap k) → Follows first cs k → ⊥
overlap_not first cs k h follows = not_less (begins first cs (suc k)) (ends first cs k) h.5 follows.apart

pub change_error-one : (first : ℤ) (cs : List Change) (e f : ChangeError) → IsChangeError first cs e → IsChangeError first cs f → e ≡ f
change_error-one first cs FirstOffset FirstOffset h i = refl
change_error-one first cs FirstOffset (Offset k) h i = absurd (h i.0)
change_error-one first cs FirstOffset (Instant k) h i = absurd (h i.0)
change_error-one first cs FirstOffset (NotRising k) h i = absurd (h i.0)
change_error-one first cs FirstOffset (Overlap k) h i = absurd (h i.0)
change_error-one first cs (Offset j) FirstOffset h i = absurd (i h.0)
change_error-one first cs (Offset j) (Offset k) h i = ap (λ (n : ℕ). Offset n) (same j k (λ l. offset_not first cs j h (i.2 j l)) (λ l. offset_not first cs k i (h.2 k l)))
change_error-one first cs (Offset j) (Instant k) h i =
    let e : j ≡ k = same j k (λ l. offset_not first cs j h (i.2 j l)) (λ l. instant_not first cs k i (h.2 k l)) in
    absurd (h.3 (subst (λ (n : ℕ). IsOffset (slice_index_or cs n no_change).kind.offset) (sym e) i.3))
change_error-one first cs (Offset j) (NotRising k) h i = absurd (offset_not first cs j h (i.1 j h.1))
change_error-one first cs (Offset j) (Overlap k) h i = absurd (offset_not first cs j h (i.1 j h.1))
change_error-one first cs (Instant j) FirstOffset h i = absurd (i h.0)
change_error-one first cs (Instant j) (Offset k) h i =
    let e : j ≡ k = same j k (λ l. instant_not first cs j h (i.2 j l)) (λ l. offset_not first cs k i (h.2 k l)) in
    absurd (i.3 (subst (λ (n : ℕ). IsOffset (slice_index_or cs n no_change).kind.offset) e h.3))
change_error-one first cs (Instant j) (Instant k) h i = ap (λ (n : ℕ). Instant n) (same j k (λ l. instant_not first cs j h (i.2 j l)) (λ l. instant_not first cs k i (h.2 k l)))
change_error-one first cs (Instant j) (NotRising k) h i = absurd (instant_not first cs j h (i.1 j h.1))
change_error-one first cs (Instant j) (Overlap k) h i = absurd (instant_not first cs j h (i.1 j h.1))
change_error-one first cs (NotRising j) FirstOffset h i = absurd (i h.0)
change_error-one first cs (NotRising j) (Offset k) h i = absurd (offset_not first cs k i (h.1 k i.1))
change_error-one first cs (NotRising j) (Instant k) h i = absurd (instant_not first cs k i (h.1 k i.1))
change_error-one first cs (NotRising j) (NotRising k) h i = ap (λ (n : ℕ). NotRising n) (same j k (λ l. rising_not first cs j h (i.3 j l)) (λ l. rising_not first cs k i (h.3 k l)))
change_error-one first cs (NotRising j) (Overlap k) h i =
    let e : j ≡ k = same j k (λ l. rising_not first cs j h (i.3 j l)) (λ l. overlap_not first cs k i (h.3 k l)) in
    absurd (not_less (at cs j) (at cs (suc j)) (subst (λ (n : ℕ). at cs n <ℤ at cs (suc n)) (sym e) i.4) h.4)
change_error-one first cs (Overlap j) FirstOffset h i = absurd (i h.0)
change_error-one first cs (Overlap j) (Offset k) h i = absurd (offset_not first cs k i (h.1 k i.1))
change_error-one first cs (Overlap j) (Instant k) h i = absurd (instant_not first cs k i (h.1 k i.1))
change_error-one first cs (Overlap j) (NotRising k) h i =
    let e : j ≡ k = same j k (λ l. overlap_not first cs j h (i.3 j l)) (λ l. rising_not first cs k i (h.3 k l)) in
    absurd (not_less (at cs k) (at cs (suc k)) (subst (λ (n : ℕ). at cs n <ℤ at cs (suc n)) e h.4) i.4)
change_error-one first cs (Overlap j) (Overlap k) h i = ap (λ (n : ℕ). Overlap n) (same j k (λ l. overlap_not first cs j h (i.3 j l)) (λ l. overlap_not first cs k i (h.3 k l)))

pub timeline_error-one : (first : LocalType) (table : List Change) (rule : Option Rule) (e f : TimelineError) → IsTimelineError first table rule e → IsTimelineError first table rule f → e ≡ f
timeline_error-one first table rule (refused.Change e) (refused.Change f) h i = ap (λ (x : ChangeError). refused.Change x) (change_error-one first.offset table e f h i)
timeline_error-one first table rule (refused.Change e) refused.Junction h i = absurd (change_error first.offset table i.0 e h)
timeline_error-one first table rule refused.Junction (refused.Change f) h i = absurd (change_error first.offset table h.0 f i)
timeline_error-one first table rule refused.Junction refused.Junction h i = refl
