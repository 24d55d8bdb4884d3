-- The clauses of the calls for zones leave one result for a zone.
use Rattle.std.proofs.Common.{◌≡◌, ◌∙◌, ℕ, suc, sym, ap, arith, inl, inr}
use Rattle.std.proofs.lemmas.Bool.{cases_lt}
use Rattle.std.proofs.lemmas.Int.{ints, by_lt_z}
use Rattle.std.specs.Prelude.{ℤ, pos, neg_ℤ, ◌<ℤ◌, ◌≤ℤ◌, length}
use Rattle.std.specs.List.{slice_index_or}
use Rattle.cal_zone.specs.declared.change.Change.{Change}
use Rattle.cal_zone.specs.declared.instants.Instants.{Instants}
use Rattle.cal_zone.specs.declared.local.Local.{Local}
use Rattle.cal_zone.specs.declared.policy.Policy.{Policy}
use Rattle.cal_zone.specs.Policy.{instant_by, moment_by}
use Rattle.cal_zone.specs.Split.{IsSplit}
use Rattle.cal_zone.specs.Timeline.{Timeline, InOrder, IsMoment, at, no_change}
use Rattle.cal_zone.proofs.OneLocal.{instants-one, local-one}
use Rattle.cal_c.specs.Results.{int64_ok}
use Rattle.cal_c.specs.Zones.{local_ok, moment_or_error, IsMomentByPolicy, IsNextResult, IsPreviousResult, IsResolved}
use Rattle.cal_c.specs.ZoneColumns.{instant_or_error, IsInstantByPolicy}
use Rattle.cal_c.specs.declared.results.Int64Result.{Int64Result}
use Rattle.cal_c.specs.declared.results.MomentResult.{MomentResult}
use Rattle.cal_c.specs.declared.zones.results.LocalResult.{LocalResult}

-- ---- changes
less-or_same : (a b : ℤ) → a ≤ℤ b → b <ℤ a → ⊥
less-or_same a b p q = omega (arith, ints)

split-one : (f : ℕ → ℤ) (n : ℕ) (x : ℤ) (j k : ℕ) → IsSplit f n x j j → IsSplit f n x k k → j ≡ k
split-one f n x j k p q =
    let first = p.inside in
    let second = q.inside in
    elim (cases_lt j k) as (λ _. j ≡ k) [
      | inl less ↦ absurd (less-or_same (f j) x (q.below j less) (p.above j (omega arith) (omega arith)))
      | inr more ↦ elim (cases_lt k j) as (λ _. j ≡ k) [
        | inl less ↦ absurd (less-or_same (f k) x (p.below k less) (q.above k (omega arith) (omega arith)))
        | inr same ↦ omega arith
      ]
    ]

of_index : (z : Timeline) (c d : Change) (j k : ℕ) → j ≡ k → c ≡ slice_index_or z.changes j no_change → d ≡ slice_index_or z.changes k no_change → int64_ok c.at ≡ int64_ok d.at
of_index z c d j k same first second =
    ap (λ (x : Change). int64_ok x.at) (first ∙ ap (λ (n : ℕ). slice_index_or z.changes n no_change) same ∙ sym second)

pub next-one : (z : Timeline) (i : ℤ) (r s : Int64Result) → IsNextResult z i r → IsNextResult z i s → r ≡ s
next-one z i r s (IsNextResult.change c p e) (IsNextResult.change d q f) =
    e ∙ of_index z c d p.index q.index (split-one (at z.changes) (length z.changes) i p.index q.index p.split q.split) p.change q.change ∙ sym f
next-one z i r s (IsNextResult.change c p e) (IsNextResult.none all f) = absurd (less-or_same (at z.changes p.index) i (all p.index p.inside) (p.split.above p.index (omega arith) p.inside))
next-one z i r s (IsNextResult.none all e) (IsNextResult.change d q f) = absurd (less-or_same (at z.changes q.index) i (all q.index q.inside) (q.split.above q.index (omega arith) q.inside))
next-one z i r s (IsNextResult.none all e) (IsNextResult.none others f) = e ∙ sym f

pub previous-one : (z : Timeline) (i : ℤ) (r s : Int64Result) → IsPreviousResult z i r → IsPreviousResult z i s → r ≡ s
previous-one z i r s (IsPreviousResult.change c p e) (IsPreviousResult.change d q f) =
    let same = split-one (at z.changes) (length z.changes) i (suc p.index) (suc q.index) p.split q.split in
    e ∙ of_index z c d p.index q.index (omega (arith, same)) p.change q.change ∙ sym f
previous-one z i r s (IsPreviousResult.change c p e) (IsPreviousResult.none all f) = absurd (less-or_same (at z.changes p.index) i (p.split.below p.index (omega arith)) (all p.index p.inside))
previous-one z i r s (IsPreviousResult.none all e) (IsPreviousResult.change d q f) = absurd (less-or_same (at z.changes q.index) i (q.split.below q.index (omega arith)) (all q.index q.inside))
previous-one z i r s (IsPreviousResult.none all e) (IsPreviousResult.none others f) = e ∙ sym f

-- ---- readings
pub resolved-one : (z : Timeline) → InOrder z → (l : ℤ) (r s : LocalResult) → IsResolved z l r → IsResolved z l s → r ≡ s
resolved-one z order l r s (its, p, e) (others, q, f) =
    e ∙ ap (local_ok l) (instants-one z order l its others p.set q.set p.explained q.explained) ∙ sym f

pub moment-one : (z : Timeline) → InOrder z → (l : ℤ) (p : Policy) (r s : MomentResult) → IsMomentByPolicy z l p r → IsMomentByPolicy z l p s → r ≡ s
moment-one z order l p r s (local, is, e) (other, its, f) =
    e ∙ ap (λ (x : Local). moment_or_error (moment_by p x)) (local-one z order l local other is its) ∙ sym f

instant-one : (z : Timeline) → InOrder z → (l : ℤ) (p : Policy) (r s : Int64Result) → IsMoment l → IsInstantByPolicy z l p r → IsInstantByPolicy z l p s → r ≡ s
instant-one z order l p r s is a b =
    let (its, first, e) = a.value is in
    let (others, second, f) = b.value is in
    e ∙ ap (λ (x : Instants). instant_or_error (instant_by p l x)) (instants-one z order l its others first.set second.set first.explained second.explained) ∙ sym f

pub row-one : (z : Timeline) → InOrder z → (l : ℤ) (p : Policy) (r s : Int64Result) → IsInstantByPolicy z l p r → IsInstantByPolicy z l p s → r ≡ s
row-one z order l p r s a b =
    by_lt_z l (neg_ℤ (pos 1_152_921_504_606_846_976)) (λ low. let out : ¬ (IsMoment l) = λ is. before l _ low is.0 in a.error out ∙ sym (b.error out))
    (λ within. by_lt_z (pos 1_152_921_504_606_846_976) l (λ high. let out : ¬ (IsMoment l) = λ is. before _ l high is.1 in a.error out ∙ sym (b.error out))
    (λ below. instant-one z order l p r s (within, below) a b))
  where
    before : (x y : ℤ) → x <ℤ y → y ≤ℤ x → ⊥
    before x y p q = omega (arith, ints)
