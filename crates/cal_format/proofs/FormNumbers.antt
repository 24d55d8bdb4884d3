-- The numbers that are scanned, item by item.
use Rattle.std.proofs.Common.{◌≡◌, ℕ, zero, suc, ◌+◌, ◌-◌, ◌<◌, ◌≤◌, List, [], ◌∷◌, ◌++◌, length, take, drop, set, get_or, refl, sym, ap, subst, ◌∙◌, arith}
use Rattle.std.proofs.lemmas.List.{take_all}
use Rattle.cal_format.specs.declared.item.Item.{Item}
use Rattle.cal_format.specs.Form.{numbered_item, IsNumber, HasNumbers}
use Rattle.cal_format.proofs.Apart.{first_of, others_of}

pub record IsNoted (k x : ℕ) (old new : List ℕ) : Type 0 where
  pub kept : take k new ≡ take k old
  pub next : drop k new ≡ x ∷ drop (suc k) new

noted-suc : (k x : ℕ) (old new : List ℕ) → k < length old → take (suc k) new ≡ take (suc k) (set old k x) → IsNoted k x old new
noted-suc k x [] new few e = absurd (omega arith)
noted-suc zero x (o ∷ os) [] few e = absurd (omega (arith, ap length e))
noted-suc (suc k) x (o ∷ os) [] few e = absurd (omega (arith, ap length e))
noted-suc zero x (o ∷ os) (y ∷ ys) few e = record { kept = refl; next = λ i. get_or (e i) 0 0 ∷ ys }
noted-suc (suc k) x (o ∷ os) (y ∷ ys) few e =
    let rest = noted-suc k x os ys (omega arith) (ap (λ l. drop 1 l) e) in
    record { kept = λ i. get_or (e i) 0 0 ∷ rest.kept i; next = rest.next }

pub noted : (k x : ℕ) (old new : List ℕ) → k < length old → take (k + 1) new ≡ take (k + 1) (set old k x) → (take k new ≡ take k old) × (drop k new ≡ x ∷ drop (k + 1) new)
noted k x old new few e =
    let one : k + 1 ≡ suc k = omega arith in
    let is = noted-suc k x old new few (subst (λ j. take j new ≡ take j (set old k x)) one e) in
    (is.kept, is.next ∙ ap (λ j. x ∷ drop j new) (sym one))

pub has-first : (items : List Item) (n : ℕ) (numbers rest old mid : List ℕ) → 1 ≤ length items → IsNumber (first_of items) n → old ≡ numbered_item (first_of items) n ++ mid
    → HasNumbers (others_of items) rest mid → numbers ≡ n ∷ rest → HasNumbers items numbers old
has-first [] n numbers rest old mid some fit e h is = absurd (omega arith)
has-first (i ∷ items) n numbers rest old mid some fit e h is =
    let same : take (length (i ∷ items) - 1) items ≡ items = take_all (length (i ∷ items) - 1) items (omega arith) in
    let own : HasNumbers items rest mid = subst (λ l. HasNumbers l rest mid) same h in
    let whole : HasNumbers (i ∷ items) (n ∷ rest) old = record { fit = (fit, own.fit); text_is = e ∙ ap (λ l. numbered_item i n ++ l) own.text_is } in
    subst (λ l. HasNumbers (i ∷ items) l old) (sym is) whole
