-- Printing under a condition, and one after the other.
use Rattle.std.proofs.Common.{◌≡◌, ℕ, ◌+◌, ◌-◌, ◌≤◌, List, [], ◌∷◌, ◌++◌, length, take, drop, sym, ap, subst, ◌∙◌, arith, append_assoc, length-append}
use Rattle.std.specs.Prelude.{◌↔◌, Option, Some, None, IsSome}
use Rattle.std.proofs.lemmas.List.{drop-drop, take-take, take_at, take_all, length-take-le}
use Rattle.std.specs.List.{flat_map}
use Rattle.cal_format.specs.declared.item.Item.{Item}
use Rattle.cal_format.specs.Printing.{Prints, PrintsUnder, Writes}
use Rattle.cal_format.proofs.Apart.{first_of, others_of}

pub printed-under : (P : Type 0) (text old new : List ℕ) (r : Option ℕ) → P → Prints text old new r → PrintsUnder P text old new r
printed-under P text old new r p h = record { room = ((λ e. (p, h.room.0 e)), (λ e. h.room.1 e.1)); text = h.text; end = h.end; after = h.after; unchanged = h.unchanged }

-- ---- bytes after bytes
drop-later : (p q : ℕ) (xs ys : List ℕ) → p ≤ q → drop p xs ≡ drop p ys → drop q xs ≡ drop q ys
drop-later p q xs ys low e =
    let same : p + (q - p) ≡ q = omega (arith, low) in
    let split : (l : List ℕ) → drop q l ≡ drop (q - p) (drop p l) = λ l. ap (λ k. drop k l) (sym same) ∙ sym (drop-drop (q - p) p l) in
    split xs ∙ ap (λ l. drop (q - p) l) e ∙ sym (split ys)

take-front : (at next : ℕ) (old mid new bytes : List ℕ) → at ≤ next → at ≤ length old → take next new ≡ take next mid → take next mid ≡ take at old ++ bytes → take at new ≡ take at old
take-front at next old mid new bytes low fits e f =
    sym (take-take at next new low) ∙ ap (λ l. take at l) (e ∙ f) ∙ take_at (take at old) bytes at (length-take-le at old fits)

both-room : (a b : List ℕ) (at next : ℕ) (old mid : List ℕ) (r : Option ℕ) → next ≡ at + length a → length mid ≡ length old → IsSome r ↔ (next + length b ≤ length mid) → IsSome r ↔ (at + length (a ++ b) ≤ length old)
both-room a b at next old mid r end same room =
    ((λ s. omega (arith, room.0 s, end, same, length-append a b)), (λ h. room.1 (omega (arith, h, end, same, length-append a b))))

writes-both : (a b : List ℕ) (at next : ℕ) (old mid new : List ℕ) (r : Option ℕ) → at ≤ length old → length mid ≡ length old → Writes a at old mid (Some next) → Writes b next mid new r → Writes (a ++ b) at old new r
writes-both a b at next old mid new None fits same first rest = record {
  room = both-room a b at next old mid None first.end same rest.room;
  text = tt;
  end = tt;
  after = tt;
  before = take-front at next old mid new a (omega (arith, first.end)) fits rest.before first.text;
}
writes-both a b at next old mid new (Some end) fits same first rest = record {
  room = both-room a b at next old mid (Some end) first.end same rest.room;
  text = rest.text ∙ ap (λ l. l ++ b) first.text ∙ append_assoc (take at old) a b;
  end = omega (arith, rest.end, first.end, length-append a b);
  after = rest.after ∙ drop-later next end mid old (omega (arith, rest.end)) first.after;
  before = tt;
}

pub writes-all : (all a b : List ℕ) (at next : ℕ) (old mid new : List ℕ) (r : Option ℕ) → all ≡ a ++ b → at ≤ length old → length mid ≡ length old → Writes a at old mid (Some next) → Writes b next mid new r → Writes all at old new r
writes-all all a b at next old mid new r e fits same first rest = subst (λ l. Writes l at old new r) (sym e) (writes-both a b at next old mid new r fits same first rest)

pub first-text : (f : Item → List ℕ) (items : List Item) → 1 ≤ length items → flat_map f items ≡ f (first_of items) ++ flat_map f (others_of items)
first-text f [] some = absurd (omega (arith, some))
first-text f (i ∷ items) some = ap (λ l. f i ++ flat_map f l) (sym (take_all (length (i ∷ items) - 1) items (omega arith)))
