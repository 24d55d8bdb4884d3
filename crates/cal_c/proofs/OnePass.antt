-- The items of numbers, one after the other.
use Rattle.std.proofs.Common.{◌≡◌, ℕ, ◌-◌, ◌<◌, ◌≤◌, List, [], ◌∷◌, ◌++◌, length, map, take, drop, get_or, refl, sym, ap, ◌∙◌, subst, arith, append_assoc, length-append}
use Rattle.std.proofs.lemmas.List.{take_all, length-map}
use Rattle.std.specs.Prelude.{Bool, true, false, ◌&&◌, ◌||◌, nat_lt, IsTrue, Option, IfSome}
use Rattle.cal_format.specs.declared.fields.Fields.{Fields}
use Rattle.cal_format.specs.declared.item.Item.{Item}
use Rattle.cal_format.specs.declared.item.Item.TheVariants as item
use Rattle.cal_format.specs.declared.moment.Moment.{Moment}
use Rattle.cal_format.specs.Reading.{is_apart, begins_apart, shows_within, show_within}
use Rattle.cal_format.specs.Text.{item_text, text_of}
use Rattle.cal_format.proofs.Forms.{mapped}
use Rattle.cal_format.proofs.OnePass.{first-or, none-has}
use Rattle.cal_c.specs.Formats.{item_parts, parts}
use Rattle.cal_c.specs.OnePass.{IsItemOf, AreItemsOf, IsFormatOf, ScansItems, PrintsItem, PrintsItems}
use Rattle.cal_c.proofs.IsoDates.{byte-one, padding-kinds}
use Rattle.cal_c.specs.declared.formats.format_parts.FormatItem.{FormatItem}
use Rattle.cal_c.specs.declared.formats.format_parts.FormatParts.{FormatParts}

pub both-true : (a b : Bool) → IsTrue a → IsTrue b → IsTrue (a && b)
both-true true b h k = k
both-true false b h k = cc

-- What holds of an item and of the others holds of them all.
pub all-of : (P : Item → Type 0) (Q R : List Item → Type 0) (ps : List FormatItem) → ((i : Item) (items : List Item) → P i → Q items → R (i ∷ items)) → 1 ≤ length ps → IsItemOf (get_or ps 0 (parts 0 0)) P
    → AreItemsOf (take (length ps - 1) (drop 1 ps)) Q → AreItemsOf ps R
all-of P Q R [] both some first others = absurd (omega arith)
all-of P Q R (p ∷ ps) both some first others =
    let rest : AreItemsOf ps Q = subst (λ l. AreItemsOf l Q) (take_all (length (p ∷ ps) - 1) ps (omega arith)) others in
    record { items = first.item ∷ rest.items; parts_are = λ j. first.part_is j ∷ rest.parts_are j; every = every first rest }
  where
    every : IsItemOf p P → AreItemsOf ps Q → (items : List Item) → p ∷ ps ≡ map item_parts items → R items
    every f rest [] e = absurd (omega (arith, ap length e))
    every f rest (i ∷ items) e = both i items (f.every i (ap (λ l. get_or l 0 (parts 0 0)) e)) (rest.every items (ap (λ l. drop 1 l) e))

-- The same, with the numbers that the items have.
pub with-parts : (Q : List Item → Type 0) (ps : List FormatItem) → AreItemsOf ps Q → AreItemsOf ps (λ l. Q l × (ps ≡ map item_parts l))
with-parts Q ps found = record { items = found.items; parts_are = found.parts_are; every = λ l e. (found.every l e, e) }

-- These numbers are only this item.
pub only-item : (P : Item → Type 0) (p : FormatItem) (i : Item) → p ≡ item_parts i → ((j : Item) → item_parts i ≡ item_parts j → j ≡ i) → P i → IsItemOf p P
only-item P p i is one has = record { item = i; part_is = is; every = λ j e. subst P (sym (one j (sym is ∙ e))) has }

-- No numbers are no items.
pub none-scanned : (f : Fields) (text : List ℕ) (ps : List FormatItem) → length ps < 1 → AreItemsOf ps (ScansItems f f text text)
none-scanned f text (p ∷ ps) low = absurd (omega (arith, low))
none-scanned f text [] low = record { items = []; parts_are = refl; every = every }
  where
    every : (others : List Item) → [] ≡ map item_parts others → ScansItems f f text text others
    every [] e = record { has = none-has f text; apart = refl }
    every (i ∷ others) e = absurd (omega (arith, ap length e))

-- The items begin with one that no digit begins.
pub begins-first : (ps : List FormatItem) → 1 ≤ length ps → ((j : Item) → get_or ps 0 (parts 0 0) ≡ item_parts j → IsTrue (is_apart j)) → (items : List Item) → ps ≡ map item_parts items → IsTrue (begins_apart items)
begins-first [] some apart items f = absurd (omega (arith, some))
begins-first (p ∷ ps) some apart [] f = refl
begins-first (p ∷ ps) some apart (j ∷ items) f = first-or (is_apart j) _ (apart j (ap (λ l. get_or l 0 (parts 0 0)) f))

pub byte-apart : (p : FormatItem) → p.kind ≡ 0 → IsTrue (nat_lt p.value 48 || nat_lt 57 p.value) → (j : Item) → p ≡ item_parts j → IsTrue (is_apart j)
byte-apart p kind h j e = subst (λ i. IsTrue (is_apart i)) (sym (byte-one p.value j (ap (λ k. parts k p.value) (sym kind) ∙ e))) h

pub name-apart : (p : FormatItem) → p.kind ≡ 4 → (j : Item) → p ≡ item_parts j → IsTrue (is_apart j)
name-apart p kind (item.Name k) e = refl
name-apart p kind (item.Number d q) e = absurd (omega (arith, kind, ap (λ x. x.kind) e, padding-kinds q))
name-apart p kind (item.Signed d q) e = refl
name-apart p kind item.OffsetSign e = refl
name-apart p kind item.TimestampSign e = refl
name-apart p kind _ e = absurd (omega (arith, kind, ap (λ x. x.kind) e))

-- What was printed of an item is of these numbers.
pub prints-only : (low high : ℕ) (v : Moment) (old new : List ℕ) (at : ℕ) (p : FormatItem) (i : Item) (r : Option ℕ) → p ≡ item_parts i → ((j : Item) → item_parts i ≡ item_parts j → j ≡ i)
    → IfSome r (λ end. PrintsItem low high v old new at end i) → IfSome r (λ end. IsItemOf p (PrintsItem low high v old new at end))
prints-only low high v old new at p i r is one = mapped (λ end. PrintsItem low high v old new at end i) _ r (λ end prints. only-item (PrintsItem low high v old new at end) p i is one prints)

pub format-of : (f : FormatParts) (ps : List FormatItem) (P Q : List Item → Type 0) → f.length ≤ 64 → ps ≡ take f.length f.items → length ps ≡ f.length → AreItemsOf ps P → ((items : List Item) → P items → Q items)
    → IsFormatOf f Q
format-of f ps P Q few are long found then =
    let same : length found.items ≡ f.length = omega (arith, long, simp length-map at (ap length found.parts_are)) in
    record {
      format = (found.items, record { few = omega (arith, few, same); length_is = sym same; items_are = sym are ∙ found.parts_are });
      every = λ items has. then items (found.every items (are ∙ has.items_are));
    }

pub prints-both : (low high : ℕ) (v : Moment) (old mid new : List ℕ) (at next end : ℕ) (i : Item) (items : List Item) → PrintsItem low high v old mid at next i → PrintsItems low high v mid new next end items
    → PrintsItems low high v old new at end (i ∷ items)
prints-both low high v old mid new at next end i items first others = record {
  within = both-true (shows_within low high i) (show_within low high items) first.within others.within;
  text = others.text ∙ ap (λ l. l ++ text_of items v) first.text ∙ append_assoc (take at old) (item_text [] v i) (text_of items v);
  end_is = omega (arith, first.end_is, others.end_is, length-append (item_text [] v i) (text_of items v));
}
