-- The items of numbers, one by one.
use Rattle.std.proofs.Common.{◌≡◌, ◌-◌, ◌≤◌, List, [], ◌∷◌, length, map, take, drop, get_or, refl, ap, ◌∙◌, subst, arith}
use Rattle.std.proofs.lemmas.List.{take_all}
use Rattle.std.specs.Prelude.{Option, Some, None, IsSome}
use Rattle.cal_format.specs.declared.item.Item.{Item}
use Rattle.cal_c.specs.Formats.{item_parts, parts}
use Rattle.cal_c.specs.declared.formats.format_parts.FormatItem.{FormatItem}

-- The first item of some, and the others.
pub record AreFirst (ps : List FormatItem) (items : List Item) : Type 0 where
  pub item : Item
  pub others : List Item
  pub items_are : items ≡ item ∷ others
  pub part_is : get_or ps 0 (parts 0 0) ≡ item_parts item
  pub parts_are : take (length ps - 1) (drop 1 ps) ≡ map item_parts others

pub first_of : (ps : List FormatItem) (items : List Item) → 1 ≤ length ps → ps ≡ map item_parts items → AreFirst ps items
first_of ps [] some e = absurd (omega (arith, some, ap length e))
first_of [] (i ∷ items) some e = absurd (omega arith)
first_of (p ∷ ps) (i ∷ items) some e = record {
  item = i;
  others = items;
  items_are = refl;
  part_is = ap (λ x. get_or x 0 (parts 0 0)) e;
  parts_are = take_all (length (p ∷ ps) - 1) ps (omega arith) ∙ ap (drop 1) e;
}

-- An option has at most one value.
pub some_one : {A : Type 0} (o : Option A) (a b : A) → o ≡ Some a → o ≡ Some b → a ≡ b
some_one None a b e f = cc
some_one (Some x) a b e f = cc

pub none_some : {A : Type 0} (o : Option A) (a : A) → o ≡ None → o ≡ Some a → ⊥
none_some None a e f = cc
none_some (Some x) a e f = cc

-- What holds of the items that were read holds of the items that the numbers are.
pub at_items : (P : List Item → Type 0) (o : Option (List Item)) (found items : List Item) → o ≡ Some found → o ≡ Some items → P found → P items
at_items P o found items e f p = subst P (some_one o found items e f) p

pub no_some : {A : Type 0} (o : Option A) → o ≡ None → IsSome o → ⊥
no_some None e some = cc
no_some (Some x) e some = cc
