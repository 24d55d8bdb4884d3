-- The components that items show, with one item more.
use Rattle.std.proofs.Common.{◌≡◌, ℕ, ◌≤◌, List, [], ◌∷◌, ◌++◌, refl, sym, ap, ◌∙◌, arith}
use Rattle.std.specs.Prelude.{Bool, true, false, ◌||◌, ◌&&◌, ◌==◌, if◌then◌else◌, IsTrue, Option, Some, None, min, max, nat_le}
use Rattle.std.proofs.Math.Bool.{or-false}
use Rattle.std.proofs.lemmas.Bool.{and_from, and_parts}
use Rattle.std.proofs.lemmas.Bool.Decides.{nat_tests}
use Rattle.std.proofs.lemmas.List.Recursion.{or_push}
use Rattle.cal_format.specs.declared.item.Component.{Component}
use Rattle.cal_format.specs.declared.item.Item.{Item}
use Rattle.cal_format.specs.declared.item.Item.TheVariants as item
use Rattle.cal_format.specs.declared.item.Padding.TheVariants as padding
use Rattle.cal_format.specs.declared.shown.Shown.{Shown}
use Rattle.cal_format.specs.Reading.{index, is_component, item_component, shows, any_shows, mark_of, ends_before, are_apart, lies_within, shows_within, show_within}
use Rattle.cal_format.specs.Shown.{AreShown, is_fixed, are_fixed, low_of, component_end, end_of, lowest, highest}

-- ---- one item more
any-more : (c : Component) (items : List Item) (i : Item) → any_shows c (items ++ i ∷ []) ≡ (any_shows c items || shows c i)
any-more c items i = or_push (any_shows c) (shows c) refl (λ x xs. refl) items i

lowest-more : (items : List Item) (i : Item) → lowest (items ++ i ∷ []) ≡ min (lowest items) (low_of (item_component i))
lowest-more [] i = omega arith
lowest-more (x ∷ items) i = omega (arith, lowest-more items i)

highest-more : (items : List Item) (i : Item) → highest (items ++ i ∷ []) ≡ max (highest items) (end_of i)
highest-more [] i = omega arith
highest-more (x ∷ items) i = omega (arith, highest-more items i)

and-true : (a : Bool) → (a && true) ≡ a
and-true true = refl
and-true false = refl

and-all : (a b c : Bool) → ((a && b) && c) ≡ (a && (b && c))
and-all true b c = refl
and-all false b c = refl

pub neither-shown : (a b : Bool) → (a || b) ≡ false → (a ≡ false) × (b ≡ false)
neither-shown true b e = cc
neither-shown false b e = (refl, e)

fixed-more : (items : List Item) (i : Item) → are_fixed (items ++ i ∷ []) ≡ (are_fixed items && is_fixed i)
fixed-more [] i = and-true (is_fixed i)
fixed-more (x ∷ items) i = ap (λ b. is_fixed x && b) (fixed-more items i) ∙ sym (and-all (is_fixed x) (are_fixed items) (is_fixed i))

fixed-end : (i : Item) (others : List Item) → IsTrue (is_fixed i) → IsTrue (ends_before i others)
fixed-end (item.Number c padding.None) others h = cc
fixed-end (item.Number c padding.Zero) others h = refl
fixed-end (item.Number c padding.Space) others h = refl
fixed-end (item.Signed c padding.None) others h = cc
fixed-end (item.Signed c padding.Zero) others h = refl
fixed-end (item.Signed c padding.Space) others h = refl
fixed-end (item.Literal b) others h = refl
fixed-end (item.Name k) others h = refl
fixed-end item.OffsetSign others h = refl
fixed-end item.TimestampSign others h = refl
fixed-end item.Abbreviation others h = refl
fixed-end _ others h = cc

pub fixed-apart : (items : List Item) → IsTrue (are_fixed items) → IsTrue (are_apart items)
fixed-apart [] fixed = refl
fixed-apart (i ∷ items) fixed =
    let both = and_parts (is_fixed i) (are_fixed items) fixed in
    and_from (ends_before i items) (are_apart items) (fixed-end i items both.0) (fixed-apart items both.1)

-- The marks of items with one item more, without a component or with this one.
or-mark : (a m : Bool) → (if a then true else m) ≡ (m || a)
or-mark true true = refl
or-mark true false = refl
or-mark false true = refl
or-mark false false = refl

pub added : (items : List Item) (i : Item) (old new : Shown) → AreShown items old → ((c : Component) → mark_of c new.marks ≡ (mark_of c old.marks || shows c i))
    → new.is_fixed ≡ (old.is_fixed && is_fixed i)
    → new.low ≡ min old.low (low_of (item_component i)) → new.end ≡ max old.end (end_of i) → AreShown (items ++ i ∷ []) new
added items i old new are marks fixed low end = record {
  marks = λ c. marks c ∙ ap (λ b. b || shows c i) (are.marks c) ∙ sym (any-more c items i);
  low = omega (arith, low, are.low, lowest-more items i);
  end = omega (arith, end, are.end, highest-more items i);
  fixed = fixed ∙ ap (λ b. b && is_fixed i) are.fixed ∙ sym (fixed-more items i);
}

pub marked-none : (c : Component) (i : Item) (m : Bool) → item_component i ≡ None → m ≡ (m || shows c i)
marked-none c i m none = sym (ap (λ o. m || is_component c o) none ∙ or-false m)

pub marked-some : (c d : Component) (i : Item) (m : Bool) → item_component i ≡ Some d → (if index d == index c then true else m) ≡ (m || shows c i)
marked-some c d i m some = or-mark (index d == index c) m ∙ ap (λ o. m || is_component c o) (sym some)

-- ---- a range
between : (low high a b c d : ℕ) → ((nat_le low a && nat_le b high) && (nat_le low c && nat_le d high)) ≡ (nat_le low (min a c) && nat_le (max b d) high)
between low high a b c d = grind (arith, nat_tests)

component-within : (low high : ℕ) (o : Option Component) → low ≤ 34 → lies_within low high o ≡ (nat_le low (low_of o) && nat_le (component_end o) high)
component-within low high None l = grind (arith, nat_tests)
component-within low high (Some c) l = grind (arith, nat_tests)

item-within : (low high : ℕ) (i : Item) → low ≤ 34 → high ≤ 34 → shows_within low high i ≡ (nat_le low (low_of (item_component i)) && nat_le (end_of i) high)
item-within low high item.Abbreviation l h = grind (arith, nat_tests)
item-within low high (item.Literal b) l h = component-within low high None l
item-within low high (item.Number c p) l h = component-within low high (Some c) l
item-within low high (item.Signed c p) l h = component-within low high (Some c) l
item-within low high (item.Name k) l h = component-within low high (item_component (item.Name k)) l
item-within low high item.Fraction l h = component-within low high (item_component item.Fraction) l
item-within low high item.Decimals l h = component-within low high (item_component item.Decimals) l
item-within low high item.OffsetSign l h = component-within low high (item_component item.OffsetSign) l
item-within low high item.OffsetMinus l h = component-within low high (item_component item.OffsetMinus) l
item-within low high item.TimestampSign l h = component-within low high (item_component item.TimestampSign) l
item-within low high item.TimestampMinus l h = component-within low high (item_component item.TimestampMinus) l

pub all-within : (low high : ℕ) (items : List Item) → low ≤ 34 → high ≤ 34 → show_within low high items ≡ (nat_le low (lowest items) && nat_le (highest items) high)
all-within low high [] l h = grind (arith, nat_tests)
all-within low high (i ∷ items) l h =
    (λ j. item-within low high i l h j && all-within low high items l h j) ∙ between low high (low_of (item_component i)) (end_of i) (lowest items) (highest items)

-- A byte shows no component.
lowest-most : (items : List Item) → lowest items ≤ 34
lowest-most [] = omega arith
lowest-most (i ∷ items) = omega (arith, lowest-most items)

pub byte-added : (items : List Item) (b : ℕ) (s : Shown) → AreShown items s → AreShown (items ++ item.Literal b ∷ []) s
byte-added items b s are =
    added items (item.Literal b) s s are (λ c. sym (or-false (mark_of c s.marks))) (sym (and-true s.is_fixed)) (omega (arith, are.low, lowest-most items)) (omega arith)
