-- The numbers that one pass over the items leaves in the fields.
use Rattle.std.proofs.Common.{◌≡◌, ◌≢◌, ℕ, ◌-◌, ◌<◌, ◌≤◌, List, [], ◌∷◌, ◌++◌, length, refl, sym, ap, subst, ◌∙◌, arith, append_assoc, append-nil}
use Rattle.std.proofs.lemmas.List.{take_all}
use Rattle.std.specs.Prelude.{Bool, true, false, ◌==◌, ◌||◌, IsTrue, if◌then◌else◌, Option, Some, None, is_some, IfSome}
use Rattle.std.proofs.Math.Bool.{or-false}
use borrow.Author.Tests.{eq-eqb}
use Rattle.cal_text.specs.Shape.{Shape, Byte, unmatched_bytes, Scans}
use Rattle.cal_format.specs.declared.fields.Fields.{Fields}
use Rattle.cal_format.specs.declared.item.Component.{Component}
use Rattle.cal_format.specs.declared.item.Component.TheVariants.{Nanosecond, OffsetSign, TimestampSign}
use Rattle.cal_format.specs.declared.item.Item.{Item}
use Rattle.cal_format.specs.declared.item.Item.TheVariants as item
use Rattle.cal_format.specs.declared.moment.Moment.{Moment}
use Rattle.cal_format.specs.Form.{numbered_item, numbered_text, numbers_of, IsNumber, HasNumbers}
use Rattle.cal_format.specs.Ranges.{maximum, either, item_error, first_range_error}
use Rattle.cal_format.specs.Reading.{index, mark_of, name_component, is_component, item_component, shows, any_shows, are_apart}
use Rattle.cal_format.specs.Scanning.{number_at, field_of, fields_of, HasField, HasFields, IsNoField}
use Rattle.cal_format.specs.Scanning.IsNoField.{mismatch}
use Rattle.cal_format.specs.Shown.{AreShown}
use Rattle.cal_format.specs.Text.{text_of}
use Rattle.cal_format.specs.Values.{Holds, IsPrinted, IsMomentOf, number_in, first_contradiction}
use Rattle.cal_format.proofs.Apart.{first_of, others_of, same_test, index-one}
use Rattle.cal_format.proofs.Contradictions.{same-text, time-holds, offset-holds}
use Rattle.cal_format.proofs.Marks.{neither-shown, byte-added}
use Rattle.cal_format.proofs.Own.{first-shown, has-own, held-moment}
use Rattle.cal_format.proofs.Rejections.{all-most}
use Rattle.cal_format.proofs.Uniques.{one-numbers}

-- ---- one item
pub own-index : (c : Component) → IsTrue (index c == index c)
own-index c = eq-eqb (index c) (index c) refl

item-field : (i : Item) (n : ℕ) (f : Fields) → IsNumber i n → ((c : Component) → IsTrue (shows c i) → number_at c f ≡ n) → field_of f (item_component i) ≡ n
item-field (item.Literal b) n f fit set = sym fit
item-field item.Abbreviation n f fit set = sym fit
item-field (item.Number c p) n f fit set = set c (own-index c)
item-field (item.Signed c p) n f fit set = set c (own-index c)
item-field (item.Name k) n f fit set = set (name_component k) (own-index (name_component k))
item-field item.Fraction n f fit set = set Nanosecond (own-index Nanosecond)
item-field item.Decimals n f fit set = set Nanosecond (own-index Nanosecond)
item-field item.OffsetSign n f fit set = set OffsetSign (own-index OffsetSign)
item-field item.OffsetMinus n f fit set = set OffsetSign (own-index OffsetSign)
item-field item.TimestampSign n f fit set = set TimestampSign (own-index TimestampSign)
item-field item.TimestampMinus n f fit set = set TimestampSign (own-index TimestampSign)

chosen : (b : Bool) (x y : ℕ) → IsTrue b → (if b then x else y) ≡ x
chosen true x y h = refl
chosen false x y h = cc

kept : (b : Bool) (x y : ℕ) → b ≡ false → (if b then x else y) ≡ y
kept true x y e = cc
kept false x y e = refl

-- A byte has no number.
pub byte-field : (i : Item) (b : ℕ) (f : Fields) (text rest : List ℕ) → i ≡ item.Literal b → text ≡ b ∷ rest → ((s : Shape) → unmatched_bytes (Byte b s) text ≡ unmatched_bytes s rest)
    → HasField i f f text rest
byte-field i b f text rest is begins form = subst (λ x. HasField x f f text rest) (sym is) (record {
  number = 0;
  fit = refl;
  in_range = refl;
  text_is = begins;
  form = form;
  set = λ c. refl;
  fresh = λ c h. cc;
  marks = λ c. sym (or-false (mark_of c f.shown.marks));
  shown = λ before are. byte-added before b f.shown are;
})

pub some-holds : {A : Type 0} (o : Option A) (P : Type 0) → IsTrue (is_some o) → IfSome o (λ _. P) → P
some-holds None P h p = cc
some-holds (Some x) P h p = p

pub byte-form : (b : ℕ) (text rest : List ℕ) (o : Option (Unit {0})) → IsTrue (is_some o) → Scans (Byte b) text rest o → (s : Shape) → unmatched_bytes (Byte b s) text ≡ unmatched_bytes s rest
byte-form b text rest None h scans = cc
byte-form b text rest (Some x) h scans = scans

no-byte : (b : ℕ) (text rest : List ℕ) (o : Option (Unit {0})) → is_some o ≡ false → Scans (Byte b) text rest o → (s : Shape) → unmatched_bytes (Byte b s) text ≢ 0
no-byte b text rest None h scans s e = absurd (omega (arith, scans s, e))
no-byte b text rest (Some x) h scans s e = cc

pub byte-mismatch : (i : Item) (b : ℕ) (f : Fields) (text rest : List ℕ) (o : Option (Unit {0})) → i ≡ item.Literal b → is_some o ≡ false → Scans (Byte b) text rest o → IsNoField i f text
byte-mismatch i b f text rest o is none scans = subst (λ x. IsNoField x f text) (sym is) (mismatch (no-byte b text rest o none scans))

pub some-error : {A : Type 0} (o : Option A) (x : A) → o ≡ Some x → o ≢ None
some-error o x e none = cc

-- ---- all items
is-false : (a : Bool) → (IsTrue a → ⊥) → a ≡ false
is-false true h = absurd (h refl)
is-false false h = refl

not-both : (a : Bool) → IsTrue a → a ≡ false → ⊥
not-both true h e = cc
not-both false h e = cc

pub first-or : (a b : Bool) → IsTrue a → IsTrue (a || b)
first-or true b h = refl
first-or false b h = cc

pub second-or : (a b : Bool) → IsTrue b → IsTrue (a || b)
second-or true b h = refl
second-or false b h = h

pub scanned-more : (i : Item) (items : List Item) (old mid new : Fields) (text rest end : List ℕ) → HasField i old mid text rest → HasFields items mid new rest end → HasFields (i ∷ items) old new text end
scanned-more i items old mid new text rest end first next =
    let marked : (c : Component) → IsTrue (shows c i) → IsTrue (mark_of c mid.shown.marks) = λ c h. subst IsTrue (sym (first.marks c)) (second-or (mark_of c old.shown.marks) (shows c i) h) in
    let own : field_of new (item_component i) ≡ first.number =
    item-field i first.number new first.fit (λ c h. next.marked c (marked c h) ∙ first.set c ∙ chosen (shows c i) first.number (number_at c old) h) in
    let numbers = fields_of items new in
    record {
      fit = (subst (λ n. IsNumber i n) (sym own) first.fit, next.fit);
      in_range = ap (λ n. either (item_error i n) (first_range_error items numbers)) own ∙ ap (λ e. either e (first_range_error items numbers)) first.in_range ∙ next.in_range;
      text_is = first.text_is ∙ ap (λ l. numbered_item i first.number ++ l) next.text_is ∙ ap (λ n. numbered_item i n ++ (numbered_text items numbers ++ end)) (sym own)
          ∙ sym (append_assoc (numbered_item i (field_of new (item_component i))) (numbered_text items numbers) end);
      kept = λ c e. let none = neither-shown (shows c i) (any_shows c items) e in next.kept c none.1 ∙ first.set c ∙ kept (shows c i) first.number (number_at c old) none.0;
      marked = λ c h.
          let other : shows c i ≡ false = is-false (shows c i) (λ k. not-both (mark_of c old.shown.marks) h (first.fresh c k)) in
          next.marked c (subst IsTrue (sym (first.marks c)) (first-or (mark_of c old.shown.marks) (shows c i) h)) ∙ first.set c ∙ kept (shows c i) first.number (number_at c old) other;
      shown = λ before are. subst (λ l. AreShown l new.shown) (append_assoc before (i ∷ []) items) (next.shown (before ++ i ∷ []) (first.shown before are));
    }

pub scanned : (items : List Item) (old mid new : Fields) (text rest end : List ℕ) → 1 ≤ length items → HasField (first_of items) old mid text rest
    → HasFields (others_of items) mid new rest end → HasFields items old new text end
scanned [] old mid new text rest end some first others = absurd (omega arith)
scanned (i ∷ items) old mid new text rest end some first others =
    scanned-more i items old mid new text rest end first (subst (λ l. HasFields l mid new rest end) (take_all (length (i ∷ items) - 1) items (omega arith)) others)

-- No items.
pub none-has : (f : Fields) (text : List ℕ) → HasFields [] f f text text
none-has f text = record {
  fit = tt;
  in_range = refl;
  text_is = refl;
  kept = λ c e. refl;
  marked = λ c h. refl;
  shown = λ before are. subst (λ l. AreShown l f.shown) (sym (append-nil before)) are;
}

pub none-scanned : (f : Fields) (text : List ℕ) (items : List Item) → length items < 1 → HasFields items f f text text
none-scanned f text [] few = none-has f text
none-scanned f text (i ∷ items) few = absurd (omega (arith, few))

-- ---- the fields
own-field : (o : Option Component) (c : Component) (f : Fields) → IsTrue (is_component c o) → field_of f o ≡ number_at c f
own-field None c f h = cc
own-field (Some d) c f h = ap (λ k. number_at k f) (index-one d c (same_test (index d) (index c) h))

field-in : (items : List Item) (c : Component) (f : Fields) → number_in items (fields_of items f) c ≡ (if any_shows c items then number_at c f else 0)
field-in [] c f = refl
field-in (i ∷ items) c f =
    first-shown (shows c i) (any_shows c items) (field_of f (item_component i)) (number_in items (fields_of items f) c) (number_at c f) (own-field (item_component i) c f) (field-in items c f)

own-or-none : (b : Bool) (n : ℕ) → (b ≡ false → n ≡ 0) → n ≡ (if b then n else 0)
own-or-none true n e = refl
own-or-none false n e = e refl

-- The text has these numbers, which are the numbers of the fields.
pub record IsScanned (items : List Item) (f : Fields) (text : List ℕ) : Type 0 where
  pub has : HasNumbers items (fields_of items f) text
  pub in_range : first_range_error items (fields_of items f) ≡ None
  pub filled : (c : Component) → number_at c f ≡ number_in items (fields_of items f) c

pub whole : (items : List Item) (old new : Fields) (text rest : List ℕ) → HasFields items old new text rest → rest ≡ [] → ((c : Component) → number_at c old ≡ 0) → IsScanned items new text
whole items old new text rest h e empty = record {
  has = record { fit = h.fit; text_is = h.text_is ∙ ap (λ l. numbered_text items (fields_of items new) ++ l) e ∙ append-nil (numbered_text items (fields_of items new)) };
  in_range = h.in_range;
  filled = λ c. own-or-none (any_shows c items) (number_at c new) (λ none. h.kept c none ∙ empty c) ∙ sym (field-in items c new);
}

pub most : (items : List Item) (f : Fields) (text : List ℕ) (c : Component) → IsScanned items f text → number_at c f ≤ maximum c
most items f text c h = omega (arith, h.filled c, all-most items (fields_of items f) c h.has.fit h.in_range)

-- ---- the moment
pub read-printed : (items : List Item) (f : Fields) (text : List ℕ) (v : Moment) → IsScanned items f text → IsMomentOf items (λ c. number_at c f) v → first_contradiction items (fields_of items f) v ≡ None
    → IsPrinted items v text
read-printed items f text v h is agrees =
    let numbers = fields_of items f in
    let at : (λ (c : Component). number_at c f) ≡ number_in items numbers = λ j c. h.filled c j in
    let value = subst (λ g. IsMomentOf items g v) at is in
    let few = λ (c : Component). all-most items numbers c h.has.fit h.in_range in
    let same = same-text items numbers v h.has.fit agrees in
    record {
      in_range = value.in_range;
      numbers = same.1;
      parts = time-holds items numbers v few value;
      offset_parts = offset-holds items numbers v few value;
      text_is = h.has.text_is ∙ same.0;
    }

pub held-read : (items : List Item) (f : Fields) (text : List ℕ) (v : Moment) → IsScanned items f text → IsTrue (are_apart items) → Holds items v → text ≡ text_of items v → IsMomentOf items (λ c. number_at c f) v
held-read items f text v h apart holds e =
    let own = has-own items v text holds.in_range holds.numbers e in
    held-moment items (fields_of items f) f v holds (one-numbers items (fields_of items f) (numbers_of items v) text apart h.has own) h.filled
