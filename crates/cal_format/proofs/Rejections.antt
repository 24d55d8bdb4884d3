-- Why a text is rejected.
use Rattle.std.proofs.Common.{◌≡◌, ℕ, suc, ◌-◌, ◌<◌, ◌≤◌, List, [], ◌∷◌, length, refl, subst, arith, inl, inr}
use Rattle.std.specs.Prelude.{Bool, true, false, IsTrue, Option, Some, None, ◌==◌, ◌||◌, nat_le, if◌then◌else◌}
use Rattle.std.proofs.lemmas.Bool.{cases_lt}
use borrow.Author.Tests.{leb-true}
use Rattle.cal_text.specs.Position.{IsPosition}
use Rattle.cal_text.specs.Shape.{Shape, unmatched_bytes}
use Rattle.cal_text.proofs.Positions.{IsShapeOf, stopped}
use Rattle.cal_units.specs.declared.error.ComponentRange.{ComponentRange}
use Rattle.cal_format.specs.declared.error.ParseError.{ParseError}
use Rattle.cal_format.specs.declared.error.ParseError.TheVariants.{UnexpectedByte, UnexpectedEnd}
use Rattle.cal_format.specs.declared.item.Item.{Item}
use Rattle.cal_format.specs.declared.item.Item.TheVariants as item
use Rattle.cal_format.specs.declared.item.Name.{Name}
use Rattle.cal_format.specs.declared.item.Name.TheVariants as name
use Rattle.cal_format.specs.declared.item.Component.{Component}
use Rattle.cal_format.specs.declared.item.Component.TheVariants.{Nanosecond, OffsetSign, TimestampSign}
use Rattle.cal_format.specs.Form.{HasForm, shape_of, IsNameNumber, IsNumber, AreNumbers}
use Rattle.cal_format.specs.Ranges.{minimum, maximum, either, item_error, first_range_error}
use Rattle.cal_format.specs.Reading.{index, name_component, shows, shows_calendar_date, shows_ordinal_date, shows_iso_week_date, shows_date}
use Rattle.cal_format.specs.Rejection.{IsRejection}
use Rattle.cal_format.specs.Values.{number_in, IsDateOf}
use Rattle.cal_format.proofs.Apart.{both_tests, same_test, index-one}

-- ---- the position
abbrev HasShape : Shape → List ℕ → Unit {0} → Type 0
HasShape f bytes u = unmatched_bytes f bytes ≡ 0

own-shape : (f : Shape) → IsShapeOf (HasShape f) f
own-shape f = record { each = λ bytes (u, h). h; only = λ bytes e. (tt, e); one = λ bytes v w a b. refl }

pub record IsStop (items : List Item) (text rest : List ℕ) : Type 0 where
  pub within : length rest ≤ length text
  pub position : IsPosition (HasForm items) text (length text - length rest)

pub is-stop : (items : List Item) (text rest : List ℕ) → unmatched_bytes (shape_of items) text ≡ suc (length rest) → IsStop items text rest
is-stop items text rest scans =
    let s = stopped (HasShape (shape_of items)) (shape_of items) (own-shape (shape_of items)) text rest scans in
    let p = s.position in
    record {
      within = s.within;
      position = record {
        within = p.within;
        begins = record { more = p.begins.more; text = p.begins.text.1 };
        no_further = λ more b. p.no_further more (record { more = b.more; text = (tt, b.text) });
      };
    }

pub rejected-at : (items : List Item) (text rest : List ℕ) (p : ℕ) (e : ParseError) → unmatched_bytes (shape_of items) text ≡ suc (length rest) → IsPosition (HasForm items) text p
    → (p < length text → e ≡ UnexpectedByte p) → (p ≡ length text → e ≡ UnexpectedEnd p) → IsRejection items text e
rejected-at items text rest p e scans at byte end = elim (cases_lt p (length text)) as (λ _. IsRejection items text e) [
  | inl less ↦ rw (byte less) (at, less)
  | inr most ↦ (let whole : p ≡ length text = omega (arith, most, at.within) in rw (end whole) (at, whole, λ form. absurd (omega (arith, scans, form))))
]

-- ---- numbers in range
named-most : (k : Name) (n : ℕ) → IsNameNumber k n → n ≤ maximum (name_component k)
named-most name.Month n h = h.1
named-most name.MonthAlone n h = h.1
named-most name.ShortMonth n h = h.1
named-most name.Weekday n h = h.1
named-most name.ShortWeekday n h = h.1
named-most name.Period n h = omega (arith, h)
named-most name.LowerPeriod n h = omega (arith, h)

tested : (b : Bool) (e : ComponentRange) → (if b then None else Some e) ≡ None → IsTrue b
tested true e h = refl
tested false e h = cc

pub none-first : {A : Type 0} (a b : Option A) → either a b ≡ None → (a ≡ None) × (b ≡ None)
none-first (Some x) b e = cc
none-first None b e = (refl, e)

most-of : (d c : Component) (n : ℕ) → n ≤ maximum d → IsTrue (index d == index c) → n ≤ maximum c
most-of d c n h same = subst (λ k. n ≤ maximum k) (index-one d c (same_test (index d) (index c) same)) h

item-most : (i : Item) (n : ℕ) (c : Component) → IsNumber i n → item_error i n ≡ None → IsTrue (shows c i) → n ≤ maximum c
item-most (item.Literal b) n c fit e h = cc
item-most (item.Number d p) n c fit e h =
    let both = both_tests (nat_le (minimum d) n) (nat_le n (maximum d)) (tested _ _ e) in
    most-of d c n (leb-true n (maximum d) both.1) h
item-most (item.Signed d p) n c fit e h =
    let both = both_tests (nat_le (minimum d) n) (nat_le n (maximum d)) (tested _ _ e) in
    most-of d c n (leb-true n (maximum d) both.1) h
item-most (item.Name k) n c fit e h = most-of (name_component k) c n (named-most k n fit) h
item-most item.Abbreviation n c fit e h = cc
item-most item.Fraction n c fit e h = most-of Nanosecond c n (omega (arith, fit)) h
item-most item.Decimals n c fit e h = most-of Nanosecond c n (omega (arith, fit)) h
item-most item.OffsetMinus n c fit e h = most-of OffsetSign c n (omega (arith, fit)) h
item-most item.TimestampSign n c fit e h = most-of TimestampSign c n (omega (arith, fit)) h
item-most item.TimestampMinus n c fit e h = most-of TimestampSign c n (omega (arith, fit)) h
item-most item.OffsetSign n c fit e h = most-of OffsetSign c n (omega (arith, fit)) h

either-most : (b : Bool) (x y m : ℕ) → (IsTrue b → x ≤ m) → y ≤ m → (if b then x else y) ≤ m
either-most true x y m f h = f refl
either-most false x y m f h = h

pub all-most : (items : List Item) (numbers : List ℕ) (c : Component) → AreNumbers items numbers → first_range_error items numbers ≡ None → number_in items numbers c ≤ maximum c
all-most [] numbers c fit e = omega arith
all-most (i ∷ items) [] c fit e = omega arith
all-most (i ∷ items) (n ∷ numbers) c fit e =
    let none = none-first (item_error i n) (first_range_error items numbers) e in
    either-most (shows c i) n (number_in items numbers c) (maximum c) (item-most i n c fit.0 none.0) (all-most items numbers c fit.1 none.1)

-- ---- without a date
no-either : (a b : Bool) → false ≡ (a || b) → (IsTrue a → ⊥) × (false ≡ b)
no-either true b e = cc
no-either false b e = (λ h. cc, e)

pub no-date : (items : List Item) (at : Component → ℕ) (n : ℕ) → false ≡ shows_date items → n ≡ 0 → IsDateOf items at n
no-date items at n none first =
    let calendar = no-either (shows_calendar_date items) (shows_ordinal_date items || shows_iso_week_date items) none in
    let ordinal = no-either (shows_ordinal_date items) (shows_iso_week_date items) calendar.1 in
    record {
      calendar = λ h. absurd (calendar.0 h);
      ordinal = λ _ h. absurd (ordinal.0 h);
      week = λ _ _ h. absurd (no-true (shows_iso_week_date items) ordinal.1 h);
      none = λ _. first;
    }
  where
    no-true : (b : Bool) → false ≡ b → IsTrue b → ⊥
    no-true true e h = cc
    no-true false e h = cc
