-- The format `%Y-%m-%d` as numbers, and the text of a date by it.
use Rattle.std.proofs.Common.{◌≡◌, ℕ, ◌<◌, ◌≤◌, ◌/◌, ◌%◌, List, [], ◌∷◌, ◌++◌, length, take, drop, map, get_or, refl, sym, ap, subst, ◌∙◌, arith, lit≤}
use Rattle.std.proofs.lemmas.Bool.Decides.{nat_tests}
use Rattle.std.proofs.Math.Seq.{take-append_seam}
use Rattle.std.specs.Prelude.{pos, unsigned_abs, codes, Bool, true, false, not, ◌&&◌, ◌==◌, IsTrue, IfSome, Option, Some, None, Result, Ok, Err}
use Rattle.std.proofs.lemmas.Bool.{and_parts}
use borrow.Author.Tests.{eqb-true}
use Rattle.cal_time.specs.Date.{year_at, month_at, day_of_month_at}
use Rattle.cal_time.specs.DateText.{digits_at_least, sign_text, text}
use Rattle.cal_time.specs.Digits.{two_digits}
use Rattle.cal_time.specs.Laws.{digits_at_least-two, digits_at_least-four}
use Rattle.cal_format.specs.declared.item.Component.{Component}
use Rattle.cal_format.specs.declared.item.Item.{Item}
use Rattle.cal_format.specs.declared.item.Item.TheVariants as item
use Rattle.cal_format.specs.declared.item.Name.{Name}
use Rattle.cal_format.specs.declared.item.Name.TheVariants as name
use Rattle.cal_format.specs.declared.item.Padding.{Padding}
use Rattle.cal_format.specs.declared.item.Padding.TheVariants as padding
use Rattle.cal_format.specs.Laws.{iso_items, iso_items-text}
use Rattle.cal_format.specs.Moment.{moment_of_date}
use Rattle.cal_format.specs.Reading.{index}
use Rattle.cal_format.proofs.Apart.{index-one}
use Rattle.cal_c.specs.Formats.{item_parts, name_number, padding_kind, parts}
use Rattle.cal_c.specs.OnePass.{IsItemOf, AreItemsOf, IsFormatOf, PrintsItems}
use Rattle.cal_c.specs.declared.formats.format_parts.FormatItem.{FormatItem}
use Rattle.cal_c.specs.declared.formats.format_parts.FormatParts.{FormatParts}

-- The kinds of numbers with a padding.
pub padding-kinds : (p : Padding) → (1 ≤ padding_kind p) × (padding_kind p ≤ 3)
padding-kinds padding.Zero = (lit≤ tt, lit≤ tt)
padding-kinds _ = (lit≤ tt, lit≤ tt)

padding-one : (p q : Padding) → padding_kind p ≡ padding_kind q → q ≡ p
padding-one padding.Zero padding.Zero e = refl
padding-one padding.Space padding.Space e = refl
padding-one padding.None padding.None e = refl
padding-one _ _ e = absurd (omega (arith, e))

-- Only one item has the numbers of a byte, of a component with a padding, or of a name.
pub byte-one : (b : ℕ) (i : Item) → parts 0 b ≡ item_parts i → i ≡ item.Literal b
byte-one b (item.Literal c) e = ap item.Literal (sym (ap (λ p. p.value) e))
byte-one b (item.Number c p) e = absurd (omega (arith, ap (λ p. p.kind) e, padding-kinds p))
byte-one b (item.Signed c p) e = absurd (omega (arith, ap (λ p. p.kind) e, padding-kinds p))
byte-one b _ e = absurd (omega (arith, ap (λ p. p.kind) e))

pub number-one : (c : Component) (p : Padding) (i : Item) → parts (padding_kind p) (index c) ≡ item_parts i → i ≡ item.Number c p
number-one c p (item.Number d q) e = λ j. item.Number (index-one d c (sym (ap (λ x. x.value) e)) j) (padding-one p q (ap (λ x. x.kind) e) j)
number-one c p (item.Signed d q) e = absurd (omega (arith, ap (λ x. x.kind) e, padding-kinds p, padding-kinds q))
number-one c p _ e = absurd (omega (arith, ap (λ x. x.kind) e, padding-kinds p))

name_number-one : (k l : Name) → name_number k ≡ name_number l → l ≡ k
name_number-one name.Month name.Month e = refl
name_number-one name.ShortMonth name.ShortMonth e = refl
name_number-one name.Weekday name.Weekday e = refl
name_number-one name.ShortWeekday name.ShortWeekday e = refl
name_number-one name.Period name.Period e = refl
name_number-one name.LowerPeriod name.LowerPeriod e = refl
name_number-one name.MonthAlone name.MonthAlone e = refl
name_number-one _ _ e = absurd (omega (arith, e))

pub name-one : (k : Name) (i : Item) → parts 4 (name_number k) ≡ item_parts i → i ≡ item.Name k
name-one k (item.Name l) e = ap item.Name (name_number-one k l (ap (λ p. p.value) e))
name-one k (item.Number d p) e = absurd (omega (arith, ap (λ x. x.kind) e, padding-kinds p))
name-one k (item.Signed d p) e = absurd (omega (arith, ap (λ x. x.kind) e, padding-kinds p))
name-one k _ e = absurd (omega (arith, ap (λ x. x.kind) e))

-- These numbers are only this item.
abbrev pub IsOnly : Item → FormatItem → Type 0
IsOnly i p = IsItemOf p (λ own. own ≡ i)

-- The same of several items.
pub none-only : AreItemsOf [] (λ l. l ≡ [])
none-only = record { items = []; parts_are = refl; every = none }
  where
    none : (others : List Item) → [] ≡ map item_parts others → others ≡ []
    none [] e = refl
    none (i ∷ others) e = absurd (omega (arith, ap length e))

pub more-only : (i : Item) (items : List Item) (p : FormatItem) (ps : List FormatItem) → IsOnly i p → AreItemsOf ps (λ l. l ≡ items) → AreItemsOf (p ∷ ps) (λ l. l ≡ i ∷ items)
more-only i items p ps first rest = record {
  items = first.item ∷ rest.items;
  parts_are = λ j. first.part_is j ∷ rest.parts_are j;
  every = every;
}
  where
    every : (others : List Item) → p ∷ ps ≡ map item_parts others → others ≡ i ∷ items
    every [] e = absurd (omega (arith, ap length e))
    every (o ∷ others) e =
        let own = first.every o (ap (λ l. get_or l 0 (parts 0 0)) e) in
        let last = rest.every others (ap (λ l. drop 1 l) e) in
        λ j. own j ∷ last j

abbrev at : List FormatItem → ℕ → FormatItem
at ps n = get_or ps n (parts 0 0)

pub three-only : (a b c : Item) (ps : List FormatItem) → length ps ≡ 3 → IsOnly a (at ps 0) → IsOnly b (at ps 1) → IsOnly c (at ps 2) → AreItemsOf ps (λ l. l ≡ a ∷ b ∷ c ∷ [])
three-only a b c (p ∷ q ∷ r ∷ []) n f g h = more-only a _ p _ f (more-only b _ q _ g (more-only c _ r _ h none-only))
three-only a b c (p ∷ q ∷ r ∷ s ∷ ps) n f g h = absurd (omega arith)
three-only a b c (p ∷ q ∷ []) n f g h = absurd (omega arith)
three-only a b c (p ∷ []) n f g h = absurd (omega arith)
three-only a b c [] n f g h = absurd (omega arith)

pub five-only : (a b c d e : Item) (ps : List FormatItem) → length ps ≡ 5 → IsOnly a (at ps 0) → IsOnly b (at ps 1) → IsOnly c (at ps 2) → IsOnly d (at ps 3) → IsOnly e (at ps 4)
    → AreItemsOf ps (λ l. l ≡ a ∷ b ∷ c ∷ d ∷ e ∷ [])
five-only a b c d e (p ∷ q ∷ ps) n f g h i j = more-only a _ p _ f (more-only b _ q _ g (three-only c d e ps (omega arith) h i j))
five-only a b c d e (p ∷ []) n f g h i j = absurd (omega arith)
five-only a b c d e [] n f g h i j = absurd (omega arith)

pub six-only : (a b c d e f : Item) (ps : List FormatItem) → length ps ≡ 6 → IsOnly a (at ps 0) → IsOnly b (at ps 1) → IsOnly c (at ps 2) → IsOnly d (at ps 3) → IsOnly e (at ps 4) → IsOnly f (at ps 5)
    → AreItemsOf ps (λ l. l ≡ a ∷ b ∷ c ∷ d ∷ e ∷ f ∷ [])
six-only a b c d e f [] n g h i j k l = absurd (omega arith)
six-only a b c d e f (p ∷ ps) n g h i j k l = more-only a _ p _ g (five-only b c d e f ps (omega arith) h i j k l)

-- ---- the text of a date of the years 0 to 9999
pub plain : (y : ℕ) → y ≤ 9_999 → sign_text (pos y) ≡ []
plain y few = grind (arith, nat_tests)

four : (y : ℕ) → y ≤ 9_999 → digits_at_least 4 y ≡ two_digits (y / 100) ++ two_digits (y % 100)
four y few =
    let same : y / 100 % 100 ≡ y / 100 = omega (arith, few) in
    digits_at_least-four y (omega (arith, few)) ∙ ap (λ n. two_digits n ++ two_digits (y % 100)) same

pub usual-text : (n y m d : ℕ) (a b e f : List ℕ) → year_at n ≡ pos y → y ≤ 9_999 → month_at n ≡ m → m < 100 → day_of_month_at n ≡ d → d < 100
    → a ≡ two_digits (y / 100) → b ≡ two_digits (y % 100) → e ≡ two_digits m → f ≡ two_digits d
    → get_or a 0 0 ∷ get_or a 1 0 ∷ get_or b 0 0 ∷ get_or b 1 0 ∷ 45 ∷ get_or e 0 0 ∷ get_or e 1 0 ∷ 45 ∷ get_or f 0 0 ∷ get_or f 1 0 ∷ [] ≡ text n
usual-text n y m d a b e f year few month low day less ea eb ee ef =
    (λ i. get_or (ea i) 0 0 ∷ get_or (ea i) 1 0 ∷ get_or (eb i) 0 0 ∷ get_or (eb i) 1 0 ∷ 45 ∷ get_or (ee i) 0 0 ∷ get_or (ee i) 1 0 ∷ 45 ∷ get_or (ef i) 0 0 ∷ get_or (ef i) 1 0 ∷ [])
    ∙ sym ((λ i. sign_text (year i) ++ (digits_at_least 4 (unsigned_abs (year i)) ++ codes "-" ++ digits_at_least 2 (month i) ++ codes "-" ++ digits_at_least 2 (day i)))
    ∙ (λ i. plain y few i ++ (four y few i ++ codes "-" ++ digits_at_least-two m low i ++ codes "-" ++ digits_at_least-two d less i)))

-- The items print it to the front of a buffer.
pub usual-printed : (n : ℕ) (old rest bytes : List ℕ) → length bytes ≡ 10 → bytes ≡ text n → PrintsItems 0 14 (moment_of_date n) old (bytes ++ rest) 0 10 iso_items
usual-printed n old rest bytes long is =
    let same = is ∙ sym (iso_items-text n) in
    record {
      within = refl;
      text = ap (λ k. take k (bytes ++ rest)) (sym long) ∙ take-append_seam bytes rest ∙ same;
      end_is = omega (arith, long, ap length same);
    }

pub only-format : (own : List Item) (f : FormatParts) (P : List Item → Type 0) → IsFormatOf f (λ l. l ≡ own) → P own → IsFormatOf f P
only-format own f P is p = record { format = is.format; every = λ items has. subst P (sym (is.every items has)) p }

pub ok-one : {E : Type 0} (r : Result ℕ E) (m n : ℕ) → r ≡ Ok m → r ≡ Ok n → m ≡ n
ok-one (Ok k) m n e f = cc
ok-one (Err k) m n e f = cc

-- Numbers are the same item if their kinds and values are.
pub same-part : (p q : FormatItem) → IsTrue ((p.kind == q.kind) && (p.value == q.value)) → p ≡ q
same-part p q h =
    let both = and_parts (p.kind == q.kind) (p.value == q.value) h in
    let kind = eqb-true p.kind q.kind both.0 in
    let value = eqb-true p.value q.value both.1 in
    λ i. record { kind = kind i; value = value i }

pub not-false : (b : Bool) → not b ≡ false → IsTrue b
not-false true e = refl
not-false false e = cc

pub only-parsed : (own : List Item) (o : Option ℕ) (f : FormatParts) (Q : ℕ → List Item → Type 0) → IsFormatOf f (λ l. l ≡ own) → IfSome o (λ n. Q n own) → IfSome o (λ n. IsFormatOf f (Q n))
only-parsed own None f Q is one = tt
only-parsed own (Some n) f Q is one = only-format own f (Q n) is one
