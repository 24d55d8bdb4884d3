-- Each item of a text with names ends before the items after it.
use Rattle.std.proofs.Common.{◌≡◌, ℕ, ◌-◌, ◌<◌, List, [], ◌∷◌, ◌++◌, length, sym, ap, ◌∙◌, arith, inl, inr, length-append, append-nil}
use Rattle.std.specs.Prelude.{Some, slice_get, get_or, unwrap_or}
use Rattle.std.proofs.lemmas.Bool.{cases_lt}
use Rattle.std.proofs.lemmas.Option.{slice_get-get_or, get_or_from_slice_get, slice_get_within}
use Rattle.cal_format.specs.declared.item.Item.{Item}
use Rattle.cal_format.specs.declared.item.Item.TheVariants as item
use Rattle.cal_format.specs.declared.item.Name.{Name}
use Rattle.cal_format.specs.declared.item.Name.TheVariants as name
use Rattle.cal_format.specs.declared.item.Padding.TheVariants as padding
use Rattle.cal_format.specs.Form.{IsNameNumber, IsNumber}
use Rattle.cal_format.proofs.Ends.{BeginsApart, BeginsPastPoint, BeginsPastMinus, IsEnded}
use Rattle.cal_names.specs.Apart.{AreDistinct, NoneContinued}
use Rattle.cal_names.specs.declared.names.Names.{Names}
use Rattle.cal_names.proofs.NameShapes.{afters, IsStuck, parted-stuck}
use Rattle.cal_named_format.specs.Named.{table_of, count_of, first_number, name_in, HasFormIn, CanBegin}
use Rattle.cal_named_format.specs.Ambiguity.{Ambiguous, IsDigit, GoesOn, EndsBefore}

-- Each table has its number of names.
abbrev pub AreTables : Names → Type 0
AreTables t = (k : Name) → length (table_of t k) ≡ count_of k

name-below : (k : Name) (n : ℕ) → IsNameNumber k n → n - first_number k < count_of k
name-below name.Period n h = omega (arith, h)
name-below name.LowerPeriod n h = omega (arith, h)
name-below _ n h = omega (arith, h.0, h.1)

pub at-name : (t : Names) (k : Name) (n : ℕ) → AreTables t → IsNameNumber k n → slice_get (table_of t k) (n - first_number k) ≡ Some (name_in t k n)
at-name t k n tables h = slice_get-get_or (table_of t k) (n - first_number k) [] (omega (arith, tables k, name-below k n h))

-- ---- names that aren't ambiguous
abbrev pub NoneAmbiguous : List (List ℕ) → Names → List Item → Type 0
NoneAmbiguous names t items = (i j : ℕ) → ¬ Ambiguous names t items i j

pub distinct : (names : List (List ℕ)) (t : Names) (items : List Item) → NoneAmbiguous names t items → AreDistinct names
distinct names t items none i j x at there = elim (cases_lt i j) as (λ _. i ≡ j) [
  | inl less ↦ absurd (none i j (same (λ e. omega (arith, less, e))))
  | inr least ↦ elim (cases_lt j i) as (λ _. i ≡ j) [
    | inl more ↦ absurd (none i j (same (λ e. omega (arith, more, e))))
    | inr most ↦ omega (arith, least, most)
  ]
]
  where
    same : (j ≡ i → ⊥) → Ambiguous names t items i j
    same other = record {
      apart = other;
      within = slice_get_within names i x at;
      other_within = slice_get_within names j x there;
      ambiguous = ([], get_or_from_slice_get names j x [] there ∙ sym (get_or_from_slice_get names i x [] at) ∙ sym (append-nil (get_or names i [])), tt);
    }

none-continued : (names : List (List ℕ)) (t : Names) (items : List Item) (b : ℕ) → NoneAmbiguous names t items → CanBegin t items b → NoneContinued names b
none-continued names t items b none begins i j x y at there h =
    none i j (record {
      apart = λ e. omega (arith, ap (λ o. length (unwrap_or o [])) (sym there ∙ ap (slice_get names) e ∙ at), ap length h.1, length-append x (b ∷ h.0));
      within = slice_get_within names i x at;
      other_within = slice_get_within names j y there;
      ambiguous = (b ∷ h.0, get_or_from_slice_get names j y [] there ∙ h.1 ∙ ap (λ l. l ++ b ∷ h.0) (sym (get_or_from_slice_get names i x [] at)), begins);
    })

-- ---- the first byte after an item
abbrev StopsAt : (ℕ → Type 0) → List ℕ → Type 0
StopsAt P [] = Unit {0}
StopsAt P (b ∷ after) = P b → ⊥

stops : (t : Names) (i : Item) (items : List Item) (after : List ℕ) → ((b : ℕ) → GoesOn i b → ¬ CanBegin t items b) → HasFormIn t items after → StopsAt (GoesOn i) after
stops t i items [] ends form = tt
stops t i items (b ∷ after) ends form = λ goes. ends b goes (after, form)

begins-apart : (after : List ℕ) → StopsAt IsDigit after → BeginsApart after
begins-apart [] h = tt
begins-apart (b ∷ after) h = elim (cases_lt b 48) as (λ _. BeginsApart (b ∷ after)) [
  | inl low ↦ inl low
  | inr least ↦ elim (cases_lt 57 b) as (λ _. BeginsApart (b ∷ after)) [ inl high ↦ inr high | inr most ↦ absurd (h (least, most)) ]
]

digit-or-point : (after : List ℕ) → StopsAt (GoesOn item.Fraction) after → BeginsApart after × BeginsPastPoint after
digit-or-point [] h = (tt, tt)
digit-or-point (b ∷ after) h = (begins-apart (b ∷ after) (λ d. h (inl d)), λ e. h (inr e))

past-minus : (after : List ℕ) → StopsAt (GoesOn item.OffsetMinus) after → BeginsPastMinus after
past-minus [] h = tt
past-minus (b ∷ after) h = h

-- ---- where an item ends
-- What comes after the item can't continue it.
abbrev pub IsEndedIn : Names → Item → ℕ → List ℕ → Type 0
IsEndedIn t (item.Name k) n after = IsStuck (afters (name_in t k n) (table_of t k)) after
IsEndedIn t i n after = IsEnded i after

name-ended : (t : Names) (k : Name) (items : List Item) (n : ℕ) (after : List ℕ) → AreTables t → NoneAmbiguous (table_of t k) t items → IsNameNumber k n → HasFormIn t items after
    → IsStuck (afters (name_in t k n) (table_of t k)) after
name-ended t k items n [] tables none fit form = tt
name-ended t k items n (b ∷ after) tables none fit form =
    parted-stuck (table_of t k) (n - first_number k) b (name_in t k n) after (none-continued (table_of t k) t items b none (after, form)) (at-name t k n tables fit)

pub item-ended : (t : Names) (i : Item) (items : List Item) (n : ℕ) (after : List ℕ) → AreTables t → EndsBefore t i items → IsNumber i n → HasFormIn t items after → IsEndedIn t i n after
item-ended t (item.Name k) items n after tables ends fit form = name-ended t k items n after tables ends fit form
item-ended t (item.Number c padding.None) items n after tables ends fit form = begins-apart after (stops t (item.Number c padding.None) items after ends form)
item-ended t (item.Signed c padding.None) items n after tables ends fit form = begins-apart after (stops t (item.Signed c padding.None) items after ends form)
item-ended t item.Fraction items n after tables ends fit form = digit-or-point after (stops t item.Fraction items after ends form)
item-ended t item.Decimals items n after tables ends fit form = begins-apart after (stops t item.Decimals items after ends form)
item-ended t item.OffsetMinus items n after tables ends fit form = past-minus after (stops t item.OffsetMinus items after ends form)
item-ended t item.TimestampMinus items n after tables ends fit form = past-minus after (stops t item.TimestampMinus items after ends form)
item-ended t _ items n after tables ends fit form = tt
