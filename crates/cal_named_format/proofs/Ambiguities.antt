-- The bytes with which a text can begin, and the errors of items that don't end before them.
use Rattle.std.proofs.Common.{◌≡◌, ℕ, ◌+◌, ◌<◌, ◌≤◌, List, [], ◌∷◌, length, refl, subst, inl, inr, arith}
use Rattle.std.specs.Prelude.{Option, None, Some, IfNone, get_or}
use Rattle.std.proofs.lemmas.Bool.{cases_lt}
use Rattle.cal_text.specs.Shape.{unmatched_bytes}
use Rattle.cal_text.proofs.Stops.{gone_over}
use Rattle.cal_format.specs.declared.item.Item.{Item}
use Rattle.cal_format.specs.declared.item.Item.TheVariants as item
use Rattle.cal_format.specs.declared.item.Name.{Name}
use Rattle.cal_names.specs.declared.names.Names.{Names}
use Rattle.cal_named_format.specs.declared.error.NamesError.{NamesError}
use Rattle.cal_named_format.specs.declared.error.NamesError.TheVariants.{AmbiguousNames, AmbiguousNumber}
use Rattle.cal_named_format.specs.Named.{shape_in, CanBegin}
use Rattle.cal_named_format.specs.Ambiguity.{CanGoOn, EndsBefore, GoesOn, IsFirst, IsItemError, IsNamesError, ReadBack}

-- A byte with which a text of the items begins fits at the front of their shape.
pub one-byte : (t : Names) (items : List Item) (b : ℕ) → CanBegin t items b → unmatched_bytes (shape_in t items) (b ∷ []) ≤ 1
one-byte t items b h = gone_over (shape_in t items) (b ∷ []) h.0 [] h.1

pub item-error : (t : Names) (i : Item) (items : List Item) (at : ℕ) (e : NamesError) → IsItemError t i items at e → EndsBefore t i items → ⊥
item-error t (item.Name k) items at (AmbiguousNames n i j) h ends = ends i j h.1.other.is
item-error t (item.Name k) items at (AmbiguousNumber n b) h ends = absurd h
item-error t _ items at (AmbiguousNames n j k) h ends = absurd h
item-error t _ items at (AmbiguousNumber n b) h ends = ends b h.1.is.0 h.1.is.1

pub no-error : (t : Names) (items : List Item) (at : ℕ) (e : NamesError) → IsNamesError t items at e → ReadBack t items → ⊥
no-error t [] at e h reads = absurd h
no-error t (i ∷ items) at e (inl h) reads = item-error t i items at e h reads.0
no-error t (i ∷ items) at e (inr h) reads = no-error t items (at + 1) e h.1 reads.1

-- ---- items that aren't names
pub number-error : (t : Names) (i : Item) (items : List Item) (at b : ℕ) → ((k : Name) → i ≡ item.Name k → ⊥) → IsFirst (λ c. GoesOn i c × CanBegin t items c) b → IsItemError t i items at (AmbiguousNumber at b)
number-error t (item.Name k) items at b other first = absurd (other k refl)
number-error t _ items at b other first = (refl, first)

pub number-ends : (t : Names) (i : Item) (items : List Item) → ((k : Name) → i ≡ item.Name k → ⊥) → ((b : ℕ) → GoesOn i b → ¬ CanBegin t items b) → EndsBefore t i items
number-ends t (item.Name k) items other none = absurd (other k refl)
number-ends t _ items other none = none

-- ---- what a name goes on with
pub begin-on : (t : Names) (items : List Item) (more : List ℕ) (d : ℕ) → 1 ≤ length more → CanBegin t items (get_or more 0 d) → CanGoOn t items more
begin-on t items [] d some h = absurd (omega arith)
begin-on t items (b ∷ more) d some h = h

pub on-begin : (t : Names) (items : List Item) (more : List ℕ) (d : ℕ) → 1 ≤ length more → CanGoOn t items more → CanBegin t items (get_or more 0 d)
on-begin t items [] d some h = absurd (omega arith)
on-begin t items (b ∷ more) d some h = h

-- ---- loops
pub none-further : (P : ℕ → Type 0) (n : ℕ) → ((m : ℕ) → m < n → ¬ P m) → ¬ P n → (m : ℕ) → m < n + 1 → ¬ P m
none-further P n before here m below h = elim (cases_lt m n) as (λ _. ⊥) [ inl less ↦ before m less h | inr least ↦ here (subst P (omega (arith, below, least)) h) ]

pub none-of : (r : Option ℕ) (P : Type 0) → ((n : ℕ) → r ≡ Some n → ⊥) → IfNone r P → P
none-of None P other h = h
none-of (Some n) P other h = absurd (other n refl)
