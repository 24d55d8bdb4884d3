-- Formats with the names of a language.
use Rattle.std.specs.Prelude.{◌≡◌, ℕ, ◌≤◌, ℤ, All, Bool, List, [], length}
use Rattle.std.specs.Str.{IsUtf8}
use Rattle.cal_format.specs.declared.item.Item.{Item}
use Rattle.cal_format.specs.declared.moment.Moment.{Moment}
use Rattle.cal_names.specs.Apart.{texts}
use Rattle.cal_names.specs.declared.names.Names.{Names}
use Rattle.cal_named_format.specs.declared.error.NamesError.{NamesError}
use Rattle.cal_named_format.specs.declared.error.NamesError.TheVariants.{AmbiguousNames, AmbiguousNumber}
use Rattle.cal_named_format.specs.Ambiguity.{IsNamesError, ReadBack}
use Rattle.cal_named_format.specs.Named.{text_in}
use Rattle.cal_named_format.specs.Rejection.{IsRejectionIn}
use Rattle.cal_c.specs.FormatParsing.{IsParsed}
use Rattle.cal_c.specs.FormatTexts.{IsPrinted}
use Rattle.cal_c.specs.Texts.{no_position}
use Rattle.cal_c.specs.declared.formats.named.checking.NamesCheckResult.{NamesCheckResult}
use Rattle.cal_c.specs.declared.formats.named.names_parts.NamesParts.{NamesParts}
use Rattle.cal_c.specs.declared.formats.results.LengthResult.{LengthResult}
use Rattle.cal_c.specs.declared.status.TheConstants.{OK, AMBIGUOUS_NAMES, AMBIGUOUS_NUMBER}

-- ---- names
-- Bytes that a name can have.
abbrev pub IsName : List ℕ → Type 0
IsName bytes = IsUtf8 bytes × (length bytes ≤ 127)

pub record AreNames (p : NamesParts) : Type 0 where
  pub months : All IsName (texts p.months)
  pub months_alone : All IsName (texts p.months_alone)
  pub short_months : All IsName (texts p.short_months)
  pub weekdays : All IsName (texts p.weekdays)
  pub short_weekdays : All IsName (texts p.short_weekdays)
  pub periods : All IsName (texts p.periods)
  pub lower_periods : All IsName (texts p.lower_periods)

-- No name has a byte.
abbrev pub HasNoBytes : List ℕ → Type 0
HasNoBytes bytes = bytes ≡ []

pub record AreEmpty (p : NamesParts) : Type 0 where
  pub months : All HasNoBytes (texts p.months)
  pub months_alone : All HasNoBytes (texts p.months_alone)
  pub short_months : All HasNoBytes (texts p.short_months)
  pub weekdays : All HasNoBytes (texts p.weekdays)
  pub short_weekdays : All HasNoBytes (texts p.short_weekdays)
  pub periods : All HasNoBytes (texts p.periods)
  pub lower_periods : All HasNoBytes (texts p.lower_periods)

-- The parts have the bytes of the names.
pub record HasNames (p : NamesParts) (t : Names) : Type 0 where
  pub months : texts p.months ≡ texts t.months
  pub months_alone : texts p.months_alone ≡ texts t.months_alone
  pub short_months : texts p.short_months ≡ texts t.short_months
  pub weekdays : texts p.weekdays ≡ texts t.weekdays
  pub short_weekdays : texts p.short_weekdays ≡ texts t.short_weekdays
  pub periods : texts p.periods ≡ texts t.periods
  pub lower_periods : texts p.lower_periods ≡ texts t.lower_periods

-- P is true for names with these bytes.
abbrev pub WithNames : NamesParts → (Names → Type 0) → Type 0
WithNames p P = (t : Names) × HasNames p t × P t

-- ---- the check of a format
abbrev pub names_status : NamesError → ℤ
names_status (AmbiguousNames n i j) = AMBIGUOUS_NAMES
names_status (AmbiguousNumber n b) = AMBIGUOUS_NUMBER

-- The index of the item.
abbrev pub names_item : NamesError → ℕ
names_item (AmbiguousNames n i j) = n
names_item (AmbiguousNumber n b) = n

abbrev pub check_error : ℤ → NamesCheckResult
check_error s = record { status = s; byte = 0; item = no_position; name = no_position; other = no_position }

abbrev pub ambiguous : NamesError → NamesCheckResult
ambiguous (AmbiguousNames n i j) = record { status = AMBIGUOUS_NAMES; byte = 0; item = n; name = i; other = j }
ambiguous (AmbiguousNumber n b) = record { status = AMBIGUOUS_NUMBER; byte = b; item = n; name = no_position; other = no_position }

-- The strings of the items with the names read back, or the result has the first item that doesn't, with
-- its error.
pub record IsCheckOf (items : List Item) (t : Names) (r : NamesCheckResult) : Type 0 where
  pub ok : ReadBack t items → r ≡ check_error OK
  pub error : ¬ ReadBack t items → (e : NamesError) × IsNamesError t items 0 e × (r ≡ ambiguous e)

-- ---- printing
-- The text of a moment with names is written, if the items show only what the value has.
abbrev pub IsPrintedWith : NamesParts → List Item → Bool → Moment → List ℕ → List ℕ → LengthResult → Type 0
IsPrintedWith p items shown v old new r = WithNames p (λ t. IsPrinted shown (text_in t items v) old new r)

-- ---- parsing
-- The result is the value that the items hold and print with the names as the text, or why the text is
-- rejected. If two values could have the same text, it is the error of the first such item.
pub record IsReadWith {V R : Type 0} (IsHeld : List Item → V → Type 0) (moment_of : V → Moment) (ok : V → R) (error_at : ℤ → ℕ → R) (text : List ℕ) (t : Names) (items : List Item) (r : R) : Type 0 where
  pub parsed : ReadBack t items → IsParsed (λ v. IsHeld items v × (text ≡ text_in t items (moment_of v))) (IsRejectionIn t items text) ok error_at r
  pub ambiguous : ¬ ReadBack t items → (e : NamesError) × IsNamesError t items 0 e × (r ≡ error_at (names_status e) (names_item e))
