-- The position at which a text stops matching a form. A form is a set of texts.
use Rattle.std.specs.Prelude.{◌≡◌, ℕ, ◌+◌, ◌<◌, ◌≤◌, List, ◌++◌, length, take}
use Rattle.cal_text.specs.declared.error.ParseError.{ParseError}
use Rattle.cal_text.specs.declared.error.ParseError.TheVariants.{UnexpectedByte, UnexpectedEnd, OutOfRange}

-- The bytes have the form, with some value.
abbrev pub HasSome : {V : Type 0} → (List ℕ → V → Type 0) → List ℕ → Type 0
HasSome {V} Has bytes = (v : V) × Has bytes v

-- The bytes begin the form if more bytes can complete them to a text of the form.
pub record Begins (IsText : List ℕ → Type 0) (bytes : List ℕ) : Type 0 where
  pub more : List ℕ
  pub text : IsText (bytes ++ more)

-- The text stops matching the form at p: its first p bytes begin the form, and one byte more
-- doesn't.
pub record IsPosition (IsText : List ℕ → Type 0) (text : List ℕ) (p : ℕ) : Type 0 where
  pub within : p ≤ length text
  pub begins : Begins IsText (take p text)
  pub no_further : p < length text → ¬ Begins IsText (take (p + 1) text)

-- An error names the position at which the text stops matching: a byte of the text, or its end. An
-- error of a component names none.
abbrev pub IsErrorAtStop : (List ℕ → Type 0) → List ℕ → ParseError → Type 0
IsErrorAtStop IsText text (UnexpectedByte p) = IsPosition IsText text p × (p < length text)
IsErrorAtStop IsText text (UnexpectedEnd p) = IsPosition IsText text p × (p ≡ length text)
IsErrorAtStop IsText text (OutOfRange why) = Unit {0}
