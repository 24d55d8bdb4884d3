-- The result of parsing with names, from what the check of the names returns.
use Rattle.std.proofs.Common.{◌≡◌, ℕ, ℤ, List}
use Rattle.cal_format.specs.declared.item.Item.{Item}
use Rattle.cal_format.specs.declared.moment.Moment.{Moment}
use Rattle.cal_names.specs.declared.names.Names.{Names}
use Rattle.cal_named_format.specs.declared.error.NamesError.{NamesError}
use Rattle.cal_named_format.specs.Ambiguity.{IsNamesError, ReadBack}
use Rattle.cal_named_format.specs.Named.{text_in}
use Rattle.cal_named_format.specs.Rejection.{IsRejectionIn}
use Rattle.cal_c.specs.FormatParsing.{IsParsed}
use Rattle.cal_c.specs.NamedFormats.{IsReadWith, names_item, names_status}

-- The strings read back.
pub read_back : {V R : Type 0} (IsHeld : List Item → V → Type 0) (moment_of : V → Moment) (ok : V → R) (error_at : ℤ → ℕ → R) (text : List ℕ) (t : Names) (items : List Item) (r : R)
    → ReadBack t items → IsParsed (λ v. IsHeld items v × (text ≡ text_in t items (moment_of v))) (IsRejectionIn t items text) ok error_at r
    → IsReadWith IsHeld moment_of ok error_at text t items r
read_back IsHeld moment_of ok error_at text t items r reads parsed = record {
  parsed = λ _. parsed;
  ambiguous = λ never. absurd (never reads);
}

-- Two values could have the same string.
pub refused : {V R : Type 0} (IsHeld : List Item → V → Type 0) (moment_of : V → Moment) (ok : V → R) (error_at : ℤ → ℕ → R) (text : List ℕ) (t : Names) (items : List Item) (r : R) (e : NamesError)
    → ¬ ReadBack t items → IsNamesError t items 0 e → r ≡ error_at (names_status e) (names_item e)
    → IsReadWith IsHeld moment_of ok error_at text t items r
refused IsHeld moment_of ok error_at text t items r e never error is = record {
  parsed = λ reads. absurd (never reads);
  ambiguous = λ _. (e, error, is);
}
