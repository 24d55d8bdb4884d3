-- The languages that have names.
use Rattle.std.specs.Prelude.{ℕ, ◌≤◌, ◌||◌, Bool, false, List, [], ◌∷◌, bytes_eq, codes}
use Rattle.cal_names.specs.Apart.{texts}
use Rattle.cal_names.specs.NameShape.{longest}
use Rattle.cal_names.specs.declared.names.Names.{Names}

-- Their codes of ISO 639-1.
abbrev pub language_codes : List (List ℕ)
language_codes =
    codes "ar" ∷ codes "de" ∷ codes "en" ∷ codes "es" ∷ codes "fr" ∷ codes "it" ∷ codes "ja" ∷ codes "pl" ∷ codes "pt" ∷ codes "ru" ∷ codes "tr" ∷ codes "zh" ∷ []

abbrev pub is_one_of : List ℕ → List (List ℕ) → Bool
is_one_of code [] = false
is_one_of code (x ∷ xs) = bytes_eq code x || is_one_of code xs

-- No name has more than 127 bytes.
pub record AreShort (t : Names) : Type 0 where
  pub months : longest (texts t.months) ≤ 127
  pub months_alone : longest (texts t.months_alone) ≤ 127
  pub short_months : longest (texts t.short_months) ≤ 127
  pub weekdays : longest (texts t.weekdays) ≤ 127
  pub short_weekdays : longest (texts t.short_weekdays) ≤ 127
  pub periods : longest (texts t.periods) ≤ 127
  pub lower_periods : longest (texts t.lower_periods) ≤ 127
