-- What a parser of a duration went past.
use Rattle.std.specs.Prelude.{◌≡◌, ℕ, ◌<◌, ◌≤◌, List, [], ◌∷◌, ◌++◌, length, Option, MatchOption}
use Rattle.std.specs.Str.Parse.{AllDigits}
use Rattle.cal_text.specs.Rfc3339Form.{nanoseconds_of}
use Rattle.cal_duration.specs.Form.{IsNumber, IsPart}

-- Parts in the order of their letters.
abbrev pub AreParts : List ℕ → List ℕ → List ℕ → Type 0
AreParts [] bytes numbers = (bytes ≡ []) × (numbers ≡ [])
AreParts (l ∷ ls) bytes [] = ⊥
AreParts (l ∷ ls) bytes (n ∷ ns) = (part : List ℕ) × (rest : List ℕ) × IsPart l part n × AreParts ls rest ns × (bytes ≡ part ++ rest)

-- The parser went past parts with these numbers, and past a further number if there is one.
pub record PartsRead (letters numbers : List ℕ) (further : Option ℕ) (old new : List ℕ) : Type 0 where
  pub parts : List ℕ
  pub digits : List ℕ
  pub are : AreParts letters parts numbers
  pub number : MatchOption further (digits ≡ []) (λ n. IsNumber digits n)
  pub bytes_are : old ≡ parts ++ (digits ++ new)

-- The parser went past the digits of a fraction of n nanoseconds and the letter S.
pub record DecimalsRead (old new : List ℕ) (n : ℕ) : Type 0 where
  pub digits : List ℕ
  pub all : AllDigits 10 digits
  pub some : 0 < length digits
  pub few : length digits ≤ 9
  pub value : n ≡ nanoseconds_of digits
  pub bytes_are : old ≡ digits ++ 83 ∷ new
