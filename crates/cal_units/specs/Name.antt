-- Parsing a value from its name.
use Rattle.std.specs.Prelude.{◌≡◌, ◌≢◌, ℕ, List, Result, MatchResult}

-- r is the result of parsing the text: the value whose name is exactly the text, or an error if no
-- value has this name.
abbrev pub ParsesName : {C E : Type 0} → (C → List ℕ) → List ℕ → Result C E → Type 0
ParsesName {C} name text r = MatchResult r (λ x. text ≡ name x) (λ _. (x : C) → text ≢ name x)
