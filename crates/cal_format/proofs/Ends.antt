-- Where an item ends: what comes after it can't continue it.
use Rattle.std.specs.Prelude.{◌≢◌, ◌⊎◌, ℕ, ◌<◌, ◌≤◌, List, [], ◌∷◌}
use Rattle.cal_format.specs.declared.item.Item.{Item}
use Rattle.cal_format.specs.declared.item.Item.TheVariants as item
use Rattle.cal_format.specs.declared.item.Padding.TheVariants as padding

-- The text doesn't begin with a digit.
abbrev pub BeginsApart : List ℕ → Type 0
BeginsApart [] = Unit {0}
BeginsApart (x ∷ xs) = (x < 48) ⊎ (57 < x)

-- The text doesn't begin with a point.
abbrev pub BeginsPastPoint : List ℕ → Type 0
BeginsPastPoint [] = Unit {0}
BeginsPastPoint (x ∷ xs) = x ≢ 46

-- The text doesn't begin with a minus sign.
abbrev pub BeginsPastMinus : List ℕ → Type 0
BeginsPastMinus [] = Unit {0}
BeginsPastMinus (x ∷ xs) = x ≢ 45

-- What comes after the item can't continue it.
abbrev pub IsEnded : Item → List ℕ → Type 0
IsEnded (item.Number c padding.None) after = BeginsApart after
IsEnded (item.Signed c padding.None) after = BeginsApart after
IsEnded item.Fraction after = BeginsApart after × BeginsPastPoint after
IsEnded item.Decimals after = BeginsApart after
IsEnded item.OffsetMinus after = BeginsPastMinus after
IsEnded item.TimestampMinus after = BeginsPastMinus after
IsEnded _ after = Unit {0}

abbrev pub AreDigits : List ℕ → Type 0
AreDigits [] = Unit {0}
AreDigits (x ∷ xs) = (48 ≤ x) × (x ≤ 57) × AreDigits xs
