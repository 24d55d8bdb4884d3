-- Weekdays by index, number and name.
use Rattle.std.specs.Prelude.{ℕ, List, [], ◌∷◌, codes, slice_index_or}
use Rattle.cal_units.specs.declared.weekday.Weekday.{Weekday}
use Rattle.cal_units.specs.declared.weekday.Weekday.TheVariants.{Monday, Tuesday, Wednesday, Thursday, Friday, Saturday, Sunday}

-- The index of a weekday: the number of days since Monday (ISO 8601: a week begins on Monday).
abbrev pub index : Weekday → ℕ
index Monday = 0
index Tuesday = 1
index Wednesday = 2
index Thursday = 3
index Friday = 4
index Saturday = 5
index Sunday = 6

-- The number of days since Sunday, for weeks that begin on Sunday.
abbrev pub days_from_sunday : Weekday → ℕ
days_from_sunday Sunday = 0
days_from_sunday Monday = 1
days_from_sunday Tuesday = 2
days_from_sunday Wednesday = 3
days_from_sunday Thursday = 4
days_from_sunday Friday = 5
days_from_sunday Saturday = 6

-- The weekday with the index i, or Sunday if i is 7 or more.
abbrev pub weekday_of_index : ℕ → Weekday
weekday_of_index i = slice_index_or (Monday ∷ Tuesday ∷ Wednesday ∷ Thursday ∷ Friday ∷ Saturday ∷ Sunday ∷ []) i Sunday

-- The English name of a weekday, which it prints.
abbrev pub name : Weekday → List ℕ
name Monday = codes "Monday"
name Tuesday = codes "Tuesday"
name Wednesday = codes "Wednesday"
name Thursday = codes "Thursday"
name Friday = codes "Friday"
name Saturday = codes "Saturday"
name Sunday = codes "Sunday"
