-- Months by index, number and name.
use Rattle.std.specs.Prelude.{◌≡◌, ◌<◌, ◌+◌, ◌⊎◌, ℕ, List, [], ◌∷◌, codes, Result, MatchResult, slice_index_or}
use Rattle.cal_units.specs.declared.error.Component.TheVariants as component
use Rattle.cal_units.specs.declared.error.ComponentRange.{ComponentRange}
use Rattle.cal_units.specs.declared.month.Month.{Month}
use Rattle.cal_units.specs.declared.month.Month.TheVariants.{January, February, March, April, May, June, July, August, September, October, November, December}
use Rattle.cal_units.specs.ComponentError.{unconditional}

-- The index of a month, counted from 0 at January.
abbrev pub index : Month → ℕ
index January = 0
index February = 1
index March = 2
index April = 3
index May = 4
index June = 5
index July = 6
index August = 7
index September = 8
index October = 9
index November = 10
index December = 11

-- The number of a month, counted from 1 at January, as in ISO 8601.
abbrev pub number : Month → ℕ
number m = index m + 1

-- The month with the index i, or December if i is 12 or more.
abbrev pub month_of_index : ℕ → Month
month_of_index i = slice_index_or (January ∷ February ∷ March ∷ April ∷ May ∷ June ∷ July ∷ August ∷ September ∷ October ∷ November ∷ December ∷ []) i December

-- The English name of a month, which it prints.
abbrev pub name : Month → List ℕ
name January = codes "January"
name February = codes "February"
name March = codes "March"
name April = codes "April"
name May = codes "May"
name June = codes "June"
name July = codes "July"
name August = codes "August"
name September = codes "September"
name October = codes "October"
name November = codes "November"
name December = codes "December"

-- The error of a number that is not the number of a month.
abbrev pub month_out_of_range : ComponentRange
month_out_of_range = unconditional component.Month

-- r is the result for the number n: the month with this number, or the error if n is 0 or above 12.
abbrev pub IsMonthFromNumber : ℕ → Result Month ComponentRange → Type 0
IsMonthFromNumber n r = MatchResult r (λ m. number m ≡ n) (λ e. (e ≡ month_out_of_range) × ((n ≡ 0) ⊎ (12 < n)))
