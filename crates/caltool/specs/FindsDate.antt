-- The result of a constructor of dates: the day, or the error if it doesn't exist.
use Rattle.std.specs.Prelude.{◌≡◌, ℕ, Option, Some, None, Result, MatchResult}
use Rattle.cal_time.specs.declared.error.ComponentRange.{ComponentRange}

-- r is the day, or the error `why` for `None`.
abbrev pub FindsDate : Option ℕ → ComponentRange → Result ℕ ComponentRange → Type 0
FindsDate day why r = MatchResult r (λ n. day ≡ Some n) (λ e. (day ≡ None) × (e ≡ why))
