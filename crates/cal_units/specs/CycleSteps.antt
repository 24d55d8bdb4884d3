-- Steps along a cycle, and tests of all its values.
use Rattle.std.specs.Prelude.{◌≡◌, ◌<◌, ℕ, ◌+◌, ◌%◌, Bool, not}
use Rattle.cal_units.specs.declared.cycle.Cycle.{Ghosts}

-- y is n places after x on the cycle.
abbrev pub IsAhead : {C : Type 0} → Ghosts C → ℕ → C → C → Type 0
IsAhead cycle n x y = cycle.index_of y ≡ (cycle.index_of x + n) % cycle.LENGTH

-- y is n places before x on the cycle: x is n places after y.
abbrev pub IsBehind : {C : Type 0} → Ghosts C → ℕ → C → C → Type 0
IsBehind cycle n x y = (cycle.index_of y + n) % cycle.LENGTH ≡ cycle.index_of x

module _ {F C : Type 0} (cycle : Ghosts C) (calls : F → C → Bool → F → Type 0) (go : Bool) where
  -- The closure f is called for the value at index i and for each later value, as long as it
  -- returns `go`. The outcome is `go` if each call returns `go`, else `not go`. `calls f x b f'` is
  -- a call of f for x that returns b and leaves f'. The three cases are: no value is left, the call
  -- returns `not go`, and the call returns `go`.
  pub data ShortCircuits : ℕ → F → Bool → Type 0 where
    at_end : (f : F) → ShortCircuits cycle.LENGTH f go
    stops : (i : ℕ) (f f' : F) → i < cycle.LENGTH → calls f (cycle.value_at i) (not go) f' → ShortCircuits i f (not go)
    goes_on : (i : ℕ) (f f' : F) (r : Bool) → i < cycle.LENGTH → calls f (cycle.value_at i) go f' → ShortCircuits (i + 1) f' r → ShortCircuits i f r
