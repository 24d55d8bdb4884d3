-- A date-time with one component of its date replaced, without or with an offset.
use Rattle.std.specs.Prelude.{◌≡◌, ℕ, ◌↔◌, Result, Ok, IfOk, IsErr}
use Rattle.cal_time.specs.declared.error.ComponentRange.{ComponentRange}
use Rattle.cal_time.specs.Date.{IsDate, NoDate}

-- The result is the value moved to the date of the range that has the property. It is an error if
-- and only if no date of the range has it.
pub record ReplacesDate {T : Type 0} (date_of : T → ℕ) (with_date : ℕ → T) (Has : ℕ → Type 0) (result : Result T ComponentRange) : Type 0 where
  pub every : (n : ℕ) → IsDate n → Has n → result ≡ Ok (with_date n)
  pub value : IfOk result (λ x. IsDate (date_of x) × Has (date_of x) × (x ≡ with_date (date_of x)))
  pub error : IsErr result ↔ NoDate Has
