-- The calls of a run that follow each other.
use Rattle.std.proofs.Common.{◌≡◌, ℕ, Bool, false, Result, Ok, Err, refl, subst, sym}
use Rattle.std.specs.Prelude.{IsErrOf}
use Rattle.std.specs.declared.io.Error.{Error}
use Rattle.caltool.specs.Calls.{Calls, has_write_failure}
use Rattle.caltool.specs.Calls.Calls.{no_more, done, again}
use Rattle.caltool.specs.declared.fault.Fault.{Fault}
use Rattle.caltool.specs.declared.fault.Fault.TheVariants.{TooLong, Read, Write}

-- No call failed, and other calls follow.
pub calls_then : {S : Type 0} (call : S → Result ℕ Error → S → Type 0) (IsEnough : ℕ → Type 0) (most mid left : ℕ) (s t end : S) (failed : Bool)
    → Calls call IsEnough most s false mid t → Calls call IsEnough mid t failed left end → Calls call IsEnough most s failed left end
calls_then call IsEnough most mid left s t end failed (no_more _ _) more = more
calls_then call IsEnough most mid left s t end failed (done _ _ n _ next _ _ enough made others) more =
    done most left n s next end failed enough made (calls_then call IsEnough most mid left next t end failed others more)
calls_then call IsEnough _ mid left s t end failed (again retries _ _ next _ _ error interrupted made others) more =
    again retries left s next end failed error interrupted made (calls_then call IsEnough retries mid left next t end failed others more)

-- No call is made.
pub no_calls : {S : Type 0} (call : S → Result ℕ Error → S → Type 0) (IsEnough : ℕ → Type 0) (most : ℕ) (s : S) (failed : Bool) → failed ≡ false
    → Calls call IsEnough most s failed most s
no_calls call IsEnough most s failed none = subst (λ failed. Calls call IsEnough most s failed most s) (sym none) (no_more most s)

pub no_write_failed : (r : Result Unit Fault) → (IsErrOf r Write → ⊥) → has_write_failure r ≡ false
no_write_failed (Ok value) no_write = refl
no_write_failed (Err TooLong) no_write = refl
no_write_failed (Err Read) no_write = refl
no_write_failed (Err Write) no_write = absurd (no_write refl)
