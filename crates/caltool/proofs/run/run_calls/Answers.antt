use Rattle.std.proofs.Common.{ℕ, rules}
use Rattle.std.specs.Prelude.{IsErrOf}
use Rattle.caltool.specs.Calls.{most_retries}
use Rattle.caltool.specs.declared.fault.Fault.TheVariants.{Write}
use Rattle.caltool.proofs.Calls.{no_calls, no_write_failed}
use Rattle.caltool.proofs.run.run_calls.Goals as goal

pub returns-in_err-length-clause-writes : goal.returns-in_err-length-clause-writes
returns-in_err-length-clause-writes g c =
    let no_write : IsErrOf c.from_residual.result Write → ⊥ = search rules in
    (most_retries, no_calls _ _ most_retries _ _ (no_write_failed c.from_residual.result no_write))
