-- A run with names of fields, by the numbers that a header gives them.
use Rattle.std.specs.Prelude.{◌⊎◌, ℕ, Bool, true, false, unwrap_or, get_or, List, MatchResult, Option, Some, None, Result, MatchBool}
use Rattle.std.specs.Io.KnownBytes.{Consumes}
use Rattle.caldate_lines.specs.Ending.{Says}
use Rattle.caldate_lines.specs.Fields.{no_names, overlap, renumbered}
use Rattle.caldate_lines.specs.RunStates.{NoEnd}
use Rattle.caldate_lines.specs.declared.quoting.Quoting.TheVariants.{Ready}
use Rattle.caldate_lines.specs.declared.field.Field.{Field}
use Rattle.caldate_lines.specs.declared.run_error.RunError.{RunError}
use Rattle.caldate_lines.specs.Header.{HasHeader, header_of, number_in, numbers_of, of_both}
use Rattle.caldate_answers.specs.Targets.{target_name, with_target}
use Rattle.caldate_answers.specs.declared.request.Filter.{Filter}
use Rattle.caldate_answers.specs.declared.request.Request.{Request}
use Rattle.caldate_answers.specs.declared.request.Target.TheVariants.{Fields}

-- The numbers of the fields to answer and of the field that has TEXT, each if it has a name.
abbrev pub numbers_in : Filter → Field → List ℕ → Result (List (Option ℕ) × Option ℕ) (List ℕ)
numbers_in filter field header = of_both (λ own target. (own, target)) (numbers_of field header filter.names) (number_in field header (target_name filter.request))

-- The same filter with these numbers in place of its names.
abbrev pub with_number : Option ℕ → Request → Request
with_number None request = request
with_number (Some n) request = with_target (Fields (record { first = n; joined = 0 })) request

abbrev pub numbered : Filter → Field → (List (Option ℕ) × Option ℕ) → Filter
numbered filter field numbers = record filter {
  field = Some (record field { first = unwrap_or (get_or numbers.0 0 None) field.first });
  several = renumbered numbers.0 filter.several;
  names = no_names;
  request = with_number numbers.1 filter.request;
}

-- The reader gave `front` first. If a read failed before the header ended, the run stops. Otherwise
-- the filter runs over the whole input with the numbers that the header gives its names. If the
-- header lacks a name, or two fields overlap, the run stops with the error of the header.
pub record EndsNamed (filter : Filter) (field : Field) (old : Option (List ℕ)) (Runs : Filter → Result Unit RunError → Type 0) (Stops : Bool → List ℕ → Type 0) : Type 0 where
  pub front : List ℕ
  pub left : Option (List ℕ)
  pub given : Consumes old left front
  pub ends : (NoEnd (Some field) Ready front × ((words : List ℕ) × Says 2 words × Stops true words))
      ⊎ (HasHeader field left front × MatchResult (numbers_in filter field (header_of field front))
      (λ numbers. MatchBool (overlap (numbered filter field numbers).several) ((words : List ℕ) × Says 2 words × Stops false words)
      ((outcome : Result Unit RunError) × Runs (numbered filter field numbers) outcome))
      (λ name. (words : List ℕ) × Says 2 words × Stops false words))
