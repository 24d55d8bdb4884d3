-- Runs with names of fields.
use Rattle.std.proofs.Common.{◌≡◌, ◌⊎◌, ◌<◌, ℕ, List, Bool, false, true, Option, Some, Result, Ok, Err, inl, inr, length, subst, sym}
use Rattle.std.specs.Prelude.{MatchBool, MatchResult}
use Rattle.caldate_lines.specs.Ending.{Says}
use Rattle.caldate_lines.specs.Fields.{overlap}
use Rattle.caldate_lines.specs.Header.{HasHeader, HasLine, header_of}
use Rattle.caldate_lines.specs.RunStates.{NoEnd}
use Rattle.caldate_lines.specs.declared.field.Field.{Field}
use Rattle.caldate_lines.specs.declared.quoting.Quoting.TheVariants.{Ready}
use Rattle.caldate_lines.specs.declared.run_error.RunError.{RunError}
use Rattle.caldate_answers.specs.declared.request.Filter.{Filter}
use Rattle.caldate_run.specs.Named.{EndsNamed, numbered, numbers_in}

pub has_header : (field : Field) (left : Option (List ℕ)) (bytes input : List ℕ) → bytes ≡ input → HasLine field bytes ⊎ (4097 < length bytes) → HasHeader field left input
has_header field left bytes input e (inl line) = subst (HasHeader field left) e (inl line)
has_header field left bytes input e (inr long) = subst (HasHeader field left) e (inr (inr long))

-- what the header says
pub says : {A B : Type 0} (r s : Result A B) (P : A → Type 0) (Q : B → Type 0) → r ≡ s → MatchResult s P Q → MatchResult r P Q
says r s P Q e h = subst (λ r. MatchResult r P Q) (sym e) h

-- ---- the same end, of which less is said
match_weaker : {A B : Type 0} (r : Result A B) (P P' : A → Type 0) (Q Q' : B → Type 0) → ((a : A) → P a → P' a) → ((b : B) → Q b → Q' b) → MatchResult r P Q → MatchResult r P' Q'
match_weaker (Ok a) P P' Q Q' f g h = f a h
match_weaker (Err b) P P' Q Q' f g h = g b h

either_weaker : (b : Bool) (P P' Q Q' : Type 0) → (P → P') → (Q → Q') → MatchBool b P Q → MatchBool b P' Q'
either_weaker true P P' Q Q' f g h = f h
either_weaker false P P' Q Q' f g h = g h

ends_weaker : (filter : Filter) (field : Field) (left : Option (List ℕ)) (front : List ℕ) (Runs Runs' : Filter → Result Unit RunError → Type 0) (Stops Stops' : Bool → List ℕ → Type 0)
    → ((own : Filter) (outcome : Result Unit RunError) → Runs own outcome → Runs' own outcome) → ((failed : Bool) (words : List ℕ) → Stops failed words → Stops' failed words)
    → (failed : Bool)
    → (NoEnd (Some field) Ready front × ((words : List ℕ) × Says 2 words × Stops failed words))
    ⊎ (HasHeader field left front × MatchResult (numbers_in filter field (header_of field front)) (λ numbers. MatchBool (overlap (numbered filter field numbers).several) ((words : List ℕ) × Says 2 words × Stops false words) ((outcome : Result Unit RunError) × Runs (numbered filter field numbers) outcome))
    (λ name. (words : List ℕ) × Says 2 words × Stops false words))
    → (NoEnd (Some field) Ready front × ((words : List ℕ) × Says 2 words × Stops' failed words))
    ⊎ (HasHeader field left front × MatchResult (numbers_in filter field (header_of field front)) (λ numbers. MatchBool (overlap (numbered filter field numbers).several) ((words : List ℕ) × Says 2 words × Stops' false words) ((outcome : Result Unit RunError) × Runs' (numbered filter field numbers) outcome))
    (λ name. (words : List ℕ) × Says 2 words × Stops' false words))
ends_weaker filter field left front Runs Runs' Stops Stops' runs stops failed (inl h) = inl (h.0, (h.1.0, h.1.1, stops failed h.1.0 h.1.2))
ends_weaker filter field left front Runs Runs' Stops Stops' runs stops failed (inr h) =
    inr (
      h.0,
      match_weaker (numbers_in filter field (header_of field front)) _ _ _ _ (λ numbers. either_weaker (overlap (numbered filter field numbers).several) _ _ _ _ (λ s. (s.0, s.1, stops false s.0 s.2)) (λ r. (r.0, runs (numbered filter field numbers) r.0 r.1)))
          (λ name s. (s.0, s.1, stops false s.0 s.2)) h.1,
    )

pub named_weaker : (filter : Filter) (field : Field) (old : Option (List ℕ)) (Runs Runs' : Filter → Result Unit RunError → Type 0) (Stops Stops' : Bool → List ℕ → Type 0)
    → ((own : Filter) (outcome : Result Unit RunError) → Runs own outcome → Runs' own outcome) → ((failed : Bool) (words : List ℕ) → Stops failed words → Stops' failed words)
    → EndsNamed filter field old Runs Stops → EndsNamed filter field old Runs' Stops'
named_weaker filter field old Runs Runs' Stops Stops' runs stops h = record {
  front = h.front;
  left = h.left;
  given = h.given;
  ends = ends_weaker filter field h.left h.front Runs Runs' Stops Stops' runs stops _ h.ends;
}

pub named_for : (f filter : Filter) (k field : Field) (old : Option (List ℕ)) (Runs : Filter → Result Unit RunError → Type 0) (Stops : Bool → List ℕ → Type 0) → f ≡ filter → k ≡ field
    → EndsNamed f k old Runs Stops → EndsNamed filter field old Runs Stops
named_for f filter k field old Runs Stops same_filter same_field h =
    subst (λ (f : Filter). EndsNamed f field old Runs Stops) same_filter (subst (λ (k : Field). EndsNamed f k old Runs Stops) same_field h)
