-- A run has only one result: two readers gave the same, and two writers took the same.
use Rattle.std.proofs.Common.{◌≡◌, List, ◌++◌, Option, Some, None, Result, Ok, Err, ap, sym, ◌∙◌, refl}
use Rattle.std.proofs.lemmas.List.{append-nil}
use Rattle.std.proofs.Common.{ℕ}
use Rattle.std.specs.Prelude.{IsErrOf}
use Rattle.std.specs.Io.KnownBytes.{Appends, Consumes, IsAtEnd, Keeps}
use Rattle.caltool.specs.Answers.{out}
use Rattle.caltool.specs.Runs.{IsRunResult}
use Rattle.caltool.specs.declared.fault.Fault.{Fault}
use Rattle.caltool.specs.declared.fault.Fault.TheVariants.{TooLong, Read, Write}

-- a reader that is at its end gave all that it had
all_given : (input bytes : List ℕ) (left : Option (List ℕ)) → Consumes (Some input) left bytes → IsAtEnd left → bytes ≡ input
all_given input bytes None given end = absurd given
all_given input bytes (Some rest) given end = sym (given ∙ ap (λ more. bytes ++ more) end ∙ append-nil bytes)

-- two writers that held the same and took the same, or nothing
took-one : (held a b : List ℕ) (w v : Option (List ℕ)) → Appends (Some held) w a → Appends (Some held) v b → a ≡ b → w ≡ v
took-one held a b None v first second same = absurd first
took-one held a b (Some x) None first second same = absurd second
took-one held a b (Some x) (Some y) first second same = ap Some (first ∙ ap (λ more. held ++ more) same ∙ sym second)

kept-one : (held : List ℕ) (w v : Option (List ℕ)) → Keeps (Some held) w → Keeps (Some held) v → w ≡ v
kept-one held None v first second = absurd first
kept-one held (Some x) None first second = absurd second
kept-one held (Some x) (Some y) first second = ap Some (first ∙ sym second)

pub ended-one : (input held : List ℕ) (r : Result Unit Fault) (left rest w v : Option (List ℕ))
    → IsRunResult r (Some input) left (Some held) w → IsRunResult r (Some input) rest (Some held) v → ¬ IsErrOf r Write → w ≡ v
ended-one input held (Ok done) left rest w v first second no_write =
    let a = all_given input _ left first.1.given first.1.ended in
    let b = all_given input _ rest second.1.given second.1.ended in
    took-one held _ _ w v first.2 second.2 (ap out (a ∙ sym b))
ended-one input held (Err Write) left rest w v first second no_write = absurd (no_write refl)
ended-one input held (Err Read) left rest w v first second no_write = kept-one held w v first second
ended-one input held (Err TooLong) left rest w v first second no_write = kept-one held w v first.1 second.1
