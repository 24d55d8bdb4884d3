-- Bytes that are appended, and taken back.
use Rattle.std.proofs.Common.{◌≡◌, ℕ, Bool, true, false, List, ◌++◌, length, take, Some, None, Result, Ok, Err, ap, ◌∙◌}
use Rattle.std.proofs.Math.Seq.{take-append_seam}
use Rattle.caldate_lines.specs.declared.no_answer.NoAnswer.{NoAnswer}
use Rattle.caldate_answers.specs.Answers.{Answer}
use Rattle.caldate_answers.specs.Appends.{AppendsAnswer}

pub puts_other : (P Q : Answer → Type 0) (r : Result Bool NoAnswer) (old new : List ℕ) → ((answer : Answer) → P answer → Q answer) → AppendsAnswer P r old new → AppendsAnswer Q r old new
puts_other P Q (Ok true) old new f h = (h.0, h.1, f (Ok (Some h.0)) h.2)
puts_other P Q (Ok false) old new f h = (h.0, f (Ok None) h.1)
puts_other P Q (Err any) old new f h = (h.0, f (Err any) h.1)

pub taken_back : (old mid rest new : List ℕ) (before : ℕ) → before ≡ length old → mid ≡ old ++ rest → new ≡ take before mid → new ≡ old
taken_back old mid rest new before at e f = f ∙ ap (λ k. take k mid) at ∙ ap (λ l. take (length old) l) e ∙ take-append_seam old rest
