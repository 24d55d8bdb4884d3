use Rattle.std.proofs.Common.{◌≡◌, ◌∙◌, ◌<◌, ◌⊎◌, inl, inr, sym, ap, suc, length, arith}
use Rattle.cal_text.specs.Shape.{unmatched_bytes, Byte, Sign}
use Rattle.cal_text.proofs.Stops.{unmatched_bytes-none, unmatched_bytes-branch_none, unmatched_bytes-sign, unmatched_bytes-no_sign}
use Rattle.cal_text.proofs.scanner.Scanner.sign.Goals.{then-first-lt43-via-then-first-lt43, then-first-lt43-via-else-first-lt43+then-first-gt45, then-first-lt43-via-else-first-lt43+else-first-gt45+then-first-eq44}
use Rattle.cal_text.proofs.scanner.Scanner.sign.Goals as goal

pub returns-in_err-first-clause-scans : goal.returns-in_err-first-clause-scans
returns-in_err-first-clause-scans c = rw c.from_residual.ensures (λ f. unmatched_bytes-branch_none 43 0 f (Byte 45 f) c.args.self.now.rest.now c.in_err-first.ensures.cases ∙ unmatched_bytes-none 45 0 f c.args.self.now.rest.now c.in_err-first.ensures.cases)

pub returns-then-first-lt43-clause-scans : goal.returns-then-first-lt43-clause-scans
returns-then-first-lt43-clause-scans c f =
    let split = c.in_ok-first.ensures.cases.0 in
    let other : (c.in_ok-first.first.now < 43) ⊎ ((45 < c.in_ok-first.first.now) ⊎ (c.in_ok-first.first.now ≡ 44)) =
    elim c.then-first-lt43.branch [
      | then-first-lt43-via-then-first-lt43 w ↦ inl w.if-first-lt43.true
      | then-first-lt43-via-else-first-lt43+then-first-gt45 w ↦ inr (inl w.if-first-gt45.true)
      | then-first-lt43-via-else-first-lt43+else-first-gt45+then-first-eq44 w ↦ inr (inr w.if-first-eq44.true)
    ] in
    ap (unmatched_bytes (Sign f)) split ∙ unmatched_bytes-no_sign f c.in_ok-first.first.now c.in_ok-first.others.now other ∙ ap (λ xs. suc (length xs)) (sym split)

pub returns-clause-scans : goal.returns-clause-scans
returns-clause-scans c f =
    ap (unmatched_bytes (Sign f)) c.in_ok-first.ensures.cases.0 ∙ unmatched_bytes-sign f c.in_ok-first.first.now c.in_ok-first.others.now (omega arith) (omega arith) (omega arith)
