use Rattle.std.proofs.Common.{◌∙◌, sym, ap, arith, suc, length}
use Rattle.cal_text.specs.Shape.{unmatched_bytes, ByteRange, Branch}
use Rattle.cal_text.proofs.Stops.{unmatched_bytes-in, unmatched_bytes-out, unmatched_bytes-none, unmatched_bytes-branch_in, unmatched_bytes-branch_out, unmatched_bytes-branch_none}
use Rattle.cal_text.proofs.scanner.Scanner.byte_from.Goals as goal

pub returns-in_err-first-clause-scans : goal.returns-in_err-first-clause-scans
returns-in_err-first-clause-scans c = rw c.from_residual.ensures (λ f. unmatched_bytes-none c.args.low c.args.above f c.args.self.now.rest.now c.in_err-first.ensures.cases)

pub returns-then-first-low-clause-scans : goal.returns-then-first-low-clause-scans
returns-then-first-low-clause-scans c f =
    let split = c.in_ok-first.ensures.cases.0 in
    ap (unmatched_bytes (ByteRange c.args.low c.args.above f)) split
    ∙ unmatched_bytes-out c.args.low c.args.above f c.in_ok-first.first.now c.in_ok-first.others.now (λ h. absurd (omega (arith, c.then-first-low.branch)))
    ∙ ap (λ xs. suc (length xs)) (sym split)

pub returns-clause-scans : goal.returns-clause-scans
returns-clause-scans c f =
    ap (unmatched_bytes (ByteRange c.args.low c.args.above f)) c.in_ok-first.ensures.cases.0
    ∙ unmatched_bytes-in c.args.low c.args.above f c.in_ok-first.first.now c.in_ok-first.others.now (omega arith, omega arith)

pub returns-in_err-first-clause-branches : goal.returns-in_err-first-clause-branches
returns-in_err-first-clause-branches c = rw c.from_residual.ensures (λ f g. unmatched_bytes-branch_none c.args.low c.args.above f g c.args.self.now.rest.now c.in_err-first.ensures.cases)

pub returns-then-first-low-clause-branches : goal.returns-then-first-low-clause-branches
returns-then-first-low-clause-branches c f g =
    let split = c.in_ok-first.ensures.cases.0 in
    ap (unmatched_bytes (Branch c.args.low c.args.above f g)) split
    ∙ unmatched_bytes-branch_out c.args.low c.args.above f g c.in_ok-first.first.now c.in_ok-first.others.now (λ h. absurd (omega (arith, c.then-first-low.branch)))
    ∙ ap (unmatched_bytes g) (sym split)

pub returns-clause-branches : goal.returns-clause-branches
returns-clause-branches c f g =
    ap (unmatched_bytes (Branch c.args.low c.args.above f g)) c.in_ok-first.ensures.cases.0
    ∙ unmatched_bytes-branch_in c.args.low c.args.above f g c.in_ok-first.first.now c.in_ok-first.others.now (omega arith, omega arith)
