use Rattle.std.proofs.Common.{◌≡◌, ◌+◌, ◌-◌, Some, [], ◌∷◌, ◌++◌, ◌∙◌, ap, sym, length, length-append, arith}
use Rattle.cal_date.specs.DateIter.{walk, days_of, without_last}
use Rattle.cal_date.proofs.DateIters.{ends, days_of-last, slice_get-last}
use Rattle.cal_date.proofs.iter.date_iter.DateIterDoubleEndedIterator.next_back.Goals as goal

left_is : (c : goal.After-advance_back_past) → c.advance_back_past.new.self ≡ without_last 1 c.args.self.now
left_is c =
    let one : c.in_ok-item.item + 1 - c.in_ok-item.item ≡ 1 = omega arith in
    c.advance_back_past.ensures ∙ ap (λ k. without_last k c.args.self.now) one

others_and_last : (c : goal.After-advance_back_past) → days_of c.args.self.now ≡ days_of c.advance_back_past.new.self ++ c.in_ok-item.item ∷ []
others_and_last c =
    let w = walk c.self.inside.front c.self.inside.back in
    let back : c.self.inside.back ≡ Some c.in_ok-item.item = c.in_ok-item.was in
    let one : c.in_ok-item.item + 1 - c.in_ok-item.item ≡ 1 = omega arith in
    let left : c.advance_back_past.new.self ≡ without_last 1 w = rw (← c.self.view_is) at c.advance_back_past.ensures ∙ ap (λ k. without_last k w) one in
    rw (← c.self.view_is, left) (days_of-last w c.in_ok-item.item back (ends w c.in_ok-item.item c.self.invariant back).in_order)

pub returns-clause-steps : goal.returns-clause-steps
returns-clause-steps c =
    let w = walk c.self.inside.front c.self.inside.back in
    let back : c.self.inside.back ≡ Some c.in_ok-item.item = c.in_ok-item.was in
    (others_and_last c, record { item = rw (← c.self.view_is) (sym back ∙ slice_get-last w c.self.invariant); left = left_is c })

pub returns-clause-goes : goal.returns-clause-goes
returns-clause-goes c =
    let count = simp length-append at (ap length (others_and_last c)) in
    record { on = λ _. (tt, tt, omega (arith, count)); keeps = tt; rests = λ _. tt }
