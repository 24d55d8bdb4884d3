use Rattle.std.proofs.Common.{◌≡◌, ◌+◌, ◌-◌, Some, ◌∷◌, ◌∙◌, ap, length, arith}
use Rattle.cal_date.specs.DateIter.{walk, days_of, without_first}
use Rattle.cal_date.proofs.DateIters.{ends, days_of-first, slice_get-first}
use Rattle.cal_date.proofs.iter.date_iter.DateIterIterator.next.Goals as goal

left_is : (c : goal.After-advance_front_past) → c.advance_front_past.new.self ≡ without_first 1 c.args.self.now
left_is c =
    let one : c.self.inside.front + 1 - c.self.inside.front ≡ 1 = omega arith in
    rw (← c.self.view_is) (rw (← c.self.view_is) at c.advance_front_past.ensures ∙ ap (λ k. without_first k (walk c.self.inside.front c.self.inside.back)) one)

first_and_others : (c : goal.After-advance_front_past) → days_of c.args.self.now ≡ c.self.inside.front ∷ days_of c.advance_front_past.new.self
first_and_others c =
    let w = walk c.self.inside.front c.self.inside.back in
    let back : c.self.inside.back ≡ Some c.in_ok-back.back = c.in_ok-back.was in
    let one : c.self.inside.front + 1 - c.self.inside.front ≡ 1 = omega arith in
    let left : c.advance_front_past.new.self ≡ without_first 1 w = rw (← c.self.view_is) at c.advance_front_past.ensures ∙ ap (λ k. without_first k w) one in
    rw (← c.self.view_is, left) (days_of-first w c.in_ok-back.back back (ends w c.in_ok-back.back c.self.invariant back).in_order)

pub returns-clause-steps : goal.returns-clause-steps
returns-clause-steps c =
    let w = walk c.self.inside.front c.self.inside.back in
    let back : c.self.inside.back ≡ Some c.in_ok-back.back = c.in_ok-back.was in
    (first_and_others c, record { item = rw (← c.self.view_is) (slice_get-first w _ c.self.invariant back); left = left_is c })

pub returns-clause-goes : goal.returns-clause-goes
returns-clause-goes c = record { on = λ _. (tt, tt, omega (arith, ap length (first_and_others c))); keeps = tt; rests = λ _. tt }
