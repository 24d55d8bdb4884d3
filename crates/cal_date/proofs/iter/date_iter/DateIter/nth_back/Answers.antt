use Rattle.std.proofs.Common.{◌≡◌, ◌+◌, ◌-◌, Some, ◌∙◌, ap, sym, arith}
use Rattle.cal_date.specs.DateIter.{walk, without_last}
use Rattle.cal_date.proofs.DateIters.{item_back-one_year, IsPlace, index_in, slice_get-days_of_back}
use Rattle.cal_date.proofs.iter.date_iter.DateIter.nth_back.Goals as goal

at : (c : goal.Else-len-n) → IsPlace c.self.inside.front c.in_ok-back.back c.args.n
at c = index_in (walk c.self.inside.front c.self.inside.back) _ _ _ _ c.self.view_is c.self.invariant c.in_ok-back.was c.len.ensures.value c.if-len-n.false

pub overflow_cast-n : goal.overflow_cast-n
overflow_cast-n c = omega (arith, at c)

pub sub_days-item-requires : goal.sub_days-item-requires
sub_days-item-requires c =
    let at = index_in (walk c.self.inside.front c.self.inside.back) _ _ _ _ c.self.view_is c.self.invariant c.in_ok-back.was c.len.ensures.value c.if-len-n.false in
    omega arith

pub advance_back_past-requires-clause-from_front : goal.advance_back_past-requires-clause-from_front
advance_back_past-requires-clause-from_front c =
    let at = index_in (walk c.self.inside.front c.self.inside.back) _ _ _ _ c.self.view_is c.self.invariant c.in_ok-back.was c.len.ensures.value c.if-len-n.false in
    rw (← c.self.view_is) (omega arith)

pub returns-clause-value : goal.returns-clause-value
returns-clause-value c =
    let back : c.self.inside.back ≡ Some c.in_ok-back.back = c.in_ok-back.was in
    let at = index_in (walk c.self.inside.front c.self.inside.back) _ _ _ _ c.self.view_is c.self.invariant back c.len.ensures.value c.if-len-n.false in
    rw (← c.self.view_is, c.sub_days-item.ensures) (sym (slice_get-days_of_back (walk c.self.inside.front c.self.inside.back) _ c.args.n back at.within))

pub returns-clause-remaining : goal.returns-clause-remaining
returns-clause-remaining c =
    let at = index_in (walk c.self.inside.front c.self.inside.back) _ _ _ _ c.self.view_is c.self.invariant c.in_ok-back.was c.len.ensures.value c.if-len-n.false in
    let count : c.in_ok-back.back + 1 - c.sub_days-item.result ≡ c.args.n + 1 = omega arith in
    c.advance_back_past.ensures ∙ ap (λ k. without_last k c.args.self.now) count

pub returns-clause-same_year : goal.returns-clause-same_year
returns-clause-same_year c = λ back h low. item_back-one_year _ back _ _ h low (returns-clause-value c)
