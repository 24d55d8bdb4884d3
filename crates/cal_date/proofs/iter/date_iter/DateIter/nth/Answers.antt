use Rattle.std.proofs.Common.{◌≡◌, Some, sym, arith}
use Rattle.cal_date.specs.DateIter.{walk}
use Rattle.cal_date.proofs.DateIters.{item-one_year, index_in, slice_get-days_of}
use Rattle.cal_date.proofs.iter.date_iter.DateIter.nth.Goals as goal

pub overflow_cast-n : goal.overflow_cast-n
overflow_cast-n c =
    let at = index_in (walk c.self.inside.front c.self.inside.back) _ _ _ _ c.self.view_is c.self.invariant c.in_ok-back.was c.len.ensures.value c.if-n-len.false in
    omega arith

pub add_days-item-requires : goal.add_days-item-requires
add_days-item-requires c =
    let at = index_in (walk c.self.inside.front c.self.inside.back) _ _ _ _ c.self.view_is c.self.invariant c.in_ok-back.was c.len.ensures.value c.if-n-len.false in
    omega arith

pub advance_front_past-requires-clause-to_back : goal.advance_front_past-requires-clause-to_back
advance_front_past-requires-clause-to_back c =
    let at = index_in (walk c.self.inside.front c.self.inside.back) _ _ _ _ c.self.view_is c.self.invariant c.in_ok-back.was c.len.ensures.value c.if-n-len.false in
    omega arith

pub returns-clause-value : goal.returns-clause-value
returns-clause-value c =
    let back : c.self.inside.back ≡ Some c.in_ok-back.back = c.in_ok-back.was in
    let at = index_in (walk c.self.inside.front c.self.inside.back) _ _ _ _ c.self.view_is c.self.invariant back c.len.ensures.value c.if-n-len.false in
    rw (← c.self.view_is, c.add_days-item.ensures) (sym (slice_get-days_of (walk c.self.inside.front c.self.inside.back) _ c.args.n back at.within))

pub returns-clause-same_year : goal.returns-clause-same_year
returns-clause-same_year c = λ back h low. item-one_year _ back _ _ h low (returns-clause-value c)
