use Rattle.cal_span.proofs.Order.{int_cmp-fields}
use Rattle.cal_span.proofs.signed_duration.order.SignedDurationOrd.cmp.Goals as goal

pub returns : goal.returns
returns c =
    let e = int_cmp-fields c.self.inside c.other.inside c.self.invariant c.other.invariant in
    cc
