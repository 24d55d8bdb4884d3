use Rattle.cal_datetime.specs.DateTimeLaws.{IsDateTime-date_time}
use Rattle.cal_datetime.proofs.DateTimes.{apart, apart-is}
use Rattle.cal_datetime.proofs.plain_date_time.arithmetic.PlainDateTimeSub.sub.Goals as goal

pub add-requires : goal.add-requires
add-requires c =
    let a = c.self.inside in
    let b = c.other.inside in
    rw (c.sub.ensures.0, c.sub-2.ensures) (apart a.date b.date a.time b.time c.self.invariant.0 c.other.invariant.0 c.self.invariant.1.below_day c.other.invariant.1.below_day)

pub returns : goal.returns
returns c =
    let a = c.self.inside in
    let b = c.other.inside in
    rw (← c.self.view_is, ← c.other.view_is) (
      rw (c.add.ensures, c.sub.ensures.0, c.sub-2.ensures) (apart-is a.date b.date a.time b.time),
      IsDateTime-date_time a.date a.time c.self.invariant.0 c.self.invariant.1.below_day,
      IsDateTime-date_time b.date b.time c.other.invariant.0 c.other.invariant.1.below_day,
      rw (c.add.ensures, c.sub.ensures.0, c.sub-2.ensures) (apart a.date b.date a.time b.time c.self.invariant.0 c.other.invariant.0 c.self.invariant.1.below_day c.other.invariant.1.below_day),
    )
