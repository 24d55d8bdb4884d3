use Rattle.cal_datetime.proofs.Instants.{apart-is_duration, instants-apart}
use Rattle.cal_datetime.proofs.offset_date_time.arithmetic.OffsetDateTimeSub.sub.Goals as goal

pub add-requires : goal.add-requires
add-requires c =
    rw (c.sub.ensures.0, c.offset_difference.ensures) (apart-is_duration _ _ _ _ c.local.ensures.range c.local-2.ensures.range c.offset.ensures.range c.offset-2.ensures.range)

pub returns : goal.returns
returns c = (
  rw (c.add.ensures, c.sub.ensures.0, c.offset_difference.ensures, c.local.ensures.value, c.local-2.ensures.value, c.offset.ensures.value, c.offset-2.ensures.value) (instants-apart c.args.self c.args.other),
  rw c.local.ensures.value at c.local.ensures.range,
  rw c.local-2.ensures.value at c.local-2.ensures.range,
  rw (c.add.ensures, c.sub.ensures.0, c.offset_difference.ensures) (apart-is_duration _ _ _ _ c.local.ensures.range c.local-2.ensures.range c.offset.ensures.range c.offset-2.ensures.range),
)
