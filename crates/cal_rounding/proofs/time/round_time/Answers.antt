use Rattle.std.specs.Prelude.{◌+ℤ◌}
use Rattle.cal_time.specs.SignedDuration.{whole_days}
use Rattle.cal_time.specs.Time.{carry}
use Rattle.cal_rounding.proofs.Multiples.{within_day}
use Rattle.cal_rounding.proofs.time.round_time.Goals as goal

pub returns : goal.returns
returns c = let d = c.rounded_since_midnight.result in record {
  to = d;
  rounded = c.rounded_since_midnight.ensures;
  value = within_day d (whole_days d +ℤ carry c.adjusting_add-rounded.result.0) _ c.adjusting_add-rounded.ensures.range c.adjusting_add-rounded.ensures.value;
}
