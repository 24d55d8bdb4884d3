use Rattle.std.proofs.Common.{ap, sym, ◌∙◌}
use Rattle.cal_c.specs.Intervals.{pairs_or_error}
use Rattle.cal_c.proofs.texts.intervals.laws.one_pair_range_result.Goals as goal

pub returns : goal.returns
returns c = λ r s h k. h.2 ∙ ap pairs_or_error (c.one_date_time_range.ensures h.0 k.0 h.1 k.1) ∙ sym k.2
