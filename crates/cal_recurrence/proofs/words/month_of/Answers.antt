use Rattle.std.proofs.Common.{◌∙◌, ◌-◌, ap}
use Rattle.std.specs.Prelude.{option_map}
use Rattle.cal_time.specs.Month.{month_of_index}
use Rattle.cal_recurrence.proofs.Dates.{month_with}
use Rattle.cal_recurrence.proofs.words.month_of.Goals as goal

pub returns : goal.returns
returns c =
    c.ok.ensures.value ∙ month_with c.in_ok-short_count_of.field-0 c.try_from.result c.try_from.ensures c.in_ok-short_count_of.ensures.least c.in_ok-short_count_of.ensures.most
    ∙ ap (option_map (λ n. month_of_index (n - 1))) c.in_ok-short_count_of.ensures.value
