use Rattle.std.proofs.Common.{sym, ap, ◌∙◌, length}
use Rattle.std.proofs.lemmas.List.{length-map}
use Rattle.cal_c.specs.Values.{day_of}
use Rattle.cal_c.proofs.schedule.workdays.ranks.RankedWorkdays.holiday_count.Goals as goal

pub returns-clause-length : goal.returns-clause-length
returns-clause-length c = ap (λ r. length r.holidays) c.self.view_is ∙ sym (length-map c.args.self.now.holidays day_of)
