use Rattle.std.proofs.Common.{rules}
use Rattle.std.proofs.lemmas.Int.{to_z-of_z}
use Rattle.cal_schedule.proofs.period.rises.Goals as goal

pub returns-then-months-ge0 : goal.returns-then-months-ge0
returns-then-months-ge0 c =
    let weeks = c.ranges.weeks in
    let days = c.ranges.days in
    let rest = simp to_z-of_z at c.rest_rises.ensures in
    (λ t. let r = rest.0 t in (search rules, search rules, r.0, r.1, r.2), λ h. rest.1 (h.2, h.3, h.4))
