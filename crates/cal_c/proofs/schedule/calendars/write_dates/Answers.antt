use Rattle.std.proofs.Common.{◌<◌, ◌≤◌, length, take, sym, ◌∙◌, arith, pos}
use Rattle.std.specs.Prelude.{map}
use Rattle.std.proofs.lemmas.List.{ext_get_or, get_or-map, get_or-take, length-map, length-take-le}
use Rattle.cal_time.specs.Date.{julian_day_at}
use Rattle.cal_c.proofs.schedule.calendars.write_dates.Goals as goal

pub returns : goal.returns
returns c =
    let dates = c.args.dates.now in
    let written = c.loop-index.written in
    let few : length dates ≤ length written = omega arith in
    ext_get_or (pos 0) (take (length dates) written) (map julian_day_at dates) (omega (arith, length-take-le (length dates) written few, length-map dates julian_day_at))
    (λ i h. let here : i < length dates = omega (arith, length-take-le (length dates) written few) in
    get_or-take (length dates) written i (pos 0) here ∙ c.loop-index.invariant i (omega arith) ∙ sym (get_or-map julian_day_at dates i 0 (pos 0) here))
