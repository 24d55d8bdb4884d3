use Rattle.std.proofs.Common.{◌≡◌, ◌++◌, ℤ, pos, ◌*ℤ◌, Some, to_z, of_z, w64, sym, ap, ◌∙◌}
use Rattle.std.proofs.lemmas.Int.{to_z-of_z}
use Rattle.cal_time.specs.SignedDuration.{second, whole_days}
use Rattle.caltool.proofs.Days.{day_with-moved, day_with-moved_away}
use Rattle.caltool.specs.Answers.{later_date_text}
use Rattle.caltool.proofs.answer.push_later_date.Goals as goal

pub returns-in-Some-clause-appended : goal.returns-in-Some-clause-appended
unfolding later_date_text
returns-in-Some-clause-appended c =
    let days : ℤ = whole_days (c.args.seconds *ℤ pos second) in
    let same : to_z w64 (of_z w64 c.args.seconds) ≡ c.args.seconds = to_z-of_z w64 c.args.seconds c.ranges.seconds in
    let duration = rw same at c.seconds.ensures in
    let is = rw duration at c.in-Some.ensures.value in
    rw (day_with-moved c.args.date days is.0 ∙ ap Some (sym is.1)) (c.push.ensures.appended ∙ ap (λ words. c.args.buffer.now ++ words) (c.as_bytes.ensures.value ∙ c.text.ensures.value))

pub returns-in-None-clause-appended : goal.returns-in-None-clause-appended
unfolding later_date_text
returns-in-None-clause-appended c =
    let days : ℤ = whole_days (c.args.seconds *ℤ pos second) in
    let same : to_z w64 (of_z w64 c.args.seconds) ≡ c.args.seconds = to_z-of_z w64 c.args.seconds c.ranges.seconds in
    let duration = rw same at c.seconds.ensures in
    let none = rw duration at c.in-None.ensures.value in
    rw (day_with-moved_away c.args.date days none) c.push-in-None.ensures.appended
