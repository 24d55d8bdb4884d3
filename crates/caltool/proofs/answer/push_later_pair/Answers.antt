use Rattle.std.proofs.Common.{◌≡◌, ℤ, pos, ◌+ℤ◌, ◌*ℤ◌, to_z, of_z, w64}
use Rattle.std.proofs.lemmas.Int.{to_z-of_z}
use Rattle.cal_time.specs.Pair.{pair_number}
use Rattle.cal_time.specs.SignedDuration.{second}
use Rattle.caltool.proofs.Pairs.{first_day_where-pair, first_day_where-no_pair, rest-time}
use Rattle.caltool.specs.Answers.{later_pair_text}
use Rattle.caltool.proofs.answer.push_later_pair.Goals as goal

pub returns-in-None-clause-appended : goal.returns-in-None-clause-appended
unfolding later_pair_text
returns-in-None-clause-appended c =
    let z : ℤ = pair_number c.args.date c.args.time +ℤ c.args.seconds *ℤ pos second in
    let same : to_z w64 (of_z w64 c.args.seconds) ≡ c.args.seconds = to_z-of_z w64 c.args.seconds c.ranges.seconds in
    let duration = rw same at c.seconds.ensures in
    let none = rw duration at c.in-None.ensures in
    rw (first_day_where-no_pair z none) c.push.ensures.appended

pub returns-in-Some-clause-appended : goal.returns-in-Some-clause-appended
unfolding later_pair_text
returns-in-Some-clause-appended c =
    let z : ℤ = pair_number c.args.date c.args.time +ℤ c.args.seconds *ℤ pos second in
    let same : to_z w64 (of_z w64 c.args.seconds) ≡ c.args.seconds = to_z-of_z w64 c.args.seconds c.ranges.seconds in
    let duration = rw same at c.seconds.ensures in
    let is = rw duration at c.in-Some.ensures in
    let found = first_day_where-pair z c.in-Some.pair.0 c.in-Some.pair.1 is in
    let time = rest-time z c.in-Some.pair.0 c.in-Some.pair.1 is in
    rw (found, time) c.push_pair.ensures.appended
