use Rattle.std.proofs.Common.{◌≡◌, ◌∙◌, arith, pos, to_z, of_z, w32}
use Rattle.std.proofs.lemmas.Int.{ints, to_z-of_z}
use Rattle.caltool.proofs.Texts.{day_in_place}
use Rattle.caltool.proofs.answer.push_day.Goals as goal

pub returns-clause-appended : goal.returns-clause-appended
returns-clause-appended c =
    let year : to_z w32 (of_z w32 c.year.result) ≡ c.year.result = to_z-of_z w32 c.year.result (grind (arith, ints)) in
    let ordinal : to_z w32 (of_z w32 c.from.result) ≡ pos c.ordinal.result = to_z-of_z w32 c.from.result (grind (arith, ints)) ∙ c.from.ensures in
    let julian_day : to_z w32 (of_z w32 c.to_julian_day.result) ≡ c.to_julian_day.result = to_z-of_z w32 c.to_julian_day.result (grind (arith, ints)) in
    day_in_place c.args.buffer.now c.push_number.new.buffer c.push.new.self c.push_number-2.new.buffer c.push-2.new.self c.push_number-3.new.buffer
    c.year.result c.to_julian_day.result c.ordinal.result c.args.date
    (rw year at c.push_number.ensures.appended) c.push.ensures.appended (rw ordinal at c.push_number-2.ensures.appended) c.push-2.ensures.appended
    (rw julian_day at c.push_number-3.ensures.appended) c.year.ensures.value c.ordinal.ensures.value c.to_julian_day.ensures.value
