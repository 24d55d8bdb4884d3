use Rattle.std.proofs.Common.{◌≡◌, ◌∙◌, ◌++◌, ap, arith, pos, to_z, of_z, w32}
use Rattle.std.proofs.lemmas.Int.{ints, to_z-of_z}
use Rattle.caltool.proofs.Texts.{week_in_place}
use Rattle.caltool.proofs.answer.push_week.Goals as goal

pub returns-clause-appended : goal.returns-clause-appended
returns-clause-appended c =
    let has = c.to_iso_week_date-year.ensures.value in
    let iso = c.to_iso_week_date-year.result in
    let year : to_z w32 (of_z w32 c.to_iso_week_date-year.result.0) ≡ c.to_iso_week_date-year.result.0 = to_z-of_z w32 c.to_iso_week_date-year.result.0 (grind (arith, ints)) in
    let week : to_z w32 (of_z w32 c.from.result) ≡ pos c.to_iso_week_date-year.result.1 = to_z-of_z w32 c.from.result (grind (arith, ints)) ∙ c.from.ensures in
    let day : to_z w32 (of_z w32 c.from-2.result) ≡ pos c.number_from_monday.result = to_z-of_z w32 c.from-2.result (grind (arith, ints)) ∙ c.from-2.ensures in
    let date = c.push.ensures.appended ∙ ap (λ words. c.args.buffer.now ++ words) (c.as_bytes.ensures.value ∙ c.text.ensures.value) in
    let name = c.push-6.ensures.appended ∙ ap (λ words. c.push-5.new.self ++ words) (c.as_bytes-2.ensures.value ∙ c.name.ensures.value) in
    week_in_place c.args.buffer.now c.push.new.self c.push-2.new.self c.push_number.new.buffer c.push-3.new.self c.push_number-2.new.buffer c.push-4.new.self
    c.push_number-3.new.buffer c.push-5.new.self c.push-6.new.self
    iso.0 iso.1 c.number_from_monday.result c.args.date iso.2
    date c.push-2.ensures.appended (rw year at c.push_number.ensures.appended) c.push-3.ensures.appended (rw week at c.push_number-2.ensures.appended) c.push-4.ensures.appended
    (rw day at c.push_number-3.ensures.appended) c.push-5.ensures.appended name
    has c.number_from_monday.ensures
