use Rattle.std.proofs.Common.{◌≡◌, arith, of_z, subst, sym, to_z}
use Rattle.std.proofs.lemmas.Int.{ints}
use mir.Syntax.{w32}
use Rattle.cal_time.specs.Date.{year_at}
use Rattle.caldate_answers.specs.Nearness.{IsNearestTo}
use Rattle.caldate_answers.specs.Readers.{IsTextNear}
use Rattle.caldate_answers.proofs.Nearest.{OnlyIn, every_of, nearest_by, some_of}
use Rattle.caldate_answers.proofs.reading.yearless.nearest_to.Goals as goal

only : (c : goal.After-nearer_to) → OnlyIn (IsNearestTo c.args.day (IsTextNear c.args.offset c.args.format.now c.args.text.now c.args.day)) c.nearer_to.result
only c =
    let y = to_z w32 (of_z w32 c.year-year.result) in
    let e : y ≡ year_at c.args.day = omega (arith, ints, c.year-year.ensures.value, c.year-year.ensures.range) in
    subst (OnlyIn (IsNearestTo c.args.day (IsTextNear c.args.offset c.args.format.now c.args.text.now c.args.day))) (sym c.nearer_to.ensures)
    (nearest_by c.args.offset c.args.format.now c.args.text.now c.args.day y y c.last_until-last.result c.first_after.result e e c.last_until-last.ensures c.first_after.ensures)

pub returns-clause-every : goal.returns-clause-every
returns-clause-every c = λ found is. every_of _ c.nearer_to.result found (only c) is

pub returns-clause-has : goal.returns-clause-has
returns-clause-has c = some_of _ c.nearer_to.result (only c)
