use Rattle.std.proofs.Common.{◌≡◌, ◌<◌, ap, arith, subst, pos, ◌-ℤ◌, to_z, of_z}
use Rattle.std.proofs.lemmas.Int.{ints}
use mir.Syntax.{w32}
use Rattle.cal_text.specs.declared.any.DateOrMoment.{DateOrMoment}
use Rattle.caldate_answers.specs.Found.{day_of}
use Rattle.caldate_answers.specs.Readers.{IsTextInYears}
use Rattle.caldate_answers.proofs.Nearest.{OnlyIn, above, at_most, are_same, last_here, last_step, none_until, only_here, within}
use Rattle.caldate_answers.proofs.reading.yearless.+last_until.Goals as goal
use Rattle.caldate_answers.proofs.reading.yearless.+last_until.Goals.{in-Some+else-le, in_default}

pub returns-then-le : goal.returns-then-le
returns-then-le t c =
    let e : to_z w32 (of_z w32 c.args.year) ≡ c.args.year = omega (arith, ints) in
    let here = subst (λ y. IsTextInYears c.args.offset c.args.format.now c.args.text.now y y c.in-Some.found × ((other : DateOrMoment) → IsTextInYears c.args.offset c.args.format.now c.args.text.now y y other → other ≡ c.in-Some.found)) e c.in-Some.ensures in
    last_here c.args.offset c.args.format.now c.args.text.now c.args.day (c.args.year -ℤ pos c.args.more) c.args.year c.in-Some.found (omega (arith, ints)) (only_here (IsTextInYears c.args.offset c.args.format.now c.args.text.now c.args.year c.args.year) c.in-Some.found here)
    (omega (arith, c.date_of.ensures, at_most c.date_of.result c.args.day c.if-le.ensures))

pub returns-then-more-eq0 : goal.returns-then-more-eq0
returns-then-more-eq0 t c = λ found is.
    let e : to_z w32 (of_z w32 c.args.year) ≡ c.args.year = omega (arith, ints) in
    let here = subst (λ y. OnlyIn (IsTextInYears c.args.offset c.args.format.now c.args.text.now y y) c.in_year.result) e c.in_year.ensures in
    none_until (IsTextInYears c.args.offset c.args.format.now c.args.text.now c.args.year c.args.year) c.in_year.result c.args.day here
    (λ x is. elim c.match-in_year.branch as (λ _. c.args.day < day_of x) [
      | in-Some+else-le w ↦ (let same = ap day_of (are_same c.in_year.result x w.in-Some.found is w.in-Some.is) in omega (arith, same, w.date_of.ensures, above w.date_of.result c.args.day w.if-le.ensures))
      | in_default w ↦ absurd (w.in_default.not-Some x is)
    ])
    found (within c.args.offset c.args.format.now c.args.text.now (c.args.year -ℤ pos c.args.more) c.args.year c.args.year c.args.year found is (omega (arith, ints, is.from, c.if-more-eq0.true)) (omega (arith, ints, is.to, c.if-more-eq0.true)))

pub returns : goal.returns
returns t c =
    let e : to_z w32 (of_z w32 c.args.year) ≡ c.args.year = omega (arith, ints) in
    let here = subst (λ y. OnlyIn (IsTextInYears c.args.offset c.args.format.now c.args.text.now y y) c.in_year.result) e c.in_year.ensures in
    let none = none_until (IsTextInYears c.args.offset c.args.format.now c.args.text.now c.args.year c.args.year) c.in_year.result c.args.day here
    (λ x is. elim c.match-in_year.branch as (λ _. c.args.day < day_of x) [
      | in-Some+else-le w ↦ (let same = ap day_of (are_same c.in_year.result x w.in-Some.found is w.in-Some.is) in omega (arith, same, w.date_of.ensures, above w.date_of.result c.args.day w.if-le.ensures))
      | in_default w ↦ absurd (w.in_default.not-Some x is)
    ]) in
    last_step c.args.offset c.args.format.now c.args.text.now c.args.day _ _ _ _ c.last_until.result (omega (arith, ints)) (omega (arith, ints)) none c.last_until.ensures
