use Rattle.std.proofs.Common.{◌≡◌, ◌∙◌, ap, sym, arith, to_z, w32}
use Rattle.cal_date.specs.Date.{year_at}
use Rattle.cal_date.proofs.Dates.{IsYear-i32}
use Rattle.cal_date.proofs.Neighbours.{same_year}
use Rattle.cal_date.proofs.date.Date.days_until.Goals as goal

pub overflow_sub-ordinal : goal.overflow_sub-ordinal
overflow_sub-ordinal c =
    let same : year_at c.args.self ≡ year_at c.args.later =
    sym (IsYear-i32 _ c.year.ensures.range ∙ c.year.ensures.value) ∙ ap (to_z w32) c.if-year.true ∙ IsYear-i32 _ c.year-2.ensures.range ∙ c.year-2.ensures.value in
    omega (arith, same_year _ _ same)

pub returns-then-year : goal.returns-then-year
returns-then-year c =
    let same : year_at c.args.self ≡ year_at c.args.later =
    sym (IsYear-i32 _ c.year.ensures.range ∙ c.year.ensures.value) ∙ ap (to_z w32) c.if-year.true ∙ IsYear-i32 _ c.year-2.ensures.range ∙ c.year-2.ensures.value in
    omega (arith, same_year _ _ same)
