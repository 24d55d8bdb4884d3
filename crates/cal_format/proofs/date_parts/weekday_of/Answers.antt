use Rattle.std.proofs.Common.{◌≡◌, ◌+◌, ◌%◌, sym, ◌∙◌, arith}
use Rattle.cal_format.specs.declared.item.Component.TheVariants as shown
use Rattle.cal_format.specs.Reading.{any_shows}
use Rattle.cal_format.specs.Scanning.{number_at}
use Rattle.cal_format.proofs.Choices.{first-choice, other-choice}
use Rattle.cal_format.proofs.date_parts.weekday_of.Goals as goal

pub returns-then-any_shows-clause-value : goal.returns-then-any_shows-clause-value
returns-then-any_shows-clause-value c =
    let number : (c.get-number.result % 8 + 6) % 7 ≡ (number_at shown.Weekday c.args.fields.now + 6) % 7 = omega (arith, c.get-number.ensures, c.requires shown.Weekday) in
    omega (arith, number) ∙ first-choice (any_shows shown.Weekday c.args.items.now) _ _ (sym c.any_shows.ensures ∙ c.if-any_shows.true)

pub returns-then-any_shows-3-clause-value : goal.returns-then-any_shows-3-clause-value
returns-then-any_shows-3-clause-value c =
    let number : (c.get-number-then-any_shows-3.result % 8 + 5) % 7 ≡ (number_at shown.SundayWeekday c.args.fields.now + 5) % 7 = omega (arith, c.get-number-then-any_shows-3.ensures, c.requires shown.SundayWeekday) in
    omega (arith, number) ∙ first-choice (any_shows shown.SundayWeekday c.args.items.now) _ _ (sym c.any_shows-3.ensures ∙ c.if-any_shows-3.true)
    ∙ other-choice (any_shows shown.DaysFromSunday c.args.items.now) _ _ (sym c.any_shows-2.ensures ∙ c.if-any_shows-2.false)
    ∙ other-choice (any_shows shown.Weekday c.args.items.now) _ _ (sym c.any_shows.ensures ∙ c.if-any_shows.false)

pub returns-clause-value : goal.returns-clause-value
returns-clause-value c =
    omega (arith, c.get.ensures, c.requires shown.DaysFromMonday)
    ∙ other-choice (any_shows shown.SundayWeekday c.args.items.now) _ _ (sym c.any_shows-3.ensures ∙ c.if-any_shows-3.false)
    ∙ other-choice (any_shows shown.DaysFromSunday c.args.items.now) _ _ (sym c.any_shows-2.ensures ∙ c.if-any_shows-2.false)
    ∙ other-choice (any_shows shown.Weekday c.args.items.now) _ _ (sym c.any_shows.ensures ∙ c.if-any_shows.false)
