use Rattle.std.proofs.Common.{sym, ◌∙◌}
use Rattle.std.specs.Prelude.{Some}
use Rattle.cal_format.proofs.Choices.{is-not}
use Rattle.cal_format.proofs.Outcomes.{same-value, no-value}
use Rattle.cal_format.proofs.parsing.find_moment.Goals as goal

pub returns-in_err-date-clause-every : goal.returns-in_err-date-clause-every
returns-in_err-date-clause-every c v is = absurd (no-value _ (c.in_err-date.ensures.every v.date is.in_range.date (is.date (is-not _ (sym c.shows_timestamp.ensures ∙ c.if-shows_timestamp.false)))))

pub returns-clause-every : goal.returns-clause-every
returns-clause-every c v is =
    let d = same-value _ _ (c.in_ok-date.ensures.every v.date is.in_range.date (is.date (is-not _ (sym c.shows_timestamp.ensures ∙ c.if-shows_timestamp.false)))) in
    let t = c.time_of_numbers-time.ensures.value ∙ sym (is.time (is-not _ (sym c.shows_timestamp.ensures ∙ c.if-shows_timestamp.false))) in
    let o = c.offset_of_numbers-offset.ensures.value ∙ sym is.offset in
    λ i. Some (record { date = d i; time = t i; offset = o i })
