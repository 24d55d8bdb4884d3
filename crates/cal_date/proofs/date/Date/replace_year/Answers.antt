use Rattle.std.proofs.Common.{◌≡◌, ◌∙◌, ap, sym, refl, rules, Ok, to_z, of_z, w32}
use Rattle.std.proofs.lemmas.Int.{to_z-of_z}
use Rattle.std.proofs.lemmas.Bool.{false≢true}
use Rattle.cal_date.specs.Date.{IsYear, month_at, day_of_month_at, HasCalendarDate, NoDate}
use Rattle.cal_date.proofs.Replacements.{replacement, replaceable}
use Rattle.cal_date.proofs.date.Date.replace_year.Goals as goal
use Rattle.cal_date.proofs.date.Date.replace_year.Goals.{After-conditional}

no_year : (c : goal.After-unconditional) → ¬ IsYear c.args.year
no_year c year = let is = rw (to_z-of_z w32 _ c.ranges.year) at c.is_year.ensures in false≢true (sym c.if-not-is_year.true ∙ is.1 year)

pub returns-then-not-is_year-clause-value : goal.returns-then-not-is_year-clause-value
returns-then-not-is_year-clause-value c = record {
  every = λ n h has. absurd (no_year c (replaceable _ c.args.self n h has).year);
  value = search rules;
  error = (λ e n h has. no_year c (replaceable _ c.args.self n h has).year, λ none. refl);
}

-- The ordinal that was found belongs to the only day with the month and the day of the month.
pub at_ordinal-requires-clause-ordinal : goal.at_ordinal-requires-clause-ordinal
at_ordinal-requires-clause-ordinal c =
    let same : to_z w32 (of_z w32 c.args.year) ≡ c.args.year = to_z-of_z w32 _ c.ranges.year in
    let some = rw same at c.in-Some.ensures in
    let year = rw same at (c.is_year.ensures.0 c.if-not-is_year.false) in
    let is = replacement c.args.year c.args.self c.in-Some.ordinal year (record { day = some.0; ordinal_is = some.1 }) in
    rw same is.ordinal

pub returns-clause-value : goal.returns-clause-value
returns-clause-value c =
    let same : to_z w32 (of_z w32 c.args.year) ≡ c.args.year = to_z-of_z w32 _ c.ranges.year in
    let some = rw same at c.in-Some.ensures in
    let year = rw same at (c.is_year.ensures.0 c.if-not-is_year.false) in
    let is = replacement c.args.year c.args.self c.in-Some.ordinal year (record { day = some.0; ordinal_is = some.1 }) in
    record {
      every = λ n h has. ap Ok ((rw same at c.at_ordinal.ensures.value) ∙ sym (is.only n h has));
      value = rw (c.at_ordinal.ensures.value, same) (is.in_range, is.has);
      error = (λ e. absurd (false≢true e), λ none. absurd (none _ is.in_range is.has));
    }

-- The month doesn't have the day in this year.
no_day : (c : After-conditional) → NoDate (HasCalendarDate c.args.year (month_at c.args.self) (day_of_month_at c.args.self))
no_day c = λ n h has.
    let same : to_z w32 (of_z w32 c.args.year) ≡ c.args.year = to_z-of_z w32 _ c.ranges.year in
    (rw same at c.in_default.ensures) (replaceable _ c.args.self n h has).day

pub returns-in_default-clause-value : goal.returns-in_default-clause-value
returns-in_default-clause-value c = record {
  every = λ n h has. absurd (no_day c n h has);
  value = search rules;
  error = (λ e. no_day c, λ none. refl);
}
