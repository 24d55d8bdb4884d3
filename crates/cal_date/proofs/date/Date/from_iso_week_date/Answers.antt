use Rattle.std.proofs.Common.{inl, inr, ap, sym, ◌∙◌, arith, refl, Ok, ◌≡◌, ◌+◌, ◌<◌, ℕ, ℤ, to_z, of_z, w32, FitsSigned, rules}
use Rattle.std.proofs.lemmas.Int.{ints, to_z-of_z}
use Rattle.std.proofs.lemmas.Bool.{false≢true}
use Rattle.cal_units.specs.Weekday.{index}
use Rattle.cal_units.specs.WeekdayCycle.{index-below}
use Rattle.cal_date.specs.Date.{IsYear, IsOrdinal, NoDate}
use Rattle.cal_units.specs.ComponentError.{conditional}
use Rattle.cal_units.specs.declared.error.Component.{Component}
use Rattle.cal_units.specs.declared.error.ComponentRange.{ComponentRange}
use Rattle.cal_date.specs.DateErrors.{year_out_of_range, week_out_of_range, weekday_out_of_range}
use Rattle.cal_date.specs.IsoWeekDate.{IsWeek, HasIsoWeekDate}
use Rattle.cal_date.specs.ClosedForms.{IsDayByClosedForm, year_of_week, ordinal_of_week}
use Rattle.cal_units.specs.declared.weekday.Weekday.{Weekday}
use Rattle.cal_date.proofs.Dates.{IsYear-i32}
use Rattle.cal_date.proofs.IsoWeeks.{in_weeks}
use Rattle.cal_date.proofs.IsoForms.{day_of_week, week_date_of_day, NoDate-week_date}
use Rattle.cal_date.proofs.date.Date.from_iso_week_date.Goals as goal

-- The three errors differ.
year-not-conditional : (component : Component) → year_out_of_range ≡ conditional component → ⊥
year-not-conditional component e = false≢true (ap (λ (why : ComponentRange). why.is_conditional) e)

week-not-weekday : week_out_of_range ≡ weekday_out_of_range → ⊥
week-not-weekday e = let d = ap (λ (why : ComponentRange). why.component) e in cc

no_year : (c : goal.After-unconditional) → ¬ IsYear c.args.year
no_year c year = let is = rw (to_z-of_z w32 _ c.ranges.year) at c.is_year.ensures in false≢true (sym c.if-not-is_year.true ∙ is.1 year)

pub returns-then-not-is_year-clause-every : goal.returns-then-not-is_year-clause-every
returns-then-not-is_year-clause-every c = λ n h has. absurd (no_year c (in_weeks n _ _ _ h has).year)

pub returns-then-not-is_year-clause-error : goal.returns-then-not-is_year-clause-error
returns-then-not-is_year-clause-error c = (λ e n h has. no_year c (in_weeks n _ _ _ h has).year, λ none. refl)

pub returns-then-not-is_year-clause-error_kind : goal.returns-then-not-is_year-clause-error_kind
returns-then-not-is_year-clause-error_kind c = inl c.unconditional.ensures

pub returns-then-not-is_year-clause-year : goal.returns-then-not-is_year-clause-year
returns-then-not-is_year-clause-year c = (λ e. no_year c, λ none. c.unconditional.ensures)

pub returns-then-not-is_year-clause-week : goal.returns-then-not-is_year-clause-week
returns-then-not-is_year-clause-week c = (λ e. absurd (year-not-conditional _ (sym c.unconditional.ensures ∙ e)), λ both. absurd (no_year c both.0))

pub returns-then-not-is_year-clause-weekday : goal.returns-then-not-is_year-clause-weekday
returns-then-not-is_year-clause-weekday c = (λ e. absurd (year-not-conditional _ (sym c.unconditional.ensures ∙ e)), λ all. absurd (no_year c all.0))

no_week : (c : goal.After-conditional) → ¬ IsWeek c.args.year c.args.week
no_week c week =
    let same : to_z w32 (of_z w32 c.args.year) ≡ c.args.year = to_z-of_z w32 _ c.ranges.year in
    let tested = rw (same, c.if-not-has_week.true) at c.has_week.ensures in
    false≢true (tested.1 week)

pub returns-then-not-has_week-clause-every : goal.returns-then-not-has_week-clause-every
returns-then-not-has_week-clause-every c = λ n h has. absurd (no_week c (in_weeks n _ _ _ h has).week)

pub returns-then-not-has_week-clause-error : goal.returns-then-not-has_week-clause-error
returns-then-not-has_week-clause-error c = (λ e n h has. no_week c (in_weeks n _ _ _ h has).week, λ none. refl)

is_year : (c : goal.After-conditional) → IsYear c.args.year
is_year c = rw (to_z-of_z w32 _ c.ranges.year) at (c.is_year.ensures.0 c.if-not-is_year.false)

pub returns-then-not-has_week-clause-error_kind : goal.returns-then-not-has_week-clause-error_kind
returns-then-not-has_week-clause-error_kind c = inr (inl c.conditional.ensures)

pub returns-then-not-has_week-clause-year : goal.returns-then-not-has_week-clause-year
returns-then-not-has_week-clause-year c = (λ e. absurd (year-not-conditional _ (sym e ∙ c.conditional.ensures)), λ none. absurd (none (is_year c)))

pub returns-then-not-has_week-clause-week : goal.returns-then-not-has_week-clause-week
returns-then-not-has_week-clause-week c = (λ e. (is_year c, no_week c), λ both. c.conditional.ensures)

pub returns-then-not-has_week-clause-weekday : goal.returns-then-not-has_week-clause-weekday
returns-then-not-has_week-clause-weekday c = (λ e. absurd (week-not-weekday (sym c.conditional.ensures ∙ e)), λ all. absurd (no_week c all.1))

-- After both tests the year and the week are in their ranges. z and o are the year and the ordinal
-- of the closed forms.
record Fits (y : ℤ) (w p : ℕ) (z : ℤ) (o : ℕ) : Type 0 where
  year : IsYear y
  week : IsWeek y w
  below : p < 7
  year_is : z ≡ year_of_week y w (p + 1)
  ordinal_is : o ≡ ordinal_of_week y w (p + 1)

fits : (y : ℤ) (w : ℕ) (weekday : Weekday) (z : ℤ) (o : ℕ) → IsYear y → IsWeek (to_z w32 (of_z w32 y)) w
    → z ≡ year_of_week (to_z w32 (of_z w32 y)) w (index weekday + 1) → o ≡ ordinal_of_week (to_z w32 (of_z w32 y)) w (index weekday + 1) → Fits y w (index weekday) z o
fits y w weekday z o year week year_is ordinal_is =
    let same = IsYear-i32 y year in
    record {
      year = year;
      week = rw same at week;
      below = index-below weekday;
      year_is = rw same at year_is;
      ordinal_is = rw same at ordinal_is;
    }

-- If the year of the day is after the last year, no day has the ISO week date.
after : (c : goal.After-conditional-then-calendar_year-gt-MAX_YEAR) → Fits c.args.year c.args.week (index c.args.weekday) c.ordinal_date_from_week-calendar_year.result.0 c.ordinal_date_from_week-calendar_year.result.1
after c =
    let found = c.ordinal_date_from_week-calendar_year.ensures in
    fits c.args.year c.args.week c.args.weekday _ _ (rw (to_z-of_z w32 _ c.ranges.year) at (c.is_year.ensures.0 c.if-not-is_year.false)) (c.has_week.ensures.0 c.if-not-has_week.false) found.year found.ordinal

no_day : (c : goal.After-conditional-then-calendar_year-gt-MAX_YEAR) → NoDate (HasIsoWeekDate c.args.year c.args.week (index c.args.weekday))
no_day c =
    let f = after c in
    let small : FitsSigned w32 c.ordinal_date_from_week-calendar_year.result.0 = search rules in
    NoDate-week_date c.args.year c.args.week (index c.args.weekday) f.year f.week f.below (let is = f.year_is in omega (arith, ints))

pub returns-then-calendar_year-gt-MAX_YEAR-clause-every : goal.returns-then-calendar_year-gt-MAX_YEAR-clause-every
returns-then-calendar_year-gt-MAX_YEAR-clause-every c = λ n h has. absurd (no_day c n h has)

pub returns-then-calendar_year-gt-MAX_YEAR-clause-error : goal.returns-then-calendar_year-gt-MAX_YEAR-clause-error
returns-then-calendar_year-gt-MAX_YEAR-clause-error c = (λ e. no_day c, λ none. refl)

pub returns-then-calendar_year-gt-MAX_YEAR-clause-weekday : goal.returns-then-calendar_year-gt-MAX_YEAR-clause-weekday
returns-then-calendar_year-gt-MAX_YEAR-clause-weekday c =
    let f = after c in
    (λ e. (f.year, f.week, no_day c), λ all. c.conditional-then-calendar_year-gt-MAX_YEAR.ensures)

pub returns-then-calendar_year-gt-MAX_YEAR-clause-error_kind : goal.returns-then-calendar_year-gt-MAX_YEAR-clause-error_kind
returns-then-calendar_year-gt-MAX_YEAR-clause-error_kind c = inr (inr c.conditional-then-calendar_year-gt-MAX_YEAR.ensures)

pub returns-then-calendar_year-gt-MAX_YEAR-clause-year : goal.returns-then-calendar_year-gt-MAX_YEAR-clause-year
returns-then-calendar_year-gt-MAX_YEAR-clause-year c =
    let f = after c in
    (λ e. absurd (year-not-conditional _ (sym e ∙ c.conditional-then-calendar_year-gt-MAX_YEAR.ensures)), λ none. absurd (none f.year))

pub returns-then-calendar_year-gt-MAX_YEAR-clause-week : goal.returns-then-calendar_year-gt-MAX_YEAR-clause-week
returns-then-calendar_year-gt-MAX_YEAR-clause-week c =
    let f = after c in
    (λ e. absurd (week-not-weekday (sym e ∙ c.conditional-then-calendar_year-gt-MAX_YEAR.ensures)), λ both. absurd (both.1 f.week))

-- Else the day with this year and ordinal has it.
record Found (c : goal.Else-calendar_year-gt-MAX_YEAR) : Type 0 where
  same : to_z w32 (of_z w32 c.ordinal_date_from_week-calendar_year.result.0) ≡ c.ordinal_date_from_week-calendar_year.result.0
  year : IsYear c.ordinal_date_from_week-calendar_year.result.0
  ordinal : IsOrdinal c.ordinal_date_from_week-calendar_year.result.0 c.ordinal_date_from_week-calendar_year.result.1

found : (c : goal.Else-calendar_year-gt-MAX_YEAR) → Found c
found c =
    let made = c.ordinal_date_from_week-calendar_year.ensures in
    let f = fits c.args.year c.args.week c.args.weekday _ _ (rw (to_z-of_z w32 _ c.ranges.year) at (c.is_year.ensures.0 c.if-not-is_year.false)) (c.has_week.ensures.0 c.if-not-has_week.false) made.year made.ordinal in
    let small : FitsSigned w32 c.ordinal_date_from_week-calendar_year.result.0 = search rules in
    let is = day_of_week c.args.year c.args.week (index c.args.weekday) f.year.0 f.week f.below in
    let late = is.late in
    let year = f.year_is in
    record {
      same = to_z-of_z w32 _ small;
      year = (omega (arith, ints), omega (arith, ints));
      ordinal = rw (f.year_is, f.ordinal_is) is.ordinal;
    }

pub at_ordinal-requires-clause-year : goal.at_ordinal-requires-clause-year
at_ordinal-requires-clause-year c = let f = found c in rw f.same f.year

pub at_ordinal-requires-clause-ordinal : goal.at_ordinal-requires-clause-ordinal
at_ordinal-requires-clause-ordinal c = let f = found c in rw f.same f.ordinal

pub returns-clause-closed_form : goal.returns-clause-closed_form
unfolding IsDayByClosedForm
returns-clause-closed_form c =
    let made = c.ordinal_date_from_week-calendar_year.ensures in
    let f = fits c.args.year c.args.week c.args.weekday _ _ (rw (to_z-of_z w32 _ c.ranges.year) at (c.is_year.ensures.0 c.if-not-is_year.false)) (c.has_week.ensures.0 c.if-not-has_week.false) made.year made.ordinal in
    let small : FitsSigned w32 c.ordinal_date_from_week-calendar_year.result.0 = search rules in
    rw (to_z-of_z w32 _ small, f.year_is, f.ordinal_is) at c.at_ordinal.ensures.date

pub returns-clause-value : goal.returns-clause-value
unfolding IsDayByClosedForm
returns-clause-value c =
    let made = c.ordinal_date_from_week-calendar_year.ensures in
    let f = fits c.args.year c.args.week c.args.weekday _ _ (rw (to_z-of_z w32 _ c.ranges.year) at (c.is_year.ensures.0 c.if-not-is_year.false)) (c.has_week.ensures.0 c.if-not-has_week.false) made.year made.ordinal in
    (c.at_ordinal.ensures.range, week_date_of_day c.args.year c.args.week (index c.args.weekday) _ f.year f.week f.below (returns-clause-closed_form c))

pub returns-clause-every : goal.returns-clause-every
returns-clause-every c = λ n h has.
    let here = returns-clause-value c in
    ap Ok (omega (arith, (in_weeks _ _ _ _ here.0 here.1).number_is, (in_weeks n _ _ _ h has).number_is))

pub returns-clause-error : goal.returns-clause-error
returns-clause-error c = let here = returns-clause-value c in (λ e. absurd (false≢true e), λ none. absurd (none _ here.0 here.1))

pub returns-clause-weekday : goal.returns-clause-weekday
returns-clause-weekday c = let here = returns-clause-value c in (λ e. absurd e, λ all. all.2 _ here.0 here.1)

pub returns-clause-year : goal.returns-clause-year
returns-clause-year c =
    let year = rw (to_z-of_z w32 _ c.ranges.year) at (c.is_year.ensures.0 c.if-not-is_year.false) in
    (λ e. absurd e, λ none. absurd (none year))

pub returns-clause-week : goal.returns-clause-week
returns-clause-week c =
    let week = rw (to_z-of_z w32 _ c.ranges.year) at (c.has_week.ensures.0 c.if-not-has_week.false) in
    (λ e. absurd e, λ both. absurd (both.1 week))
