use Rattle.std.proofs.Common.{◌≡◌, inl, inr, refl, ap, sym, ◌∙◌, Ok, to_z, of_z, w32}
use Rattle.std.proofs.lemmas.Int.{to_z-of_z}
use Rattle.std.proofs.lemmas.Bool.{false≢true}
use Rattle.cal_units.specs.declared.error.ComponentRange.{ComponentRange}
use Rattle.cal_date.specs.Date.{IsYear, IsOrdinal}
use Rattle.cal_date.specs.DateErrors.{year_out_of_range, ordinal_out_of_range}
use Rattle.cal_date.proofs.Dates.{in_range}
use Rattle.cal_date.proofs.date.Date.from_ordinal_date.Goals as goal
use Rattle.cal_date.proofs.date.Date.from_ordinal_date.Goals.{After-at_ordinal}

-- The two errors differ.
other-ordinal : year_out_of_range ≡ ordinal_out_of_range → ⊥
other-ordinal e = false≢true (ap (λ (why : ComponentRange). why.is_conditional) e)

no_year : (c : goal.After-unconditional) → ¬ IsYear c.args.year
no_year c year = let is = rw (to_z-of_z w32 _ c.ranges.year) at c.is_year.ensures in false≢true (sym c.if-not-is_year.true ∙ is.1 year)

pub returns-then-not-is_year-clause-every : goal.returns-then-not-is_year-clause-every
returns-then-not-is_year-clause-every c = λ n h has. absurd (no_year c (in_range n _ _ h has).year)

pub returns-then-not-is_year-clause-error : goal.returns-then-not-is_year-clause-error
returns-then-not-is_year-clause-error c = (λ e n h has. no_year c (in_range n _ _ h has).year, λ none. refl)

pub returns-then-not-is_year-clause-error_kind : goal.returns-then-not-is_year-clause-error_kind
returns-then-not-is_year-clause-error_kind c = inl c.unconditional.ensures

pub returns-then-not-is_year-clause-year : goal.returns-then-not-is_year-clause-year
returns-then-not-is_year-clause-year c = (λ e. no_year c, λ none. c.unconditional.ensures)

pub returns-then-not-is_year-clause-ordinal : goal.returns-then-not-is_year-clause-ordinal
returns-then-not-is_year-clause-ordinal c = (λ e. absurd (other-ordinal (sym c.unconditional.ensures ∙ e)), λ both. absurd (no_year c both.0))

is_year : (c : goal.After-conditional) → IsYear c.args.year
is_year c = rw (to_z-of_z w32 _ c.ranges.year) at (c.is_year.ensures.0 c.if-not-is_year.false)

no_ordinal : (c : goal.After-conditional) → ¬ IsOrdinal c.args.year c.args.ordinal
no_ordinal c ordinal = let is = rw (to_z-of_z w32 _ c.ranges.year) at c.has_ordinal.ensures in false≢true (sym c.if-not-has_ordinal.true ∙ is.1 ordinal)

pub returns-then-not-has_ordinal-clause-every : goal.returns-then-not-has_ordinal-clause-every
returns-then-not-has_ordinal-clause-every c = λ n h has. absurd (no_ordinal c (in_range n _ _ h has).ordinal)

pub returns-then-not-has_ordinal-clause-error : goal.returns-then-not-has_ordinal-clause-error
returns-then-not-has_ordinal-clause-error c = (λ e n h has. no_ordinal c (in_range n _ _ h has).ordinal, λ none. refl)

pub returns-then-not-has_ordinal-clause-error_kind : goal.returns-then-not-has_ordinal-clause-error_kind
returns-then-not-has_ordinal-clause-error_kind c = inr c.conditional.ensures

pub returns-then-not-has_ordinal-clause-year : goal.returns-then-not-has_ordinal-clause-year
returns-then-not-has_ordinal-clause-year c = (λ e. absurd (other-ordinal (sym e ∙ c.conditional.ensures)), λ none. absurd (none (is_year c)))

pub returns-then-not-has_ordinal-clause-ordinal : goal.returns-then-not-has_ordinal-clause-ordinal
returns-then-not-has_ordinal-clause-ordinal c = (λ e. (is_year c, no_ordinal c), λ both. c.conditional.ensures)

-- After both tests the year and the ordinal are in their ranges.
record Fits (c : After-at_ordinal) : Type 0 where
  year : IsYear c.args.year
  ordinal : IsOrdinal c.args.year c.args.ordinal

fits : (c : After-at_ordinal) → Fits c
fits c =
    let same : to_z w32 (of_z w32 c.args.year) ≡ c.args.year = to_z-of_z w32 _ c.ranges.year in
    record {
      year = rw same at (c.is_year.ensures.0 c.if-not-is_year.false);
      ordinal = rw same at (c.has_ordinal.ensures.0 c.if-not-has_ordinal.false);
    }

pub returns-clause-every : goal.returns-clause-every
returns-clause-every c = λ n h has. ap Ok ((rw (to_z-of_z w32 _ c.ranges.year) at c.at_ordinal.ensures.value) ∙ sym (in_range n _ _ h has).number_is)

pub returns-clause-value : goal.returns-clause-value
returns-clause-value c = (c.at_ordinal.ensures.range, rw (to_z-of_z w32 _ c.ranges.year) at c.at_ordinal.ensures.date)

pub returns-clause-error : goal.returns-clause-error
returns-clause-error c =
    (λ e. absurd (false≢true e), λ none. absurd (none _ c.at_ordinal.ensures.range (rw (to_z-of_z w32 _ c.ranges.year) at c.at_ordinal.ensures.date)))

pub returns-clause-year : goal.returns-clause-year
returns-clause-year c = let f = fits c in (λ e. absurd e, λ none. absurd (none f.year))

pub returns-clause-ordinal : goal.returns-clause-ordinal
returns-clause-ordinal c = let f = fits c in (λ e. absurd e, λ both. absurd (both.1 f.ordinal))
