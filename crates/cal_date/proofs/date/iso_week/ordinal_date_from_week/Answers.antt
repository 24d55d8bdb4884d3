use Rattle.std.proofs.Common.{◌≡◌, ◌+◌, ◌-◌, ◌*◌, ◌≤◌, ◌∙◌, sym, ap, arith, pos, ◌-ℤ◌, to_z, of_z, w32}
use Rattle.std.proofs.lemmas.Int.{ints, to_z-of_z}
use Rattle.std.proofs.lemmas.Bool.Decides.{nat_tests}
use Rattle.cal_units.specs.Lengths.{days_in_year}
use Rattle.cal_units.specs.Weekday.{index}
use Rattle.cal_date.specs.ClosedForms.{january_4_weekday}
use Rattle.cal_date.proofs.IsoForms.{back-before, back-after, back-same}
use Rattle.cal_date.proofs.date.iso_week.ordinal_date_from_week.Goals as goal
use Rattle.cal_date.proofs.date.iso_week.ordinal_date_from_week.Goals.{After-from-3, else-ordinal-gt365-via-then-ordinal-gt365+else-ordinal-days_in_year, else-ordinal-gt365-via-else-ordinal-gt365}

-- The days that the code subtracts, and the days from which it subtracts them.
record Computed (c : After-from-3) : Type 0 where
  same : to_z w32 (of_z w32 c.args.year) ≡ c.args.year
  taken : c.from.result + 1 + 3 ≡ january_4_weekday c.args.year + 3
  days : 7 * c.from-2.result + c.from-3.result ≡ 7 * c.args.week + (index c.args.weekday + 1)

computed : (c : After-from-3) → Computed c
computed c =
    let same : to_z w32 (of_z w32 c.args.year) ≡ c.args.year = to_z-of_z w32 _ c.ranges.year in
    record {
      same = same;
      taken = ap (λ k. k + 1 + 3) (c.from.ensures ∙ c.weekday_index.ensures c.args.year c.requires.year (omega (arith, ints, c.requires.year.0, c.requires.year.1)));
      days = λ i. 7 * c.from-2.ensures i + (c.from-3.ensures ∙ c.number_from_monday.ensures) i;
    }

pub returns-then-days-taken-clause-year : goal.returns-then-days-taken-clause-year
returns-then-days-taken-clause-year c =
    let is = computed c.before.before in
    let back = back-before c.args.year c.args.week (index c.args.weekday + 1) (omega (arith, is.taken, is.days, c.if-days-taken.true)) in
    (omega (arith, ints, c.requires.year.0, c.requires.year.1)) ∙ sym back.year_is

pub returns-then-days-taken-clause-ordinal : goal.returns-then-days-taken-clause-ordinal
returns-then-days-taken-clause-ordinal c =
    let is = computed c.before.before in
    let back = back-before c.args.year c.args.week (index c.args.weekday + 1) (omega (arith, is.taken, is.days, c.if-days-taken.true)) in
    let before : to_z w32 (of_z w32 (to_z w32 (of_z w32 c.args.year) -ℤ pos 1)) ≡ c.args.year -ℤ pos 1 = omega (arith, ints, c.requires.year.0, c.requires.year.1) in
    let length = rw before at c.days_in_year.ensures.value in
    (λ i. length i + is.days i - is.taken i) ∙ sym back.ordinal_is

pub returns-then-ordinal-days_in_year-clause-ordinal : goal.returns-then-ordinal-days_in_year-clause-ordinal
returns-then-ordinal-days_in_year-clause-ordinal c =
    let is = computed c.before.before.before.before.before in
    let length = rw is.same at c.days_in_year-then-ordinal-gt365.ensures.value in
    let taken = rw is.same at c.days_in_year-then-ordinal-days_in_year.ensures.value in
    let back = back-after c.args.year c.args.week (index c.args.weekday + 1) (omega (arith, is.taken, is.days, length, c.if-ordinal-days_in_year.true)) in
    (λ i. is.days i - is.taken i - taken i) ∙ sym back.ordinal_is

pub returns-clause-ordinal : goal.returns-clause-ordinal
returns-clause-ordinal c =
    let is = computed c.before.before in
    let long : 365 ≤ days_in_year c.args.year = grind (arith, nat_tests) in
    let within : 7 * c.args.week + (index c.args.weekday + 1) ≤ january_4_weekday c.args.year + 3 + days_in_year c.args.year = elim c.else-ordinal-gt365.branch [
      | else-ordinal-gt365-via-then-ordinal-gt365+else-ordinal-days_in_year w ↦
          let length = rw is.same at w.days_in_year-then-ordinal-gt365.ensures.value in
          omega (arith, is.taken, is.days, length, w.if-ordinal-days_in_year.false)
      | else-ordinal-gt365-via-else-ordinal-gt365 w ↦ omega (arith, is.taken, is.days, long, w.if-ordinal-gt365.false)
    ] in
    let back = back-same c.args.year c.args.week (index c.args.weekday + 1) (omega (arith, is.taken, is.days, c.if-days-taken.false)) within in
    (λ i. is.days i - is.taken i) ∙ sym back.ordinal_is
