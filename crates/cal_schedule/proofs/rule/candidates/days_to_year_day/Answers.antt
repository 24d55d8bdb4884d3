use Rattle.std.proofs.Common.{◌≡◌, ◌+◌, ◌-◌, ◌∙◌, sym, ap, arith}
use Rattle.std.specs.List.{list_any}
use Rattle.cal_time.specs.Date.{ordinal_at, year_at}
use Rattle.cal_time.specs.Lengths.{days_in_year}
use Rattle.cal_schedule.specs.Rule.{is_nth}
use Rattle.cal_schedule.proofs.Candidates.{year_further}
use Rattle.cal_schedule.proofs.rule.candidates.days_to_year_day.Goals as goal

pub loop-days-preserved : goal.loop-days-preserved
loop-days-preserved c =
    let day = c.args.day in
    let days = c.loop-days.days in
    let back = c.year_length-length.result + 1 - c.from-at.result - days in
    let at : c.from-at.result ≡ ordinal_at day = c.from-at.ensures ∙ c.ordinal.ensures.value in
    let length : c.year_length-length.result ≡ days_in_year (year_at day) = c.year_length-length.ensures in
    record {
      some = omega arith;
      within = omega (arith, c.loop-days-test.true, at, length);
      none = year_further day days back c.args.numbers.now c.ordinal.ensures.in_range (omega (arith, c.loop-days-test.true, at, length)) (omega (arith, at, length))
          (ap (λ a. list_any (λ k. is_nth k (a + days) back) c.args.numbers.now) (sym at) ∙ sym c.any_position.ensures ∙ c.if-any_position.false) c.loop-days.invariant.none;
    }
