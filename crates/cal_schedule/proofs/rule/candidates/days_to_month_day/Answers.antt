use Rattle.std.proofs.Common.{◌≡◌, ◌+◌, ◌-◌, ◌∙◌, sym, ap, arith}
use Rattle.std.specs.List.{list_any}
use Rattle.cal_time.specs.Date.{day_of_month_at, month_at, year_at}
use Rattle.cal_time.specs.Lengths.{days_in_month}
use Rattle.cal_schedule.specs.Rule.{is_nth}
use Rattle.cal_schedule.proofs.Candidates.{month_further}
use Rattle.cal_schedule.proofs.rule.candidates.days_to_month_day.Goals as goal

pub loop-days-preserved : goal.loop-days-preserved
loop-days-preserved c =
    let day = c.args.day in
    let days = c.loop-days.days in
    let back = c.month_length-length.result + 1 - c.from-at.result - days in
    let at : c.from-at.result ≡ day_of_month_at day = c.from-at.ensures ∙ c.day.ensures.value in
    let length : c.month_length-length.result ≡ days_in_month (year_at day) (month_at day) = c.month_length-length.ensures.value in
    record {
      some = omega arith;
      within = omega (arith, c.loop-days-test.true, at, length);
      none = month_further day days back c.args.numbers.now c.day.ensures.in_range (omega (arith, c.loop-days-test.true, at, length)) (omega (arith, at, length))
          (ap (λ a. list_any (λ k. is_nth k (a + days) back) c.args.numbers.now) (sym at) ∙ sym c.any_month_day.ensures ∙ c.if-any_month_day.false) c.loop-days.invariant.none;
    }
