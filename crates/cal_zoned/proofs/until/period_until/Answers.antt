use Rattle.std.proofs.Common.{◌≡◌, ◌∙◌, ap, sym, subst, ℕ, ◌-ℤ◌}
use Rattle.cal_datetime.specs.DateTime.{date_at, with_date}
use Rattle.cal_schedule.specs.Units.{IsUntilBy}
use Rattle.cal_zoned.specs.Until.{IsPeriodUntil}
use Rattle.cal_zoned.proofs.PeriodsUntil.{is_rest, no_clock_part, rest_sign}
use Rattle.cal_zoned.proofs.until.period_until.Goals as goal

pub unreachable-requires : goal.unreachable-requires
unreachable-requires c =
    let date = c.last_whole_day-date.result in
    let counted = subst (λ (n : ℕ). IsUntilBy c.args.largest n date c.period_until_by.result) c.date.ensures.value c.period_until_by.ensures in
    let rest : c.sub-rest.result ≡ c.args.to -ℤ with_date c.args.from date = c.sub-rest.ensures.0 ∙ ap (λ x. c.args.to -ℤ x) c.replace_date.ensures.value in
    c.in-None.ensures (rest_sign c.args.largest c.args.from c.args.to date c.period_until_by.result c.sub-rest.result c.last_whole_day-date.ensures counted rest)

pub returns-clause-value : goal.returns-clause-value
returns-clause-value c =
    let date = c.last_whole_day-date.result in
    let p = c.period_until_by.result in
    let counted = subst (λ (n : ℕ). IsUntilBy c.args.largest n date p) c.date.ensures.value c.period_until_by.ensures in
    let rest : c.sub-rest.result ≡ c.args.to -ℤ with_date c.args.from date = c.sub-rest.ensures.0 ∙ ap (λ x. c.args.to -ℤ x) c.replace_date.ensures.value in
    subst (IsPeriodUntil c.args.largest c.args.from c.args.to) (sym c.in-Some.ensures.1) (record {
      whole = date;
      last = c.last_whole_day-date.ensures;
      counted = subst (IsUntilBy c.args.largest (date_at c.args.from) date) (no_clock_part p c.period_until_by.ensures.no_clock) counted;
      exact = is_rest c.args.from c.args.to c.sub-rest.result date rest;
      one_sign = c.in-Some.ensures.0;
    })

pub returns-clause-adds : goal.returns-clause-adds
returns-clause-adds c =
    let h = returns-clause-value c in
    record { day = h.whole; in_range = h.last.in_range; moved = h.counted.leads; exact = h.exact }
