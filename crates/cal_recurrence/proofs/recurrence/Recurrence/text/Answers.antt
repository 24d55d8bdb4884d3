use Rattle.std.proofs.Common.{ap, arith, length, rules}
use Rattle.cal_recurrence.proofs.ReadParts.{reads_back}
use Rattle.cal_recurrence.proofs.recurrence.Recurrence.text.Goals as goal

pub returns-clause-reads_back : goal.returns-clause-reads_back
returns-clause-reads_back c =
    reads_back c.args.self.now c.push_week_start.new.text (search rules) (record {
      months = omega (arith, c.as_slice.ensures.few, ap length c.as_slice.ensures.values);
      weeks = omega (arith, c.as_slice-2.ensures.few, ap length c.as_slice-2.ensures.values);
      year_days = omega (arith, c.as_slice-3.ensures.few, ap length c.as_slice-3.ensures.values);
      month_days = omega (arith, c.as_slice-4.ensures.few, ap length c.as_slice-4.ensures.values);
      weekdays = omega (arith, c.as_slice-5.ensures.few, ap length c.as_slice-5.ensures.values);
      hours = omega (arith, c.as_slice-6.ensures.few, ap length c.as_slice-6.ensures.values);
      minutes = omega (arith, c.as_slice-7.ensures.few, ap length c.as_slice-7.ensures.values);
      seconds = omega (arith, c.as_slice-8.ensures.few, ap length c.as_slice-8.ensures.values);
      set_positions = omega (arith, c.as_slice-9.ensures.few, ap length c.as_slice-9.ensures.values);
    })
