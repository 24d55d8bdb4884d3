use Rattle.std.proofs.Common.{subst}
use Rattle.cal_schedule.specs.declared.rule.rule.Rule.{Rule}
use Rattle.cal_c.specs.RecurrenceCursors.{IsPage}
use Rattle.cal_c.proofs.schedule.recurrences.pages.write_days_page.Goals as goal

pub returns : goal.returns
returns c =
    let page : IsPage c.rule.result c.args.from c.args.cursor.now c.from_days.result c.args.days.now c.write_page-length.new.days c.write_page-length.result = record {
      counted = c.days-counted.result;
      is_counted = c.days-counted.ensures;
      written = c.write_page-length.ensures.written;
      rest = c.write_page-length.new.cursor;
      is_rest = c.from_days.ensures;
      others = c.write_page-length.ensures.others;
    } in
    subst (λ (rule : Rule). IsPage rule c.args.from c.args.cursor.now c.from_days.result c.args.days.now c.write_page-length.new.days c.write_page-length.result) c.rule.ensures page
