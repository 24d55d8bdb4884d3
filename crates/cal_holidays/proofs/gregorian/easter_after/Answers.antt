use Rattle.std.proofs.Common.{pos, ap, ◌∙◌, arith, subst}
use Rattle.cal_date.proofs.Dates.{IsYear-i32}
use Rattle.cal_holidays.specs.Epacts.{full_moon, table_year}
use Rattle.cal_holidays.specs.Easter.{IsSundayAfter, counted_from}
use Rattle.cal_holidays.proofs.Sundays.{is_sunday, march-early}
use Rattle.cal_holidays.proofs.gregorian.easter_after.Goals as goal

pub to_date-requires : goal.to_date-requires
to_date-requires c =
    omega (arith, march-early c.args.year c.args.march c.requires.year c.day_number.ensures.in_range c.requires.march, c.full_moon.ensures.range, c.day_number.ensures.value)

pub returns-clause-value : goal.returns-clause-value
returns-clause-value c =
    let moon = c.full_moon.ensures.value ∙ ap full_moon c.table_year.ensures.value ∙ ap (λ y. full_moon (table_year y)) (IsYear-i32 c.args.year c.requires.year) in
    record {
      march = c.args.march;
      range = c.day_number.ensures.in_range;
      march_is = c.requires.march;
      sunday = subst (λ d. IsSundayAfter (counted_from (pos c.args.march) d) c.to_date.result) moon
          (is_sunday c.args.march c.full_moon.result c.to_date.result (omega (arith, c.full_moon.ensures.range)) (omega (arith, c.to_date.ensures, c.day_number.ensures.value)));
    }

pub returns-clause-range : goal.returns-clause-range
returns-clause-range c =
    omega (
      arith,
      march-early c.args.year c.args.march c.requires.year c.day_number.ensures.in_range c.requires.march,
      c.full_moon.ensures.range,
      c.day_number.ensures.value,
      c.to_date.ensures,
    )
