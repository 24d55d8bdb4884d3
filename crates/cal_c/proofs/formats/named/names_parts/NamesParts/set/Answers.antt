use Rattle.std.proofs.Common.{subst, sym}
use Rattle.std.specs.Prelude.{All}
use Rattle.cal_c.specs.NamedFormats.{IsName}
use Rattle.cal_c.proofs.formats.named.names_parts.NamesParts.set.Goals as goal

pub returns-clause-names : goal.returns-clause-names
returns-clause-names c short = record {
  months = subst (All IsName) (sym c.write_bytes.ensures.same) (c.write_bytes.ensures.names short.months);
  months_alone = subst (All IsName) (sym c.write_bytes-2.ensures.same) (c.write_bytes-2.ensures.names short.months_alone);
  short_months = subst (All IsName) (sym c.write_bytes-3.ensures.same) (c.write_bytes-3.ensures.names short.short_months);
  weekdays = subst (All IsName) (sym c.write_bytes-4.ensures.same) (c.write_bytes-4.ensures.names short.weekdays);
  short_weekdays = subst (All IsName) (sym c.write_bytes-5.ensures.same) (c.write_bytes-5.ensures.names short.short_weekdays);
  periods = subst (All IsName) (sym c.write_bytes-6.ensures.same) (c.write_bytes-6.ensures.names short.periods);
  lower_periods = subst (All IsName) (sym c.write_bytes-7.ensures.same) (c.write_bytes-7.ensures.names short.lower_periods);
}
