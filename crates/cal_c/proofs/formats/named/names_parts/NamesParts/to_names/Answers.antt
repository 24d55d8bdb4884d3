use Rattle.std.proofs.Common.{refl}
use Rattle.cal_c.proofs.formats.named.names_parts.NamesParts.to_names.Goals as goal

pub returns : goal.returns
returns c = (
  record {
    months = c.if-not-convert.ensures.value refl;
    months_alone = c.if-not-convert-2.ensures.value refl;
    short_months = c.if-not-convert-3.ensures.value refl;
    weekdays = c.if-not-convert-4.ensures.value refl;
    short_weekdays = c.if-not-convert-5.ensures.value refl;
    periods = c.if-not-convert-6.ensures.value refl;
    lower_periods = c.if-not-convert-7.ensures.value refl;
  },
  record {
    months = c.if-not-convert.ensures.names.0 refl;
    months_alone = c.if-not-convert-2.ensures.names.0 refl;
    short_months = c.if-not-convert-3.ensures.names.0 refl;
    weekdays = c.if-not-convert-4.ensures.names.0 refl;
    short_weekdays = c.if-not-convert-5.ensures.names.0 refl;
    periods = c.if-not-convert-6.ensures.names.0 refl;
    lower_periods = c.if-not-convert-7.ensures.names.0 refl;
  },
)
