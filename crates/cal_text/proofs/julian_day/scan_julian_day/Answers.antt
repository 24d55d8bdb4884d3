use Rattle.std.proofs.Common.{◌∷◌, ◌∙◌, ap, lit<, sym}
use Rattle.cal_text.proofs.NumberShapes.{zero_text}
use Rattle.cal_text.proofs.julian_day.scan_julian_day.Goals as goal

pub returns-in_ok-end-in-Some-byte-clause-value : goal.returns-in_ok-end-in-Some-byte-clause-value
returns-in_ok-end-in-Some-byte-clause-value c = record {
  digits = lit< tt;
  bytes_are = c.in_ok-byte.ensures.value
      ∙ ap (λ r. 74 ∷ r) (sym c.in-None.ensures.unchanged ∙ c.in-Some-byte.ensures.value ∙ ap (λ r. 48 ∷ r) c.in_ok-end-in-Some-byte.ensures.value ∙ sym zero_text);
}
