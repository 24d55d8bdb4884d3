use Rattle.std.proofs.Common.{◌∙◌, inl, inr, refl, sym}
use Rattle.cal_iso.proofs.ClockReads.{fraction_past}
use Rattle.cal_iso.proofs.fraction.scan_fraction.Goals as goal

pub returns-in-Some-clause-value : goal.returns-in-Some-clause-value
returns-in-Some-clause-value c = fraction_past 46 _ _ _ _ (inl refl) c.in-Some.ensures.value c.scan_decimals.ensures.value

pub returns-in-Some-byte-clause-value : goal.returns-in-Some-byte-clause-value
returns-in-Some-byte-clause-value c = fraction_past 44 _ _ _ _ (inr refl) (sym c.in-None.ensures.unchanged ∙ c.in-Some-byte.ensures.value) c.scan_decimals-in-Some-byte.ensures.value
