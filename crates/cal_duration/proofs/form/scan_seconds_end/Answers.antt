use Rattle.std.proofs.Common.{◌∙◌, inl, inr, refl, sym}
use Rattle.cal_duration.proofs.PartsReads.{fraction_end, no_fraction}
use Rattle.cal_duration.proofs.form.scan_seconds_end.Goals as goal

pub returns-in-Some-clause-value : goal.returns-in-Some-clause-value
returns-in-Some-clause-value c = fraction_end 46 _ _ _ _ (inl refl) c.in-Some.ensures.value c.scan_decimals.ensures.value

pub returns-in-Some-byte-clause-value : goal.returns-in-Some-byte-clause-value
returns-in-Some-byte-clause-value c = fraction_end 44 _ _ _ _ (inr refl) (sym c.in-None.ensures.unchanged ∙ c.in-Some-byte.ensures.value) c.scan_decimals-in-Some-byte.ensures.value

pub returns-in_ok-byte-in-None-byte-clause-value : goal.returns-in_ok-byte-in-None-byte-clause-value
returns-in_ok-byte-in-None-byte-clause-value c = no_fraction _ _ (sym c.in-None.ensures.unchanged ∙ sym c.in-None-byte.ensures.unchanged ∙ c.in_ok-byte-in-None-byte.ensures.value)
