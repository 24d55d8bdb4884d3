use Rattle.std.proofs.Common.{subst, inl, inr}
use Rattle.cal_text.specs.OffsetDateTimeForm.{IsSpacedOffset}
use Rattle.cal_text.proofs.offset_date_time.form.scan_spaced_offset.Goals as goal

pub returns-in_ok-offset-in-Some-clause-value : goal.returns-in_ok-offset-in-Some-clause-value
returns-in_ok-offset-in-Some-clause-value c = inr (c.byte.new.self.rest.now, c.in_ok-offset-in-Some.ensures.value, c.in-Some.ensures.value)

pub returns-in_ok-offset-in-None-clause-value : goal.returns-in_ok-offset-in-None-clause-value
returns-in_ok-offset-in-None-clause-value c =
    subst (λ bytes. IsSpacedOffset bytes c.in_ok-offset-in-None.offset) c.in-None.ensures.unchanged (inl c.in_ok-offset-in-None.ensures.value)
