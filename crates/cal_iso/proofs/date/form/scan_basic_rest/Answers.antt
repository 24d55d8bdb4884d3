use Rattle.std.proofs.Common.{[], pos, refl}
use Rattle.cal_iso.proofs.DateReads.{no_weekday, put_basic, put_ordinal, put_week, put_weekday}
use Rattle.cal_iso.proofs.date.form.scan_basic_rest.Goals as goal

pub returns-in-Some-byte_from-clause-value : goal.returns-in-Some-byte_from-clause-value
returns-in-Some-byte_from-clause-value c = put_week [] (pos 0) _ _ _ _ _ _ c.in-Some.ensures.value c.in_ok-week.ensures.value (put_weekday [] _ _ _ _ refl c.in-Some-byte_from.ensures.value)

pub returns-in-None-clause-value : goal.returns-in-None-clause-value
returns-in-None-clause-value c = put_week [] (pos 0) _ _ _ _ _ _ c.in-Some.ensures.value c.in_ok-week.ensures.value (no_weekday [] _ _ c.in-None.ensures.unchanged)

pub returns-in-Some-digit-clause-value : goal.returns-in-Some-digit-clause-value
returns-in-Some-digit-clause-value c = put_basic (pos 0) _ _ _ _ _ _ _ _ c.in_default.ensures.unchanged c.in_ok-front.ensures.value c.in_ok-third.ensures.value c.in-Some-digit.ensures.value

pub returns-in-None-digit-clause-value : goal.returns-in-None-digit-clause-value
returns-in-None-digit-clause-value c = put_ordinal [] (pos 0) _ _ _ _ _ _ _ c.in_default.ensures.unchanged c.in_ok-front.ensures.value c.in_ok-third.ensures.value c.in-None-digit.ensures.unchanged
