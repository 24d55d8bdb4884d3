use Rattle.std.proofs.Common.{[], ◌∷◌, pos, refl, sym, ◌∙◌}
use Rattle.cal_iso.proofs.DateReads.{put_calendar, put_ordinal, put_week}
use Rattle.cal_iso.proofs.date.form.scan_after_hyphen.Goals as goal

pub returns-in-Some-clause-value : goal.returns-in-Some-clause-value
returns-in-Some-clause-value c = put_week (45 ∷ []) (pos 0) _ _ _ _ _ _ c.in-Some.ensures.value c.in_ok-week.ensures.value c.in_ok-weekday.ensures.value

pub returns-in_ok-day-in-Some-byte-clause-value : goal.returns-in_ok-day-in-Some-byte-clause-value
returns-in_ok-day-in-Some-byte-clause-value c = put_calendar (pos 0) _ _ _ _ _ _ _ c.in_default.ensures.unchanged c.in_ok-front.ensures.value c.in-Some-byte.ensures.value c.in_ok-day-in-Some-byte.ensures.value

pub returns-in_ok-last-in-None-clause-value : goal.returns-in_ok-last-in-None-clause-value
returns-in_ok-last-in-None-clause-value c =
    let last = c.in_ok-last-in-None.ensures.value in
    put_ordinal (45 ∷ []) (pos 0) _ _ _ _ _ _ _ c.in_default.ensures.unchanged c.in_ok-front.ensures.value (last.0, sym c.in-None.ensures.unchanged ∙ last.1) refl
