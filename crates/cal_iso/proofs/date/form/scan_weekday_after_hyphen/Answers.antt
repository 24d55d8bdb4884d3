use Rattle.std.proofs.Common.{[], ◌∷◌}
use Rattle.cal_iso.proofs.DateReads.{put_weekday}
use Rattle.cal_iso.proofs.date.form.scan_weekday_after_hyphen.Goals as goal

pub returns-in_ok-weekday-in-Some-clause-value : goal.returns-in_ok-weekday-in-Some-clause-value
returns-in_ok-weekday-in-Some-clause-value c = put_weekday (45 ∷ []) _ _ _ _ c.in-Some.ensures.value c.in_ok-weekday-in-Some.ensures.value
