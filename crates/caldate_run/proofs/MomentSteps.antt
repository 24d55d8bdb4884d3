-- The moments of steps by the clocks of a zone, one after another.
use Rattle.std.proofs.Common.{◌≡◌, ◌∙◌, ℕ, ◌+◌, ◌*◌, ◌<◌, ◌≤◌, ℤ, Bool, true, Option, None, Some, Result, Ok, Err, List, [], ◌∷◌, ap, arith, pos, refl, subst, sym}
use Rattle.std.specs.Prelude.{◌<ℤ◌, IsOk}
use Rattle.std.specs.List.{flat_map}
use Rattle.std.proofs.lemmas.Bool.{false≢true}
use Rattle.std.proofs.lemmas.Int.{ints}
use Rattle.cal_time.specs.Date.{IsDate}
use Rattle.cal_time.specs.SignedDuration.{day, whole_days}
use Rattle.cal_datetime.specs.DateTime.{date_at}
use Rattle.cal_datetime.specs.DateTimeLaws.{IsDate-date_at}
use Rattle.cal_datetime.specs.OffsetDateTime.{LocalAndOffset, instant}
use Rattle.cal_schedule.specs.Workdays.{WorkWeek}
use Rattle.cal_zone.specs.Timeline.{Timeline}
use Rattle.cal_zone.specs.declared.local_time_error.LocalTimeError.{LocalTimeError}
use Rattle.cal_zone.specs.declared.policy.Policy.{Policy}
use Rattle.cal_zoned.specs.Zoned.{InZone, IsSeen, reading_at}
use Rattle.cal_zoned.proofs.OneResult.{seen-is}
use Rattle.caldate_lines.specs.declared.run_error.RunError.{RunError}
use Rattle.caldate_answers.specs.ClockMoves.{IsMovedFrom, IsMovedOn, moment_in}
use Rattle.caldate_answers.specs.Moves.{monday_to_friday}
use Rattle.caldate_answers.proofs.ClockMoves.{OneLocal, one_moved_on}
use Rattle.caldate_answers.proofs.OneAnswer.{took-one}
use Rattle.caldate_args.specs.declared.command.Moments.{Moments as AllMoments}
use Rattle.caldate_args.specs.declared.command.StepUnit.{StepUnit}
use Rattle.caldate_args.specs.declared.command.StepUnit.TheVariants.{Days, Months}
use Rattle.caldate_run.specs.Recurring.{moment_line}
use Rattle.caldate_run.specs.Steps.{AreSteps, IsPastSteps, IsStepTo, ListsSteps, is_later, step_move}
use Rattle.caldate_run.specs.Steps.AreSteps.{ended, skipped, listed}
use Rattle.caldate_run.proofs.Listed.{few_months, if_all}

-- ---- all steps are near
days_in : (n : ℕ) → whole_days (pos (n * day)) ≡ pos n
days_in n = omega (arith, ints)

day_seen : (zone : Timeline) (z : ℤ) (s : InZone) → IsSeen zone z (Ok s) → IsDate (date_at s.moment.local)
day_seen zone z s seen =
    let is = seen-is zone z s seen in
    subst (λ (y : ℤ). IsDate (date_at y)) (sym (ap (λ (x : InZone). x.moment.local) is.1)) (IsDate-date_at (reading_at zone z) is.0)

near_from : (unit : StepUnit) (count : ℕ) (policy : Policy) (workdays : WorkWeek) (zone : Timeline) (z : ℤ) (here there : Result InZone LocalTimeError) (m : LocalAndOffset)
    → IsSeen zone z here → IsMovedFrom policy workdays (step_move unit count) here there → Ok m ≡ moment_in there → count < 1000000000
near_from Days count policy workdays zone z (Ok s) there m seen (None, only, is) value = let no = value ∙ ap moment_in is in absurd cc
near_from Days count policy workdays zone z (Ok s) there m seen (Some n, only, is) value = omega (arith, ints, only.0, only.1, days_in count)
near_from Months count policy workdays zone z (Ok s) there m seen (None, only, is) value = let no = value ∙ ap moment_in is in absurd cc
near_from Months count policy workdays zone z (Ok s) there m seen (Some n, only, is) value = few_months (date_at s.moment.local) count n (day_seen zone z s seen) only.0 only.1
near_from unit count policy workdays zone z (Err e) there m seen is value = let no = value ∙ ap moment_in is in absurd cc

pub far_steps : (moments : AllMoments) (count : ℕ) → 1000000000 ≤ count → IsPastSteps moments count
far_steps moments count far m step =
    let h = step.moved in
    omega (arith, far, near_from moments.step.unit count moments.clock.policy monday_to_friday moments.clock.zone (instant moments.first) h.here h.there m h.seen h.moved h.value)

-- ---- one step, or none
one_step : (moments : AllMoments) (count : ℕ) (m n : LocalAndOffset) → OneLocal moments.clock.zone → IsStepTo moments count m → IsStepTo moments count n → m ≡ n
one_step moments count m n one h k =
    let same = one_moved_on moments.clock monday_to_friday (step_move moments.step.unit count) moments.first (Ok m) (Ok n) one h.moved k.moved in
    cc

pub past_last : (moments : AllMoments) (count : ℕ) (m : LocalAndOffset) → OneLocal moments.clock.zone
    → IsMovedOn moments.clock monday_to_friday (step_move moments.step.unit count) moments.first (Ok m) → instant moments.last <ℤ instant m → IsPastSteps moments count
past_last moments count m one h past n step =
    let same = one_moved_on moments.clock monday_to_friday (step_move moments.step.unit count) moments.first (Ok m) (Ok n) one h step.moved in
    let moment : m ≡ n = cc in
    omega (arith, ints, past, step.not_past, ap instant moment)

pub no_step : (moments : AllMoments) (count : ℕ) (e : LocalTimeError) → OneLocal moments.clock.zone
    → IsMovedOn moments.clock monday_to_friday (step_move moments.step.unit count) moments.first (Err e) → IsPastSteps moments count
no_step moments count e one h n step =
    let same = one_moved_on moments.clock monday_to_friday (step_move moments.step.unit count) moments.first (Err e) (Ok n) one h step.moved in
    absurd cc

-- ---- the steps that are left
abbrev pub AreStepsFrom : AllMoments → Bool → Option LocalAndOffset × ℕ → List LocalAndOffset → Type 0
AreStepsFrom moments all s ms = AreSteps moments all s.0 s.1 ms

pub no_steps : (moments : AllMoments) (before : Option LocalAndOffset) (count : ℕ) (all : Bool) → IsPastSteps moments count → AreSteps moments all before count []
no_steps moments before count all past = ended before count (if_all all (IsPastSteps moments count) past)

-- ---- a list has one answer
steps-one : (moments : AllMoments) (before : Option LocalAndOffset) (count : ℕ) (ms ks : List LocalAndOffset) → OneLocal moments.clock.zone
    → AreSteps moments true before count ms → AreSteps moments true before count ks → ms ≡ ks
steps-one moments before count [] [] one h k = refl
steps-one moments before count ms ks one (ended _ _ past) (skipped _ _ n _ step late rest) = absurd (past n step)
steps-one moments before count ms ks one (ended _ _ past) (listed _ _ n _ step later rest) = absurd (past n step)
steps-one moments before count ms ks one (skipped _ _ m _ step late rest) (ended _ _ past) = absurd (past m step)
steps-one moments before count ms ks one (skipped _ _ m _ step late rest) (skipped _ _ n _ own same others) = steps-one moments before _ ms ks one rest others
steps-one moments before count ms ks one (skipped _ _ m _ step late rest) (listed _ _ n _ own later others) =
    absurd (false≢true (sym late ∙ ap (is_later before) (one_step moments count m n one step own) ∙ later))
steps-one moments before count ms ks one (listed _ _ m _ step later rest) (ended _ _ past) = absurd (past m step)
steps-one moments before count ms ks one (listed _ _ m _ step later rest) (skipped _ _ n _ own late others) =
    absurd (false≢true (sym late ∙ ap (is_later before) (one_step moments count n m one own step) ∙ later))
steps-one moments before count (m ∷ ms) (n ∷ ks) one (listed _ _ _ _ step later rest) (listed _ _ _ _ own same others) =
    let moment = one_step moments count m n one step own in
    let more = steps-one moments (Some n) _ ms ks one (subst (λ x. AreSteps moments true (Some x) (count + moments.step.every) ms) moment rest) others in
    λ i. moment i ∷ more i

pub lists_steps-one : (moments : AllMoments) (held : List ℕ) (r s : Result Unit RunError) (w v : Option (List ℕ)) → OneLocal moments.clock.zone → IsOk r → IsOk s
    → ListsSteps moments r (Some held) w → ListsSteps moments s (Some held) v → w ≡ v
lists_steps-one moments held (Err e) s w v one ok too first second = absurd (false≢true ok)
lists_steps-one moments held (Ok done) (Err e) w v one ok too first second = absurd (false≢true too)
lists_steps-one moments held (Ok done) (Ok end) w v one ok too (ms, all, took) (ks, every, taken) =
    took-one held _ _ w v took taken (ap (flat_map moment_line) (steps-one moments None 0 ms ks one all every))
