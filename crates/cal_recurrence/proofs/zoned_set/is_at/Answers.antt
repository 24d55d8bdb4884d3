use Rattle.std.proofs.Common.{◌∙◌, ◌-ℤ◌, pos, subst, sym}
use Rattle.std.proofs.lemmas.Bool.{false≢true}
use Rattle.cal_datetime.specs.OffsetDateTime.{instant}
use Rattle.cal_recurrence.specs.ZonedSet.{IsFirstAfter, IsNextAfter, NoneAfter, Occurs}
use Rattle.cal_recurrence.proofs.ZonedSearch.{first-is, has, has-none}
use Rattle.cal_recurrence.proofs.DateTimeSets.{eq-same, same-eq}
use Rattle.cal_recurrence.proofs.zoned_set.is_at.Goals as goal

pub returns-in-Some : goal.returns-in-Some
returns-in-Some c = λ set next.
    let x = instant c.args.moment in
    let one = c.in-Some.one in
    let is : IsFirstAfter (Occurs set) (x -ℤ pos 1) one = subst (IsNextAfter (Occurs set) (x -ℤ pos 1)) c.in-Some.is next in
    (λ e. has set x one is (eq-same (instant one) x (sym c.eq.ensures ∙ e)), λ h. c.eq.ensures ∙ same-eq (instant one) x (first-is set x one is h))

pub returns-in-None : goal.returns-in-None
returns-in-None c = λ set next.
    let x = instant c.args.moment in
    let none : NoneAfter (Occurs set) (x -ℤ pos 1) = subst (IsNextAfter (Occurs set) (x -ℤ pos 1)) c.in-None.is next in
    (λ e. absurd (false≢true e), λ h. absurd (has-none set x none h))
