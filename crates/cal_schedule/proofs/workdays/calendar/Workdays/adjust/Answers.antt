use Rattle.std.proofs.Common.{◌≡◌, ℕ, Option, Some, None, true, inl, inr}
use Rattle.std.specs.Prelude.{IfSome}
use Rattle.std.proofs.lemmas.Bool.{cases_Bool}
use Rattle.cal_time.specs.Date.{IsDate}
use Rattle.cal_schedule.specs.Workdays.{WorkWeek, is_workday}
use Rattle.cal_schedule.specs.WorkdaysConvention.{is_in_month_of, first_in_same_month}
use Rattle.cal_schedule.proofs.workdays.calendar.Workdays.adjust.Goals as goal

-- a working day of the range, and one that is more than that
abbrev FoundDay : WorkWeek → Option ℕ → Type 0
FoundDay w r = IfSome r (λ day. (is_workday w day ≡ true) × IsDate day)

found : (w : WorkWeek) (More : ℕ → Type 0) (r : Option ℕ) → IfSome r (λ day. (is_workday w day ≡ true) × More day × IsDate day) → FoundDay w r
found w More None h = tt
found w More (Some day) h = (h.0, h.2)

-- The day taken from the two is a day of the list.
taken : (w : WorkWeek) (n : ℕ) (first second : Option ℕ) → FoundDay w first → FoundDay w second → FoundDay w (first_in_same_month n first second)
taken w n None second h k = k
taken w n (Some day) second h k =
    elim (cases_Bool (is_in_month_of n day)) as (λ _. FoundDay w (first_in_same_month n (Some day) second)) [
      | inl here ↦ rw here h
      | inr there ↦ rw there k
    ]

chosen : (w : WorkWeek) (n : ℕ) (A B : ℕ → Type 0) (first second r : Option ℕ) → r ≡ first_in_same_month n first second
    → IfSome first (λ day. (is_workday w day ≡ true) × A day × IsDate day) → IfSome second (λ day. (is_workday w day ≡ true) × B day × IsDate day) → FoundDay w r
chosen w n A B first second r e h k = rw e (taken w n first second (found w A first h) (found w B second k))

pub returns-in-ModifiedFollowing-clause-found : goal.returns-in-ModifiedFollowing-clause-found
returns-in-ModifiedFollowing-clause-found c =
    rw c.in-ModifiedFollowing.is
    (chosen c.args.self.now c.args.date _ _ _ _ _ c.first_in_same_month.ensures c.nth_from-in-ModifiedFollowing.ensures.found c.nth_before.ensures.found)

pub returns-in-ModifiedPreceding-clause-found : goal.returns-in-ModifiedPreceding-clause-found
returns-in-ModifiedPreceding-clause-found c =
    rw c.in-ModifiedPreceding.is
    (chosen c.args.self.now c.args.date _ _ _ _ _ c.first_in_same_month-in-ModifiedPreceding.ensures c.nth_before-in-ModifiedPreceding.ensures.found c.nth_from-in-ModifiedPreceding.ensures.found)
