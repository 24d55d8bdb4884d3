-- Moves past the range, and the single day after a move.
use Rattle.std.proofs.Common.{◌≡◌, ◌⊎◌, ℕ, zero, suc, ◌+◌, ◌-◌, ◌≤◌, ◌∙◌, ap, sym, subst, arith, inl, inr, Option, None, Some, ℤ, pos, negsuc, ◌*ℤ◌, ◌≤ℤ◌, ◌<ℤ◌}
use Rattle.std.specs.Prelude.{neg_ℤ, ◌<◌, IfSome, MatchOption}
use Rattle.std.proofs.lemmas.Int.{ints, by_lt_z}
use Rattle.cal_time.specs.Date.{IsDate, last_day}
use Rattle.cal_schedule.specs.Months.{IsMonthsLater}
use Rattle.cal_schedule.specs.Workdays.{WorkWeek, nth_workday, is_workday}
use Rattle.cal_time.specs.Laws.{calendar_date-one}
use Rattle.cal_schedule.proofs.MonthMoves.{IsMonthNumber-date, one_later}
use Rattle.cal_schedule.specs.Ranks.{count-most, none-nth_from, none-nth_back}
use Rattle.caldate_answers.specs.Moves.{MovesTo}
use Rattle.caldate_answers.specs.declared.request.DayMove.{DayMove}
use Rattle.caldate_answers.specs.declared.request.DayMove.TheVariants.{Next, Last, OnOrAfter, OnOrBefore, Months, Years, Workdays, Start, End}
use Rattle.cal_schedule.specs.Units.{IsFirstOf, IsLastOf}
use Rattle.cal_schedule.specs.declared.unit.CalendarUnit.{CalendarUnit}
use Rattle.cal_schedule.specs.declared.unit.CalendarUnit.TheVariants.{Day, Week, Month, Quarter, Year}

-- k is the number nearest to z within the bounds
pub record IsNearest (z k : ℤ) : Type 0 where
  pub below : z ≤ℤ neg_ℤ (pos 2000000000) → k ≡ neg_ℤ (pos 2000000000)
  pub within : neg_ℤ (pos 2000000000) ≤ℤ z → z ≤ℤ pos 2000000000 → k ≡ z
  pub above : pos 2000000000 ≤ℤ z → k ≡ pos 2000000000

-- what lies strictly within the bounds is its own nearest
abbrev IsInside : ℤ → Type 0
IsInside z = (neg_ℤ (pos 2000000000) <ℤ z) × (z <ℤ pos 2000000000)

same_inside : (z k : ℤ) → IsNearest z k → IsInside k → k ≡ z
same_inside z k near inside =
    by_lt_z z (neg_ℤ (pos 2000000000)) (λ less. absurd (omega (arith, ints, near.below (omega (arith, ints, less)), inside.0, inside.1))) (λ least.
    by_lt_z (pos 2000000000) z (λ more. absurd (omega (arith, ints, near.above (omega (arith, ints, more)), inside.0, inside.1))) (λ most. near.within least most))

-- the nearest number finds a day exactly if the number does, since only numbers inside reach the
-- range
pub by_nearest : (Has : ℤ → ℕ → Type 0) (z k : ℤ) (r : Option ℕ) → ((s : ℕ) → IsDate s → Has k s → r ≡ Some s) → IfSome r (λ s. IsDate s × Has k s)
    → ((y : ℤ) (s : ℕ) → IsDate s → Has y s → IsInside y) → IsNearest z k
    → MatchOption r ((s : ℕ) → ¬ (IsDate s × Has z s)) (λ s. IsDate s × Has z s)
by_nearest Has z k None every has inside near = λ s h.
    let in_bounds = inside z s h.0 h.1 in
    let same = near.within (omega (arith, ints, in_bounds.0)) (omega (arith, ints, in_bounds.1)) in
    let found = every s h.0 (subst (λ y. Has y s) (sym same) h.1) in cc
by_nearest Has z k (Some s) every has inside near =
    (has.0, subst (λ y. Has y s) (same_inside z k near (inside k s has.0 has.1)) has.1)

-- any two days of the range are fewer than 2000000000 months from each other
pub months_inside : (n : ℕ) → IsDate n → (y : ℤ) (s : ℕ) → IsDate s → IsMonthsLater n y s → IsInside y
months_inside n d y s e h =
    let a = IsMonthNumber-date n d in
    let b = IsMonthNumber-date s e in
    (omega (arith, ints, a.not_before, a.not_after, b.not_before, b.not_after, h.month), omega (arith, ints, a.not_before, a.not_after, b.not_before, b.not_after, h.month))

pub years_inside : (n : ℕ) → IsDate n → (y : ℤ) (s : ℕ) → IsDate s → IsMonthsLater n (pos 12 *ℤ y) s → IsInside y
years_inside n d y s e h =
    let a = IsMonthNumber-date n d in
    let b = IsMonthNumber-date s e in
    (omega (arith, ints, a.not_before, a.not_after, b.not_before, b.not_after, h.month), omega (arith, ints, a.not_before, a.not_after, b.not_before, b.not_after, h.month))

-- the range has fewer than 2000000000 working days
no_workday : (w : WorkWeek) (z : ℤ) (n : ℕ) → IsDate n → (pos 2000000000 ≤ℤ z) ⊎ (z ≤ℤ neg_ℤ (pos 2000000000)) → nth_workday w z n ≡ None
no_workday w (pos zero) n d far = absurd (elim far [ inl on ↦ omega (arith, ints, on) | inr back ↦ omega (arith, ints, back) ])
no_workday w (pos (suc k)) n d far =
    let many : 1999999999 ≤ k = elim far [ inl on ↦ omega (arith, ints, on) | inr back ↦ omega (arith, ints, back) ] in
    none-nth_from (is_workday w) (n + 1) (last_day + 1 - (n + 1)) k
    (omega (arith, d, many, count-most (is_workday w) (n + 1 + (last_day + 1 - (n + 1)))))
no_workday w (negsuc k) n d far =
    let many : 1999999999 ≤ k = elim far [ inl on ↦ omega (arith, ints, on) | inr back ↦ omega (arith, ints, back) ] in
    none-nth_back (is_workday w) n k (omega (arith, d, many, count-most (is_workday w) n))

by_workdays : (w : WorkWeek) (z k : ℤ) (n : ℕ) → IsDate n → IsNearest z k → nth_workday w k n ≡ nth_workday w z n
by_workdays w z k n d near =
    by_lt_z z (neg_ℤ (pos 2000000000))
    (λ less. no_workday w k n d (inr (omega (arith, ints, near.below (omega (arith, ints, less))))) ∙ sym (no_workday w z n d (inr (omega (arith, ints, less)))))
    (λ least. by_lt_z (pos 2000000000) z
    (λ more. no_workday w k n d (inl (omega (arith, ints, near.above (omega (arith, ints, more))))) ∙ sym (no_workday w z n d (inl (omega (arith, ints, more)))))
    (λ most. ap (λ y. nth_workday w y n) (near.within least most)))

pub workday_by_nearest : (w : WorkWeek) (z k : ℤ) (n : ℕ) (r : Option ℕ) → r ≡ nth_workday w k n → IsDate n → IsNearest z k → r ≡ nth_workday w z n
workday_by_nearest w z k n r e d near = e ∙ by_workdays w z k n d near

-- a move gives one day
one_kth : (a b : ℕ) (o : Option ℕ) → o ≡ Some a → o ≡ Some b → a ≡ b
one_kth a b o h k = let same : Some a ≡ Some b = sym h ∙ k in cc

first-one : (unit : CalendarUnit) (n a b : ℕ) → IsDate a → IsDate b → IsFirstOf unit n a → IsFirstOf unit n b → a ≡ b
first-one Day n a b d e h k = omega (arith, h, k)
first-one Week n a b d e h k = omega (arith, h, k)
first-one Month n a b d e h k = calendar_date-one _ _ _ a b d e h k
first-one Quarter n a b d e h k = calendar_date-one _ _ _ a b d e h k
first-one Year n a b d e h k = calendar_date-one _ _ _ a b d e h k

last-one : (unit : CalendarUnit) (n a b : ℕ) → IsDate a → IsDate b → IsLastOf unit n a → IsLastOf unit n b → a ≡ b
last-one Day n a b d e h k = omega (arith, h, k)
last-one Week n a b d e h k = omega (arith, h, k)
last-one Month n a b d e h k = calendar_date-one _ _ _ a b d e h k
last-one Quarter n a b d e h k = calendar_date-one _ _ _ a b d e h k
last-one Year n a b d e h k = calendar_date-one _ _ _ a b d e h k

pub one_lead : (workdays : WorkWeek) (by : DayMove) (n a b : ℕ) → MovesTo workdays by n a → MovesTo workdays by n b → a ≡ b
one_lead workdays (Next w k) n a b h i = one_kth a b _ h i
one_lead workdays (Last w k) n a b h i = one_kth a b _ h i
one_lead workdays (OnOrAfter w) n a b h i = one_kth a b _ h i
one_lead workdays (OnOrBefore w) n a b h i = one_kth a b _ h i
one_lead workdays (Months z) n a b h i = one_later n a b z h.1 i.1
one_lead workdays (Years z) n a b h i = one_later n a b (pos 12 *ℤ z) h.1 i.1
one_lead workdays (Workdays z) n a b h i = one_kth a b _ h i
one_lead workdays (Start unit) n a b h i = first-one unit n a b h.0 i.0 h.1 i.1
one_lead workdays (End unit) n a b h i = last-one unit n a b h.0 i.0 h.1 i.1
