-- Laws for callers: the days that a walk returns, by index and in a loop.
use Rattle.std.proofs.Common.{◌≡◌, ℕ, ◌+◌, ◌-◌, ◌≤◌, ap, ◌∙◌, refl, arith, List, length, slice_get, Option, Some, None, if◌then◌else◌, nat_le, inl, inr, true}
use Rattle.std.specs.Iterator.{Yields, YieldsFirst}
use Rattle.std.proofs.lemmas.Bool.{cases_lt}
use Rattle.std.proofs.lemmas.Bool.Decides.{nat_tests}
use Rattle.std.proofs.lemmas.Iterator.{YieldsList}
use Rattle.std.proofs.lemmas.Iterator.Consumers.{YieldsList-from_shown, YieldsList-turn, YieldsList-end}
use Rattle.std.proofs.lemmas.Option.{slice_get_past, get_or_from_slice_get}
use Rattle.cal_date.specs.DateIter.{Walk, walk, walk_between, days_between, days_of, TakesFirst}
use Rattle.cal_date.proofs.DateIters.{slice_get-days_of}
use Rattle.cal_time.specs.Laws.{length-walk_between}

-- The day at the index k of the walk from day m to day n is the day m + k, unless that is after n.
pub slice_get-walk_between : (m n k : ℕ) → slice_get (days_of (walk_between m n)) k ≡ (if nat_le (m + k) n then Some (m + k) else None)
slice_get-walk_between m n k =
    elim (cases_lt n (m + k)) [
      | inl past ↦ slice_get_past (days_of (walk_between m n)) k (omega (arith, length-walk_between m n)) ∙ grind (arith, nat_tests)
      | inr within ↦
          let some : nat_le m n ≡ true = grind (arith, nat_tests) in
          ap (λ b. slice_get (days_between m (if b then Some n else None)) k) some ∙ slice_get-days_of (walk m (Some n)) n k refl within ∙ grind (arith, nat_tests)
    ]

-- The law above and the number of days of a walk, for a caller's `#[tactic(auto, using(..))]`,
-- which takes no name with a dash.
pub ruleset days_of_walks = (slice_get-walk_between, length-walk_between, nat_tests)

-- One call of `next` returns and removes the first day of a walk, or returns `None` if it is empty.
abbrev pub GivesDay : Walk → Option ℕ → Walk → Type 0
GivesDay old day new = YieldsFirst days_of old day new × TakesFirst old day new

-- The calls of `next` return the days of a walk, in order.
pub yields-days : (w : Walk) → YieldsList GivesDay (λ n. n) w (days_of w)
yields-days w = YieldsList-from_shown GivesDay (λ n. n) days_of (λ s t h. ap length h.0.0) (λ s x t h. h.0) w

-- In a loop over the walk from day m to day n, the day of a turn is m plus the number of turns
-- before it, and at most n.
pub turn-day : (m n : ℕ) (w t u : Walk) (before : List ℕ) (day : Option ℕ) (x : ℕ) → w ≡ walk_between m n → Yields GivesDay w before t → day ≡ Some x → GivesDay t day u
    → (x ≡ m + length before) × (x ≤ n)
turn-day m n w t u before day x e run some gives =
    let turn = YieldsList-turn (yields-days (walk_between m n)) before t (rw e at run) day u x some gives in
    let many = length-walk_between m n in
    let index : slice_get (days_of (walk_between m n)) (length before) ≡ Some (m + length before) = slice_get-walk_between m n (length before) ∙ grind (arith, nat_tests, turn.0) in
    let here = get_or_from_slice_get (days_of (walk_between m n)) (length before) (m + length before) x index in
    (turn.1 ∙ here, omega (arith, turn.0, turn.1 ∙ here))

-- When a loop over the walk from day m to day n ends, there was a turn for each day from m to n.
pub end-turns : (m n : ℕ) (w t u : Walk) (before : List ℕ) (day : Option ℕ) → w ≡ walk_between m n → Yields GivesDay w before t → day ≡ None → GivesDay t day u
    → length before ≡ n + 1 - m
end-turns m n w t u before day e run none gives =
    (YieldsList-end (yields-days (walk_between m n)) before t (rw e at run) day u none gives).1 ∙ length-walk_between m n
