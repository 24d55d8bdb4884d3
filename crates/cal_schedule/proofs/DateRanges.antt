-- Ranges of days with a common day.
use Rattle.std.proofs.Common.{◌≡◌, ℕ, ◌+◌, ◌-◌, ◌<◌, ◌≤◌, min, max, arith, inl, inr, sym, ap, ◌∙◌, Bool, true, false, []}
use Rattle.std.specs.Prelude.{Some, None, nat_le, if◌then◌else◌}
use Rattle.std.proofs.lemmas.Bool.Decides.{nat_tests}
use Rattle.cal_time.specs.Date.{last_day}
use Rattle.cal_time.specs.DateIter.{days_between, days_of, walk_between}
use Rattle.cal_time.specs.Occurrences.{days_from}
use Rattle.std.proofs.lemmas.Bool.{cases_lt}
use Rattle.cal_schedule.specs.Ranges.{common_days, HasCommonDay, Range}

pub no_common : (r s : Range) → (HasCommonDay r s → ⊥) → common_days r s ≡ 0
no_common r s h =
    elim (cases_lt (max r.start s.start) (min r.end s.end)) as (λ _. common_days r s ≡ 0) [
      | inl less ↦ absurd (h (record { day = max r.start s.start; first = (omega arith, omega arith); second = (omega arith, omega arith) }))
      | inr most ↦ omega arith
    ]

-- the days up to an end are the days to the day before it
pub days_up_to : (s e l : ℕ) → l + 1 ≡ e → s ≤ e → days_of (walk_between s l) ≡ days_from s (e - s)
unfolding days_from
days_up_to s e l next h =
    elim (cases_lt l s) as (λ _. days_of (walk_between s l) ≡ days_from s (e - s)) [
      | inl past ↦
          let no : nat_le s l ≡ false = grind (arith, nat_tests) in
          let none : e - s ≡ 0 = omega arith in
          ap (λ (b : Bool). days_between s (if b then Some l else None)) no ∙ sym (ap (days_from s) none)
      | inr most ↦
          let is : nat_le s l ≡ true = grind (arith, nat_tests) in
          let count : l + 1 - s ≡ e - s = omega arith in
          ap (λ (b : Bool). days_between s (if b then Some l else None)) is ∙ ap (days_from s) count
    ]

pub no_days : (s e : ℕ) → e ≡ 0 → [] ≡ days_from s (e - s)
unfolding days_from
no_days s e h = let none : e - s ≡ 0 = omega arith in sym (ap (days_from s) none)

pub empty_walk : (m k : ℕ) → m ≡ last_day → k ≡ 0 → days_of (walk_between m k) ≡ []
empty_walk m k e f =
    let past : k < m = omega (arith, e, f) in
    let no : nat_le m k ≡ false = grind (arith, nat_tests) in
    ap (λ (b : Bool). days_between m (if b then Some k else None)) no
