-- Periods by their parts, and the results of the calls that add them.
use Rattle.std.proofs.Common.{◌≡◌, ◌∙◌, ap, subst, ℕ}
use Rattle.std.specs.Prelude.{Option, Some, None, SomeIff, ℤ}
use Rattle.cal_datetime.specs.DateTime.{IsDateTime, date_at, time_at}
use Rattle.cal_schedule.specs.Period.{parts, Parts, IsOneSign}
use Rattle.cal_zoned.specs.Period.{IsLaterBy}
use Rattle.cal_c.specs.Periods.{parts_in, IsPairAfterBy, IsPeriod}
use Rattle.cal_c.specs.Results.{pair_at_local, pair_error, pair_ok}
use Rattle.cal_c.specs.declared.results.PairResult.{PairResult}
use Rattle.cal_c.specs.declared.status.TheConstants.{RESULT_OUT_OF_RANGE}
use Rattle.cal_c.specs.Values.{nanoseconds_in, IsDurationPair}
use Rattle.cal_c.specs.declared.schedule.periods.PeriodParts.{PeriodParts}

-- a period that the code makes with the nanoseconds of its duration
pub period_is : (p : PeriodParts) (d : ℤ) (r : Option Parts) → IsDurationPair p.duration → d ≡ nanoseconds_in p.duration
    → SomeIff r (IsOneSign (parts p.years p.months p.weeks p.days d)) (parts p.years p.months p.weeks p.days d) → SomeIff r (IsPeriod p) (parts_in p)
period_is p d r valid e h = by_sign r (subst (λ (x : ℤ). SomeIff r (IsOneSign (parts p.years p.months p.weeks p.days x)) (parts p.years p.months p.weeks p.days x)) e h)
  where
    by_sign : (r : Option Parts) → SomeIff r (IsOneSign (parts_in p)) (parts_in p) → SomeIff r (IsPeriod p) (parts_in p)
    by_sign None h = λ is. h is.sign
    by_sign (Some q) h = (record { duration = valid; sign = h.0 }, h.1)

-- the local date-time that the code finds, or none
IsNone : Option ℤ → Type 0
IsNone None = Unit {0}
IsNone (Some l) = ⊥

value_or : ℤ → Option ℤ → ℤ
value_or z None = z
value_or z (Some l) = l

pub no_pair : (z m d e : ℤ) (r : PairResult) → ((l : ℤ) → IsDateTime l → IsLaterBy z m d e l → None ≡ Some l) → r ≡ pair_error RESULT_OUT_OF_RANGE → IsPairAfterBy z m d e r
unfolding IsNone
no_pair z m d e r every is = record { every = λ l inside later. absurd (subst IsNone (every l inside later) tt); none = λ _. is }

pub pair_is : (z m d e later : ℤ) (n t : ℕ) (r : PairResult) → n ≡ date_at later → t ≡ time_at later → r ≡ pair_ok n t → IsDateTime later → IsLaterBy z m d e later
    → ((l : ℤ) → IsDateTime l → IsLaterBy z m d e l → Some later ≡ Some l) → IsPairAfterBy z m d e r
unfolding value_or
pair_is z m d e later n t r day time is within moved every = record {
  every = λ l inside h. is ∙ ap (λ (n : ℕ). pair_ok n t) day ∙ ap (λ (n : ℕ). pair_ok (date_at later) n) time ∙ ap pair_at_local (ap (value_or z) (every l inside h));
  none = λ no. absurd (no later within moved);
}
