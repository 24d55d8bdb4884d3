-- The clauses of the calls for a date and a time leave one result.
use Rattle.std.proofs.Common.{◌≡◌, ◌∙◌, ℕ, sym, arith}
use Rattle.std.proofs.lemmas.Int.{by_lt_z, ints}
use Rattle.std.specs.Prelude.{ℤ}
use Rattle.cal_datetime.specs.DateTime.{date_time, IsDateTime}
use Rattle.cal_schedule.specs.Period.{Parts}
use Rattle.cal_zoned.specs.Period.{IsLaterBy}
use Rattle.cal_zoned.specs.Until.{IsPeriodUntil}
use Rattle.cal_zoned.proofs.PeriodsUntil.{period_until-one}
use Rattle.cal_zoned.specs.Steps.{IsLastStep}
use Rattle.cal_c.specs.Periods.{IsExactPeriodWith, IsPairAfterBy, IsPeriodUntilResult, IsStepOfPair}
use Rattle.cal_c.specs.Schedule.{IsNumberWith}
use Rattle.cal_c.specs.Values.{day_of}
use Rattle.cal_c.proofs.DateRanges.{stable_number}
use Rattle.cal_c.proofs.OneZoned.{by_unit-one, period_with-one, stable_period}
use Rattle.cal_c.proofs.Stable.{either, need-one, of_field, stable_n, stable_z, Stable}
use Rattle.cal_c.specs.declared.results.NumberResult.{NumberResult}
use Rattle.cal_c.specs.declared.results.PairResult.{PairResult}
use Rattle.cal_c.specs.declared.schedule.pair_periods.ExactPeriodResult.{ExactPeriodResult}

pub stable_pair : (r s : PairResult) → Stable (r ≡ s)
stable_pair r s never =
    let status = stable_z r.status s.status (of_field (λ (x : PairResult). x.status) r s never) in
    let date = stable_z r.date s.date (of_field (λ (x : PairResult). x.date) r s never) in
    let time = stable_n r.time s.time (of_field (λ (x : PairResult). x.time) r s never) in
    λ i. record { status = status i; date = date i; time = time i }

pub pair_after-one : (z months days nanoseconds : ℤ) (r s : PairResult) → IsPairAfterBy z months days nanoseconds r → IsPairAfterBy z months days nanoseconds s → r ≡ s
pair_after-one z months days nanoseconds r s h k =
    either ((l : ℤ) × IsDateTime l × IsLaterBy z months days nanoseconds l) (stable_pair r s)
    (λ some. h.every some.0 some.1 some.2 ∙ sym (k.every some.0 some.1 some.2))
    (λ none. h.none (λ l i j. none (l, i, j)) ∙ sym (k.none (λ l i j. none (l, i, j))))

number_with-one : {Has : ℤ → Type 0} (r s : NumberResult) → ((a b : ℤ) → Has a → Has b → a ≡ b) → IsNumberWith Has r → IsNumberWith Has s → r ≡ s
number_with-one r s one h k =
    let status = h.status_is ∙ sym k.status_is in
    let number = one r.number s.number h.has k.has in
    λ i. record { status = status i; number = number i }

last_step-one : (z t : ℤ) (p : Parts) (a b : ℤ) → IsLastStep z t p a → IsLastStep z t p b → a ≡ b
last_step-one z t p a b h k =
    by_lt_z a b (λ less. absurd (h.last b less k.fits k.holds)) (λ most. by_lt_z b a (λ less. absurd (k.last a less h.fits h.holds)) (λ least. omega (arith, ints, most, least)))

pub step-one : (start : ℤ) (p : Parts) (date : ℤ) (time : ℕ) (r s : NumberResult) → IsStepOfPair start p date time r → IsStepOfPair start p date time s → r ≡ s
step-one start p date time r s =
    let stable = stable_number r s in
    need-one r s _ stable (need-one r s _ stable (need-one r s _ stable
    (number_with-one r s (last_step-one start (date_time (day_of date) time) p))))

pub period_until_pair-one : (from date : ℤ) (time unit : ℕ) (r s : ExactPeriodResult) → IsPeriodUntilResult from date time unit r → IsPeriodUntilResult from date time unit s → r ≡ s
period_until_pair-one from date time unit r s =
    let stable = stable_period r s in
    need-one r s _ stable (need-one r s _ stable (need-one r s _ stable
    (by_unit-one unit (λ u. IsExactPeriodWith (IsPeriodUntil u from (date_time (day_of date) time))) r s
    (λ u. period_with-one r s (period_until-one u from (date_time (day_of date) time))))))
