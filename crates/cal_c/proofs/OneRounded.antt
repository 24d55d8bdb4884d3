-- The clauses of the calls that round leave one result.
use Rattle.std.proofs.Common.{◌≡◌, ◌∙◌, ◌==◌, ℕ, ◌<◌, refl, sym, ap, arith}
use Rattle.std.proofs.lemmas.Bool.{cases_eq}
use Rattle.std.proofs.lemmas.Int.{ints}
use Rattle.std.specs.Prelude.{if◌then◌else◌, ℤ, unsigned_abs, Result}
use Rattle.cal_time.specs.SignedDuration.{day, IsDuration}
use Rattle.cal_datetime.specs.DateTime.{date_time, IsDateTime}
use Rattle.cal_datetime.specs.DateTimeLaws.{IsDateTime-date_time}
use Rattle.cal_datetime.specs.OffsetDateTime.{LocalAndOffset}
use Rattle.cal_zone.specs.Local.{Shows}
use Rattle.cal_zone.specs.Timeline.{Timeline, InOrder}
use Rattle.cal_zone.specs.declared.local_time_error.LocalTimeError.{LocalTimeError}
use Rattle.cal_zone.proofs.OneLocal.{local-one}
use Rattle.cal_zoned.specs.Unchecked.{in_zone}
use Rattle.cal_zoned.specs.Zoned.{InZone}
use Rattle.cal_zoned.proofs.OneResult.{kept-one}
use Rattle.cal_rounding.specs.declared.rounding_mode.RoundingMode.{RoundingMode}
use Rattle.cal_rounding.specs.declared.rounding_mode.RoundingMode.TheVariants.{Floor, Ceil, Trunc, HalfCeil, HalfEven}
use Rattle.cal_rounding.proofs.OneInZone.{clock-one, day-one}
use Rattle.cal_rounding.proofs.OneResult.{date_time-one, time-one, within-one}
use Rattle.cal_c.specs.Moments.{local_and_offset_in, local_in, IsMoment}
use Rattle.cal_c.specs.Results.{duration_or_out_of_range, time_ok}
use Rattle.cal_c.specs.Rounding.{local_or_out_of_range, mode_number, moment_or_out_of_range, IsDurationRoundedTo, IsMomentRoundedTo, IsPairRoundedTo, IsRoundedDuration, IsRoundedMoment, IsRoundedPair, IsRoundedTimeResult, IsTimeRoundedTo, IsZonedRoundedTo, RoundsInZone}
use Rattle.cal_c.specs.Values.{day_of, nanoseconds_in}
use Rattle.cal_c.specs.Zoned.{zoned_in, zoned_or_error, IsZonedWith}
use Rattle.cal_c.proofs.Days.{either, IsDate-day_of}
use Rattle.cal_c.proofs.OnePair.{stable_pair}
use Rattle.cal_c.proofs.OneZoned.{stable_duration, stable_moment, with-one}
use Rattle.cal_c.proofs.Stable.{by_number-one, need-one, need-one_if, of_field, stable_n, stable_z, Stable}
use Rattle.cal_c.specs.declared.results.Duration.{Duration}
use Rattle.cal_c.specs.declared.results.DurationResult.{DurationResult}
use Rattle.cal_c.specs.declared.results.Moment.{Moment}
use Rattle.cal_c.specs.declared.results.MomentResult.{MomentResult}
use Rattle.cal_c.specs.declared.results.PairResult.{PairResult}
use Rattle.cal_c.specs.declared.results.TimeResult.{TimeResult}

-- ---- numbers of modes
mode_of : ℕ → RoundingMode
mode_of n = if n == 0 then Floor else if n == 1 then Ceil else if n == 2 then Trunc else if n == 3 then HalfCeil else HalfEven

mode-known : (m : RoundingMode) → mode_of (mode_number m) ≡ m
unfolding mode_of
mode-known Floor = refl
mode-known Ceil = refl
mode-known Trunc = refl
mode-known HalfCeil = refl
mode-known HalfEven = refl

by_mode-one : {R : Type 0} (k : ℕ) (Is : RoundingMode → R → Type 0) (r s : R) → ((m : RoundingMode) → Is m r → Is m s → r ≡ s) → (m : RoundingMode) × (mode_number m ≡ k) × Is m r
    → (m : RoundingMode) × (mode_number m ≡ k) × Is m s → r ≡ s
by_mode-one k = by_number-one mode_number mode_of mode-known k

-- ---- calls
stable_time : (r s : TimeResult) → Stable (r ≡ s)
stable_time r s never =
    let status = stable_z r.status s.status (of_field (λ (x : TimeResult). x.status) r s never) in
    let unused = stable_n r.unused s.unused (of_field (λ (x : TimeResult). x.unused) r s never) in
    let time = stable_n r.time s.time (of_field (λ (x : TimeResult). x.time) r s never) in
    λ i. record { status = status i; unused = unused i; time = time i }

time_result-one : (mode : RoundingMode) (u t : ℕ) (r s : TimeResult) → 0 < u → IsRoundedTimeResult mode u t r → IsRoundedTimeResult mode u t s → r ≡ s
time_result-one mode u t r s some (a, h, e) (b, k, f) = e ∙ ap time_ok (time-one mode u t a b some h k) ∙ sym f

pub time_rounded-one : (time : ℕ) (unit : Duration) (mode : ℕ) (r s : TimeResult) → IsTimeRoundedTo time unit mode r → IsTimeRoundedTo time unit mode s → r ≡ s
time_rounded-one time unit mode r s =
    let stable = stable_time r s in
    need-one r s _ stable (need-one_if r s _ stable (λ is. need-one r s _ stable
    (by_mode-one mode (λ m. IsRoundedTimeResult m (unsigned_abs (nanoseconds_in unit)) time) r s (λ m. time_result-one m (unsigned_abs (nanoseconds_in unit)) time r s is.unit.positive))))

pair_result-one : (mode : RoundingMode) (u : ℕ) (z : ℤ) (r s : PairResult) → 0 < u → IsRoundedPair mode u z r → IsRoundedPair mode u z s → r ≡ s
pair_result-one mode u z r s some (a, h, e) (b, k, f) = e ∙ ap local_or_out_of_range (date_time-one mode u z _ a b some h k) ∙ sym f

pub pair_rounded-one : (date : ℤ) (time : ℕ) (unit : Duration) (mode : ℕ) (r s : PairResult) → IsPairRoundedTo date time unit mode r → IsPairRoundedTo date time unit mode s → r ≡ s
pair_rounded-one date time unit mode r s =
    let stable = stable_pair r s in
    need-one r s _ stable (need-one r s _ stable (need-one_if r s _ stable (λ is. need-one r s _ stable
    (by_mode-one mode (λ m. IsRoundedPair m (unsigned_abs (nanoseconds_in unit)) (date_time (day_of date) time)) r s
    (λ m. pair_result-one m (unsigned_abs (nanoseconds_in unit)) (date_time (day_of date) time) r s is.unit.positive)))))

moment_result-one : (mode : RoundingMode) (u : ℕ) (l : LocalAndOffset) (r s : MomentResult) → 0 < u → IsRoundedMoment mode u l r → IsRoundedMoment mode u l s → r ≡ s
moment_result-one mode u l r s some (a, h, e) (b, k, f) = e ∙ ap moment_or_out_of_range (date_time-one mode u _ _ a b some h k) ∙ sym f

pub moment_rounded-one : (moment : Moment) (unit : Duration) (mode : ℕ) (r s : MomentResult) → IsMomentRoundedTo moment unit mode r → IsMomentRoundedTo moment unit mode s → r ≡ s
moment_rounded-one moment unit mode r s =
    let stable = stable_moment r s in
    need-one r s _ stable (need-one_if r s _ stable (λ is. need-one r s _ stable
    (by_mode-one mode (λ m. IsRoundedMoment m (unsigned_abs (nanoseconds_in unit)) (local_and_offset_in moment)) r s
    (λ m. moment_result-one m (unsigned_abs (nanoseconds_in unit)) (local_and_offset_in moment) r s is.unit.positive))))

duration_result-one : (mode : RoundingMode) (u : ℕ) (v : ℤ) (r s : DurationResult) → 0 < u → IsRoundedDuration mode u v r → IsRoundedDuration mode u v s → r ≡ s
duration_result-one mode u v r s some (a, h, e) (b, k, f) = e ∙ ap duration_or_out_of_range (within-one IsDuration mode u v a b some h k) ∙ sym f

pub duration_rounded-one : (duration unit : Duration) (mode : ℕ) (r s : DurationResult) → IsDurationRoundedTo duration unit mode r → IsDurationRoundedTo duration unit mode s → r ≡ s
duration_rounded-one duration unit mode r s =
    let stable = stable_duration r s in
    need-one r s _ stable (need-one_if r s _ stable (λ is. need-one r s _ stable
    (by_mode-one mode (λ m. IsRoundedDuration m (unsigned_abs (nanoseconds_in unit)) (nanoseconds_in duration)) r s
    (λ m. let positive = is.positive in duration_result-one m (unsigned_abs (nanoseconds_in unit)) (nanoseconds_in duration) r s (omega (arith, ints, positive))))))

-- in a zone
in_range_of : (m : Moment) → IsMoment m → IsDateTime (local_in m)
in_range_of m is = IsDateTime-date_time (day_of m.date) m.time (IsDate-day_of m.date is.date) is.time.below_day

rounds_in_zone-one : (mode : RoundingMode) (u : ℕ) (z : Timeline) (m : LocalAndOffset) (a b : Result InZone LocalTimeError) → InOrder z → 0 < u → Shows z m.local m → IsDateTime m.local
    → RoundsInZone mode u (in_zone z m) a → RoundsInZone mode u (in_zone z m) b → a ≡ b
rounds_in_zone-one mode u z m a b order some shows inside h k =
    either (cases_eq u day) (λ is. day-one mode (in_zone z m) a b shows.offset inside (h.whole_day is) (k.whole_day is))
    (λ other. clock-one mode u (in_zone z m) a b some (λ p reading x y. kept-one p (in_zone z m) reading x y (local-one z order)) (h.clock other) (k.clock other))

pub zoned_rounded-one : (z : Timeline) → InOrder z → (moment : Moment) (unit : Duration) (mode : ℕ) (r s : MomentResult) → IsZonedRoundedTo z moment unit mode r → IsZonedRoundedTo z moment unit mode s
    → r ≡ s
zoned_rounded-one z order moment unit mode r s =
    let stable = stable_moment r s in
    need-one_if r s _ stable (λ is. need-one_if r s _ stable (λ own. need-one_if r s _ stable (λ whole. need-one r s _ stable
    (by_mode-one mode (λ m. IsZonedWith (RoundsInZone m (unsigned_abs (nanoseconds_in unit)) (zoned_in z moment))) r s
    (λ m. with-one zoned_or_error (RoundsInZone m (unsigned_abs (nanoseconds_in unit)) (zoned_in z moment)) r s
    (λ a b. rounds_in_zone-one m (unsigned_abs (nanoseconds_in unit)) z (local_and_offset_in moment) a b order whole.unit.positive own (in_range_of moment is)))))))
