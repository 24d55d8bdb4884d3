-- Results of calls for date-times in a zone.
use Rattle.std.proofs.Common.{◌≡◌, ◌∙◌, ap, subst}
use Rattle.std.specs.Prelude.{Option, Some, None, IfNone, IfSome, MatchOption, ℕ, ℤ, pos, ◌-ℤ◌, Result, Ok, Err}
use Rattle.cal_datetime.specs.DateTime.{IsDateTime}
use Rattle.cal_datetime.specs.OffsetDateTime.{LocalAndOffset}
use Rattle.cal_schedule.specs.Period.{Parts}
use Rattle.cal_schedule.specs.declared.unit.CalendarUnit.{CalendarUnit}
use Rattle.cal_zone.specs.Timeline.{Timeline, InOrder}
use Rattle.cal_zone.specs.declared.local_time_error.LocalTimeError.{LocalTimeError}
use Rattle.cal_zone.specs.declared.policy.Policy.{Policy}
use Rattle.cal_zoned.specs.Day.{IsDayLength, HasDayLength}
use Rattle.cal_zoned.specs.Moves.{IsNextStart}
use Rattle.cal_zoned.specs.Period.{IsPeriodLater}
use Rattle.cal_zoned.specs.Unchecked.{in_zone}
use Rattle.cal_zoned.specs.Zoned.{InZone, IsSeen, at_instant, instant_in, reading_at, seen}
use Rattle.cal_zoned.proofs.OneResult.{seen-is}
use Rattle.cal_zoned.proofs.UnitEnds.{next_start-one}
use Rattle.cal_time.specs.SignedDuration.{day}
use Rattle.cal_rounding.specs.InZone.{IsRoundedByClock, IsRoundedToDay}
use Rattle.cal_rounding.specs.declared.rounding_mode.RoundingMode.{RoundingMode}
use Rattle.cal_c.specs.Moments.{moment_error, moment_ok}
use Rattle.cal_c.specs.Rounding.{RoundsInZone}
use Rattle.cal_c.specs.Results.{duration_or_out_of_range, int64_error}
use Rattle.cal_c.specs.Values.{need◌else◌then◌}
use Rattle.cal_c.specs.Zoned.{zoned_or_error, IsDayLengthResult, IsEndResult, IsLaterSeconds, IsSecondsAfter}
use Rattle.cal_c.specs.Zones.{policy_number, zone_in, HasZone, IsPolicy}
use Rattle.cal_c.proofs.ZoneResults.{for_policy, for_some, match_by}
use Rattle.cal_c.specs.declared.status.TheConstants.{INVALID_POLICY, INVALID_ZONE, RESULT_OUT_OF_RANGE}
use Rattle.cal_c.specs.declared.results.Int64Result.{Int64Result}
use Rattle.cal_c.specs.declared.zones.checked_zone.CheckedZone.{CheckedZone}
use Rattle.cal_c.specs.declared.results.DurationResult.{DurationResult}
use Rattle.cal_c.specs.declared.results.MomentResult.{MomentResult}

pub seen_at : (z : Timeline) (x y : ℤ) (r : Result InZone LocalTimeError) → x ≡ y → IsSeen z x r → IsSeen z y r
seen_at z x y r e h = subst (λ (i : ℤ). IsSeen z i r) e h

-- the length of a day that the code finds
pub length_result : (z : Timeline) (n m : ℕ) (d : Option ℤ) (r : DurationResult) → m ≡ n → IfSome d (IsDayLength z m) → IfSome d (λ _. HasDayLength z m)
    → IfNone d (¬ (HasDayLength z m)) → r ≡ duration_or_out_of_range d → IsDayLengthResult z n r
length_result z n m (Some d) r e is has none h = record {
  value = λ _. (d, subst (λ (k : ℕ). IsDayLength z k d) e is, h);
  none = λ no. absurd (no (subst (HasDayLength z) e has));
}
length_result z n m None r e is has none h = record { value = λ some. absurd (subst (λ (k : ℕ). ¬ (HasDayLength z k)) e none some); none = λ no. h }

-- what the clocks show at an instant, as a date-time in the zone
pub at_seen : (z : Timeline) (q : Policy) (i : ℤ) (m : LocalAndOffset) (p : Parts) (r : Result InZone LocalTimeError) → m ≡ seen z i → IsPeriodLater q (in_zone z m) p r
    → IsPeriodLater q (at_instant z i) p r
at_seen z q i m p r e h = subst (λ (x : LocalAndOffset). IsPeriodLater q (in_zone z x) p r) e h

-- a row of a column, for a zone and a policy that are there or not
pub later_row : (c : CheckedZone) (o : Option Timeline) (q : Option Policy) (policy : ℕ) (seconds : ℤ) (period : Parts) (row : Int64Result)
    → MatchOption o (HasZone c → ⊥) (λ (z : Timeline). (z ≡ zone_in c) × HasZone c) → MatchOption q (IsPolicy policy → ⊥) (λ (p : Policy). IsPolicy policy × (policy_number p ≡ policy))
    → MatchOption o (row ≡ int64_error INVALID_ZONE)
    (λ (z : Timeline). InOrder z → MatchOption q (row ≡ int64_error INVALID_POLICY) (λ (p : Policy). IsLaterSeconds z seconds period p row))
    → IsSecondsAfter c seconds period policy row
later_row c o q policy seconds period row zone number found = record {
  answer = for_some c o _ _ zone (match_by
      (λ (z : Timeline). InOrder z → MatchOption q (row ≡ int64_error INVALID_POLICY) (λ (p : Policy). IsLaterSeconds z seconds period p row))
      (λ (z : Timeline). InOrder z → need IsPolicy policy else row ≡ int64_error INVALID_POLICY then ((p : Policy) × (policy_number p ≡ policy) × IsLaterSeconds z seconds period p row))
      o _ (λ z is order. for_policy policy q (row ≡ int64_error INVALID_POLICY) (λ (p : Policy). IsLaterSeconds z seconds period p row) number (is order)) found);
}

-- the end of a unit that the code finds, or none
pub no_end : (unit : CalendarUnit) (m : InZone) (r : MomentResult) → ((s : InZone) → IsNextStart unit m s → ⊥) → r ≡ moment_error RESULT_OUT_OF_RANGE → IsEndResult unit m r
no_end unit m r never e = IsEndResult.none (λ s start _. never s start) e

pub end_is : (unit : CalendarUnit) (m v : InZone) (d : ℤ) (its : Result InZone LocalTimeError) (r : MomentResult) → d ≡ pos 1 → IsNextStart unit m v → IsSeen v.zone (instant_in v -ℤ d) its
    → r ≡ zoned_or_error its → IsEndResult unit m r
end_is unit m v d its r e start seen is = by_result its (seen_at v.zone _ _ its (ap (λ (x : ℤ). instant_in v -ℤ x) e) seen) is
  where
    by_result : (its : Result InZone LocalTimeError) → IsSeen v.zone (instant_in v -ℤ pos 1) its → r ≡ zoned_or_error its → IsEndResult unit m r
    by_result (Ok w) seen is = let s = seen-is v.zone (instant_in v -ℤ pos 1) w seen in IsEndResult.end v start s.0 (is ∙ ap (λ (x : InZone). moment_ok x.moment) s.1)
    by_result (Err w) seen is =
        let out : ¬ IsDateTime (reading_at v.zone (instant_in v -ℤ pos 1)) = λ inside. let same = seen.value inside in absurd cc in
        IsEndResult.none (λ s other inside. out (subst (λ (x : InZone). IsDateTime (reading_at x.zone (instant_in x -ℤ pos 1))) (next_start-one unit m s v other start) inside))
        (is ∙ ap zoned_or_error (seen.error out))

-- a rounded date-time in a zone, by another unit and date-time that are the same
pub rounds : (z : Timeline) (mode : RoundingMode) (u v : ℕ) (m l : LocalAndOffset) (r : Result InZone LocalTimeError) → m ≡ l → u ≡ v → (u ≡ day → IsRoundedToDay mode (in_zone z m) r)
    → ((u ≡ day → ⊥) → IsRoundedByClock mode u (in_zone z m) r) → RoundsInZone mode v (in_zone z l) r
rounds z mode u v m l r e f by_day by_clock =
    subst (λ (x : LocalAndOffset). RoundsInZone mode v (in_zone z x) r) e (subst (λ (x : ℕ). RoundsInZone mode x (in_zone z m) r) f (record { whole_day = by_day; clock = by_clock }))
