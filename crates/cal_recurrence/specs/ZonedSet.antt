-- Recurrence sets in a time zone: the instants that the readings of a set mean, and others
-- (RFC 5545).
use Rattle.std.specs.Prelude.{◌≡◌, ◌⊎◌, ℕ, ◌+◌, ◌≤◌, Bool, true, ◌&&◌, ◌||◌, not, ℤ, pos, ◌+ℤ◌, ◌*◌, ◌≤ℤ◌, ◌<ℤ◌, int_lt, slice_get, unsigned_abs, Option, Some, MatchOption, option_map}
use Rattle.std.specs.List.{list_any}
use Rattle.std.specs.Ordering.{int_eq}
use Rattle.cal_time.specs.SignedDuration.{second}
use Rattle.cal_time.specs.UtcOffset.{IsOffset}
use Rattle.cal_datetime.specs.DateTime.{last_date_time, IsDateTime}
use Rattle.cal_datetime.specs.OffsetDateTime.{LocalAndOffset, instant, IsInstant}
use Rattle.cal_recurrence.specs.DateTimeRule.{is_not_after}
use Rattle.cal_recurrence.specs.DateTimeSet.{candidates, is_in_set, is_listed}
use Rattle.cal_zone.specs.Local.{IsCompatible, IsLocalOf}
use Rattle.cal_zone.specs.Timeline.{Timeline}
use Rattle.cal_zone.specs.declared.local.Local.{Local}
use Rattle.cal_recurrence.specs.declared.zoned_set.ZonedSet.{ZonedSet}

-- The date-time m is what a reading means in a zone, by the policy `compatible`.
pub record IsMeant (zone : Timeline) (z : ℤ) (m : LocalAndOffset) : Type 0 where
  pub local : Local
  pub shown : IsLocalOf zone z local
  pub selected : IsCompatible local (Some m)
  pub offset : IsOffset m.offset

-- The instant x isn't an exception.
abbrev pub is_kept : ZonedSet → ℤ → Bool
is_kept set x = not (list_any (λ e. int_eq (instant e) x) set.exceptions.now)

-- The end, if there is one, allows the reading z at the instant x: it ends only the rule, and not the
-- other readings.
abbrev pub is_in_time : ZonedSet → ℤ → ℤ → Bool
is_in_time set z x = is_not_after (option_map instant set.until) x || is_listed set.readings.dates.now z

-- The reading z of the set means the date-time m, which isn't left out.
pub record Means (set : ZonedSet) (z : ℤ) (m : LocalAndOffset) : Type 0 where
  pub range : IsDateTime z
  pub on : is_in_set set.readings z ≡ true
  pub meant : IsMeant set.zone.now z m
  pub in_time : is_in_time set z (instant m) ≡ true
  pub kept : is_kept set (instant m) ≡ true

-- The date-time m is one of the other instants, and isn't left out. Its place is after all readings
-- of the range, by its index.
pub record IsListed (set : ZonedSet) (place : ℤ) (m : LocalAndOffset) : Type 0 where
  pub index : ℕ
  pub after : place ≡ pos (last_date_time + 1 + index)
  pub listed : slice_get set.instants.now index ≡ Some m
  pub range : IsInstant (instant m)
  pub kept : is_kept set (instant m) ≡ true

-- The date-time m is an occurrence, by a reading or by one of the other instants.
abbrev pub Occurs : ZonedSet → ℤ → LocalAndOffset → Type 0
Occurs set place m = Means set place m ⊎ IsListed set place m

-- The set has an occurrence at the instant x.
pub record HasInstant (set : ZonedSet) (x : ℤ) : Type 0 where
  pub place : ℤ
  pub moment : LocalAndOffset
  pub occurs : Occurs set place moment
  pub same : instant moment ≡ x

-- m is the first occurrence after the instant x. If two are at the same instant, it has the first
-- place: a reading before another instant, and the earlier reading.
pub record IsFirstAfter (occurs : ℤ → LocalAndOffset → Type 0) (x : ℤ) (m : LocalAndOffset) : Type 0 where
  pub place : ℤ
  pub is : occurs place m
  pub later : x <ℤ instant m
  pub first : (z : ℤ) (k : LocalAndOffset) → occurs z k → x <ℤ instant k → (instant m ≤ℤ instant k) × (instant k ≡ instant m → place ≤ℤ z)

-- No occurrence comes after the instant x.
abbrev pub NoneAfter : (ℤ → LocalAndOffset → Type 0) → ℤ → Type 0
NoneAfter occurs x = (z : ℤ) (k : LocalAndOffset) → occurs z k → instant k ≤ℤ x

-- r is the first occurrence after the instant x, or `None` without one.
abbrev pub IsNextAfter : (ℤ → LocalAndOffset → Type 0) → ℤ → Option LocalAndOffset → Type 0
IsNextAfter occurs x r = MatchOption r (NoneAfter occurs x) (IsFirstAfter occurs x)

-- ---- the search
-- The maximum distance of a reading from the instant that it means, in nanoseconds.
abbrev pub reach : ℤ
reach = pos (93_599 * second)

-- The reading z is in the set, and is an occurrence if it means the instant x.
abbrev pub is_selected : ZonedSet → ℤ → ℤ → Bool
is_selected set z x = is_in_set set.readings z && (is_in_time set z x && is_kept set x)

-- The reading and all later ones mean only instants after the end.
abbrev pub IsPast : Option LocalAndOffset → Option ℤ → Type 0
IsPast end reading = MatchOption reading ⊥ (λ y. MatchOption end ⊥ (λ m. (instant m +ℤ reach) <ℤ y))

-- y is a candidate from the number n on, and no reading before it is an occurrence.
pub record IsNextCandidate (set : ZonedSet) (n : ℕ) (y : ℤ) : Type 0 where
  pub range : IsDateTime y
  pub on : candidates set.readings y ≡ true
  pub from : n ≤ unsigned_abs y
  pub first : (z : ℤ) (k : LocalAndOffset) → Means set z k → n ≤ unsigned_abs z → y ≤ℤ z

-- No reading from the number n on is an occurrence.
abbrev pub NoReading : ZonedSet → ℕ → Type 0
NoReading set n = (z : ℤ) (k : LocalAndOffset) → Means set z k → ¬ (n ≤ unsigned_abs z)

-- The reading y of the set means the date-time m.
abbrev pub MeansAt : ZonedSet → ℤ → ℤ → LocalAndOffset → Type 0
MeansAt set y z m = Means set z m × (z ≡ y)

-- The date-time m is earlier than k.
abbrev pub is_earlier : LocalAndOffset → LocalAndOffset → Bool
is_earlier m k = int_lt (instant m) (instant k)
