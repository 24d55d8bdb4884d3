-- Laws for callers: the order of the occurrences of a set, and what the clocks of a zone show at
-- them.
use Rattle.std.specs.Prelude.{◌≡◌, ◌<ℤ◌, ◌≤ℤ◌, ℤ, [], length, IfSome, Option, None, Some}
use Rattle.std.proofs.Common.{inl, inr, ap, arith}
use Rattle.std.proofs.lemmas.Option.{slice_get_within}
use Rattle.cal_datetime.specs.OffsetDateTime.{LocalAndOffset, instant}
use Rattle.cal_recurrence.specs.ZonedSet.{IsNextAfter, Means, Occurs}
use Rattle.cal_recurrence.specs.declared.zoned_set.ZonedSet.{ZonedSet}
use Rattle.cal_zone.specs.Local.{IsCompatible, IsLocalOf, Shows}
use Rattle.cal_zone.specs.Timeline.{Timeline}
use Rattle.cal_zone.specs.declared.local.Local.{Local}
use Rattle.cal_zone.specs.declared.local.Local.TheVariants.{Single, Gap, Fold}

-- The clocks show a reading at the date-time that a policy selects, if they show it at all.
pub shown-at : (zone : Timeline) (y : ℤ) (m k : LocalAndOffset) (local : Local) → IsLocalOf zone y local → IsCompatible local (Some m) → Shows zone y k → Shows zone y m
shown-at zone y m k (Single x) its selected shown = let e : m ≡ x = cc in (its.set m).0 e
shown-at zone y m k (Gap gap) its selected shown = absurd ((its.set k).1 shown)
shown-at zone y m k (Fold a b) its selected shown = let e : m ≡ a = cc in (its.set m).0 (inl e)

-- The clocks show a reading of a set at its occurrence, unless they skip the reading.
pub shown : (set : ZonedSet) (z : ℤ) (m k : LocalAndOffset) → Means set z m → Shows set.zone.now z k → Shows set.zone.now z m
shown set z m k h = shown-at set.zone.now z m k h.meant.local h.meant.shown h.meant.selected

-- In a set without other instants, each occurrence is what a reading means.
pub by_reading : (set : ZonedSet) (z : ℤ) (m : LocalAndOffset) → set.instants.now ≡ [] → Occurs set z m → Means set z m
by_reading set z m none (inl h) = h
by_reading set z m none (inr h) = let less = slice_get_within set.instants.now h.index m h.listed in absurd (omega (arith, less, ap length none))

-- No occurrence comes between an instant and the next occurrence after it.
pub none_between : (set : ZonedSet) (x : ℤ) (r : Option LocalAndOffset) → IsNextAfter (Occurs set) x r
    → IfSome r (λ next. (z : ℤ) (m : LocalAndOffset) → Occurs set z m → x <ℤ instant m → instant next ≤ℤ instant m)
none_between set x None h = tt
none_between set x (Some next) h = λ z m is late. (h.first z m is late).0
