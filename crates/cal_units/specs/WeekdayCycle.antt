-- The weekdays form a cycle of length 7.
use Rattle.std.specs.Prelude.{◌≡◌, ◌<◌, ℕ, refl}
use Rattle.std.proofs.Common.{lit<}
use Rattle.cal_units.specs.declared.weekday.Weekday.{Weekday}
use Rattle.cal_units.specs.declared.weekday.Weekday.TheVariants.{Monday, Tuesday, Wednesday, Thursday, Friday, Saturday, Sunday}
use Rattle.cal_units.specs.RoundTrips.{each_index_below}
use Rattle.cal_units.specs.Weekday.{index, weekday_of_index}

-- The index of a weekday is below 7.
pub index-below : (w : Weekday) → index w < 7
index-below Monday = lit< tt
index-below Tuesday = lit< tt
index-below Wednesday = lit< tt
index-below Thursday = lit< tt
index-below Friday = lit< tt
index-below Saturday = lit< tt
index-below Sunday = lit< tt

-- The weekday at the index of w is w.
pub weekday_of_index-index : (w : Weekday) → weekday_of_index (index w) ≡ w
weekday_of_index-index Monday = refl
weekday_of_index-index Tuesday = refl
weekday_of_index-index Wednesday = refl
weekday_of_index-index Thursday = refl
weekday_of_index-index Friday = refl
weekday_of_index-index Saturday = refl
weekday_of_index-index Sunday = refl

-- The index of the weekday at i is i, if i is below 7.
pub index-weekday_of_index : (i : ℕ) → i < 7 → index (weekday_of_index i) ≡ i
index-weekday_of_index = each_index_below (λ i. index (weekday_of_index i)) 7 refl
