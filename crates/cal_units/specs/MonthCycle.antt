-- The months form a cycle of length 12.
use Rattle.std.specs.Prelude.{◌≡◌, ◌<◌, ℕ, refl}
use Rattle.std.proofs.Common.{lit<}
use Rattle.cal_units.specs.declared.month.Month.{Month}
use Rattle.cal_units.specs.declared.month.Month.TheVariants.{January, February, March, April, May, June, July, August, September, October, November, December}
use Rattle.cal_units.specs.Month.{index, month_of_index}
use Rattle.cal_units.specs.RoundTrips.{each_index_below}

-- The index of a month is below 12.
pub index-below : (m : Month) → index m < 12
index-below January = lit< tt
index-below February = lit< tt
index-below March = lit< tt
index-below April = lit< tt
index-below May = lit< tt
index-below June = lit< tt
index-below July = lit< tt
index-below August = lit< tt
index-below September = lit< tt
index-below October = lit< tt
index-below November = lit< tt
index-below December = lit< tt

-- The month at the index of m is m.
pub month_of_index-index : (m : Month) → month_of_index (index m) ≡ m
month_of_index-index January = refl
month_of_index-index February = refl
month_of_index-index March = refl
month_of_index-index April = refl
month_of_index-index May = refl
month_of_index-index June = refl
month_of_index-index July = refl
month_of_index-index August = refl
month_of_index-index September = refl
month_of_index-index October = refl
month_of_index-index November = refl
month_of_index-index December = refl

-- The index of the month at i is i, if i is below 12.
pub index-month_of_index : (i : ℕ) → i < 12 → index (month_of_index i) ≡ i
index-month_of_index = each_index_below (λ i. index (month_of_index i)) 12 refl
