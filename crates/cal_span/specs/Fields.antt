-- A duration is stored as whole seconds and nanoseconds that don't have opposite signs.
use Rattle.std.specs.Prelude.{ℤ, pos, neg_ℤ, ◌+ℤ◌, ◌-ℤ◌, ◌*ℤ◌, ◌≤ℤ◌, ◌<ℤ◌, int_div, int_rem}
use Rattle.cal_span.specs.SignedDuration.{second}
use Rattle.cal_span.specs.declared.signed_duration.SignedDuration.TheInside.{Inside}

-- The duration of the fields, in nanoseconds.
abbrev pub nanoseconds_of_fields : Inside → ℤ
nanoseconds_of_fields fields = fields.seconds *ℤ pos second +ℤ fields.nanoseconds

-- Fields are normal if the nanoseconds are less than a second, and the fields don't have opposite
-- signs.
pub record IsNormal (fields : Inside) : Type 0 where
  pub above : neg_ℤ (pos second) <ℤ fields.nanoseconds
  pub below : fields.nanoseconds <ℤ pos second
  pub positive : pos 0 <ℤ fields.seconds → pos 0 ≤ℤ fields.nanoseconds
  pub negative : fields.seconds <ℤ pos 0 → fields.nanoseconds ≤ℤ pos 0

-- The fields of a duration in nanoseconds: its whole seconds, and the nanoseconds past them.
abbrev pub fields_of : ℤ → Inside
fields_of v = record { seconds = int_div v (pos second); nanoseconds = int_rem v (pos second) }

-- A carry of one second is enough if the nanoseconds are less than two seconds, or less than one
-- second if they and the seconds have opposite signs.
pub record CanCarry (seconds nanoseconds : ℤ) : Type 0 where
  pub above : neg_ℤ (pos 2_000_000_000) <ℤ nanoseconds
  pub below : nanoseconds <ℤ pos 2_000_000_000
  pub over : pos second ≤ℤ nanoseconds → pos 0 ≤ℤ seconds
  pub under : nanoseconds ≤ℤ neg_ℤ (pos second) → seconds ≤ℤ pos 0

-- The carry is -1, 0 or 1 second. It moves from the nanoseconds to the seconds, and makes the
-- fields normal.
pub record IsCarry (seconds nanoseconds carry : ℤ) : Type 0 where
  pub at_least : neg_ℤ (pos 1) ≤ℤ carry
  pub at_most : carry ≤ℤ pos 1
  pub normal : IsNormal (record { seconds = seconds +ℤ carry; nanoseconds = nanoseconds -ℤ carry *ℤ pos second })
