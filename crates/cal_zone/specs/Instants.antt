-- The instants at which clocks show a reading.
use Rattle.std.specs.Prelude.{◌≡◌, ℤ, pos, ◌+ℤ◌, ◌-ℤ◌, ◌<ℤ◌, ◌≤ℤ◌, ◌⊎◌}
use Rattle.cal_zone.specs.declared.instants.Instants.{Instants}
use Rattle.cal_zone.specs.declared.instants.Instants.TheVariants.{Single, Gap, Fold}
use Rattle.cal_zone.specs.Timeline.{Timeline, offset_at, IsMoment, IsOffset}

-- The instants that a result names.
abbrev pub Names : Instants → ℤ → Type 0
Names (Single instant) i = i ≡ instant
Names (Gap at before after) i = ⊥
Names (Fold earlier later) i = (i ≡ earlier) ⊎ (i ≡ later)

-- At an instant the clocks go forward over the reading, from one offset to another.
pub record IsGap (zone : Timeline) (reading at before after : ℤ) : Type 0 where
  pub moment : IsMoment at
  pub before_is : offset_at zone (at -ℤ pos 1) ≡ before
  pub after_is : offset_at zone at ≡ after
  pub starts : (at +ℤ before) ≤ℤ reading
  pub ends : reading <ℤ (at +ℤ after)
  pub offsets : IsOffset before × IsOffset after

-- A gap is a change over the reading, and the instants of a fold are in order.
abbrev pub IsExplained : Timeline → ℤ → Instants → Type 0
IsExplained zone reading (Single instant) = Unit {0}
IsExplained zone reading (Gap at before after) = IsGap zone reading at before after
IsExplained zone reading (Fold earlier later) = earlier <ℤ later
