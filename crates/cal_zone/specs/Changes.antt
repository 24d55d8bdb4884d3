-- The changes of a zone before and after an instant.
use Rattle.std.specs.Prelude.{◌≡◌, ℕ, suc, ◌<◌, ℤ, ◌<ℤ◌, ◌≤ℤ◌, length}
use Rattle.std.specs.List.{slice_index_or}
use Rattle.cal_zone.specs.declared.change.Change.{Change}
use Rattle.cal_zone.specs.Split.{IsSplit}
use Rattle.cal_zone.specs.Timeline.{Timeline, at, no_change}

-- The change is the first one after the instant. There is none if all changes are past.
pub record IsNextChange (zone : Timeline) (instant : ℤ) (c : Change) : Type 0 where
  pub index : ℕ
  pub inside : index < length zone.changes
  pub split : IsSplit (at zone.changes) (length zone.changes) instant index index
  pub change : c ≡ slice_index_or zone.changes index no_change

abbrev pub NoNextChange : Timeline → ℤ → Type 0
NoNextChange zone instant = (k : ℕ) → k < length zone.changes → at zone.changes k ≤ℤ instant

-- The change is the last one that isn't after the instant. There is none if all changes are after
-- it.
pub record IsPreviousChange (zone : Timeline) (instant : ℤ) (c : Change) : Type 0 where
  pub index : ℕ
  pub inside : index < length zone.changes
  pub split : IsSplit (at zone.changes) (length zone.changes) instant (suc index) (suc index)
  pub change : c ≡ slice_index_or zone.changes index no_change

abbrev pub NoPreviousChange : Timeline → ℤ → Type 0
NoPreviousChange zone instant = (k : ℕ) → k < length zone.changes → instant <ℤ at zone.changes k
