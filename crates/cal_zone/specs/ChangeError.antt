-- The first reason why changes are not in order.
use Rattle.std.specs.Prelude.{ℕ, suc, ◌<◌, ℤ, ◌<ℤ◌, ◌≤ℤ◌, List, length}
use Rattle.std.specs.List.{slice_index_or}
use Rattle.cal_zone.specs.declared.change.Change.{Change}
use Rattle.cal_zone.specs.declared.change_error.ChangeError.{ChangeError}
use Rattle.cal_zone.specs.declared.change_error.ChangeError.TheVariants.{FirstOffset, Offset, Instant, NotRising, Overlap}
use Rattle.cal_zone.specs.Timeline.{IsOffset, IsMoment, IsNext, no_change, at, after_changes, begins, ends}

-- The offset and the instant of the change with an index are in range.
pub record IsSound (cs : List Change) (k : ℕ) : Type 0 where
  pub offset : IsOffset (slice_index_or cs k no_change).kind.offset
  pub moment : IsMoment (at cs k)

-- The next change is later, and its gap or fold begins when the gap or fold of this one has ended.
abbrev pub Follows : ℤ → List Change → ℕ → Type 0
Follows first cs k = IsNext (at cs k) (at cs (suc k)) (after_changes first cs k) (after_changes first cs (suc k)) (after_changes first cs (suc (suc k)))

-- The offsets and the instants of the first n changes are in range.
abbrev pub AreSound : List Change → ℕ → Type 0
AreSound cs n = (k : ℕ) → k < n → IsSound cs k

-- Each of the first n changes has the next change after it, as in `Follows`.
abbrev pub AllFollow : ℤ → List Change → ℕ → Type 0
AllFollow first cs n = (k : ℕ) → k < n → Follows first cs k

-- The first error of the changes after the first offset. The errors of single changes come before
-- the errors of a change and the next one.
abbrev pub IsChangeError : ℤ → List Change → ChangeError → Type 0
IsChangeError first cs FirstOffset = ¬ (IsOffset first)
IsChangeError first cs (Offset k) = IsOffset first × (k < length cs) × AreSound cs k × ¬ (IsOffset (slice_index_or cs k no_change).kind.offset)
IsChangeError first cs (Instant k) =
    IsOffset first × (k < length cs) × AreSound cs k × IsOffset (slice_index_or cs k no_change).kind.offset × ¬ (IsMoment (at cs k))
IsChangeError first cs (NotRising k) =
    IsOffset first × AreSound cs (length cs) × (suc k < length cs) × AllFollow first cs k × (at cs (suc k) ≤ℤ at cs k)
IsChangeError first cs (Overlap k) =
    IsOffset first × AreSound cs (length cs) × (suc k < length cs) × AllFollow first cs k × (at cs k <ℤ at cs (suc k)) × (begins first cs (suc k) <ℤ ends first cs k)
