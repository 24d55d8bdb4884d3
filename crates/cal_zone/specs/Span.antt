-- Instants at which the offset of a zone is the same.
use Rattle.std.specs.Prelude.{◌≡◌, ℕ, suc, ◌<◌, ◌≤◌, List, length, ℤ, pos, neg_ℤ, ◌+ℤ◌, ◌-ℤ◌, ◌<ℤ◌, ◌≤ℤ◌, ◌⊎◌}
use Rattle.cal_zone.specs.declared.change.Change.{Change}
use Rattle.cal_zone.specs.declared.span.Span.{Span}
use Rattle.cal_zone.specs.Split.{IsSplit}
use Rattle.cal_zone.specs.Timeline.{Timeline, at, offset_at}

-- Clocks have this offset at each instant from the first to the last.
abbrev pub IsSpan : Timeline → Span → Type 0
IsSpan zone s = (i : ℤ) → s.first ≤ℤ i → i ≤ℤ s.last → offset_at zone i ≡ s.offset

-- The span goes from the last of the first n changes to the next change. Without one it has all
-- earlier or later instants of 64 bits.
pub record IsSpanAfter (cs : List Change) (n : ℕ) (s : Span) : Type 0 where
  pub first : (k : ℕ) → suc k ≡ n → s.first ≡ at cs k
  pub unbounded_first : n ≡ 0 → s.first ≡ neg_ℤ (pos 9_223_372_036_854_775_808)
  pub last : n < length cs → s.last ≡ at cs n -ℤ pos 1
  pub unbounded_last : length cs ≤ n → s.last ≡ pos 9_223_372_036_854_775_807

-- The span goes from the last change that isn't after an instant to the next change.
pub record IsBetweenChanges (zone : Timeline) (instant : ℤ) (s : Span) : Type 0 where
  pub count : ℕ
  pub split : IsSplit (at zone.changes) (length zone.changes) instant count count
  pub after : IsSpanAfter zone.changes count s

-- The instant is less than half a year after the last instant of the span, or before the first one.
abbrev pub IsNear : Span → ℤ → Type 0
IsNear s instant =
    (s.last ≤ℤ instant) × (instant <ℤ (s.last +ℤ pos 15_778_476)) ⊎ (instant ≤ℤ s.first) × (s.first <ℤ (instant +ℤ pos 15_778_476))

-- The span has each instant up to 187198 seconds before and after an instant: no two offsets differ
-- by more.
abbrev pub HasAround : Span → ℤ → Type 0
HasAround s instant = (s.first ≤ℤ (instant -ℤ pos 187_198)) × ((instant +ℤ pos 187_198) ≤ℤ s.last)

-- ---- instants by their indexes, such as those of changes
-- All instants from an index on are after x.
abbrev pub AllAfter : (ℕ → ℤ) → ℕ → ℕ → ℤ → Type 0
AllAfter f start n x = (k : ℕ) → start ≤ k → k < n → x <ℤ f k

-- All n instants are at most x.
abbrev pub AllPast : (ℕ → ℤ) → ℕ → ℤ → Type 0
AllPast f n x = (k : ℕ) → k < n → f k ≤ℤ x

-- An instant from an index on is at most 280797 seconds before or after x: the maximum of an offset
-- and the maximum difference of two.
pub record HasNear (f : ℕ → ℤ) (start n : ℕ) (x : ℤ) : Type 0 where
  pub index : ℕ
  pub from : start ≤ index
  pub inside : index < n
  pub low : (x -ℤ pos 280_797) ≤ℤ f index
  pub high : f index ≤ℤ (x +ℤ pos 280_797)
