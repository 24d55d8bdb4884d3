-- A zone: the changes of a file, and after the last of them the changes of its rule.
use Rattle.std.specs.List.{slice_index_or}
use Rattle.std.specs.Prelude.{◌≡◌, ℕ, ◌-◌, ◌<◌, ◌≤◌, Bool, true, ℤ, List, [], ◌∷◌, ◌++◌, length, filter, Option, Some, None, int_lt}
use Rattle.cal_zone.specs.declared.change.Change.{Change}
use Rattle.cal_zone.specs.declared.local_type.LocalType.{LocalType}
use Rattle.cal_zone.specs.declared.rule.Rule.{Rule}
use Rattle.cal_zone.specs.declared.timeline_error.TimelineError.{TimelineError}
use Rattle.cal_zone.specs.declared.timeline_error.TimelineError.TheVariants as refused
use Rattle.cal_zone.specs.declared.zone_parts.ZoneParts.{ZoneParts}
use Rattle.cal_zone.specs.ChangeError.{IsChangeError}
use Rattle.cal_zone.specs.Rule.{changes_from}
use Rattle.cal_zone.specs.Span.{AllPast}
use Rattle.cal_zone.specs.Table.{changes_in, IsReadable}
use Rattle.cal_zone.specs.Timeline.{Timeline, at, after_changes, no_change, IsNext, IsOrdered}

-- All changes of a rule.
abbrev pub rule_changes : Option Rule → List Change
rule_changes None = []
rule_changes (Some rule) = changes_from rule.one rule.other 0

-- The change is after the last change of a file.
abbrev pub is_after : List Change → Change → Bool
is_after [] c = true
is_after (d ∷ ds) c = int_lt (at (d ∷ ds) (length (d ∷ ds) - 1)) c.at

-- The zone with the first type, the changes of the file, and the changes of the rule that are after
-- the last of them.
abbrev pub zone_of : LocalType → List Change → Option Rule → Timeline
zone_of first table rule = record { first = first; changes = table ++ filter (is_after table) (rule_changes rule) }

-- The changes of the rule from an index on, and the zone that has only these changes of the rule.
abbrev pub later : Option Rule → ℕ → List Change
later None skip = []
later (Some rule) skip = changes_from rule.one rule.other skip

abbrev pub held : LocalType → List Change → Option Rule → ℕ → Timeline
held first table rule skip = record { first = first; changes = table ++ later rule skip }

-- The zone that is made of these parts.
abbrev pub made_of : ZoneParts → Timeline
made_of p = held p.first (changes_in p.bytes.now p.layout) p.rule p.skip

-- The bytes have all parts of the layout, and the rule's first change has an index up to the number
-- of its changes.
pub record AreParts (p : ZoneParts) : Type 0 where
  pub readable : IsReadable p.bytes.now p.layout
  pub skip : p.skip ≤ 3_999_998

-- All changes of the zone that are after an instant are changes of a rule.
pub record IsByRule (zone : Timeline) (instant : ℤ) : Type 0 where
  pub rule : Rule
  pub skip : ℕ
  pub before : List Change
  pub changes : zone.changes ≡ before ++ changes_from rule.one rule.other skip
  pub past : AllPast (at before) (length before) instant

-- The first of the changes ys is after the last of the changes xs, and so is its gap or fold, if
-- both lists have changes.
abbrev pub Joins : ℤ → List Change → List Change → Type 0
Joins first xs ys = 0 < length xs → 0 < length ys → IsNext
    (at xs (length xs - 1)) (at ys 0)
    (after_changes first xs (length xs - 1)) (slice_index_or xs (length xs - 1) no_change).kind.offset (slice_index_or ys 0 no_change).kind.offset

-- The first reason why changes and a rule are not a zone.
abbrev pub IsTimelineError : LocalType → List Change → Option Rule → TimelineError → Type 0
IsTimelineError first table rule (refused.Change error) = IsChangeError first.offset table error
IsTimelineError first table rule refused.Junction = IsOrdered first.offset table × ¬ (Joins first.offset table (filter (is_after table) (rule_changes rule)))
