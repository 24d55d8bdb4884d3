-- Sets of a recurrence with a COUNT, which a search counts only as far as it needs: the rule ends at
-- the last reading that was counted, and other readings are left to count.
use Rattle.std.specs.Prelude.{ℕ, ◌+◌, Bool, true, false, ◌&&◌, ℤ, int_le, unsigned_abs, List, [], ◌∷◌, take, Option, Some, None}
use Rattle.std.specs.List.{last_or}
use Rattle.cal_recurrence.specs.DateTimeRule.{occurrences_after, DateTimeParts}
use Rattle.cal_recurrence.specs.declared.date_time_set.DateTimeSet.{DateTimeSet}
use Rattle.cal_recurrence.specs.declared.zoned_set.ZonedSet.{ZonedSet}

-- The readings ascend from the end of a rule on. A rule without an end has none after it.
abbrev pub ascend_from : Option ℤ → List ℤ → Bool
ascend_from end [] = true
ascend_from None (z ∷ zs) = false
ascend_from (Some y) (z ∷ zs) = int_le y z && ascend_from (Some z) zs

-- The readings of a rule after an end, without its own end.
abbrev pub past_end : DateTimeParts → Option ℤ → List ℤ
past_end rule None = []
past_end rule (Some z) = occurrences_after (record rule { until = None }) z

-- The readings of a COUNT that aren't counted, at most n, of a rule that ends at the last one that is.
abbrev pub unread : DateTimeParts → ℕ → List ℤ
unread rule n = take n (past_end rule rule.until)

-- The rule, if it ends at the last of the readings that are left.
abbrev pub whole_rule : DateTimeParts → List ℤ → DateTimeParts
whole_rule rule left = record rule { until = last_or rule.until left }

-- The set with this rule.
abbrev pub whole_set : DateTimeSet → List ℤ → DateTimeSet
whole_set set left = record set { rule = whole_rule set.rule left }

-- The set in a zone with the readings of this set.
abbrev pub whole_zoned_set : ZonedSet → List ℤ → ZonedSet
whole_zoned_set set left = record set { readings = whole_set set.readings left }

-- The number of a reading, or of the reading after it.
abbrev pub first_number : Bool → ℤ → ℕ
first_number true z = unsigned_abs z + 1
first_number false z = unsigned_abs z
