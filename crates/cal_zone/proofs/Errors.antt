-- Changes that have an error are not in order.
use Rattle.std.proofs.Common.{◌≡◌, ℕ, suc, ◌+◌, ◌-◌, ◌<◌, List, ◌++◌, length, filter, sym, ap, ◌∙◌, subst, arith, length-append}
use Rattle.std.specs.Prelude.{ℤ, Option}
use Rattle.std.specs.List.{slice_index_or}
use Rattle.cal_zone.specs.declared.change.Change.{Change}
use Rattle.cal_zone.specs.declared.change_error.ChangeError.{ChangeError}
use Rattle.cal_zone.specs.declared.change_error.ChangeError.TheVariants.{FirstOffset, Offset, Instant, NotRising, Overlap}
use Rattle.cal_zone.specs.declared.local_type.LocalType.{LocalType}
use Rattle.cal_zone.specs.declared.rule.Rule.{Rule}
use Rattle.cal_zone.specs.declared.timeline_error.TimelineError.{TimelineError}
use Rattle.cal_zone.specs.declared.timeline_error.TimelineError.TheVariants as refused
use Rattle.cal_zone.specs.ChangeError.{IsChangeError, Follows}
use Rattle.cal_zone.specs.Timeline.{IsOrdered, IsOffset, IsMoment, at, after_changes, begins, ends, no_change}
use Rattle.cal_zone.specs.Zone.{zone_of, is_after, rule_changes, Joins, IsTimelineError}
use Rattle.cal_zone.proofs.Joins.{next_of, same_next, item_left, item_right, offset_left, offset_right}
use Rattle.cal_zone.proofs.Offsets.{after_changes-at, after_changes-count}
use Rattle.cal_zone.proofs.Orders.{not_less}

-- So are the first ones of changes in order.
pub front : (first : ℤ) (xs ys : List Change) → IsOrdered first (xs ++ ys) → IsOrdered first xs
front first xs ys order = record {
  offset = order.offset;
  offsets = λ k h. subst (λ (c : Change). IsOffset c.kind.offset) (item_left xs ys k h) (order.offsets k (inside k h));
  moments = λ k h. subst (λ (c : Change). IsMoment c.at) (item_left xs ys k h) (order.moments k (inside k h));
  rising = λ k h. (next k h).rising;
  apart = λ k h. (next k h).apart;
}
  where
    inside : (k : ℕ) → k < length xs → k < length (xs ++ ys)
    inside k h = let e = length-append xs ys in omega arith

    next : (k : ℕ) → suc k < length xs → Follows first xs k
    next k h = same_next _ _ _ _ _ _ _ _ _ _
        (ap (λ (c : Change). c.at) (sym (item_left xs ys k (omega arith)))) (ap (λ (c : Change). c.at) (sym (item_left xs ys (suc k) h)))
        (sym (offset_left first xs ys k (omega arith))) (sym (offset_left first xs ys (suc k) (omega arith))) (sym (offset_left first xs ys (suc (suc k)) (omega arith)))
        (next_of first (xs ++ ys) order k (inside (suc k) h))

-- And the others go on after them.
pub joint : (first : ℤ) (xs ys : List Change) → IsOrdered first (xs ++ ys) → Joins first xs ys
joint first xs ys order some more =
    let k = length xs - 1 in
    let e : suc k ≡ length xs = omega arith in
    let e1 : suc k ≡ length xs + 0 = omega arith in
    let e2 : suc (suc k) ≡ length xs + 1 = omega arith in
    let last : after_changes first xs (length xs) ≡ (slice_index_or xs k no_change).kind.offset = after_changes-count first xs (length xs) some (omega arith) in
    same_next _ _ _ _ _ _ _ _ _ _
    (ap (λ (c : Change). c.at) (sym (item_left xs ys k (omega arith)))) (sym (ap (at (xs ++ ys)) e1 ∙ ap (λ (c : Change). c.at) (item_right xs ys 0)))
    (sym (offset_left first xs ys k (omega arith))) (sym (offset_left first xs ys (suc k) (omega arith) ∙ ap (after_changes first xs) e ∙ last))
    (sym (ap (after_changes first (xs ++ ys)) e2 ∙ offset_right first xs ys 1 ∙ after_changes-at (after_changes first xs (length xs)) ys 0 more))
    (next_of first (xs ++ ys) order k (let n = length-append xs ys in omega arith))

pub change_error : (first : ℤ) (cs : List Change) → IsOrdered first cs → (e : ChangeError) → IsChangeError first cs e → ⊥
change_error first cs order FirstOffset h = h order.offset
change_error first cs order (Offset k) h = h.3 (order.offsets k h.1)
change_error first cs order (Instant k) h = h.4 (order.moments k h.1)
change_error first cs order (NotRising k) h = not_less (at cs k) (at cs (suc k)) (order.rising k h.2) h.4
change_error first cs order (Overlap k) h = not_less (begins first cs (suc k)) (ends first cs k) h.5 (order.apart k h.2)

pub timeline_error : (first : LocalType) (table : List Change) (rule : Option Rule) (e : TimelineError) → IsTimelineError first table rule e
    → IsOrdered first.offset (zone_of first table rule).changes → ⊥
timeline_error first table rule (refused.Change e) h order = change_error first.offset table (front first.offset table (filter (is_after table) (rule_changes rule)) order) e h
timeline_error first table rule refused.Junction h order = h.1 (joint first.offset table (filter (is_after table) (rule_changes rule)) order)
