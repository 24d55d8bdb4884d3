-- The line that begins the first event, the line that ends it, and the first value of a name.
use denote.Ref.{Bor}
use Rattle.std.proofs.Common.{◌≡◌, ℕ, ◌+◌, ◌≤◌, true, false, List, [], ◌∷◌, ◌++◌, append-nil, length, map, take, Option, Some, None, refl, sym, ap, ◌∙◌, arith}
use Rattle.std.specs.Prelude.{option_map, position, slice_get}
use Rattle.std.proofs.lemmas.List.{map-append, take_at}
use Rattle.cal_recurrence.specs.SetText.{lines_of, without_return}
use Rattle.cal_recurrence.specs.Words.{parts_at, parts_left, rest_outside}
use Rattle.cal_recurrence.proofs.ReadValues.{length-map}
use Rattle.cal_ics.specs.EventSet.{has_name, values_named, values_within}
use Rattle.cal_ics.specs.Events.{begins_event, depth_after, ends_event, first_begin, is_last, lines_within, IsBegin, IsEnd}
use Rattle.cal_ics.proofs.Begins.{found-here, none-more}
use Rattle.cal_ics.proofs.Cuts.{front-parts}
use Rattle.cal_ics.proofs.Depths.{depth_past, depth-more, ends-here, no-value-more, open-more, value-here}
use Rattle.cal_ics.proofs.Walks.{all-lines, all-parts, end-here, line-here, rest-here, start-here, walked, within, IsCut, IsWalk}

-- ---- the first line that begins an event
pub record IsSearch (text : List ℕ) (at : ℕ) (left : Option (Bor (List ℕ))) : Type 0 where
  pub walk : IsWalk text at left
  pub none : position begins_event (map without_return walk.done) ≡ None

pub begin-none : (text : List ℕ) (at : ℕ) → IsSearch text at None → first_begin text ≡ None
begin-none text at h = ap (λ parts. position begins_event (map without_return parts)) (h.walk.lines ∙ append-nil h.walk.done) ∙ h.none

pub begin-here : (text : List ℕ) (at : ℕ) (left part : List ℕ) (more : Option (Bor (List ℕ))) (s : IsCut text at left part more)
    → position begins_event (map without_return s.before.done) ≡ None → begins_event (without_return part) ≡ true
    → IsBegin text (length s.before.done) (record { position = at; end = at + (length part + 1); rest = more })
begin-here text at left part more s none here =
    let lines = map without_return s.before.done in
    record {
      first = ap (position begins_event) (all-lines text at left part more s) ∙ found-here begins_event lines (without_return part) (map without_return (parts_left 10 more)) none here
          ∙ ap Some (length-map without_return s.before.done);
      position = start-here text at left part more s;
      end = end-here text at left part more s;
      size = (walked text at left part more s).size;
      rest = rest-here text at left part more s;
    }

pub begin-on : (text : List ℕ) (at : ℕ) (left part : List ℕ) (more : Option (Bor (List ℕ))) (s : IsCut text at left part more)
    → position begins_event (map without_return s.before.done) ≡ None → begins_event (without_return part) ≡ false
    → IsSearch text (at + (length part + 1)) more
begin-on text at left part more s none here = record {
  walk = walked text at left part more s;
  none = ap (position begins_event) (map-append without_return s.before.done (part ∷ [])) ∙ none-more begins_event (map without_return s.before.done) (without_return part) none here;
}

-- ---- the line that ends an event
pub record IsOpen (text : List ℕ) (depth at : ℕ) (left : Option (Bor (List ℕ))) : Type 0 where
  pub walk : IsWalk text at left
  pub nested : depth ≡ depth_past 1 (map without_return walk.done)
  pub few : depth ≤ at + 1
  pub none : lines_within 1 (map without_return walk.done) ≡ None

pub end-none : (text : List ℕ) (depth at : ℕ) → IsOpen text depth at None → lines_within 1 (lines_of text) ≡ None
end-none text depth at h = ap (λ parts. lines_within 1 (map without_return parts)) (h.walk.lines ∙ append-nil h.walk.done) ∙ h.none

pub end-found : (text : List ℕ) (depth at : ℕ) (left part : List ℕ) (more : Option (Bor (List ℕ))) (s : IsCut text at left part more)
    → depth ≡ depth_past 1 (map without_return s.before.done) → lines_within 1 (map without_return s.before.done) ≡ None → is_last depth (without_return part) ≡ true
    → IsEnd text (length s.before.done) (record { position = at; is_event = ends_event (without_return part); rest = more })
end-found text depth at left part more s nested none here =
    let done = s.before.done in
    let lines = map without_return done in
    let line = without_return part in
    let others = map without_return (parts_left 10 more) in
    let all = all-lines text at left part more s in
    let size = length-map without_return done in
    let parts = all-parts text at left part more s in
    record {
      closed = ap (lines_within 1) all ∙ ends-here 1 lines line others none (ap (λ (n : ℕ). is_last n line) (sym nested) ∙ here) ∙ ap Some size;
      position = start-here text at left part more s;
      small = omega (arith, within text at left part more s);
      event = ap (option_map ends_event) (ap (λ texts. slice_get texts (length done)) all ∙ ap (slice_get (lines ++ line ∷ others)) (sym size) ∙ line-here lines line others);
      rest = rest-here text at left part more s;
      front = ap (λ n. parts_at 10 (take n text)) s.before.position ∙ front-parts text done part (parts_left 10 more) parts
          ∙ ap (λ front. front ++ [] ∷ []) (sym (ap (take (length done)) parts ∙ take_at done (part ∷ parts_left 10 more) (length done) refl));
    }

pub end-on : (text : List ℕ) (depth at : ℕ) (left part : List ℕ) (more : Option (Bor (List ℕ))) (s : IsCut text at left part more)
    → depth ≡ depth_past 1 (map without_return s.before.done) → depth ≤ at + 1 → lines_within 1 (map without_return s.before.done) ≡ None → is_last depth (without_return part) ≡ false
    → (then : ℕ) → then ≡ depth_after depth (without_return part) → then ≤ depth + 1
    → IsOpen text then (at + (length part + 1)) more
end-on text depth at left part more s nested few none here then is small =
    let lines = map without_return s.before.done in
    let line = without_return part in
    let all = map-append without_return s.before.done (part ∷ []) in
    record {
      walk = walked text at left part more s;
      nested = is ∙ ap (λ (n : ℕ). depth_after n line) nested ∙ sym (depth-more 1 lines line) ∙ ap (depth_past 1) (sym all);
      few = omega (arith, small, few);
      none = ap (lines_within 1) all ∙ open-more 1 lines line none (ap (λ (n : ℕ). is_last n line) (sym nested) ∙ here);
    }

-- ---- the first value of a name
pub record IsUnnamed (text name : List ℕ) (depth at : ℕ) (left : Option (Bor (List ℕ))) : Type 0 where
  pub walk : IsWalk text at left
  pub nested : depth ≡ depth_past 1 (map without_return walk.done)
  pub few : depth ≤ at + 1
  pub none : values_within 1 name (map without_return walk.done) ≡ []

pub value-none : (text name : List ℕ) (depth at : ℕ) → IsUnnamed text name depth at None → None ≡ slice_get (values_named name text) 0
value-none text name depth at h = sym (ap (λ parts. slice_get (values_within 1 name (map without_return parts)) 0) (h.walk.lines ∙ append-nil h.walk.done) ∙ ap (λ values. slice_get values 0) h.none)

pub value-found : (text name : List ℕ) (depth at : ℕ) (left part : List ℕ) (more : Option (Bor (List ℕ))) (s : IsCut text at left part more)
    → depth ≡ depth_past 1 (map without_return s.before.done) → values_within 1 name (map without_return s.before.done) ≡ [] → has_name depth name (without_return part) ≡ true
    → slice_get (values_named name text) 0 ≡ Some (rest_outside 58 (without_return part))
value-found text name depth at left part more s nested none here =
    ap (λ lines. slice_get (values_within 1 name lines) 0) (all-lines text at left part more s)
    ∙ value-here 1 name (map without_return s.before.done) (without_return part) (map without_return (parts_left 10 more)) none
    (ap (λ (n : ℕ). has_name n name (without_return part)) (sym nested) ∙ here)

pub value-on : (text name : List ℕ) (depth at : ℕ) (left part : List ℕ) (more : Option (Bor (List ℕ))) (s : IsCut text at left part more)
    → depth ≡ depth_past 1 (map without_return s.before.done) → depth ≤ at + 1 → values_within 1 name (map without_return s.before.done) ≡ [] → has_name depth name (without_return part) ≡ false
    → (then : ℕ) → then ≡ depth_after depth (without_return part) → then ≤ depth + 1
    → IsUnnamed text name then (at + (length part + 1)) more
value-on text name depth at left part more s nested few none here then is small =
    let lines = map without_return s.before.done in
    let line = without_return part in
    let all = map-append without_return s.before.done (part ∷ []) in
    record {
      walk = walked text at left part more s;
      nested = is ∙ ap (λ (n : ℕ). depth_after n line) nested ∙ sym (depth-more 1 lines line) ∙ ap (depth_past 1) (sym all);
      few = omega (arith, small, few);
      none = ap (values_within 1 name) all ∙ no-value-more 1 name lines line none (ap (λ (n : ℕ). has_name n name line) (sym nested) ∙ here);
    }
