-- How many changes of a table and then of a rule are not after an instant.
use Rattle.std.proofs.Common.{◌≡◌, ℕ, ◌+◌, ◌-◌, ◌<◌, ◌≤◌, List, ◌++◌, length, refl, sym, ap, ◌∙◌, subst, arith, inl, inr, length-append}
use Rattle.std.proofs.lemmas.Bool.{cases_lt}
use Rattle.std.proofs.lemmas.Int.{ints}
use Rattle.std.specs.Prelude.{ℤ, ◌<ℤ◌, ◌≤ℤ◌}
use Rattle.std.specs.List.{slice_index_or}
use Rattle.cal_zone.specs.declared.change.Change.{Change}
use Rattle.cal_zone.specs.declared.rule.Rule.{Rule}
use Rattle.cal_zone.specs.declared.yearly.Yearly.{Yearly}
use Rattle.cal_zone.specs.Rule.{change_of, changes_from, instant_at, rule_count}
use Rattle.cal_zone.specs.Split.{IsBracket, IsSplit}
use Rattle.cal_zone.specs.Timeline.{Timeline, after_changes, at, no_change, offset_at, InOrder}
use Rattle.cal_zone.specs.Zone.{IsByRule}
use Rattle.cal_zone.proofs.Joins.{item_left, item_right}
use Rattle.cal_zone.proofs.Offsets.{after_changes-count}
use Rattle.cal_zone.proofs.Orders.{at_rises, trans}
use Rattle.cal_zone.proofs.Rules.{item, size}
use Rattle.cal_zone.proofs.Spans.{span_of}

-- What holds of the list and the instant that the code shows holds of the changes of a zone.
pub of_changes : (cs ds : List Change) (i x : ℤ) (n : ℕ) → ds ≡ cs → x ≡ i → IsBracket (at ds) (length ds) x n n → IsBracket (at cs) (length cs) i n n
of_changes cs ds i x n is e b =
    subst (λ (es : List Change). IsBracket (at es) (length es) i n n) is (subst (λ (j : ℤ). IsBracket (at ds) (length ds) j n n) e b)

-- A count below the number of changes of the table is the count of all changes.
pub in_table : (xs ys : List Change) (x : ℤ) (n : ℕ) → IsBracket (at xs) (length xs) x n n → n < length xs → IsBracket (at (xs ++ ys)) (length (xs ++ ys)) x n n
in_table xs ys x n b less =
    let sum = length-append xs ys in
    record {
      ordered = omega arith;
      inside = omega arith;
      below = λ k e. subst (λ (c : Change). c.at ≤ℤ x) (sym (item_left xs ys k (omega arith))) (b.below k e);
      above = λ _. subst (λ (c : Change). x <ℤ c.at) (sym (item_left xs ys n less)) (b.above less);
    }

-- So is the number of changes of the table if no others follow.
pub at_end : (xs ys : List Change) (x : ℤ) (n : ℕ) → IsBracket (at xs) (length xs) x n n → length xs ≤ n → length ys ≡ 0 → IsBracket (at (xs ++ ys)) (length (xs ++ ys)) x n n
at_end xs ys x n b all none =
    let sum = length-append xs ys in
    let inside = b.inside in
    record {
      ordered = omega arith;
      inside = omega arith;
      below = λ k e. subst (λ (c : Change). c.at ≤ℤ x) (sym (item_left xs ys k (omega arith))) (b.below k e);
      above = λ h. absurd (omega arith);
    }

-- The rule's change with an index from s on.
rule_item : (one other : Yearly) (xs : List Change) (s k j : ℕ) → k ≡ length xs + j → j < rule_count - s
    → slice_index_or (xs ++ changes_from one other s) k no_change ≡ change_of one other (s + j)
rule_item one other xs s k j e h =
    ap (λ i. slice_index_or (xs ++ changes_from one other s) i no_change) e ∙ item_right xs (changes_from one other s) j ∙ item one other s j h

pub in_rule : (one other : Yearly) (xs : List Change) (s r : ℕ) (x : ℤ) (n : ℕ) → IsBracket (at xs) (length xs) x n n → length xs ≤ n
    → IsSplit (instant_at one other) rule_count x r r
    → IsBracket (at (xs ++ changes_from one other s)) (length (xs ++ changes_from one other s)) x (n + (r - s)) (n + (r - s))
in_rule one other xs s r x n b all split =
    let ys = changes_from one other s in
    let sum = length-append xs ys in
    let count = size one other s in
    let inside = b.inside in
    let most = split.inside in
    record {
      ordered = omega arith;
      inside = omega arith;
      below = λ k e. elim (cases_lt s r) as (λ _. at (xs ++ ys) k ≤ℤ x) [
        | inl less ↦
            subst (λ (c : Change). c.at ≤ℤ x) (sym (rule_item one other xs s k (r - s - 1) (omega arith) (omega arith)))
            (split.below (s + (r - s - 1)) (omega arith))
        | inr more ↦ subst (λ (c : Change). c.at ≤ℤ x) (sym (item_left xs ys k (omega arith))) (b.below k (omega arith))
      ];
      above = λ h.
          subst (λ (c : Change). x <ℤ c.at) (sym (rule_item one other xs s (n + (r - s)) (r - s) (omega arith) (omega arith)))
          (split.above (s + (r - s)) (omega arith) (omega arith));
    }

-- The instants from the rule's change before the index r to the one at it.
pub rule_span : (zone : Timeline) (one other : Yearly) (xs : List Change) (s r : ℕ) (f l o : ℤ) → InOrder zone → zone.changes ≡ xs ++ changes_from one other s → s < r → r ≤ rule_count
    → f ≡ instant_at one other (r - 1) → (r < rule_count → l <ℤ instant_at one other r) → o ≡ (change_of one other (r - 1)).kind.offset
    → (i : ℤ) → f ≤ℤ i → i ≤ℤ l → offset_at zone i ≡ o
rule_span zone one other xs s r f l o order is less most first last offset =
    let n = length xs + (r - s) in
    let cs = xs ++ changes_from one other s in
    let sum = length-append xs (changes_from one other s) in
    let count = size one other s in
    let before : s + (r - s - 1) ≡ r - 1 = omega arith in
    let at_end : s + (r - s) ≡ r = omega arith in
    let item : slice_index_or cs (n - 1) no_change ≡ change_of one other (r - 1) =
    rule_item one other xs s (n - 1) (r - s - 1) (omega arith) (omega arith) ∙ ap (change_of one other) before in
    let within : n ≤ length cs = omega arith in
    span_of zone order f l o n (subst (λ (ds : List Change). n ≤ length ds) (sym is) within)
    (λ k g. let e : n - 1 ≡ k = omega arith in
    first ∙ ap (λ (c : Change). c.at) (sym item) ∙ ap (at cs) e ∙ ap (λ (ds : List Change). at ds k) (sym is))
    (λ h. let inside : n < length cs = subst (λ (ds : List Change). n < length ds) is h in
    subst (λ (ds : List Change). l <ℤ at ds n) (sym is)
    (subst (λ (c : Change). l <ℤ c.at) (sym (rule_item one other xs s n (r - s) (omega arith) (omega arith) ∙ ap (change_of one other) at_end)) (last (omega arith))))
    (offset ∙ ap (λ (c : Change). c.kind.offset) (sym item) ∙ sym (after_changes-count zone.first.offset cs n (omega arith) within)
    ∙ ap (λ (ds : List Change). after_changes zone.first.offset ds n) (sym is))

-- The offset after the last change of the rule that isn't after an instant.
pub by_rule : (zone : Timeline) (one other : Yearly) (xs : List Change) (s r : ℕ) (i x o : ℤ) → InOrder zone → zone.changes ≡ xs ++ changes_from one other s → x ≡ i
    → s < r → IsSplit (instant_at one other) rule_count x r r → o ≡ (change_of one other (r - 1)).kind.offset → offset_at zone i ≡ o
by_rule zone one other xs s r i x o order is e less split offset =
    subst (λ (j : ℤ). offset_at zone j ≡ o) e
    (rule_span zone one other xs s r (instant_at one other (r - 1)) x o order is less split.inside refl (λ h. split.above r (omega arith) h) offset
    x (split.below (r - 1) (omega arith)) (omega (arith, ints)))

-- If no change before those of a rule is after an instant, all that are after it are the rule's.
pub by_later : (zone : Timeline) (rule : Rule) (xs : List Change) (s n : ℕ) (i x : ℤ) → InOrder zone → xs ++ changes_from rule.one rule.other s ≡ zone.changes → x ≡ i
    → IsBracket (at xs) (length xs) x n n → length xs ≤ n → IsByRule zone i
by_later zone rule xs s n i x order is e b all = record {
  rule = rule;
  skip = s;
  before = xs;
  changes = sym is;
  past = λ k h.
      let last = length xs - 1 in
      let most = b.inside in
      let sum = length-append xs (changes_from rule.one rule.other s) in
      let size = ap (λ (ds : List Change). length ds) is in
      let rise : at zone.changes k ≤ℤ at zone.changes last = at_rises zone order k last (omega arith) (omega arith) in
      subst (λ (z : ℤ). at xs k ≤ℤ z) e
      (trans (at xs k) (at xs last) x
      (subst (λ (z : ℤ). z ≤ℤ at xs last) (same k h) (subst (λ (z : ℤ). at zone.changes k ≤ℤ z) (same last (omega arith)) rise))
      (b.below last (omega arith)));
}
  where
    same : (k : ℕ) → k < length xs → at zone.changes k ≡ at xs k
    same k h = ap (λ (ds : List Change). at ds k) (sym is) ∙ ap (λ (c : Change). c.at) (item_left xs (changes_from rule.one rule.other s) k h)
