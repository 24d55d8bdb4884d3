use Rattle.std.proofs.Common.{◌≡◌, ◌+ℤ◌, ◌-ℤ◌, ◌∙◌, ap, arith, of_z, pos, subst, sym, to_z, ℤ}
use mir.Syntax.{w128}
use Rattle.std.proofs.lemmas.Int.{ints}
use Rattle.cal_datetime.specs.OffsetDateTime.{instant, unix_epoch, unix_nanoseconds, IsInstant}
use Rattle.cal_recurrence.specs.OffsetRange.{IsStart}
use Rattle.cal_recurrence.specs.ZonedSet.{IsNextAfter, Occurs}
use Rattle.cal_recurrence.specs.declared.zoned_set.ZonedSet.{ZonedSet}
use Rattle.cal_recurrence.proofs.ZonedSearch.{as-word}
use Rattle.cal_recurrence.proofs.counted_zoned_set.CountedZonedSet.first_from.Goals as goal

-- The word of a number, less 1, is the word of the number before.
less : (n x : ℤ) → IsInstant x → n ≡ unix_nanoseconds x → (unix_epoch +ℤ to_z w128 (of_z w128 (to_z w128 (of_z w128 n) -ℤ pos 1))) ≡ (x -ℤ pos 1)
less n x h e =
    let word : to_z w128 (of_z w128 n) ≡ n = as-word n (omega (arith, ints, e, h.not_before)) (omega (arith, ints, e, h.not_after)) in
    let before : to_z w128 (of_z w128 (n -ℤ pos 1)) ≡ (n -ℤ pos 1) = as-word (n -ℤ pos 1) (omega (arith, ints, e, h.not_before)) (omega (arith, ints, e, h.not_after)) in
    let last : (unix_epoch +ℤ (n -ℤ pos 1)) ≡ (x -ℤ pos 1) = omega (arith, ints, e) in
    ap (λ a. unix_epoch +ℤ to_z w128 (of_z w128 (a -ℤ pos 1))) word ∙ ap (λ a. unix_epoch +ℤ a) before ∙ last

pub search-requires : goal.search-requires
search-requires c =
    let zone = c.args.self.now.zone.now in
    subst (λ y. IsStart zone y c.earliest_in.result) (sym (less c.nanoseconds.result (instant c.args.moment) c.nanoseconds.ensures.range c.nanoseconds.ensures.value))
    (subst (λ (s : ZonedSet). IsStart s.zone.now (instant c.args.moment -ℤ pos 1) c.earliest_in.result) c.self.view_is c.earliest_in.ensures)

pub returns-clause-value : goal.returns-clause-value
returns-clause-value c =
    subst (λ y. IsNextAfter (Occurs c.args.self.now) y c.search.result)
    (less c.nanoseconds.result (instant c.args.moment) c.nanoseconds.ensures.range c.nanoseconds.ensures.value) c.search.ensures.value
