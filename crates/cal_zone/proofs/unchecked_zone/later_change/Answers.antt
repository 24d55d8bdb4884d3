use Rattle.std.proofs.Common.{◌≡◌, ℕ, Some, ap, sym, ◌∙◌, arith, length, ◌<◌, Option, subst}
use Rattle.std.specs.List.{slice_index_or}
use Rattle.cal_zone.specs.declared.rule.Rule.{Rule}
use Rattle.cal_zone.specs.Timeline.{no_change}
use Rattle.cal_zone.specs.Zone.{later}
use Rattle.cal_zone.proofs.Rules.{item, index_in, IsIndex}
use Rattle.cal_zone.proofs.unchecked_zone.later_change.Goals as goal

within : (o : Option Rule) (r : Rule) (s k : ℕ) → o ≡ Some r → k < length (later o s) → IsIndex s k
within o r s k is h = index_in r.one r.other s k (subst (λ (q : Option Rule). k < length (later q s)) is h)

pub overflow_cast-index : goal.overflow_cast-index
overflow_cast-index c = let inside = (within _ _ _ _ c.in-Some.is c.requires.index).inside in omega arith

pub overflow_add-skip : goal.overflow_add-skip
overflow_add-skip c = let inside = (within _ _ _ _ c.in-Some.is c.requires.index).inside in omega arith

pub change-requires : goal.change-requires
change-requires c = (within _ _ _ _ c.in-Some.is c.requires.index).inside

pub returns : goal.returns
returns c =
    c.change.ensures ∙ sym (item c.in-Some.rule.one c.in-Some.rule.other c.args.skip c.args.index (within _ _ _ _ c.in-Some.is c.requires.index).within)
    ∙ ap (λ (r : Option Rule). slice_index_or (later r c.args.skip) c.args.index no_change) (sym c.in-Some.is)
