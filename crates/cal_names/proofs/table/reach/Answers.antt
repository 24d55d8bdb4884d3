use Rattle.std.proofs.Common.{◌≡◌, ◌≤◌, List, ℕ, [], ◌∷◌, length, true, refl, arith}
use Rattle.std.proofs.lemmas.List.{length-map}
use Rattle.cal_names.specs.Names.{begins_with}
use Rattle.cal_names.specs.Apart.{any_begins, texts}
use Rattle.cal_names.proofs.table.reach.Goals as goal

nothing-begins : (names : List (List ℕ)) → 1 ≤ length names → any_begins [] names ≡ true
unfolding begins_with
nothing-begins [] some = absurd (omega arith)
nothing-begins (x ∷ names) some = refl

pub reach_from-requires-clause-begun : goal.reach_from-requires-clause-begun
reach_from-requires-clause-begun c = nothing-begins (texts c.args.names.now) (omega (arith, c.requires, length-map c.args.names.now (λ name. name.now)))
