use Rattle.std.proofs.Common.{◌≡◌, ◌+◌, ◌≤◌, ◌++◌, length}
use Rattle.std.specs.Prelude.{option_map}
use Rattle.caldate_lines.specs.Fields.{unquoted}
use Rattle.caldate_lines.proofs.input.field_text.FieldText.push_unquoted.Given as goal

-- the text of the rest is missing, and has room
abbrev pub invariant-loop-rest : goal.invariant-loop-rest
invariant-loop-rest l =
    (option_map (λ text. l.self ++ text) (unquoted l.rest) ≡ option_map (λ text. l.initial.self ++ text) (unquoted l.bytes))
    × (length l.self + length l.rest ≤ length l.initial.self + length l.bytes)

abbrev pub decreases-loop-rest : goal.decreases-loop-rest
decreases-loop-rest l = length l.rest
