use Rattle.caldate_lines.specs.Fields.{IsAfter}
use Rattle.caldate_lines.proofs.input.fields.after_fields.Given as goal

-- the rest comes after these fields
abbrev pub invariant-loop : goal.invariant-loop
invariant-loop l = IsAfter l.field l.counter l.text l.rest
