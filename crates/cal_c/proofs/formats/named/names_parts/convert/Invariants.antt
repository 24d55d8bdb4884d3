use Rattle.std.proofs.Common.{◌≡◌, ℕ, ◌<◌, length, take}
use Rattle.cal_names.specs.Apart.{texts, text_at}
use Rattle.cal_c.specs.NamedFormats.{IsName}
use Rattle.cal_c.proofs.formats.named.names_parts.convert.Given as goal

abbrev pub invariant-loop-index : goal.invariant-loop-index
invariant-loop-index l = record {
  room : length l.strings ≡ length l.names;
  same : take l.index (texts l.names) ≡ take l.index (texts l.strings);
  fine : (k : ℕ) → k < l.index → IsName (text_at l.names k);
}
