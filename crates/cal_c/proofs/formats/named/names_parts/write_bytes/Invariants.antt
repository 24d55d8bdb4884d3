use Rattle.std.proofs.Common.{◌≡◌, ℕ, ◌<◌, length, take}
use Rattle.std.specs.Str.{IsUtf8}
use Rattle.cal_names.specs.Apart.{texts, text_at}
use Rattle.cal_c.proofs.formats.named.names_parts.write_bytes.Given as goal

abbrev pub invariant-loop-index : goal.invariant-loop-index
invariant-loop-index l = record {
  room : length l.bytes ≡ length l.names;
  same : take l.index (texts l.names) ≡ take l.index (texts l.bytes);
  utf8 : (k : ℕ) → k < l.index → IsUtf8 (text_at l.names k);
}
