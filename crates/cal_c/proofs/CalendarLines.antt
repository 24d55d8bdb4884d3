-- Lines of calendar files: the room for folds, and a text at the front of a buffer.
use Rattle.std.proofs.Common.{◌≡◌, ℕ, ◌-◌, ◌*◌, ◌≤◌, Bool, true, false, cond, eqb, List, [], ◌∷◌, ◌++◌, length, length-append, length-take, length-drop, take, drop, Some, ap, sym, ◌∙◌, arith}
use Rattle.std.specs.Prelude.{slice_index}
use Rattle.std.specs.List.{join_with_byte, AllZip}
use Rattle.std.proofs.lemmas.List.{take-append-drop}
use Rattle.std.proofs.lemmas.List.Splits.{join_with_byte-slice_split}
use Rattle.cal_recurrence.specs.Buffers.{IsPut}
use Rattle.cal_recurrence.specs.Folding.{IsFolded, IsFoldedLine}
use Rattle.cal_recurrence.specs.Folding.IsFoldedLine.{short, long}
use Rattle.cal_recurrence.specs.SetText.{without_return}
use Rattle.cal_recurrence.specs.Words.{first_bytes, parts_at}
use Rattle.cal_c.specs.Events.{event_ok, room_to_fold, IsSetTextWritten}
use Rattle.cal_c.specs.declared.schedule.events.results.EventSetResult.{EventSetResult}

-- ---- the room for folds
without-less : (text : List ℕ) → length (without_return text) ≤ length text
unfolding first_bytes
without-less text = either (eqb (slice_index text (length text - 1)) 13)
  where
    either : (b : Bool) → length (cond b (first_bytes (length text - 1) text) text) ≤ length text
    either true = omega (arith, length-take (length text - 1) text)
    either false = omega arith

line-room : (column : ℕ) (line folded : List ℕ) → column ≤ 1 → IsFoldedLine column line folded → 24 * length folded ≤ 25 * length line
line-room column line folded few (short _ _ fits) = omega arith
line-room column line folded few (long _ _ rest many h) =
    let n = 75 - column in
    let left = line-room 1 (drop n line) rest (omega arith) h in
    omega (arith, few, many, without-less line, length-take n line, length-drop n line, length-append (take n line) (13 ∷ 10 ∷ 32 ∷ rest), left)

lines-room : (parts lines : List (List ℕ)) → AllZip (IsFoldedLine 0) parts lines → 24 * length (join_with_byte 10 lines) ≤ 25 * length (join_with_byte 10 parts)
lines-room [] [] h = omega arith
lines-room [] (x ∷ xs) h = absurd h
lines-room (part ∷ parts) [] h = absurd h
lines-room (part ∷ []) (x ∷ y ∷ ys) h = absurd h.1
lines-room (part ∷ next ∷ parts) (x ∷ []) h = absurd h.1
lines-room (part ∷ []) (x ∷ []) h = line-room 0 part x (omega arith) h.0
lines-room (part ∷ next ∷ parts) (x ∷ y ∷ ys) h =
    omega (arith, line-room 0 part x (omega arith) h.0, lines-room (next ∷ parts) (y ∷ ys) h.1, length-append x (10 ∷ join_with_byte 10 (y ∷ ys)), length-append part (10 ∷ join_with_byte 10 (next ∷ parts)))

pub folded-few : (text folded : List ℕ) → IsFolded text folded → length folded ≤ room_to_fold (length text)
folded-few text folded h =
    omega (arith, lines-room (parts_at 10 text) h.0 h.1, ap length h.2, ap length (join_with_byte-slice_split 10 text))

-- ---- a text at the front of a buffer
put-whole : (text old new : List ℕ) (end : ℕ) → IsPut 0 text old new (Some end) → new ≡ text ++ drop (length text) old
put-whole text old new end h =
    let size : end ≡ length text = omega (arith, h.0) in
    sym (take-append-drop end new) ∙ ap (λ front. front ++ drop end new) h.2 ∙ ap (λ back. text ++ back) (h.3 ∙ ap (λ n. drop n old) size)

pub lines-written : (text old new : List ℕ) (end : ℕ) (r : EventSetResult) → IsPut 0 text old new (Some end) → r ≡ event_ok end → IsSetTextWritten text old new r
lines-written text old new end r h is =
    let size : end ≡ length text = omega (arith, h.0) in
    record {
      buffer_too_short = λ less. absurd (omega (arith, less, h.0, h.1));
      length_is = λ fits. is ∙ ap (λ n. event_ok n) size;
      text_is = λ fits. put-whole text old new end h;
    }
