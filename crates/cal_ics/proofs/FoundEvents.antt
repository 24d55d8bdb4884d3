-- The first event of a text, or its error.
use denote.Ref.{Bor}
use Rattle.std.proofs.Common.{◌≡◌, ℕ, zero, suc, ◌+◌, true, false, List, [], ◌∷◌, ◌++◌, map, take, drop, Some, None, refl, sym, ap, ◌∙◌, arith}
use Rattle.std.specs.Prelude.{option_map, slice_get}
use Rattle.std.proofs.Math.Seq.{drop-nil, take-add}
use Rattle.std.proofs.lemmas.List.{drop-map}
use Rattle.cal_recurrence.specs.SetText.{lines_of, size_of, without_return}
use Rattle.cal_recurrence.specs.Words.{parts_at, parts_left}
use Rattle.cal_ics.specs.Events.{ends_event, event_size, line_start, lines_within, HasOtherEnd, IsBegin, IsEnd, IsEvent, IsUnclosed}
use Rattle.cal_ics.specs.declared.event_error.ParseEventErrorKind.TheVariants.{Unclosed, OtherEnd}
use Rattle.cal_ics.specs.declared.search.Begin.{Begin}
use Rattle.cal_ics.specs.declared.search.End.{End}

get-drop : {X : Type 0} (n : ℕ) (xs : List X) (i : ℕ) → slice_get (drop n xs) i ≡ slice_get xs (n + i)
get-drop zero xs i = ap (slice_get xs) (omega arith)
get-drop (suc n) [] i = refl
get-drop (suc n) (x ∷ xs) i = let e : suc (n + i) ≡ suc n + i = omega arith in get-drop n xs i ∙ ap (slice_get (x ∷ xs)) e

drop-drop : {X : Type 0} (n m : ℕ) (xs : List X) → drop m (drop n xs) ≡ drop (n + m) xs
drop-drop zero m xs = ap (λ k. drop k xs) (omega arith)
drop-drop (suc n) m [] = drop-nil m ∙ sym (drop-nil (suc n + m))
drop-drop (suc n) m (x ∷ xs) = let e : suc (n + m) ≡ suc n + m = omega arith in drop-drop n m xs ∙ ap (λ k. drop k (x ∷ xs)) e

size-append : (xs ys : List (List ℕ)) → size_of (xs ++ ys) ≡ size_of xs + size_of ys
size-append [] ys = omega arith
size-append (x ∷ xs) ys = omega (arith, size-append xs ys)

-- the lines after the one that begins the event
pub after-begin : (text : List ℕ) (k : ℕ) (b : Begin) → IsBegin text k b → drop (k + 1) (lines_of text) ≡ map without_return (parts_left 10 b.rest)
after-begin text k b h = drop-map without_return (k + 1) (parts_at 10 text) ∙ ap (map without_return) (sym h.rest)

unclosed-is : (text : List ℕ) (k : ℕ) (b : Begin) → IsBegin text k b → event_size text k ≡ None → IsUnclosed text (record { position = b.position; reason = Unclosed })
unclosed-is text k b h none = record {
  begin = k;
  first = h.first;
  no_end = none;
  is = ap (λ (n : ℕ). record { position = n; reason = Unclosed }) h.position;
}

-- the text ends at the line that begins the event
pub unclosed-at-end : (text : List ℕ) (k : ℕ) (b : Begin) → IsBegin text k b → b.rest ≡ None → IsUnclosed text (record { position = b.position; reason = Unclosed })
unclosed-at-end text k b h end =
    unclosed-is text k b h (ap (lines_within 1) (after-begin text k b h) ∙ ap (λ rest. lines_within 1 (map without_return (parts_left 10 rest))) end)

-- the size of an event is that of its lines in the rest of the text
size-within : (text : List ℕ) (k : ℕ) (b : Begin) (lines : Bor (List ℕ)) → IsBegin text k b → b.rest ≡ Some lines → event_size text k ≡ lines_within 1 (lines_of lines.now)
size-within text k b lines h more = ap (lines_within 1) (after-begin text k b h) ∙ ap (λ rest. lines_within 1 (map without_return (parts_left 10 rest))) more

-- no line after it ends the event
pub unclosed-after : (text : List ℕ) (k : ℕ) (b : Begin) (lines : Bor (List ℕ)) → IsBegin text k b → b.rest ≡ Some lines → lines_within 1 (lines_of lines.now) ≡ None
    → IsUnclosed text (record { position = b.position; reason = Unclosed })
unclosed-after text k b lines h more none = unclosed-is text k b h (size-within text k b lines h more ∙ none)

-- the lines of an event and the lines after it are lines of the text
parts-after : (text : List ℕ) (k : ℕ) (b : Begin) (lines : Bor (List ℕ)) → IsBegin text k b → b.rest ≡ Some lines → parts_at 10 lines.now ≡ drop (k + 1) (parts_at 10 text)
parts-after text k b lines h more = sym (ap (parts_left 10) more) ∙ h.rest

end-line : (text : List ℕ) (k : ℕ) (b : Begin) (lines : Bor (List ℕ)) (n : ℕ) (e : End) → IsBegin text k b → b.rest ≡ Some lines → IsEnd lines.now n e
    → option_map ends_event (slice_get (lines_of text) (k + 1 + n)) ≡ Some e.is_event
end-line text k b lines n e h more end =
    ap (option_map ends_event) (sym (get-drop (k + 1) (lines_of text) n) ∙ ap (λ texts. slice_get texts n) (drop-map without_return (k + 1) (parts_at 10 text) ∙ ap (map without_return) (sym (parts-after text k b lines h more))))
    ∙ end.event

end-start : (text : List ℕ) (k : ℕ) (b : Begin) (lines : Bor (List ℕ)) (n : ℕ) (e : End) → IsBegin text k b → b.rest ≡ Some lines → IsEnd lines.now n e
    → b.end + e.position ≡ line_start text (k + 1 + n)
end-start text k b lines n e h more end =
    let front = take (k + 1) (parts_at 10 text) in
    let its = take n (drop (k + 1) (parts_at 10 text)) in
    let at : e.position ≡ size_of its = end.position ∙ ap (λ parts. size_of (take n parts)) (parts-after text k b lines h more) in
    let all : line_start text (k + 1 + n) ≡ size_of front + size_of its = ap size_of (take-add (k + 1) n (parts_at 10 text)) ∙ size-append front its in
    let first : b.end ≡ size_of front = h.end in
    omega (arith, at, all, first)

pub other-end : (text : List ℕ) (k : ℕ) (b : Begin) (lines : Bor (List ℕ)) (n : ℕ) (e : End) → IsBegin text k b → b.rest ≡ Some lines → IsEnd lines.now n e → e.is_event ≡ false
    → HasOtherEnd text (record { position = b.end + e.position; reason = OtherEnd })
other-end text k b lines n e h more end other = record {
  begin = k;
  size = n;
  first = h.first;
  closed = size-within text k b lines h more ∙ end.closed;
  end = end-line text k b lines n e h more end ∙ ap Some other;
  is = ap (λ (m : ℕ). record { position = m; reason = OtherEnd }) (end-start text k b lines n e h more end);
}

pub is-event : (text : List ℕ) (k : ℕ) (b : Begin) (lines its : Bor (List ℕ)) (n : ℕ) (e : End) → IsBegin text k b → b.rest ≡ Some lines → IsEnd lines.now n e → e.is_event ≡ true
    → its.now ≡ take e.position lines.now
    → IsEvent text k n (record { position = b.end; lines = its; rest = e.rest })
is-event text k b lines its n e h more end right front =
    let after = parts-after text k b lines h more in
    record {
      first = h.first;
      closed = size-within text k b lines h more ∙ end.closed;
      end = end-line text k b lines n e h more end ∙ ap Some right;
      position = h.end;
      lines = ap (parts_at 10) front ∙ end.front ∙ ap (λ parts. take n parts ++ [] ∷ []) after;
      rest = end.rest ∙ ap (drop (n + 1)) after ∙ drop-drop (k + 1) (n + 1) (parts_at 10 text) ∙ ap (λ m. drop m (parts_at 10 text)) (omega arith);
    }
