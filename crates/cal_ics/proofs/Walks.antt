-- The lines of a text, cut off one after another.
use denote.Ref.{Bor}
use Rattle.std.proofs.Common.{◌≡◌, ℕ, ◌+◌, ◌≤◌, List, [], ◌∷◌, ◌++◌, append_assoc, length, map, take, drop, Option, Some, None, refl, sym, ap, ◌∙◌, arith}
use Rattle.std.specs.Prelude.{MatchOption, slice_get}
use Rattle.std.proofs.lemmas.List.{drop_at, map-append, take_at}
use Rattle.cal_recurrence.specs.SetText.{lines_of, size_of, without_return}
use Rattle.cal_recurrence.specs.Words.{parts_at, parts_left}

-- the lines before those that are left
pub record IsWalk (text : List ℕ) (at : ℕ) (left : Option (Bor (List ℕ))) : Type 0 where
  pub done : List (List ℕ)
  pub lines : parts_at 10 text ≡ done ++ parts_left 10 left
  pub position : at ≡ size_of done
  pub size : MatchOption left (at ≡ length text + 1) (λ rest. at + length rest.now ≡ length text)

-- the line that comes next
pub record IsCut (text : List ℕ) (at : ℕ) (left : List ℕ) (part : List ℕ) (more : Option (Bor (List ℕ))) : Type 0 where
  pub rest : Bor (List ℕ)
  pub now : left ≡ rest.now
  pub before : IsWalk text at (Some rest)
  pub split : parts_at 10 left ≡ part ∷ parts_left 10 more
  pub size : MatchOption more (length part ≡ length left) (λ last. length part + 1 + length last.now ≡ length left)

pub size-more : (texts : List (List ℕ)) (text : List ℕ) → size_of (texts ++ text ∷ []) ≡ size_of texts + (length text + 1)
size-more [] text = omega arith
size-more (t ∷ ts) text = omega (arith, size-more ts text)

pub all-parts : (text : List ℕ) (at : ℕ) (left part : List ℕ) (more : Option (Bor (List ℕ))) → (s : IsCut text at left part more)
    → parts_at 10 text ≡ s.before.done ++ part ∷ parts_left 10 more
all-parts text at left part more s = s.before.lines ∙ ap (λ bytes. s.before.done ++ parts_at 10 bytes) (sym s.now) ∙ ap (λ texts. s.before.done ++ texts) s.split

pub all-lines : (text : List ℕ) (at : ℕ) (left part : List ℕ) (more : Option (Bor (List ℕ))) → (s : IsCut text at left part more)
    → lines_of text ≡ map without_return s.before.done ++ without_return part ∷ map without_return (parts_left 10 more)
all-lines text at left part more s = ap (map without_return) (all-parts text at left part more s) ∙ map-append without_return s.before.done (part ∷ parts_left 10 more)

pub left-over : (text : List ℕ) (at : ℕ) (left part : List ℕ) (o : Option (Bor (List ℕ))) → MatchOption o (length part ≡ length left) (λ last. length part + 1 + length last.now ≡ length left) → at + length left ≡ length text
    → MatchOption o (at + (length part + 1) ≡ length text + 1) (λ last. at + (length part + 1) + length last.now ≡ length text)
left-over text at left part None h k = omega (arith, h, k)
left-over text at left part (Some last) h k = omega (arith, h, k)

pub within : (text : List ℕ) (at : ℕ) (left part : List ℕ) (more : Option (Bor (List ℕ))) → IsCut text at left part more → at + (length part + 1) ≤ length text + 1
within text at left part more s = by more s.size
  where
    rest : at + length left ≡ length text
    rest = ap (λ bytes. at + length bytes) s.now ∙ s.before.size

    by : (o : Option (Bor (List ℕ))) → MatchOption o (length part ≡ length left) (λ last. length part + 1 + length last.now ≡ length left) → at + (length part + 1) ≤ length text + 1
    by None h = omega (arith, h, rest)
    by (Some last) h = omega (arith, h, rest)

abbrev pub walked : (text : List ℕ) (at : ℕ) (left part : List ℕ) (more : Option (Bor (List ℕ))) → (s : IsCut text at left part more) → IsWalk text (at + (length part + 1)) more
walked text at left part more s = record {
  done = s.before.done ++ part ∷ [];
  lines = all-parts text at left part more s ∙ sym (append_assoc s.before.done (part ∷ []) (parts_left 10 more));
  position = ap (λ n. n + (length part + 1)) s.before.position ∙ sym (size-more s.before.done part);
  size = left-over text at left part more s.size (ap (λ bytes. at + length bytes) s.now ∙ s.before.size);
}

-- the line after those that are done: its position, the position after it, and the lines after it
pub start-here : (text : List ℕ) (at : ℕ) (left part : List ℕ) (more : Option (Bor (List ℕ))) → (s : IsCut text at left part more)
    → at ≡ size_of (take (length s.before.done) (parts_at 10 text))
start-here text at left part more s =
    let done = s.before.done in
    s.before.position ∙ ap size_of (sym (ap (take (length done)) (all-parts text at left part more s) ∙ take_at done (part ∷ parts_left 10 more) (length done) refl))

length-one : (done : List (List ℕ)) (part : List ℕ) → length (done ++ part ∷ []) ≡ length done + 1
length-one [] part = refl
length-one (x ∷ xs) part = omega (arith, length-one xs part)

pub end-here : (text : List ℕ) (at : ℕ) (left part : List ℕ) (more : Option (Bor (List ℕ))) → (s : IsCut text at left part more)
    → at + (length part + 1) ≡ size_of (take (length s.before.done + 1) (parts_at 10 text))
end-here text at left part more s =
    let next = walked text at left part more s in
    let done = next.done in
    next.position ∙ ap size_of (sym (ap (take (length s.before.done + 1)) next.lines ∙ take_at done (parts_left 10 more) (length s.before.done + 1) (length-one s.before.done part)))

pub rest-here : (text : List ℕ) (at : ℕ) (left part : List ℕ) (more : Option (Bor (List ℕ))) → (s : IsCut text at left part more)
    → parts_left 10 more ≡ drop (length s.before.done + 1) (parts_at 10 text)
rest-here text at left part more s =
    let next = walked text at left part more s in
    sym (ap (drop (length s.before.done + 1)) next.lines ∙ drop_at next.done (parts_left 10 more) (length s.before.done + 1) (length-one s.before.done part))

pub line-here : {X : Type 0} (xs : List X) (y : X) (ys : List X) → slice_get (xs ++ y ∷ ys) (length xs) ≡ Some y
line-here [] y ys = refl
line-here (x ∷ xs) y ys = line-here xs y ys

abbrev pub walk-start : (text : Bor (List ℕ)) → IsWalk text.now 0 (Some text)
walk-start text = record { done = []; lines = refl; position = refl; size = omega arith }
