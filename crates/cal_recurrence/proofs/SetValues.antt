-- The values of a list that have a meaning, one more at a time.
use Rattle.std.proofs.Common.{◌≡◌, ℕ, ◌+◌, ◌<◌, ◌≤◌, ◌++◌, [], ◌∷◌, List, length, refl, take, Option, Some, None, sym, ap, ◌∙◌, arith, append-nil, length-append}
use Rattle.std.specs.Prelude.{filter_map}
use Rattle.std.specs.List.{slice_index_or}
use Rattle.std.proofs.lemmas.List.{take_more}
use Rattle.std.proofs.lemmas.List.Elements.{filter_map-append}

-- the first i values with a meaning, and one more value
one_more : {X Y : Type 0} (m : X → Option Y) (xs : List X) (i : ℕ) (x : X) → i < length xs → x ≡ slice_index_or xs i x
    → filter_map m (take (i + 1) xs) ≡ filter_map m (take i xs) ++ filter_map m (x ∷ [])
one_more m xs i x less is =
    ap (filter_map m) (take_more xs i x less)
    ∙ filter_map-append m (take i xs) _
    ∙ ap (λ y. filter_map m (take i xs) ++ filter_map m (y ∷ [])) (sym is)

pub one_kept : {X Y : Type 0} (m : X → Option Y) (xs : List X) (i : ℕ) (x : X) (y : Y) (kept all : List Y) → i < length xs → x ≡ slice_index_or xs i x
    → (kept ≡ filter_map m (take i xs)) × (length kept ≤ i) → m x ≡ Some y → all ≡ kept ++ y ∷ []
    → (all ≡ filter_map m (take (i + 1) xs)) × (length all ≤ i + 1)
one_kept m xs i x y kept all less is h e f = (
  f ∙ ap (λ ys. ys ++ y ∷ []) h.0 ∙ sym (one_more m xs i x less is ∙ rw e refl),
  omega (arith, h.1, ap length f, length-append kept (y ∷ [])),
)

pub one_skipped : {X Y : Type 0} (m : X → Option Y) (xs : List X) (i : ℕ) (x : X) (kept : List Y) → i < length xs → x ≡ slice_index_or xs i x
    → (kept ≡ filter_map m (take i xs)) × (length kept ≤ i) → m x ≡ None
    → (kept ≡ filter_map m (take (i + 1) xs)) × (length kept ≤ i + 1)
one_skipped m xs i x kept less is h e = (
  h.0 ∙ sym (one_more m xs i x less is ∙ rw e (append-nil _)),
  omega (arith, h.1),
)
