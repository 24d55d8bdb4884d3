-- Texts that are written into a buffer, one after another.
use Rattle.std.proofs.Common.{◌≡◌, ℕ, ◌+◌, ◌-◌, ◌≤◌, List, ◌∷◌, ◌++◌, append_assoc, length, length-append, take, drop, slice_index_or, Option, Some, None, sym, ap, ◌∙◌, arith}
use Rattle.std.proofs.lemmas.List.{drop-drop, take_rest}
use Rattle.cal_recurrence.specs.Buffers.{IsPut}
use Rattle.cal_recurrence.proofs.Marked.{at_index}

pub then_put : (at next : ℕ) (x y whole : List ℕ) (old mid new : List ℕ) (r : Option ℕ) → length mid ≡ length old → IsPut at x old mid (Some next)
    → IsPut next y mid new r → whole ≡ x ++ y
    → IsPut at whole old new r
then_put at next x y whole old mid new None size h k same = omega (arith, k, h.0, size, length-append x y, ap length same)
then_put at next x y whole old mid new (Some end) size h k same =
    let past : next + (end - next) ≡ end = omega (arith, k.0) in
    let split : (bytes : List ℕ) → drop (end - next) (drop next bytes) ≡ drop end bytes = λ bytes. drop-drop (end - next) next bytes ∙ ap (λ n. drop n bytes) past in (
      omega (arith, h.0, k.0, length-append x y, ap length same),
      omega (arith, k.1, size),
      k.2 ∙ ap (λ front. front ++ y) h.2 ∙ append_assoc (take at old) x y ∙ ap (λ text. take at old ++ text) (sym same),
      k.3 ∙ sym (split mid) ∙ ap (drop (end - next)) h.3 ∙ split old,
    )

-- a list by its first value and the others
pub first_value : {X : Type 0} (xs : List X) (x : X) → 1 ≤ length xs → x ≡ slice_index_or xs 0 x → xs ≡ x ∷ take (length xs - 1) (drop 1 xs)
first_value xs x some is =
    at_index xs 0 x (omega (arith, some)) ∙ ap (λ y. y ∷ drop 1 xs) (sym is) ∙ ap (λ others. x ∷ others) (sym (take_rest xs 1))
