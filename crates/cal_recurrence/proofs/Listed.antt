-- A list of words, read one after another.
use Rattle.std.proofs.Common.{◌≡◌, ℕ, ◌+◌, ◌<◌, ◌≤◌, length, List, [], ◌∷◌, ◌++◌, Option, Some, None, refl, sym, ap, ◌∙◌, arith, append_assoc, length-append}
use Rattle.std.specs.Prelude.{option_map}
use Rattle.std.specs.Option.{option_zip}
use Rattle.cal_recurrence.specs.Text.{each}

-- the values of the words that are left come after those so far, which begin with `start`
pub record IsRead {X : Type 0} (meaning : List ℕ → Option X) (start so_far : List X) (left all : List (List ℕ)) : Type 0 where
  pub joined : option_map (λ more. so_far ++ more) (each meaning left) ≡ option_map (λ more. start ++ more) (each meaning all)
  pub count : length so_far + length left ≡ length start + length all

one_more : {X : Type 0} (xs : List X) (x : X) (o : Option (List X))
    → option_map (λ more. (xs ++ x ∷ []) ++ more) o ≡ option_map (λ more. xs ++ more) (option_map (λ both. both.0 ∷ both.1) (option_zip (Some x) o))
one_more xs x None = refl
one_more xs x (Some ys) = ap Some (append_assoc xs (x ∷ []) ys)

pub more_read : {X : Type 0} (meaning : List ℕ → Option X) (start xs : List X) (x : X) (word : List ℕ) (left words all : List (List ℕ))
    → IsRead meaning start xs words all → words ≡ word ∷ left → Some x ≡ meaning word → IsRead meaning start (xs ++ x ∷ []) left all
more_read meaning start xs x word left words all h e f = record {
  joined =
      one_more xs x (each meaning left)
      ∙ ap (λ o. option_map (λ more. xs ++ more) (option_map (λ both. both.0 ∷ both.1) (option_zip o (each meaning left)))) f
      ∙ ap (λ ws. option_map (λ more. xs ++ more) (each meaning ws)) (sym e) ∙ h.joined;
  count = omega (arith, h.count, length-append xs (x ∷ []), ap length e);
}

-- if there is room for all of them, there is room for one that is left
pub room_left : {X : Type 0} (meaning : List ℕ → Option X) (start xs : List X) (word : List ℕ) (left words all : List (List ℕ))
    → IsRead meaning start xs words all → words ≡ word ∷ left → length start + length all ≤ 62 → length xs < 62
room_left meaning start xs word left words all h e few = omega (arith, h.count, ap length e)
