-- A list of words with commas between them, read back.
use Rattle.std.proofs.Common.{◌≡◌, ℕ, ◌≤◌, true, List, [], ◌∷◌, ◌++◌, append-nil, map, length, Option, Some, refl, ap, ◌∙◌, arith}
use Rattle.std.specs.Prelude.{⊤, codes, nat_le}
use Rattle.std.proofs.lemmas.Bool.Decides.{nat_tests}
use Rattle.cal_recurrence.specs.Text.{each, list_of, has_few_words}
use Rattle.cal_schedule.specs.Values.{most_values}
use Rattle.cal_recurrence.specs.Words.{parts_at}
use Rattle.cal_recurrence.specs.Written.{list_text}
use Rattle.cal_recurrence.proofs.Avoided.{avoids, avoids-append, cut-here, cut-nowhere}

-- a word avoids the separators of lines, words and parts
abbrev pub IsApart : List ℕ → Type 0
IsApart word = (avoids 10 word ≡ true) × (avoids 44 word ≡ true) × (avoids 59 word ≡ true)

-- such a word means its value
pub record IsWord {X : Type 0} (meaning : List ℕ → Option X) (x : X) (word : List ℕ) : Type 0 where
  pub apart : IsApart word
  pub means : meaning word ≡ Some x

-- the same of the value of a part
pub record IsValue {X : Type 0} (meaning : List ℕ → Option X) (x : X) (value : List ℕ) : Type 0 where
  pub few : has_few_words value ≡ true
  pub feed : avoids 10 value ≡ true
  pub semicolon : avoids 59 value ≡ true
  pub means : meaning value ≡ Some x

pub one-word : {X : Type 0} (meaning : List ℕ → Option X) (x : X) (word : List ℕ) → IsWord meaning x word → IsValue meaning x word
one-word meaning x word h = record {
  few = ap (λ words. nat_le (length words) most_values) (cut-nowhere 44 word h.apart.1);
  feed = h.apart.0;
  semicolon = h.apart.2;
  means = h.means;
}

abbrev pub AreWords : {X : Type 0} → (List ℕ → Option X) → (X → List ℕ) → List X → Type 0
AreWords meaning text [] = ⊤
AreWords meaning text (x ∷ xs) = IsWord meaning x (text x) × AreWords meaning text xs

-- the words with commas between them
abbrev pub joined : {X : Type 0} → (X → List ℕ) → X → List X → List ℕ
joined text x xs = text x ++ list_text (codes ",") text xs

pub cut : {X : Type 0} (meaning : List ℕ → Option X) (text : X → List ℕ) (x : X) (xs : List X) → AreWords meaning text (x ∷ xs)
    → parts_at 44 (joined text x xs) ≡ map text (x ∷ xs)
cut meaning text x [] h = ap (parts_at 44) (append-nil (text x)) ∙ cut-nowhere 44 (text x) h.0.apart.1
cut meaning text x (y ∷ ys) h =
    cut-here 44 (text x) (joined text y ys) h.0.apart.1 ∙ ap (λ words. text x ∷ words) (cut meaning text y ys h.1)

pub no-feed : {X : Type 0} (meaning : List ℕ → Option X) (text : X → List ℕ) (x : X) (xs : List X) → AreWords meaning text (x ∷ xs)
    → avoids 10 (joined text x xs) ≡ true
no-feed meaning text x [] h = avoids-append 10 (text x) [] h.0.apart.0 refl
no-feed meaning text x (y ∷ ys) h = avoids-append 10 (text x) (44 ∷ joined text y ys) h.0.apart.0 (no-feed meaning text y ys h.1)

no-semicolon : {X : Type 0} (meaning : List ℕ → Option X) (text : X → List ℕ) (x : X) (xs : List X) → AreWords meaning text (x ∷ xs)
    → avoids 59 (joined text x xs) ≡ true
no-semicolon meaning text x [] h = avoids-append 59 (text x) [] h.0.apart.2 refl
no-semicolon meaning text x (y ∷ ys) h =
    avoids-append 59 (text x) (44 ∷ joined text y ys) h.0.apart.2 (no-semicolon meaning text y ys h.1)

each-word : {X : Type 0} (meaning : List ℕ → Option X) (text : X → List ℕ) (xs : List X) → AreWords meaning text xs
    → each meaning (map text xs) ≡ Some xs
each-word meaning text [] h = refl
each-word meaning text (x ∷ xs) h =
    rw (h.0.means, each-word meaning text xs h.1) refl

pub length-map : {X : Type 0} (text : X → List ℕ) (xs : List X) → length (map text xs) ≡ length xs
length-map text [] = refl
length-map text (x ∷ xs) = omega (arith, length-map text xs)

few-enough : (n : ℕ) → n ≤ 62 → nat_le n most_values ≡ true
few-enough n h = grind (arith, nat_tests, h)

pub list-value : {X : Type 0} (meaning : List ℕ → Option X) (text : X → List ℕ) (x : X) (xs : List X) → AreWords meaning text (x ∷ xs)
    → length (x ∷ xs) ≤ 62
    → IsValue (list_of meaning) (x ∷ xs) (joined text x xs)
list-value meaning text x xs h few = record {
  few = few-enough (length (parts_at 44 (joined text x xs))) (omega (arith, few, ap length (cut meaning text x xs h), length-map text (x ∷ xs)));
  feed = no-feed meaning text x xs h;
  semicolon = no-semicolon meaning text x xs h;
  means = ap (each meaning) (cut meaning text x xs h) ∙ each-word meaning text (x ∷ xs) h;
}
