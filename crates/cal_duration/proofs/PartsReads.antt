-- Parts in the order of their letters, as they are parsed one by one.
use Rattle.std.proofs.Common.{◌≡◌, ℕ, suc, ◌+◌, ◌-◌, ◌<◌, ◌≤◌, List, [], ◌∷◌, ◌++◌, length, get_or, drop, set, replicate, refl, sym, ap, subst, ◌∙◌, arith, ◌⊎◌, inl, inr, Some, None}
use Rattle.std.specs.Prelude.{true, false, Option, IfSome, IfNone, is_some}
use Rattle.std.proofs.lemmas.List.{append_assoc, append-nil, length-append, length-drop, drop_more, set_at}
use Rattle.cal_text.specs.Shape.{Shape, Branch, Branches, UpTo, unmatched_bytes, GoesPast}
use Rattle.cal_duration.specs.Form.{IsNumber, IsPart, IsSecondsEnd}
use Rattle.cal_duration.specs.PartsRead.{AreParts, DecimalsRead, PartsRead}
use Rattle.cal_duration.specs.DurationShape.{After}

-- The parser has seen i letters. It went past parts with the numbers `done`, and past the digits of
-- a further number. Whatever parts with the other letters come next, all are parts.
pub record Reached (letters numbers : List ℕ) (i number : ℕ) (old mid : List ℕ) : Type 0 where
  pub front : List ℕ
  pub digits : List ℕ
  pub done : List ℕ
  pub is : IsNumber digits number
  pub bytes_are : old ≡ front ++ (digits ++ mid)
  pub numbers_are : numbers ≡ done ++ replicate (length letters - i) 0
  pub count : length done ≡ i
  pub whole : (bytes ns : List ℕ) → AreParts (drop i letters) bytes ns → AreParts letters (front ++ bytes) (done ++ ns)

pub at_start : (letters numbers digits start : List ℕ) (first : ℕ) → numbers ≡ replicate (length letters) 0 → IsNumber digits first → Reached letters numbers 0 first (digits ++ start) start
at_start letters numbers digits start first zeros is = let same : length letters ≡ length letters - 0 = omega arith in record {
  front = [];
  digits = digits;
  done = [];
  is = is;
  bytes_are = refl;
  numbers_are = zeros ∙ ap (λ n. replicate {A = ℕ} n 0) same;
  count = refl;
  whole = λ bytes ns h. h;
}

-- one letter more
push_done : (done ns : List ℕ) (n : ℕ) → done ++ (n ∷ ns) ≡ (done ++ n ∷ []) ++ ns
push_done done ns n = sym (append_assoc done (n ∷ []) ns)

one_less : (letters : List ℕ) (i : ℕ) → i < length letters → replicate {A = ℕ} (length letters - i) 0 ≡ 0 ∷ replicate {A = ℕ} (length letters - (i + 1)) 0
one_less letters i less = let next : length letters - i ≡ suc (length letters - (i + 1)) = omega (arith, less) in ap (λ k. replicate {A = ℕ} k 0) next

pub skipped : (letters numbers : List ℕ) (i number : ℕ) (old mid : List ℕ) → i < length letters → Reached letters numbers i number old mid → Reached letters numbers (i + 1) number old mid
skipped letters numbers i number old mid less h =
    let split = drop_more letters i 0 less in
    record {
      front = h.front;
      digits = h.digits;
      done = h.done ++ 0 ∷ [];
      is = h.is;
      bytes_are = h.bytes_are;
      numbers_are = h.numbers_are ∙ ap (λ ns. h.done ++ ns) (one_less letters i less) ∙ push_done h.done (replicate (length letters - (i + 1)) 0) 0;
      count = length-append h.done (0 ∷ []) ∙ ap (λ k. k + 1) h.count;
      whole = λ bytes ns are.
          subst (AreParts letters (h.front ++ bytes)) (push_done h.done ns 0)
          (h.whole bytes (0 ∷ ns) (subst (λ ls. AreParts ls bytes (0 ∷ ns)) (sym split) ([], bytes, inl (refl, refl), are, refl)));
    }

-- the letter of the number
part_of : (digits : List ℕ) (letter n : ℕ) → IsNumber digits n → IsPart letter (digits ++ letter ∷ []) n
part_of digits letter n is = inr (digits, is, refl)

set_done : (done : List ℕ) (i n k : ℕ) (numbers : List ℕ) → length done ≡ i → numbers ≡ done ++ (0 ∷ replicate k 0) → set numbers i n ≡ done ++ (n ∷ replicate k 0)
set_done done i n k numbers count e = ap (λ ns. set ns i n) e ∙ set_at done 0 (replicate k 0) n i count

pub matched : (letters numbers : List ℕ) (i number next : ℕ) (old mid after new : List ℕ) → i < length letters → Reached letters numbers i number old mid → mid ≡ get_or letters i 0 ∷ after
    → GoesPast (λ digits. IsNumber digits next) after new → Reached letters (set numbers i number) (i + 1) next old new
matched letters numbers i number next old mid after new less h byte read =
    let letter = get_or letters i 0 in
    let split = drop_more letters i 0 less in
    let part = h.digits ++ letter ∷ [] in
    record {
      front = h.front ++ part;
      digits = read.front;
      done = h.done ++ number ∷ [];
      is = read.is;
      bytes_are = h.bytes_are ∙ ap (λ r. h.front ++ (h.digits ++ r)) (byte ∙ ap (λ r. letter ∷ r) read.bytes_are)
          ∙ ap (λ r. h.front ++ r) (sym (append_assoc h.digits (letter ∷ []) (read.front ++ new))) ∙ sym (append_assoc h.front part (read.front ++ new));
      numbers_are = set_done h.done i number (length letters - (i + 1)) numbers h.count (h.numbers_are ∙ ap (λ ns. h.done ++ ns) (one_less letters i less))
          ∙ push_done h.done (replicate (length letters - (i + 1)) 0) number;
      count = length-append h.done (number ∷ []) ∙ ap (λ k. k + 1) h.count;
      whole = λ bytes ns are.
          let all = h.whole (part ++ bytes) (number ∷ ns) (subst (λ ls. AreParts ls (part ++ bytes) (number ∷ ns)) (sym split) (part, bytes, part_of h.digits letter number h.is, are, refl)) in
          subst (λ front. AreParts letters front ((h.done ++ number ∷ []) ++ ns)) (sym (append_assoc h.front part bytes)) (subst (AreParts letters (h.front ++ (part ++ bytes))) (push_done h.done ns number) all);
    }

-- ---- the end
none_left : (letters : List ℕ) → AreParts letters [] (replicate (length letters) 0)
none_left [] = (refl, refl)
none_left (l ∷ ls) = ([], [], inl (refl, refl), none_left ls, refl)

-- no digit after the letter
pub ended : (letters numbers : List ℕ) (i number : ℕ) (old mid new : List ℕ) → i < length letters → Reached letters numbers i number old mid → mid ≡ get_or letters i 0 ∷ new
    → PartsRead letters (set numbers i number) None old new
ended letters numbers i number old mid new less h byte =
    let letter = get_or letters i 0 in
    let split = drop_more letters i 0 less in
    let part = h.digits ++ letter ∷ [] in
    let k = length letters - (i + 1) in
    let left : length (drop (i + 1) letters) ≡ length letters - (i + 1) = length-drop (i + 1) letters in
    let rest : AreParts (drop (i + 1) letters) [] (replicate k 0) = subst (λ m. AreParts (drop (i + 1) letters) [] (replicate m 0)) left (none_left (drop (i + 1) letters)) in
    let all = h.whole part (number ∷ replicate k 0) (subst (λ ls. AreParts ls part (number ∷ replicate k 0)) (sym split) (part, [], part_of h.digits letter number h.is, rest, sym (append-nil part))) in
    record {
      parts = h.front ++ part;
      digits = [];
      are = subst (AreParts letters (h.front ++ part)) (sym (set_done h.done i number k numbers h.count (h.numbers_are ∙ ap (λ ns. h.done ++ ns) (one_less letters i less)))) all;
      number = refl;
      bytes_are = h.bytes_are ∙ ap (λ r. h.front ++ (h.digits ++ r)) byte ∙ ap (λ r. h.front ++ r) (sym (append_assoc h.digits (letter ∷ []) new)) ∙ sym (append_assoc h.front part new);
    }

-- another letter after the number
pub further : (letters numbers : List ℕ) (i number : ℕ) (old new : List ℕ) → length letters ≤ i → Reached letters numbers i number old new → PartsRead letters numbers (Some number) old new
further letters numbers i number old new most h =
    let no_letters : drop i letters ≡ [] = nothing (drop i letters) (omega (arith, most, length-drop i letters)) in
    let none : length letters - i ≡ 0 = omega (arith, most) in
    let no_numbers : numbers ≡ h.done ++ [] = h.numbers_are ∙ ap (λ n. h.done ++ replicate {A = ℕ} n 0) none in
    let all = h.whole [] [] (subst (λ ls. AreParts ls [] []) (sym no_letters) (refl, refl)) in
    record {
      parts = h.front;
      digits = h.digits;
      are = subst (AreParts letters h.front) (sym no_numbers) (subst (λ front. AreParts letters front (h.done ++ [])) (append-nil h.front) all);
      number = h.is;
      bytes_are = h.bytes_are;
    }
  where
    nothing : (xs : List ℕ) → length xs ≤ 0 → xs ≡ []
    nothing [] few = refl
    nothing (x ∷ xs) few = absurd (omega (arith, few))

-- ---- shapes
abbrev pub GoesOn : List ℕ → List ℕ → List ℕ → ℕ → Type 0
GoesOn letters start mid i = (more : ℕ) → length start ≤ more → (f g : Shape) → unmatched_bytes (After more letters g f) start ≡ unmatched_bytes (After more (drop i letters) g f) mid

pub goes_past : (letters start mid new : List ℕ) (i n : ℕ) (more : ℕ) (f g : Shape) → i < length letters → length start ≤ more → GoesOn letters start mid i
    → ((f g : Shape) → unmatched_bytes (Branch (get_or letters i 0) 0 f g) mid ≡ unmatched_bytes f new) → unmatched_bytes (Branch 48 9 (UpTo more (After more (drop (i + 1) letters) g f)) f) new ≡ n
    → unmatched_bytes (After more letters g f) start ≡ n
goes_past letters start mid new i n more f g less few h byte e =
    h more few f g ∙ ap (λ ls. unmatched_bytes (After more ls g f) mid) (drop_more letters i 0 less) ∙ byte (Branch 48 9 (UpTo more (After more (drop (i + 1) letters) g f)) f) (After more (drop (i + 1) letters) g f) ∙ e

pub goes_over : (letters start mid new : List ℕ) (i : ℕ) → i < length letters → GoesOn letters start mid i
    → ((f g : Shape) → unmatched_bytes (Branch (get_or letters i 0) 0 f g) mid ≡ unmatched_bytes g new) → GoesOn letters start new (i + 1)
goes_over letters start mid new i less h byte = λ more few f g.
    h more few f g ∙ ap (λ ls. unmatched_bytes (After more ls g f) mid) (drop_more letters i 0 less) ∙ byte (Branch 48 9 (UpTo more (After more (drop (i + 1) letters) g f)) f) (After more (drop (i + 1) letters) g f)

pub goes_to_end : (letters start new : List ℕ) (i : ℕ) → length letters ≤ i → GoesOn letters start new i → (more : ℕ) → length start ≤ more → (f g : Shape)
    → unmatched_bytes (After more letters g f) start ≡ unmatched_bytes g new
goes_to_end letters start new i most h more few f g = h more few f g ∙ ap (λ ls. unmatched_bytes (After more ls g f) new) (nothing (drop i letters) (omega (arith, most, length-drop i letters)))
  where
    nothing : (xs : List ℕ) → length xs ≤ 0 → xs ≡ []
    nothing [] few = refl
    nothing (x ∷ xs) few = absurd (omega (arith, few))

-- What the loop over the letters keeps.
pub record PartsKept (letters numbers : List ℕ) (first i number : ℕ) (start mid : List ℕ) : Type 0 where
  pub scans : GoesOn letters start mid i
  pub value : (digits : List ℕ) → IsNumber digits first → Reached letters numbers i number (digits ++ start) mid
  pub shorter : length mid ≤ length start

-- ---- a fraction, which may be left out, and the letter S
seconds_end_of : (mark n : ℕ) (old mid new : List ℕ) → (mark ≡ 46) ⊎ (mark ≡ 44) → old ≡ mark ∷ mid → DecimalsRead mid new n → GoesPast (λ bytes. IsSecondsEnd bytes n) old new
seconds_end_of mark n old mid new is byte h = record {
  front = (mark ∷ h.digits) ++ 83 ∷ [];
  is = (mark ∷ h.digits, inr (record { mark = mark; digits = h.digits; is_mark = is; all = h.all; some = h.some; few = h.few; value = h.value; bytes_are = refl }), refl);
  bytes_are = byte ∙ ap (λ r. mark ∷ r) (h.bytes_are ∙ sym (append_assoc h.digits (83 ∷ []) new));
}

pub fraction_end : (mark : ℕ) (r : Option ℕ) (old mid new : List ℕ) → (mark ≡ 46) ⊎ (mark ≡ 44) → old ≡ mark ∷ mid → IfSome r (DecimalsRead mid new)
    → IfSome r (λ n. GoesPast (λ bytes. IsSecondsEnd bytes n) old new)
fraction_end mark (Some n) old mid new is byte h = seconds_end_of mark n old mid new is byte h
fraction_end mark None old mid new is byte h = tt

pub no_fraction : (old new : List ℕ) → old ≡ 83 ∷ new → GoesPast (λ bytes. IsSecondsEnd bytes 0) old new
no_fraction old new byte = record { front = 83 ∷ []; is = ([], inl (refl, refl), refl); bytes_are = byte }

-- ---- one turn of the loop
pub kept_at_start : (letters numbers : List ℕ) (first : ℕ) (start : List ℕ) → numbers ≡ replicate (length letters) 0 → PartsKept letters numbers first 0 first start start
kept_at_start letters numbers first start zeros =
    record { scans = λ more few f g. refl; value = λ digits is. at_start letters numbers digits start first zeros is; shorter = omega arith }

-- A test of a byte, by its result.
pub record IsTested {V : Type 0} (byte : ℕ) (old new : List ℕ) (r : Option V) : Type 0 where
  pub branches : Branches byte 0 old new r
  pub value : IfSome r (λ _. old ≡ byte ∷ new)
  pub unchanged : IfNone r (new ≡ old)

pub record IsFound (byte : ℕ) (old new : List ℕ) : Type 0 where
  pub branches : (f g : Shape) → unmatched_bytes (Branch byte 0 f g) old ≡ unmatched_bytes f new
  pub value : old ≡ byte ∷ new

pub record IsMissing (byte : ℕ) (old new : List ℕ) : Type 0 where
  pub branches : (f g : Shape) → unmatched_bytes (Branch byte 0 f g) old ≡ unmatched_bytes g new
  pub unchanged : new ≡ old

pub found : {V : Type 0} (byte : ℕ) (old new : List ℕ) (r : Option V) → is_some r ≡ true → IsTested byte old new r → IsFound byte old new
found byte old new (Some v) e h = record { branches = h.branches; value = h.value }
found byte old new None e h = absurd cc

pub missing : {V : Type 0} (byte : ℕ) (old new : List ℕ) (r : Option V) → is_some r ≡ false → IsTested byte old new r → IsMissing byte old new
missing byte old new (Some v) e h = absurd cc
missing byte old new None e h = record { branches = h.branches; unchanged = h.unchanged }

pub kept_past : (letters numbers : List ℕ) (first i number next : ℕ) (start mid after new : List ℕ) → i < length letters → PartsKept letters numbers first i number start mid
    → IsFound (get_or letters i 0) mid after → GoesPast (λ digits. IsNumber digits next) after new → length new ≤ length after
    → ((more : ℕ) → length after ≤ more → (f g : Shape) → unmatched_bytes (Branch 48 9 (UpTo more f) g) after ≡ unmatched_bytes f new)
    → PartsKept letters (set numbers i number) first (i + 1) next start new
kept_past letters numbers first i number next start mid after new less h byte read shorter scans =
    let fewer : length after ≤ length start = omega (arith, h.shorter, ap length byte.value) in
    record {
      scans = λ more few f g.
          goes_past letters start mid after i _ more f g less few h.scans byte.branches (scans more (omega (arith, fewer, few)) (After more (drop (i + 1) letters) g f) f);
      value = λ digits is. matched letters numbers i number next (digits ++ start) mid after new less (h.value digits is) byte.value read;
      shorter = omega (arith, fewer, shorter);
    }

pub kept_over : (letters numbers : List ℕ) (first i number : ℕ) (start mid new : List ℕ) → i < length letters → PartsKept letters numbers first i number start mid
    → IsMissing (get_or letters i 0) mid new → PartsKept letters numbers first (i + 1) number start new
kept_over letters numbers first i number start mid new less h byte = record {
  scans = goes_over letters start mid new i less h.scans byte.branches;
  value = λ digits is.
      subst (λ rest. Reached letters numbers (i + 1) number (digits ++ start) rest) (sym byte.unchanged) (skipped letters numbers i number (digits ++ start) mid less (h.value digits is));
  shorter = omega (arith, h.shorter, ap length byte.unchanged);
}

pub ended_at : (letters numbers : List ℕ) (i number : ℕ) (old mid after new : List ℕ) → i < length letters → Reached letters numbers i number old mid → IsFound (get_or letters i 0) mid after → new ≡ after
    → PartsRead letters (set numbers i number) None old new
ended_at letters numbers i number old mid after new less h byte kept = ended letters numbers i number old mid new less h (byte.value ∙ ap (λ r. get_or letters i 0 ∷ r) (sym kept))
