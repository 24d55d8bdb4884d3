-- How long a text is that starts with a digit.
use Rattle.std.proofs.Common.{◌≡◌, ◌⊎◌, inl, inr, ℕ, zero, suc, ◌+◌, ◌-◌, ◌<◌, ◌≤◌, Bool, true, false, List, [], ◌∷◌, ◌++◌, append-nil, length, length-append, length-drop, take, drop, refl, sym, ap, subst, ◌∙◌, arith}
use Rattle.std.specs.Prelude.{◌||◌, ◌==◌, codes, slice_index, if◌then◌else◌}
use Rattle.std.proofs.lemmas.Bool.{cases_lt, false≢true}
use Rattle.std.proofs.lemmas.Bool.Decides.{nat_tests}
use Rattle.std.proofs.lemmas.List.{get_or-drop, get_or-take, get_or_append_left, get_or_at, length-take-le}
use Rattle.std.proofs.Math.ListN.{get_or-eq_default}
use Rattle.std.proofs.Math.Seq.{drop-append_seam, drop-drop}
use Rattle.cal_text.specs.Shape.{Branch, Byte, ByteRange, End, Fraction, Shape, UpTo, moment, offset_digits, signed_offset, time_offset, unmatched_bytes}
use Rattle.cal_text.proofs.Stops.{IsIn, unmatched_bytes-branch_end, unmatched_bytes-end, unmatched_bytes-more}
use Rattle.caldate_answers.specs.Offsets.{is_digit}
use Rattle.caldate_answers.specs.Scans.{bound_with, digit_bound, digits_at_front, offset_index}
use Rattle.caldate_answers.specs.Spellings.{is_sign, with_colon, with_point}
use Rattle.caldate_answers.proofs.TextBounds.{no_point, point_keeps}
use Rattle.caldate_answers.proofs.ShapeBytes.{branch-first, digit_at, from-first, in-digits}

-- ---- the bytes after the seconds
-- Each way past k bytes of the shape f leads to the shape g.
abbrev leads : ℕ → Shape → Shape → Type 0
leads zero f g = f ≡ g
leads (suc k) End g = ⊥
leads (suc k) (ByteRange low above f) g = leads k f g
leads (suc k) (Branch low above f h) g = leads k f g × leads (suc k) h g

past : (k : ℕ) (f g : Shape) (bytes : List ℕ) → leads k f g → unmatched_bytes f bytes ≡ 0 → unmatched_bytes g (drop k bytes) ≡ 0
past zero f g bytes same e = subst (λ s. unmatched_bytes s bytes ≡ 0) same e
past (suc k) End g bytes h e = absurd h
past (suc k) (ByteRange low above f) g [] h e = absurd (omega (arith, e, unmatched_bytes-end low above f))
past (suc k) (ByteRange low above f) g (x ∷ xs) h e = past k f g xs h (from-first low above f x xs e).1
past (suc k) (Branch low above f o) g [] h e = past (suc k) o g [] h.1 (sym (unmatched_bytes-branch_end low above f o) ∙ e)
past (suc k) (Branch low above f o) g (x ∷ xs) h e =
    elim (branch-first low above f o x xs e) as (λ _. unmatched_bytes g (drop k xs) ≡ 0) [
      | inl here ↦ past k f g xs h.0 here.1
      | inr other ↦ past (suc k) o g (x ∷ xs) h.1 other
    ]

-- ---- an offset
abbrev IsOffset : List ℕ → Type 0
IsOffset bytes =
    (((slice_index bytes 0 ≡ 90) ⊎ (slice_index bytes 0 ≡ 122)) × (length bytes ≡ 1)) ⊎ (((slice_index bytes 0 ≡ 43) ⊎ (slice_index bytes 0 ≡ 45)) × (length bytes ≡ 6))

one : (y x : ℕ) → IsIn y 0 x → x ≡ y
one y x is = omega (arith, is.0, is.1)

no_more : (xs : List ℕ) → unmatched_bytes End xs ≡ 0 → length xs ≡ 0
no_more [] e = refl
no_more (x ∷ xs) e = absurd (omega (arith, e, unmatched_bytes-more x xs))

-- the bytes of a shape without branches
abbrev size : Shape → ℕ
size End = 0
size (ByteRange low above f) = suc (size f)
size (Branch low above f g) = suc (size f)

abbrev plain : Shape → Bool
plain End = true
plain (ByteRange low above f) = plain f
plain (Branch low above f g) = false

sized : (f : Shape) (bytes : List ℕ) → plain f ≡ true → unmatched_bytes f bytes ≡ 0 → length bytes ≡ size f
sized End bytes h e = no_more bytes e
sized (ByteRange low above f) [] h e = absurd (omega (arith, e, unmatched_bytes-end low above f))
sized (ByteRange low above f) (x ∷ xs) h e = ap suc (sized f xs h (from-first low above f x xs e).1)
sized (Branch low above f g) bytes h e = absurd (false≢true h)

signed : (x : ℕ) (xs : List ℕ) → unmatched_bytes signed_offset (x ∷ xs) ≡ 0 → IsOffset (x ∷ xs)
signed x xs e =
    elim (branch-first 43 0 _ _ x xs e) as (λ _. IsOffset (x ∷ xs)) [
      | inl plus ↦ inr (inl (one 43 x plus.0), ap suc (sized _ xs refl plus.1))
      | inr minus ↦ let next = from-first 45 0 _ x xs minus in inr (inr (one 45 x next.0), ap suc (sized _ xs refl next.1))
    ]

offset : (bytes : List ℕ) → unmatched_bytes time_offset bytes ≡ 0 → IsOffset bytes
offset [] e =
    absurd (omega (arith, sym (unmatched_bytes-branch_end 90 0 End (Branch 122 0 End signed_offset)) ∙ e, unmatched_bytes-branch_end 122 0 End signed_offset, unmatched_bytes-branch_end 43 0 offset_digits (Byte 45 offset_digits), unmatched_bytes-end 45 0 offset_digits))
offset (x ∷ xs) e =
    elim (branch-first 90 0 _ _ x xs e) as (λ _. IsOffset (x ∷ xs)) [
      | inl large ↦ inl (inl (one 90 x large.0), ap suc (no_more xs large.1))
      | inr other ↦ elim (branch-first 122 0 _ _ x xs other) as (λ _. IsOffset (x ∷ xs)) [
        | inl small ↦ inl (inr (one 122 x small.0), ap suc (no_more xs small.1))
        | inr sign ↦ signed x xs sign
      ]
    ]

-- the byte of an offset is not a digit, a point or a comma
abbrev starts_offset : ℕ → Bool
starts_offset x = is_digit x || (x == 46 || x == 44)

offset_byte : (bytes : List ℕ) → IsOffset bytes → starts_offset (slice_index bytes 0) ≡ false
offset_byte bytes (inl (inl e, size)) = ap starts_offset e
offset_byte bytes (inl (inr e, size)) = ap starts_offset e
offset_byte bytes (inr (inl e, size)) = ap starts_offset e
offset_byte bytes (inr (inr e, size)) = ap starts_offset e

no_digits : (bytes : List ℕ) → IsOffset bytes → digits_at_front bytes ≡ 0
no_digits [] is = refl
no_digits (x ∷ xs) is = ap (λ b. if b then suc (digits_at_front xs) else 0) (first (is_digit x) (x == 46 || x == 44) (offset_byte (x ∷ xs) is))
  where
    first : (a b : Bool) → (a || b) ≡ false → a ≡ false
    first false b e = refl
    first true b e = absurd (false≢true (sym e))

-- ---- an offset after a fraction
after_digits : (k : ℕ) (bytes : List ℕ) → unmatched_bytes (UpTo k time_offset) bytes ≡ 0 → unmatched_bytes time_offset (drop (digits_at_front bytes) bytes) ≡ 0
after_digits zero bytes e = subst (λ n. unmatched_bytes time_offset (drop n bytes) ≡ 0) (sym (no_digits bytes (offset bytes e))) e
after_digits (suc k) [] e = sym (unmatched_bytes-branch_end 48 9 (UpTo k time_offset) time_offset) ∙ e
after_digits (suc k) (x ∷ xs) e =
    elim (branch-first 48 9 _ _ x xs e) as (λ _. unmatched_bytes time_offset (drop (digits_at_front (x ∷ xs)) (x ∷ xs)) ≡ 0) [
      | inl digit ↦ subst (λ b. unmatched_bytes time_offset (drop (if b then suc (digits_at_front xs) else 0) (x ∷ xs)) ≡ 0) (sym (in-digits 48 9 x refl digit.0)) (after_digits k xs digit.1)
      | inr none ↦ subst (λ n. unmatched_bytes time_offset (drop n (x ∷ xs)) ≡ 0) (sym (no_digits (x ∷ xs) (offset (x ∷ xs) none))) none
    ]

abbrev fraction_length : List ℕ → ℕ
fraction_length [] = 0
fraction_length (x ∷ xs) = if x == 46 || x == 44 then suc (digits_at_front xs) else 0

after_fraction : (more : ℕ) (bytes : List ℕ) → unmatched_bytes (Fraction more time_offset) bytes ≡ 0 → unmatched_bytes time_offset (drop (fraction_length bytes) bytes) ≡ 0
after_fraction more [] e = sym (unmatched_bytes-branch_end 46 0 (ByteRange 48 9 (UpTo more time_offset)) time_offset) ∙ e
after_fraction more (x ∷ xs) e =
    elim (branch-first 46 0 _ _ x xs e) as (λ _. unmatched_bytes time_offset (drop (fraction_length (x ∷ xs)) (x ∷ xs)) ≡ 0) [
      | inl point ↦ subst (λ y. unmatched_bytes time_offset (drop (if y == 46 || y == 44 then suc (digits_at_front xs) else 0) (x ∷ xs)) ≡ 0) (sym (one 46 x point.0)) (digits xs point.1)
      | inr none ↦ subst (λ b. unmatched_bytes time_offset (drop (if b then suc (digits_at_front xs) else 0) (x ∷ xs)) ≡ 0)
          (sym (second (is_digit x) (x == 46 || x == 44) (offset_byte (x ∷ xs) (offset (x ∷ xs) none)))) none
    ]
  where
    digits : (bytes : List ℕ) → unmatched_bytes (ByteRange 48 9 (UpTo more time_offset)) bytes ≡ 0 → unmatched_bytes time_offset (drop (digits_at_front bytes) bytes) ≡ 0
    digits [] e = absurd (omega (arith, e, unmatched_bytes-end 48 9 (UpTo more time_offset)))
    digits (x ∷ xs) e =
        let next = from-first 48 9 (UpTo more time_offset) x xs e in
        subst (λ b. unmatched_bytes time_offset (drop (if b then suc (digits_at_front xs) else 0) (x ∷ xs)) ≡ 0) (sym (in-digits 48 9 x refl next.0)) (after_digits more xs next.1)

    second : (a b : Bool) → (a || b) ≡ false → b ≡ false
    second false b e = e
    second true b e = absurd (false≢true (sym e))

fraction_index : (bytes : List ℕ) → offset_index bytes ≡ 19 + fraction_length (drop 19 bytes)
fraction_index bytes = at (drop 19 bytes) refl
  where
    choice : (b : Bool) (n : ℕ) → (if b then 20 + n else 19) ≡ 19 + (if b then suc n else 0)
    choice true n = omega arith
    choice false n = refl

    at : (rest : List ℕ) → drop 19 bytes ≡ rest → offset_index bytes ≡ 19 + fraction_length rest
    at [] e =
        let none : slice_index bytes 19 ≡ 0 = sym (get_or-drop 19 bytes 0 0) ∙ ap (λ l. slice_index l 0) e in
        ap (λ x. if x == 46 || x == 44 then 20 + digits_at_front (drop 20 bytes) else 19) none
    at (x ∷ xs) e =
        let first : slice_index bytes 19 ≡ x = sym (get_or-drop 19 bytes 0 0) ∙ ap (λ l. slice_index l 0) e in
        let others : drop 20 bytes ≡ xs = sym (drop-drop 1 19 bytes) ∙ ap (drop 1) e in
        ap (λ y. if y == 46 || y == 44 then 20 + digits_at_front (drop 20 bytes) else 19) first
        ∙ ap (λ l. if x == 46 || x == 44 then 20 + digits_at_front l else 19) others ∙ choice (x == 46 || x == 44) (digits_at_front xs)

-- ---- a moment ends after its offset
abbrev HasOffset : List ℕ → Type 0
HasOffset bytes = IsOffset (drop (offset_index bytes) bytes)

moment_offset : (more : ℕ) (bytes : List ℕ) → unmatched_bytes (moment more) bytes ≡ 0 → HasOffset bytes
moment_offset more bytes e = offset (drop (offset_index bytes) bytes) (subst (λ l. unmatched_bytes time_offset l ≡ 0) there (after_fraction more (drop 19 bytes) rest))
  where
    rest : unmatched_bytes (Fraction more time_offset) (drop 19 bytes) ≡ 0
    rest = past 19 (moment more) (Fraction more time_offset) bytes (refl, (refl, refl)) e

    there : drop (fraction_length (drop 19 bytes)) (drop 19 bytes) ≡ drop (offset_index bytes) bytes
    there = drop-drop (fraction_length (drop 19 bytes)) 19 bytes ∙ ap (λ n. drop n bytes) (sym (fraction_index bytes))

offset_bound : (bytes : List ℕ) (index : ℕ) → IsOffset (drop index bytes) → (index < length bytes) × (bound_with (slice_index bytes index) index ≡ length bytes)
offset_bound bytes index is = (some, at is)
  where
    longer : (IsOffset (drop index bytes)) → 0 < length (drop index bytes)
    longer (inl h) = omega (arith, h.1)
    longer (inr h) = omega (arith, h.1)

    some : index < length bytes
    some = omega (arith, longer is, length-drop index bytes)

    byte : slice_index bytes index ≡ slice_index (drop index bytes) 0
    byte = ap (slice_index bytes) (omega arith) ∙ sym (get_or-drop index bytes 0 0)

    with_mark : (mark : ℕ) → slice_index (drop index bytes) 0 ≡ mark → bound_with mark index ≡ length bytes → bound_with (slice_index bytes index) index ≡ length bytes
    with_mark mark e same = ap (λ x. bound_with x index) (byte ∙ e) ∙ same

    at : IsOffset (drop index bytes) → bound_with (slice_index bytes index) index ≡ length bytes
    at (inl (inl e, one)) = with_mark 90 e (omega (arith, one, some, length-drop index bytes))
    at (inl (inr e, one)) = with_mark 122 e (omega (arith, one, some, length-drop index bytes))
    at (inr (inl e, six)) = with_mark 43 e (omega (arith, six, some, length-drop index bytes))
    at (inr (inr e, six)) = with_mark 45 e (omega (arith, six, some, length-drop index bytes))

least : (mark index : ℕ) → 19 ≤ index → 10 ≤ bound_with mark index
least mark index far = at (mark == 90 || mark == 122) (is_sign mark)
  where
    at : (a b : Bool) → 10 ≤ (if a then index + 1 else if b then index + 6 else 10)
    at true b = omega (arith, far)
    at false true = omega (arith, far)
    at false false = omega arith

past_seconds : (bytes : List ℕ) → 19 ≤ offset_index bytes
past_seconds bytes = omega (arith, fraction_index bytes)

pub at_least_ten : (bytes : List ℕ) → 10 ≤ digit_bound bytes
at_least_ten bytes = least (slice_index bytes (offset_index bytes)) (offset_index bytes) (past_seconds bytes)

pub moment_bound : (more : ℕ) (bytes : List ℕ) → unmatched_bytes (moment more) bytes ≡ 0 → length bytes ≡ digit_bound bytes
moment_bound more bytes e = sym (offset_bound bytes (offset_index bytes) (moment_offset more bytes e)).1

-- ---- bytes that agree up to the offset have the same bound
abbrev Agree : ℕ → List ℕ → List ℕ → Type 0
Agree m a b = (i : ℕ) → i < m → slice_index a i ≡ slice_index b i

next_digits : (m x : ℕ) (xs ys : List ℕ) → (digits_at_front xs < m → digits_at_front ys ≡ digits_at_front xs) → digits_at_front (x ∷ xs) < suc m
    → digits_at_front (x ∷ ys) ≡ digits_at_front (x ∷ xs)
next_digits m x xs ys others less = at (is_digit x) less
  where
    at : (b : Bool) → (if b then suc (digits_at_front xs) else 0) < suc m → (if b then suc (digits_at_front ys) else 0) ≡ (if b then suc (digits_at_front xs) else 0)
    at false few = refl
    at true few = ap suc (others (omega (arith, few)))

same_digits : (m : ℕ) (a b : List ℕ) → Agree m a b → digits_at_front a < m → digits_at_front b ≡ digits_at_front a
same_digits zero a b same less = absurd (omega (arith, less))
same_digits (suc m) [] [] same less = refl
same_digits (suc m) [] (y ∷ ys) same less = ap (λ x. if is_digit x then suc (digits_at_front ys) else 0) (sym (same 0 (omega arith)))
same_digits (suc m) (x ∷ xs) [] same less = sym (ap (λ x. if is_digit x then suc (digits_at_front xs) else 0) (same 0 (omega arith)))
same_digits (suc m) (x ∷ xs) (y ∷ ys) same less =
    ap (λ y. digits_at_front (y ∷ ys)) (sym (same 0 (omega arith)))
    ∙ next_digits m x xs ys (same_digits m xs ys (λ i few. same (suc i) (omega (arith, few)))) less

same_index : (m : ℕ) (a b : List ℕ) → Agree m a b → offset_index a < m → offset_index b ≡ offset_index a
same_index m a b same less =
    ap (λ x. if x == 46 || x == 44 then 20 + digits_at_front (drop 20 b) else 19) (sym (same 19 (omega (arith, less, past_seconds a))))
    ∙ at (slice_index a 19 == 46 || slice_index a 19 == 44) refl
  where
    at : (p : Bool) → (slice_index a 19 == 46 || slice_index a 19 == 44) ≡ p
        → (if p then 20 + digits_at_front (drop 20 b) else 19) ≡ (if p then 20 + digits_at_front (drop 20 a) else 19)
    at false e = refl
    at true e =
        let few : 20 + digits_at_front (drop 20 a) < m = subst (λ p. (if p then 20 + digits_at_front (drop 20 a) else 19) < m) e less in
        ap (λ n. 20 + n) (same_digits (m - 20) (drop 20 a) (drop 20 b) (λ i less. get_or-drop 20 a i 0 ∙ same (20 + i) (omega (arith, less)) ∙ sym (get_or-drop 20 b i 0)) (omega (arith, few)))

same_bound : (m : ℕ) (a b : List ℕ) → Agree m a b → offset_index a < m → digit_bound b ≡ digit_bound a
same_bound m a b same less =
    let index = same_index m a b same less in
    ap (λ i. bound_with (slice_index b i) i) index ∙ ap (λ x. bound_with x (offset_index a)) (sym (same (offset_index a) less))

-- a bound of more than 10 is by a byte
by_byte : (bytes : List ℕ) → 10 < digit_bound bytes → offset_index bytes < length bytes
by_byte bytes more =
    elim (cases_lt (offset_index bytes) (length bytes)) as (λ _. offset_index bytes < length bytes) [
      | inl less ↦ less
      | inr most ↦ absurd (omega (arith, more, ap (λ x. bound_with x (offset_index bytes)) (get_or-eq_default bytes 0 most)))
    ]

-- the bound of the first n bytes is one for all of them
pub front_bound : (bytes : List ℕ) (n : ℕ) → n ≤ length bytes → n ≤ digit_bound (take n bytes) → n ≤ digit_bound bytes
front_bound bytes n fits h =
    elim (cases_lt 10 n) as (λ _. n ≤ digit_bound bytes) [
      | inr few ↦ omega (arith, few, at_least_ten bytes)
      | inl many ↦ (
          let byte = by_byte (take n bytes) (omega (arith, many, h)) in
          let same = same_bound n (take n bytes) bytes (λ i less. get_or-take n bytes i 0 less) (omega (arith, byte, length-take-le n bytes fits)) in
          omega (arith, h, same)
          )
    ]

-- ---- a colon before an offset
front_digit : (bytes : List ℕ) (i : ℕ) → i < digits_at_front bytes → is_digit (slice_index bytes i) ≡ true
front_digit [] i less = absurd (omega (arith, less))
front_digit (x ∷ xs) zero less = at (is_digit x) less
  where
    at : (b : Bool) → 0 < (if b then suc (digits_at_front xs) else 0) → b ≡ true
    at true few = refl
    at false few = absurd (omega (arith, few))
front_digit (x ∷ xs) (suc i) less = front_digit xs i (at (is_digit x) less)
  where
    at : (b : Bool) → suc i < (if b then suc (digits_at_front xs) else 0) → i < digits_at_front xs
    at true few = omega (arith, few)
    at false few = absurd (omega (arith, few))

no_colon : (more i : ℕ) (bytes : List ℕ) → unmatched_bytes (moment more) bytes ≡ 0 → 18 ≤ i → i < offset_index bytes → slice_index bytes i ≡ 58 → ⊥
no_colon more i bytes e seconds less colon =
    elim (cases_lt i 19) as (λ _. ⊥) [
      | inl few ↦ (
          let index : i ≡ 18 = omega (arith, few, seconds) in
          false≢true (ap is_digit (sym colon ∙ ap (slice_index bytes) index) ∙ digit_at 18 (moment more) bytes refl e)
          )
      | inr many ↦ at (slice_index bytes 19 == 46 || slice_index bytes 19 == 44) refl many
    ]
  where
    at : (p : Bool) → (slice_index bytes 19 == 46 || slice_index bytes 19 == 44) ≡ p → 19 ≤ i → ⊥
    at false off many =
        let index : offset_index bytes ≡ 19 = ap (λ p. if p then 20 + digits_at_front (drop 20 bytes) else 19) off in
        omega (arith, index, less, many)
    at true is many =
        let index : offset_index bytes ≡ 20 + digits_at_front (drop 20 bytes) = ap (λ p. if p then 20 + digits_at_front (drop 20 bytes) else 19) is in
        elim (cases_lt i 20) as (λ _. ⊥) [
          | inl few ↦ (
              let mark : i ≡ 19 = omega (arith, few, many) in
              false≢true (ap (λ x. x == 46 || x == 44) (sym colon ∙ ap (slice_index bytes) mark) ∙ is)
              )
          | inr past ↦ (
              let inside : 20 + (i - 20) ≡ i = omega (arith, past) in
              let digit = front_digit (drop 20 bytes) (i - 20) (omega (arith, index, less, past)) in
              false≢true (ap is_digit (sym colon ∙ ap (slice_index bytes) (sym inside) ∙ sym (get_or-drop 20 bytes (i - 20) 0)) ∙ digit)
              )
        ]

not_offset : (bytes : List ℕ) → IsOffset bytes → slice_index bytes 0 ≡ 58 → ⊥
not_offset bytes (inl (inl e, size)) colon = omega (arith, e, colon)
not_offset bytes (inl (inr e, size)) colon = omega (arith, e, colon)
not_offset bytes (inr (inl e, size)) colon = omega (arith, e, colon)
not_offset bytes (inr (inr e, size)) colon = omega (arith, e, colon)

-- bytes that agree with a moment up to a colon of its offset
colon_bound : (more m : ℕ) (full bytes : List ℕ) → unmatched_bytes (moment more) full ≡ 0 → 18 ≤ m → slice_index full m ≡ 58 → Agree m full bytes → digit_bound bytes ≡ length full
colon_bound more m full bytes e seconds colon same =
    elim (cases_lt (offset_index full) m) as (λ _. digit_bound bytes ≡ length full) [
      | inl less ↦ same_bound m full bytes same less ∙ sym (moment_bound more full e)
      | inr most ↦ elim (cases_lt m (offset_index full)) as (λ _. digit_bound bytes ≡ length full) [
        | inl inside ↦ absurd (no_colon more m full e seconds inside colon)
        | inr there ↦ (
            let index : offset_index full ≡ m = omega (arith, most, there) in
            let first : slice_index (drop m full) 0 ≡ 58 = get_or-drop m full 0 0 ∙ ap (slice_index full) (omega arith) ∙ colon in
            absurd (not_offset (drop m full) (subst (λ i. IsOffset (drop i full)) index (moment_offset more full e)) first)
            )
      ]
    ]

with_colon_bound : (more : ℕ) (bytes : List ℕ) → 20 ≤ length bytes → unmatched_bytes (moment more) (with_colon bytes) ≡ 0 → length bytes ≤ digit_bound bytes
with_colon_bound more bytes many form = at (is_sign (slice_index bytes (length bytes - 5))) refl
  where
    n : ℕ
    n = length bytes

    m : ℕ
    m = length bytes - 2

    last : Bool → List ℕ
    last b = if b then codes ":00" else []

    ended : (b : Bool) → unmatched_bytes (moment more) (bytes ++ last b) ≡ 0 → n ≤ digit_bound bytes
    ended false e = omega (arith, moment_bound more bytes (subst (λ l. unmatched_bytes (moment more) l ≡ 0) (append-nil bytes) e))
    ended true e =
        let colon : slice_index (bytes ++ codes ":00") n ≡ 58 = get_or_at bytes 58 (codes "00") 0 n refl in
        let bound = colon_bound more n (bytes ++ codes ":00") bytes e (omega (arith, many)) colon (λ i less. get_or_append_left bytes (codes ":00") 0 i less) in
        omega (arith, bound, length-append bytes (codes ":00"))

    at : (b : Bool) → is_sign (slice_index bytes (n - 5)) ≡ b → n ≤ digit_bound bytes
    at false e = ended (is_sign (slice_index bytes (n - 3))) (subst (λ b. unmatched_bytes (moment more) (if b then (take m bytes ++ codes ":") ++ drop m bytes else bytes ++ last (is_sign (slice_index bytes (n - 3)))) ≡ 0) e form)
    at true e =
        let front = take m bytes ++ codes ":" in
        let has = subst (λ b. unmatched_bytes (moment more) (if b then front ++ drop m bytes else bytes ++ last (is_sign (slice_index bytes (n - 3)))) ≡ 0) e form in
        let few : length (take m bytes) ≡ m = length-take-le m bytes (omega arith) in
        let size : length front ≡ m + 1 = omega (arith, few, length-append (take m bytes) (codes ":")) in
        let colon : slice_index (front ++ drop m bytes) m ≡ 58 = get_or_append_left front (drop m bytes) 0 m (omega (arith, size)) ∙ get_or_at (take m bytes) 58 [] 0 m few in
        let same : Agree m (front ++ drop m bytes) bytes = λ i less.
        get_or_append_left front (drop m bytes) 0 i (omega (arith, size, less)) ∙ get_or_append_left (take m bytes) (codes ":") 0 i (omega (arith, few, less)) ∙ get_or-take m bytes i 0 less in
        let bound = colon_bound more m (front ++ drop m bytes) bytes has (omega (arith, many)) colon same in
        omega (arith, many, bound, size, length-append front (drop m bytes), length-drop m bytes)

-- a comma before the fraction becomes a point
point_bound : (bytes : List ℕ) → 20 ≤ length bytes → digit_bound (with_point bytes) ≡ digit_bound bytes
point_bound bytes many = at (slice_index bytes 19 == 44) refl
  where
    front : List ℕ
    front = take 19 bytes ++ codes "."

    d : ℕ
    d = digits_at_front (drop 20 bytes)

    at : (b : Bool) → (slice_index bytes 19 == 44) ≡ b → digit_bound (with_point bytes) ≡ digit_bound bytes
    at false e = ap digit_bound (no_point bytes e)
    at true e =
        let pointed : with_point bytes ≡ front ++ drop 20 bytes = ap (λ b. (take 19 bytes ++ (if b then codes "." else take 1 (drop 19 bytes))) ++ drop 20 bytes) e in
        let nineteen : length (take 19 bytes) ≡ 19 = length-take-le 19 bytes (omega (arith, many)) in
        let size : length front ≡ 20 = omega (arith, nineteen, length-append (take 19 bytes) (codes ".")) in
        let point : slice_index (front ++ drop 20 bytes) 19 ≡ 46 = get_or_append_left front (drop 20 bytes) 0 19 (omega (arith, size)) ∙ get_or_at (take 19 bytes) 46 [] 0 19 nineteen in
        let others : drop 20 (front ++ drop 20 bytes) ≡ drop 20 bytes = ap (λ n. drop n (front ++ drop 20 bytes)) (sym size) ∙ drop-append_seam front (drop 20 bytes) in
        let comma : slice_index bytes 19 ≡ 44 = grind (arith, nat_tests) in
        let index : offset_index (front ++ drop 20 bytes) ≡ 20 + d =
        ap (λ x. if x == 46 || x == 44 then 20 + digits_at_front (drop 20 (front ++ drop 20 bytes)) else 19) point ∙ ap (λ l. 20 + digits_at_front l) others in
        let old_index : offset_index bytes ≡ 20 + d = ap (λ x. if x == 46 || x == 44 then 20 + d else 19) comma in
        let byte : slice_index (front ++ drop 20 bytes) (20 + d) ≡ slice_index bytes (20 + d) =
        sym (get_or-drop 20 (front ++ drop 20 bytes) d 0) ∙ ap (λ l. slice_index l d) others ∙ get_or-drop 20 bytes d 0 in
        ap digit_bound pointed ∙ ap (λ i. bound_with (slice_index (front ++ drop 20 bytes) i) i) index ∙ ap (λ x. bound_with x (20 + d)) byte
        ∙ sym (ap (λ i. bound_with (slice_index bytes i) i) old_index)

pub iso_moment_bound : (more : ℕ) (bytes : List ℕ) → 20 ≤ length bytes → unmatched_bytes (moment more) (with_colon (with_point bytes)) ≡ 0 → length bytes ≤ digit_bound bytes
iso_moment_bound more bytes many form =
    let size = (point_keeps bytes many).0 in
    omega (arith, size, point_bound bytes many, with_colon_bound more (with_point bytes) (omega (arith, size, many)) form)
