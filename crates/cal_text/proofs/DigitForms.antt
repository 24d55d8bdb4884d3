-- Digits as forms.
use Rattle.std.proofs.Common.{Bool, true, ◌&&◌, ◌≡◌, ℕ, zero, suc, ◌+◌, ◌*◌, ◌<◌, ◌≤◌, ◌^◌, ◌⊎◌, inl, inr, List, [], ◌∷◌, length, refl, sym, ap, subst, ◌∙◌, arith, lit<}
use Rattle.std.specs.Char.{digit_value}
use Rattle.std.specs.Str.Parse.{AllDigits, digits_value}
use Rattle.std.proofs.Math.Nat.{pow-le-pow_right}
use Rattle.std.proofs.lemmas.Int.Digits.{digits_value-lt}
use Rattle.cal_time.specs.DateText.{digits_at_least}
use Rattle.cal_time.proofs.DistinctTexts.{digits_at_least-digits, digits_at_least-value}
use Rattle.cal_text.specs.Shape.{Shape, ByteRange, Branch, Byte, Digits, UpTo, SomeDigits, SomeUpTo}
use Rattle.cal_text.proofs.DigitParts.{IsCount, IsExact, exact-each, exact-one, counted-each, counted-only, counted-one, is_digit, digit_is, has_value, value-most, zero_byte}
use Rattle.cal_text.proofs.DigitTexts.{digits-printed, digits_at_least-length}
use Rattle.cal_text.proofs.Forms.{IsForm, IsByteFrom, IsLed, IsThen, IsEither, always, avoids, avoided, byte_from, led, both, either, retold, weakened, twice, put}
use Rattle.cal_text.proofs.Stops.{IsIn, in_or_out}

-- ---- k digits
abbrev AreExact : ℕ → List ℕ → List ℕ → Type 0
AreExact k bytes ds = IsExact k bytes × (bytes ≡ ds)

exact : (k : ℕ) → IsForm (Digits k) (AreExact k) always
exact k = record {
  each = λ f v front rest _ h e. exact-each k f front rest h.0 ∙ e;
  only = λ f bytes e.
      let a = counted-only k 0 f bytes e in
      record { value = a.value; front = a.value; rest = a.rest; is = ((a.valid.0, omega (arith, a.valid.1, a.valid.2)), refl); bytes_are = a.bytes_are; next = a.next };
  one = λ f v w a b r s _ h k _ _ e. let found = exact-one _ a b r s h.0.1 k.0.1 e in (sym h.1 ∙ found.0 ∙ k.1, found.0, found.1);
}

-- ---- a number of k digits
abbrev pub IsNumber : ℕ → List ℕ → ℕ → Type 0
IsNumber k bytes n = (n < 10 ^ k) × (bytes ≡ digits_at_least k n)

pub number : (k : ℕ) → 1 ≤ k → k ≤ 9 → IsForm (Digits k) (IsNumber k) always
number k some few =
    retold (IsNumber k) (exact k) (digits_value 10)
    (λ bytes ds h.
    let is : IsExact k ds = subst (IsExact k) h.1 h.0 in (
      subst (λ n. digits_value 10 ds < 10 ^ n) is.1 (digits_value-lt 10 ds is.0),
      h.1 ∙ sym (ap (λ width. digits_at_least width (digits_value 10 ds)) (sym is.1) ∙ digits-printed ds is.0 (omega (arith, is.1)) (omega (arith, is.1))),
    ))
    (λ bytes n h.
    let low : 10 ^ k ≤ 10 ^ 9 = pow-le-pow_right (lit< tt) few in
    let small : n < 10 ^ 9 = omega (arith, h.0, low) in
    let is : IsExact k (digits_at_least k n) = (digits_at_least-digits k n small, digits_at_least-length k n some h.0 small) in
    (digits_at_least k n, (subst (IsExact k) (sym h.1) is, h.1), digits_at_least-value k n small))

pub two : IsForm (Digits 2) (IsNumber 2) always
two = number 2 (omega arith) (omega arith)

-- ---- k digits or more
abbrev pub IsRun : {V : Type 0} → ℕ → ℕ → (List ℕ → V) → List ℕ → V → Type 0
IsRun k more value bytes v = IsCount k more bytes × (v ≡ value bytes)

pub run : {V : Type 0} (k more : ℕ) (value : List ℕ → V) → IsForm (λ f. Digits k (UpTo more f)) (IsRun k more value) (avoids 48 9)
run k more value = record {
  each = λ f v front rest can h e. counted-each k more f front rest h.0 (avoided 48 9 f rest can e) ∙ e;
  only = λ f bytes e.
      let a = counted-only k more f bytes e in record { value = value a.value; front = a.value; rest = a.rest; is = (a.valid, refl); bytes_are = a.bytes_are; next = a.next };
  one = λ f v w a b r s can h k er es e.
      let found = counted-one a b r s h.0.0 k.0.0 (avoided 48 9 f r can er) (avoided 48 9 f s can es) e in
      (h.1 ∙ ap value found.0 ∙ sym k.1, found.0, found.1);
}

-- ---- digits of which one is not 0
abbrev pub IsSome : ℕ → ℕ → List ℕ → Type 0
IsSome least most ds = AllDigits 10 ds × (least ≤ length ds) × (length ds ≤ most) × (0 < digits_value 10 ds)

abbrev pub AreSome : ℕ → ℕ → List ℕ → List ℕ → Type 0
AreSome least most bytes ds = IsSome least most bytes × (bytes ≡ ds)

first-some : (least most b : ℕ) (ds : List ℕ) → IsIn 49 8 b → AllDigits 10 ds → least ≤ suc (length ds) → length ds ≤ most → IsSome least (suc most) (b ∷ ds)
first-some least most b ds here all long few =
    let digit : IsIn 48 9 b = (omega (arith, here.0), omega (arith, here.1)) in
    ((digit_is b digit, all), long, omega (arith, few), omega (arith, value-most (0 * 10 + digit_value b) ds, has_value b digit, here.0))

-- one
some_one : IsForm (ByteRange 49 8) (AreSome 1 1) always
some_one =
    retold (AreSome 1 1) (byte_from 49 8) (λ b. b ∷ []) (λ bytes b h. (subst (IsSome 1 1) (sym h.1) (first-some 1 0 b [] h.0 tt (omega arith) (omega arith)), h.1)) here
  where
    here : (bytes ds : List ℕ) → AreSome 1 1 bytes ds → (b : ℕ) × IsByteFrom 49 8 bytes b × (b ∷ [] ≡ ds)
    here [] ds h = absurd (omega (arith, h.0.1))
    here (x ∷ []) ds h = let digit = is_digit x h.0.0.0 in (x, ((omega (arith, h.0.3, has_value x digit), omega (arith, digit.1)), refl), h.1)
    here (x ∷ y ∷ ys) ds h = absurd (omega (arith, h.0.2))

-- and one more: the first is not 0, or others aren't
some_more : {part rest : Shape → Shape} {follows follows' : Shape → Bool} (k more least most : ℕ) → IsForm rest (IsRun k more (λ ds. ds)) follows → IsForm part (AreSome least most) follows'
    → k + more ≡ most → (longest : ℕ) → longest ≤ suc k → longest ≤ suc least → ((ds : List ℕ) → longest ≤ suc (length ds) → k ≤ length ds)
    → ((ds : List ℕ) → longest ≤ suc (length ds) → 0 < digits_value 10 ds → least ≤ length ds)
    → IsForm (λ f. Branch 49 8 (rest f) (Byte 48 (part f))) (AreSome longest (suc most)) (λ f. follows f && (follows' f && true))
some_more {part} {rest} {follows} {follows'} k more least most p q size longest first second long some = retold (AreSome longest (suc most)) (either 49 8 (both (byte_from 49 8) p) (led 48 q)) into there here
  where
    Raw : Type 0
    Raw = (ℕ × List ℕ) ⊎ List ℕ

    IsRaw : List ℕ → Raw → Type 0
    IsRaw = IsEither (IsThen (IsByteFrom 49 8) (IsRun k more (λ ds. ds))) (IsLed 48 (AreSome least most))

    into : Raw → List ℕ
    into (inl v) = v.0 ∷ v.1
    into (inr ds) = 48 ∷ ds

    there : (bytes : List ℕ) (v : Raw) → IsRaw bytes v → AreSome longest (suc most) bytes (into v)
    there bytes (inl v) h =
        let whole = put h.bytes_are h.first.1 refl in
        let is = h.second.0 in (
          subst (IsSome longest (suc most)) (sym whole) (first-some longest most v.0 h.back h.first.0 is.0 (omega (arith, is.1, first)) (omega (arith, is.2, size))),
          whole ∙ ap (λ ds. v.0 ∷ ds) (sym h.second.1),
        )
    there bytes (inr ds) h =
        let is = h.1.0 in
        (subst (IsSome longest (suc most)) (sym h.2) ((lit< tt, is.0), omega (arith, is.1, second), omega (arith, is.2), is.3), h.2 ∙ ap (λ r. 48 ∷ r) h.1.1)

    here : (bytes ds : List ℕ) → AreSome longest (suc most) bytes ds → (v : Raw) × IsRaw bytes v × (into v ≡ ds)
    here [] ds h = absurd (omega (arith, h.0.3))
    here (x ∷ xs) ds h = elim (in_or_out 49 8 x) as (λ _. (v : Raw) × IsRaw (x ∷ xs) v × (into v ≡ ds)) [
      | inl digit ↦ (
        inl (x, xs),
        record { front = x ∷ []; back = xs; first = (digit, refl); second = ((h.0.0.1, long xs h.0.1, omega (arith, h.0.2, size)), refl); bytes_are = refl },
        h.1,
      )
      | inr out ↦
          let is : x ≡ 48 = zero_byte x (is_digit x h.0.0.0) out in
          let value : 0 < digits_value 10 xs = subst (λ b. 0 < digits_value 10 (b ∷ xs)) is h.0.3 in
          (inr xs, (xs, ((h.0.0.1, some xs h.0.1 value, omega (arith, h.0.2), value), refl), ap (λ b. b ∷ xs) is), ap (λ b. b ∷ xs) (sym is) ∙ h.1)
    ]

pub some_digits : (k : ℕ) → IsForm (SomeDigits k) (AreSome (suc k) (suc k)) always
some_digits zero = some_one
some_digits (suc k) =
    some_more (suc k) 0 (suc k) (suc k) (retold (IsRun (suc k) 0 (λ ds. ds)) (exact (suc k)) (λ ds. ds)
    (λ bytes ds h. ((h.0.0, omega (arith, h.0.1), omega (arith, h.0.1)), sym h.1)) (λ bytes ds h. (ds, ((h.0.0, omega (arith, h.0.1, h.0.2)), sym h.1), refl)))
    (some_digits k) (omega arith) (suc (suc k)) (omega arith) (omega arith) (λ ds h. omega arith) (λ ds h some. omega arith)

pub longer : (ds : List ℕ) → 0 < digits_value 10 ds → 1 ≤ length ds
longer [] value = absurd (omega arith)
longer (d ∷ ds) value = omega arith

pub some_up_to : (more : ℕ) → IsForm (SomeUpTo more) (AreSome 1 (suc more)) (avoids 48 9)
some_up_to zero = weakened (avoids 48 9) some_one (λ f h. refl)
some_up_to (suc k) =
    weakened (avoids 48 9) (some_more 0 (suc k) 1 (suc k) (run 0 (suc k) (λ ds. ds)) (some_up_to k) (omega arith) 1 (omega arith) (omega arith) (λ ds h. omega arith) (λ ds h some. longer ds some))
    (λ f h. twice (avoids 48 9 f) h)
