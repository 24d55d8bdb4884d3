-- The shape of minutes and seconds after an hour, and of fractions.
use Rattle.std.proofs.Common.{◌≡◌, ℕ, zero, suc, ◌+◌, ◌≤◌, ◌⊎◌, inl, inr, Bool, true, false, ◌&&◌, IsTrue, List, [], ◌∷◌, ◌++◌, length, drop, refl, sym, ap, subst, ◌∙◌, arith, lit<}
use Rattle.std.proofs.lemmas.List.{append_assoc, length-append}
use Rattle.std.specs.Str.Parse.{AllDigits}
use Rattle.cal_text.specs.Rfc3339Form.{nanoseconds_of}
use Rattle.cal_text.specs.Shape.{Shape, Branch, Digits, UpTo, unmatched_bytes}
use Rattle.cal_text.proofs.DigitParts.{is_digit, counted-only, counted-one}
use Rattle.cal_text.proofs.Forms.{IsForm, IsNothing, IsLed, IsThen, IsEither, avoids, avoided, nothing, led, both, either, retold, weakened}
use Rattle.cal_text.proofs.Parts.{BeginsOutside, unmatched_bytes-outside, same_pair}
use Rattle.cal_text.proofs.ReadDigits.{all-append}
use Rattle.cal_text.proofs.Stops.{in_or_out, unmatched_bytes-in, unmatched_bytes-branch_in, unmatched_bytes-branch_out, unmatched_bytes-branch_end}
use Rattle.cal_iso.specs.ClockForm.{AllZeros, IsDecimals, IsIsoFraction, HasTail, IsAfterHour, IsMinutes, IsSecondsOrNone}
use Rattle.cal_iso.specs.DateForm.{IsNumber}
use Rattle.cal_iso.specs.IsoShape.{AfterHour, BasicSeconds, ColonAndSeconds, Decimals, Fraction, Zeros}
use Rattle.cal_iso.proofs.DateShapes.{digits}

-- ---- zeros
pub zeros-digits : (zs : List ℕ) → AllZeros zs → AllDigits 10 zs
zeros-digits [] h = tt
zeros-digits (z ∷ zs) h = subst (λ x. AllDigits 10 (x ∷ zs)) (sym h.0) (lit< tt, zeros-digits zs h.1)

pub zeros-drop : (k : ℕ) (zs : List ℕ) → AllZeros zs → AllZeros (drop k zs)
zeros-drop zero zs h = h
zeros-drop (suc k) [] h = tt
zeros-drop (suc k) (z ∷ zs) h = zeros-drop k zs h.1

pub zeros-after : (k : ℕ) (ds zs : List ℕ) → length ds ≤ k → AllZeros zs → AllZeros (drop k (ds ++ zs))
zeros-after k [] zs few h = zeros-drop k zs h
zeros-after zero (d ∷ ds) zs few h = absurd (omega (arith, few))
zeros-after (suc k) (d ∷ ds) zs few h = zeros-after k ds zs (omega (arith, few)) h

narrower : (bytes : List ℕ) → BeginsOutside 48 9 bytes → BeginsOutside 48 0 bytes
narrower bytes out x xs e here = out x xs e (here.0, omega (arith, here.1))

-- The bytes go on with no zero.
abbrev pub NoZero : List ℕ → Type 0
NoZero bytes = (f g : Shape) → unmatched_bytes (Branch 48 0 f g) bytes ≡ unmatched_bytes g bytes

pub zeros_each : (m : ℕ) (f : Shape) (zs rest : List ℕ) → AllZeros zs → length zs ≤ m → NoZero rest → unmatched_bytes (Zeros m f) (zs ++ rest) ≡ unmatched_bytes f rest
zeros_each zero f [] rest h few out = refl
zeros_each zero f (z ∷ zs) rest h few out = absurd (omega (arith, few))
zeros_each (suc m) f [] rest h few out = out (Zeros m f) f
zeros_each (suc m) f (z ∷ zs) rest h few out =
    unmatched_bytes-branch_in 48 0 (Zeros m f) f z (zs ++ rest) (omega (arith, h.0), omega (arith, h.0)) ∙ zeros_each m f zs rest h.1 (omega (arith, few)) out

record SomeZeros (m : ℕ) (f : Shape) (bytes : List ℕ) : Type 0 where
  front : List ℕ
  rest : List ℕ
  zeros : AllZeros front
  few : length front ≤ m
  bytes_are : bytes ≡ front ++ rest
  next : unmatched_bytes f rest ≡ 0

no_zeros : (m : ℕ) (f : Shape) (bytes : List ℕ) → unmatched_bytes f bytes ≡ 0 → SomeZeros m f bytes
no_zeros m f bytes e = record { front = []; rest = bytes; zeros = tt; few = omega arith; bytes_are = refl; next = e }

zeros_only : (m : ℕ) (f : Shape) (bytes : List ℕ) → unmatched_bytes (Zeros m f) bytes ≡ 0 → SomeZeros m f bytes
zeros_only zero f bytes e = no_zeros 0 f bytes e
zeros_only (suc m) f [] e = no_zeros (suc m) f [] (sym (unmatched_bytes-branch_end 48 0 (Zeros m f) f) ∙ e)
zeros_only (suc m) f (x ∷ xs) e =
    elim (in_or_out 48 0 x) as (λ _. SomeZeros (suc m) f (x ∷ xs)) [
      | inl here ↦
          let a = zeros_only m f xs (sym (unmatched_bytes-branch_in 48 0 (Zeros m f) f x xs here) ∙ e) in
          record {
            front = x ∷ a.front;
            rest = a.rest;
            zeros = (omega (arith, here.0, here.1), a.zeros);
            few = omega (arith, a.few);
            bytes_are = ap (λ ds. x ∷ ds) a.bytes_are;
            next = a.next;
          }
      | inr out ↦ no_zeros (suc m) f (x ∷ xs) (sym (unmatched_bytes-branch_out 48 0 (Zeros m f) f x xs out) ∙ e)
    ]

-- ---- decimals, of which at most m come after the ninth
abbrev DecimalsUpTo : ℕ → List ℕ → ℕ → Type 0
DecimalsUpTo m digits n = IsDecimals digits n × (length digits ≤ 9 + m)

up_to_each : (k m : ℕ) (f : Shape) (ds rest : List ℕ) → AllDigits 10 ds → length ds ≤ k + m → AllZeros (drop k ds) → BeginsOutside 48 9 rest
    → unmatched_bytes (UpTo k (Zeros m f)) (ds ++ rest) ≡ unmatched_bytes f rest
up_to_each zero m f ds rest h few zs out = zeros_each m f ds rest zs (omega (arith, few)) (λ f g. unmatched_bytes-outside 48 0 f g rest (narrower rest out))
up_to_each (suc k) m f [] rest h few zs out =
    unmatched_bytes-outside 48 9 (UpTo k (Zeros m f)) (Zeros m f) rest out
    ∙ zeros_each m f [] rest tt (omega arith) (λ f g. unmatched_bytes-outside 48 0 f g rest (narrower rest out))
up_to_each (suc k) m f (x ∷ xs) rest h few zs out =
    unmatched_bytes-branch_in 48 9 (UpTo k (Zeros m f)) (Zeros m f) x (xs ++ rest) (is_digit x h.0) ∙ up_to_each k m f xs rest h.1 (omega (arith, few)) zs out

decimals_each : (m : ℕ) (f : Shape) (n : ℕ) (ds rest : List ℕ) → BeginsOutside 48 9 rest → DecimalsUpTo m ds n → unmatched_bytes (Decimals m f) (ds ++ rest) ≡ unmatched_bytes f rest
decimals_each m f n [] rest out h = absurd (omega (arith, h.0.some))
decimals_each m f n (x ∷ xs) rest out h =
    unmatched_bytes-in 48 9 (UpTo 8 (Zeros m f)) x (xs ++ rest) (is_digit x h.0.all.0) ∙ up_to_each 8 m f xs rest h.0.all.1 (omega (arith, h.1)) h.0.exact out

decimals : (m : ℕ) → IsForm (Decimals m) (DecimalsUpTo m) (avoids 48 9)
decimals m = record {
  each = λ f v front rest can h e. decimals_each m f v front rest (avoided 48 9 f rest can e) h ∙ e;
  only = λ f bytes e.
      let a = counted-only 1 8 (Zeros m f) bytes e in
      let z = zeros_only m f a.rest a.next in
      let few : length a.value ≤ 9 = omega (arith, a.valid.2) in
      record {
        value = nanoseconds_of (a.value ++ z.front);
        front = a.value ++ z.front;
        rest = z.rest;
        is = (
          record {
            all = all-append a.value z.front a.valid.0 (zeros-digits z.front z.zeros);
            some = omega (arith, length-append a.value z.front, a.valid.1);
            exact = zeros-after 9 a.value z.front few z.zeros;
            value = refl;
          },
          omega (arith, length-append a.value z.front, few, z.few),
        );
        bytes_are = a.bytes_are ∙ ap (λ r. a.value ++ r) z.bytes_are ∙ sym (append_assoc a.value z.front z.rest);
        next = z.next;
      };
  one = λ f v w a b r s can h k er es e.
      let found = counted-one a b r s h.0.all k.0.all (avoided 48 9 f r can er) (avoided 48 9 f s can es) e in
      (h.0.value ∙ ap nanoseconds_of found.0 ∙ sym k.0.value, found.0, found.1);
}

-- What follows begins with no digit, point, comma or colon.
abbrev pub ends_clock : Shape → Bool
ends_clock f = avoids 48 9 f && (avoids 58 0 f && (avoids 46 0 f && avoids 44 0 f))

pub by_four : (P : Bool → Bool → Bool → Bool → Bool) → IsTrue (P true true true true) → (a b c d : Bool) → IsTrue (a && (b && (c && d))) → IsTrue (P a b c d)
by_four P h true true true true k = h
by_four P h true true true false k = absurd cc
by_four P h true true false d k = absurd cc
by_four P h true false c d k = absurd cc
by_four P h false b c d k = absurd cc

-- A fraction of which at most m digits come after the ninth.
abbrev pub FractionUpTo : ℕ → List ℕ → ℕ → Type 0
FractionUpTo m bytes n = IsIsoFraction bytes n × (length bytes ≤ 10 + m)

pub fraction : (m : ℕ) → IsForm (Fraction m) (FractionUpTo m) ends_clock
fraction m =
    weakened ends_clock (retold (FractionUpTo m) (either 46 0 (led 46 (decimals m)) (either 44 0 (led 44 (decimals m)) nothing)) into there here)
    (λ f h. by_four (λ a b c d. a && ((a && (true && d)) && c)) refl (avoids 48 9 f) (avoids 58 0 f) (avoids 46 0 f) (avoids 44 0 f) h)
  where
    Raw : Type 0
    Raw = ℕ ⊎ (ℕ ⊎ Unit {0})

    IsRaw : List ℕ → Raw → Type 0
    IsRaw = IsEither (IsLed 46 (DecimalsUpTo m)) (IsEither (IsLed 44 (DecimalsUpTo m)) IsNothing)

    into : Raw → ℕ
    into (inl n) = n
    into (inr (inl n)) = n
    into (inr (inr u)) = 0

    there : (bytes : List ℕ) (v : Raw) → IsRaw bytes v → FractionUpTo m bytes (into v)
    there bytes (inl n) h = (inr (h.0, h.1.0, inl h.2), omega (arith, h.1.1, ap length h.2))
    there bytes (inr (inl n)) h = (inr (h.0, h.1.0, inr h.2), omega (arith, h.1.1, ap length h.2))
    there bytes (inr (inr u)) h = (inl (h, refl), omega (arith, ap length h))

    here : (bytes : List ℕ) (n : ℕ) → FractionUpTo m bytes n → (v : Raw) × IsRaw bytes v × (into v ≡ n)
    here bytes n (inl none, few) = (inr (inr tt), none.0, sym none.1)
    here bytes n (inr (ds, is, inl e), few) = (inl n, (ds, (is, omega (arith, few, ap length e)), e), refl)
    here bytes n (inr (ds, is, inr e), few) = (inr (inl n), (ds, (is, omega (arith, few, ap length e)), e), refl)

-- no fraction, in an offset
pub no_fraction : IsForm (λ f. f) (HasTail false) ends_clock
no_fraction = weakened ends_clock (retold (HasTail false) nothing (λ u. 0) (λ bytes u h. (h, refl)) (λ bytes n h. (tt, h.0, sym h.1))) (λ f h. refl)

-- ---- seconds, or none. After them comes a tail of some kind
abbrev pub IsTail : Type 1
IsTail = List ℕ → ℕ → Type 0

abbrev AreSeconds : IsTail → List ℕ → List ℕ → ℕ × ℕ → Type 0
AreSeconds T mark bytes v = IsSecondsOrNone T mark bytes v.0 v.1

colon_and_seconds : {part : Shape → Shape} {T : IsTail} → IsForm part T ends_clock → IsForm (ColonAndSeconds part) (AreSeconds T (58 ∷ [])) ends_clock
colon_and_seconds {part} {T} tail =
    weakened ends_clock (retold (AreSeconds T (58 ∷ [])) (either 58 0 (led 58 (both (digits 2) tail)) nothing) into there here)
    (λ f h. by_four (λ a b c d. (a && (b && (c && d))) && (true && b)) refl (avoids 48 9 f) (avoids 58 0 f) (avoids 46 0 f) (avoids 44 0 f) h)
  where
    Raw : Type 0
    Raw = (ℕ × ℕ) ⊎ Unit {0}

    IsRaw : List ℕ → Raw → Type 0
    IsRaw = IsEither (IsLed 58 (IsThen (IsNumber 2) T)) IsNothing

    into : Raw → ℕ × ℕ
    into (inl v) = v
    into (inr u) = (0, 0)

    there : (bytes : List ℕ) (v : Raw) → IsRaw bytes v → AreSeconds T (58 ∷ []) bytes (into v)
    there bytes (inl v) h =
        inr (record { digits = h.1.front; tail = h.1.back; is = h.1.first; is_tail = h.1.second; bytes_are = h.2 ∙ ap (λ r. 58 ∷ r) h.1.bytes_are })
    there bytes (inr u) h = inl (h, refl, refl)

    here : (bytes : List ℕ) (v : ℕ × ℕ) → AreSeconds T (58 ∷ []) bytes v → (u : Raw) × IsRaw bytes u × (into u ≡ v)
    here bytes v (inl none) = (inr tt, none.0, same_pair ℕ ℕ (0, 0) v (sym none.1) (sym none.2))
    here bytes v (inr h) = (inl v, (h.digits ++ h.tail, record { front = h.digits; back = h.tail; first = h.is; second = h.is_tail; bytes_are = refl }, h.bytes_are), refl)

basic_seconds : {part : Shape → Shape} {T : IsTail} → IsForm part T ends_clock → IsForm (BasicSeconds part) (AreSeconds T []) ends_clock
basic_seconds {part} {T} tail =
    weakened ends_clock (retold (AreSeconds T []) (either 48 9 {part = λ f. Digits 1 (part f)} (both (digits 2) tail) nothing) into there here)
    (λ f h. by_four (λ a b c d. (a && (b && (c && d))) && (true && a)) refl (avoids 48 9 f) (avoids 58 0 f) (avoids 46 0 f) (avoids 44 0 f) h)
  where
    Raw : Type 0
    Raw = (ℕ × ℕ) ⊎ Unit {0}

    IsRaw : List ℕ → Raw → Type 0
    IsRaw = IsEither (IsThen (IsNumber 2) T) IsNothing

    into : Raw → ℕ × ℕ
    into (inl v) = v
    into (inr u) = (0, 0)

    there : (bytes : List ℕ) (v : Raw) → IsRaw bytes v → AreSeconds T [] bytes (into v)
    there bytes (inl v) h = inr (record { digits = h.front; tail = h.back; is = h.first; is_tail = h.second; bytes_are = h.bytes_are })
    there bytes (inr u) h = inl (h, refl, refl)

    here : (bytes : List ℕ) (v : ℕ × ℕ) → AreSeconds T [] bytes v → (u : Raw) × IsRaw bytes u × (into u ≡ v)
    here bytes v (inl none) = (inr tt, none.0, same_pair ℕ ℕ (0, 0) v (sym none.1) (sym none.2))
    here bytes v (inr h) = (inl v, record { front = h.digits; back = h.tail; first = h.is; second = h.is_tail; bytes_are = h.bytes_are }, refl)

-- ---- minutes and seconds, or none
abbrev pub IsAfter : IsTail → List ℕ → ℕ × (ℕ × ℕ) → Type 0
IsAfter T bytes v = IsAfterHour T bytes v.0 v.1.0 v.1.1

pub after_hour : {part : Shape → Shape} {T : IsTail} → IsForm part T ends_clock → IsForm (AfterHour part) (IsAfter T) ends_clock
after_hour {part} {T} tail =
    weakened ends_clock
    (retold (IsAfter T)
    (either 58 0 (led 58 (both (digits 2) (colon_and_seconds tail))) (either 48 9 {part = λ f. Digits 1 (BasicSeconds part f)} (both (digits 2) (basic_seconds tail)) nothing))
    into there here)
    (λ f h. by_four (λ a b c d. (a && (b && (c && d))) && (((a && (b && (c && d))) && (true && a)) && b)) refl (avoids 48 9 f) (avoids 58 0 f) (avoids 46 0 f) (avoids 44 0 f) h)
  where
    Raw : Type 0
    Raw = (ℕ × (ℕ × ℕ)) ⊎ ((ℕ × (ℕ × ℕ)) ⊎ Unit {0})

    IsRaw : List ℕ → Raw → Type 0
    IsRaw = IsEither (IsLed 58 (IsThen (IsNumber 2) (AreSeconds T (58 ∷ [])))) (IsEither (IsThen (IsNumber 2) (AreSeconds T [])) IsNothing)

    into : Raw → ℕ × (ℕ × ℕ)
    into (inl v) = v
    into (inr (inl v)) = v
    into (inr (inr u)) = (0, (0, 0))

    there : (bytes : List ℕ) (v : Raw) → IsRaw bytes v → IsAfter T bytes (into v)
    there bytes (inl v) h =
        inr (inl (record { digits = h.1.front; rest = h.1.back; is = h.1.first; is_rest = h.1.second; bytes_are = h.2 ∙ ap (λ r. 58 ∷ r) h.1.bytes_are }))
    there bytes (inr (inl v)) h = inr (inr (record { digits = h.front; rest = h.back; is = h.first; is_rest = h.second; bytes_are = h.bytes_are }))
    there bytes (inr (inr u)) h = inl (h, refl, refl, refl)

    here : (bytes : List ℕ) (v : ℕ × (ℕ × ℕ)) → IsAfter T bytes v → (u : Raw) × IsRaw bytes u × (into u ≡ v)
    here bytes v (inl none) =
        (inr (inr tt), none.0, same_pair ℕ (ℕ × ℕ) (0, (0, 0)) v (sym none.1) (same_pair ℕ ℕ (0, 0) v.1 (sym none.2) (sym none.3)))
    here bytes v (inr (inl h)) =
        (inl v, (h.digits ++ h.rest, record { front = h.digits; back = h.rest; first = h.is; second = h.is_rest; bytes_are = refl }, h.bytes_are), refl)
    here bytes v (inr (inr h)) = (inr (inl v), record { front = h.digits; back = h.rest; first = h.is; second = h.is_rest; bytes_are = h.bytes_are }, refl)

-- ---- the same with another kind of tail, for tails that are no longer than the bytes
abbrev Becomes : IsTail → IsTail → List ℕ → Type 0
Becomes T T' bytes = (tail : List ℕ) (n : ℕ) → length tail ≤ length bytes → T tail n → T' tail n

seconds_with : {T T' : IsTail} (mark bytes : List ℕ) (s n : ℕ) → Becomes T T' bytes → IsSecondsOrNone T mark bytes s n → IsSecondsOrNone T' mark bytes s n
seconds_with mark bytes s n change (inl none) = inl none
seconds_with mark bytes s n change (inr h) =
    let short : length h.tail ≤ length bytes = omega (arith, ap length h.bytes_are, length-append mark (h.digits ++ h.tail), length-append h.digits h.tail) in
    inr (record { digits = h.digits; tail = h.tail; is = h.is; is_tail = change h.tail n short h.is_tail; bytes_are = h.bytes_are })

minutes_with : {T T' : IsTail} (mark bytes : List ℕ) (m s n : ℕ) → Becomes T T' bytes → IsMinutes T mark bytes m s n → IsMinutes T' mark bytes m s n
minutes_with mark bytes m s n change h =
    let short : length h.rest ≤ length bytes = omega (arith, ap length h.bytes_are, length-append mark (h.digits ++ h.rest), length-append h.digits h.rest) in
    record {
      digits = h.digits;
      rest = h.rest;
      is = h.is;
      is_rest = seconds_with mark h.rest s n (λ tail n few. change tail n (omega (arith, short, few))) h.is_rest;
      bytes_are = h.bytes_are;
    }

pub after_hour_with : {T T' : IsTail} (bytes : List ℕ) (m s n : ℕ) → Becomes T T' bytes → IsAfterHour T bytes m s n → IsAfterHour T' bytes m s n
after_hour_with bytes m s n change (inl none) = inl none
after_hour_with bytes m s n change (inr (inl h)) = inr (inl (minutes_with (58 ∷ []) bytes m s n change h))
after_hour_with bytes m s n change (inr (inr h)) = inr (inr (minutes_with [] bytes m s n change h))

-- an offset has no fraction
pub no_tail : (bytes : List ℕ) (m s n : ℕ) → IsAfterHour (HasTail false) bytes m s n → n ≡ 0
no_tail bytes m s n (inl none) = none.3
no_tail bytes m s n (inr (inl h)) = elim h.is_rest as (λ _. n ≡ 0) [ inl none ↦ none.2 | inr is ↦ is.is_tail.1 ]
no_tail bytes m s n (inr (inr h)) = elim h.is_rest as (λ _. n ≡ 0) [ inl none ↦ none.2 | inr is ↦ is.is_tail.1 ]
