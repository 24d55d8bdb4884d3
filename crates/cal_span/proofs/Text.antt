-- The parts of a text, from the seconds and the nanoseconds past them.
use Rattle.std.proofs.Common.{◌≡◌, ℕ, zero, suc, ◌+◌, ◌*◌, ◌/◌, ◌%◌, ◌<◌, ℤ, pos, negsuc, ◌<ℤ◌, unsigned_abs, ◌∷◌, ◌++◌, ◌≤◌, ◌^◌, List, codes, decimal, length, length-append, refl, ap, ◌∙◌, append_assoc, arith}
use Rattle.std.proofs.lemmas.Fmt.{length-decimal-le}
use Rattle.std.proofs.lemmas.Bool.Decides.{nat_tests}
use Rattle.std.proofs.lemmas.Int.{ints}
use Rattle.cal_span.specs.SignedDuration.{day, hour, minute, second, millisecond, microsecond, part_text, parts_text, text}

pub parts_text-fields : (s n : ℕ) → n < second →
    part_text (s / 86_400) (codes "d")
    ++ (part_text (s % 86_400 / 3_600) (codes "h")
    ++ (part_text (s % 86_400 / 60 % 60) (codes "m")
    ++ (part_text (s % 86_400 % 60) (codes "s")
    ++ (part_text (n / 1_000_000) (codes "ms")
    ++ (part_text (n / 1_000 % 1_000) (0xc2 ∷ 0xb5 ∷ codes "s")
    ++ part_text (n % 1_000) (codes "ns"))))))
    ≡ parts_text (s * second + n)
parts_text-fields s n below =
    let v = s * second + n in
    let days : s / 86_400 ≡ v / day = omega arith in
    let hours : s % 86_400 / 3_600 ≡ v / hour % 24 = omega arith in
    let minutes : s % 86_400 / 60 % 60 ≡ v / minute % 60 = omega arith in
    let seconds : s % 86_400 % 60 ≡ v / second % 60 = omega arith in
    let milliseconds : n / 1_000_000 ≡ v / millisecond % 1_000 = omega arith in
    let microseconds : n / 1_000 % 1_000 ≡ v / microsecond % 1_000 = omega arith in
    let nanoseconds : n % 1_000 ≡ v % 1_000 = omega arith in
    simp append_assoc (λ i.
    part_text (days i) (codes "d")
    ++ (part_text (hours i) (codes "h")
    ++ (part_text (minutes i) (codes "m")
    ++ (part_text (seconds i) (codes "s")
    ++ (part_text (milliseconds i) (codes "ms")
    ++ (part_text (microseconds i) (0xc2 ∷ 0xb5 ∷ codes "s")
    ++ part_text (nanoseconds i) (codes "ns")))))))

-- The parts, appended one after another.
pub parts-appended : (a b c d e f g h : List ℕ) (s n : ℕ) → n < second → b ≡ a ++ part_text (s / 86_400) (codes "d") → c ≡ b ++ part_text (s % 86_400 / 3_600) (codes "h")
    → d ≡ c ++ part_text (s % 86_400 / 60 % 60) (codes "m") → e ≡ d ++ part_text (s % 86_400 % 60) (codes "s") → f ≡ e ++ part_text (n / 1_000_000) (codes "ms")
    → g ≡ f ++ part_text (n / 1_000 % 1_000) (0xc2 ∷ 0xb5 ∷ codes "s") → h ≡ g ++ part_text (n % 1_000) (codes "ns") → h ≡ a ++ parts_text (s * second + n)
parts-appended a b c d e f g h s n below p q r t u v w =
    rw (w, v, u, t, r, q, p)
    (regrouped a (part_text (s / 86_400) (codes "d")) (part_text (s % 86_400 / 3_600) (codes "h")) (part_text (s % 86_400 / 60 % 60) (codes "m")) (part_text (s % 86_400 % 60) (codes "s"))
    (part_text (n / 1_000_000) (codes "ms")) (part_text (n / 1_000 % 1_000) (0xc2 ∷ 0xb5 ∷ codes "s")) (part_text (n % 1_000) (codes "ns"))
    ∙ ap (λ parts. a ++ parts) (parts_text-fields s n below))
  where
    regrouped : (a d h m s x y z : List ℕ) → a ++ d ++ h ++ m ++ s ++ x ++ y ++ z ≡ a ++ (d ++ (h ++ (m ++ (s ++ (x ++ (y ++ z))))))
    regrouped a d h m s x y z = simp append_assoc

-- The length of a number and its unit.
some-part_text : (n : ℕ) (unit : List ℕ) → 0 < n → part_text n unit ≡ decimal n ++ unit
some-part_text n unit some = grind (arith, nat_tests)

length-part_text : (k n : ℕ) (unit : List ℕ) → 0 < k → n < 10 ^ k → n < 2 ^ 64 → length (part_text n unit) ≤ k + length unit
length-part_text k zero unit some below small = omega arith
length-part_text k (suc n) unit some below small = omega (arith, ap length (some-part_text (suc n) unit (omega arith)), length-append (decimal (suc n)) unit, length-decimal-le k (suc n) some below small)

pub length-days : (n : ℕ) (unit : List ℕ) → n < 1_000_000_000_000_000 → length (part_text n unit) ≤ 15 + length unit
length-days n unit below = length-part_text 15 n unit (omega arith) (omega (arith, below)) (omega (arith, below))

pub length-below_100 : (n : ℕ) (unit : List ℕ) → n < 100 → length (part_text n unit) ≤ 2 + length unit
length-below_100 n unit below = length-part_text 2 n unit (omega arith) (omega (arith, below)) (omega (arith, below))

pub length-below_1000 : (n : ℕ) (unit : List ℕ) → n < 1_000 → length (part_text n unit) ≤ 3 + length unit
length-below_1000 n unit below = length-part_text 3 n unit (omega arith) (omega (arith, below)) (omega (arith, below))

-- The text of a negative number and of a positive number.
pub text-negative : (v : ℤ) (s n : ℕ) → v <ℤ pos 0 → s ≡ unsigned_abs v / second → n ≡ unsigned_abs v % second → codes "-" ++ parts_text (s * second + n) ≡ text v
text-negative (pos k) s n below e f = absurd (omega (arith, ints))
text-negative (negsuc k) s n below e f =
    let whole : s * second + n ≡ suc k = omega arith in
    ap (λ m. codes "-" ++ parts_text m) whole

pub text-positive : (v : ℤ) (s n : ℕ) → ¬ (v ≡ pos 0) → ¬ (v <ℤ pos 0) → s ≡ unsigned_abs v / second → n ≡ unsigned_abs v % second → parts_text (s * second + n) ≡ text v
text-positive (pos zero) s n not_zero not_below e f = absurd (not_zero refl)
text-positive (pos (suc k)) s n not_zero not_below e f =
    let whole : s * second + n ≡ suc k = omega arith in
    ap parts_text whole
text-positive (negsuc k) s n not_zero not_below e f = absurd (not_below (omega (arith, ints)))

pub ruleset short_parts = (length-days, length-below_100, length-below_1000)
