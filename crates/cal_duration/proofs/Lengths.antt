-- Texts of durations, appended part by part, and their lengths.
use Rattle.std.proofs.Common.{◌≡◌, ℕ, zero, suc, ◌+◌, ◌*◌, ◌/◌, ◌%◌, ◌<◌, ◌≤◌, ◌^◌, Bool, true, false, ℤ, pos, negsuc, ◌<ℤ◌, unsigned_abs, to_z, of_z, List, [], ◌∷◌, ◌++◌, length, refl, sym, ap, ◌∙◌, arith}
use Rattle.std.specs.Prelude.{decimal, codes, int_lt, if◌then◌else◌, IsTrue, ◌↔◌, FitsSigned}
use Rattle.std.proofs.lemmas.Fmt.{length-decimal-le}
use Rattle.std.proofs.lemmas.Bool.Decides.{nat_tests}
use Rattle.std.specs.Int.{w32}
use Rattle.std.proofs.lemmas.Int.{ints, to_z-of_z}
use Rattle.std.proofs.lemmas.List.{append_assoc, append-nil, length-append}
use Rattle.cal_time.specs.SignedDuration.{hour, minute, second, part_text}
use Rattle.cal_text.specs.Rfc3339.{fraction_text}
use Rattle.cal_schedule.specs.Period.{Parts}
use Rattle.cal_duration.specs.DurationText.{seconds_text, clock_text, time_text, duration_text, date_text, period_text, is_zero, is_negative}
use Rattle.cal_duration.specs.Form.{sign_text}

some_part : (n : ℕ) (unit : List ℕ) → 0 < n → part_text n unit ≡ decimal n ++ unit
some_part n unit some = grind (arith, nat_tests)

part_length : (k n : ℕ) (unit : List ℕ) → 0 < k → n < 10 ^ k → n < 2 ^ 64 → length (part_text n unit) ≤ k + length unit
part_length k zero unit some below small = omega arith
part_length k (suc n) unit some below small = omega (arith, ap length (some_part (suc n) unit (omega arith)), length-append (decimal (suc n)) unit, length-decimal-le k (suc n) some below small)

pub hours_length : (n : ℕ) → n < 10_000_000_000_000_000 → length (part_text n (72 ∷ [])) ≤ 17
hours_length n below = part_length 16 n (72 ∷ []) (omega arith) (omega (arith, below)) (omega (arith, below))

pub minutes_length : (n : ℕ) → n < 60 → length (part_text n (77 ∷ [])) ≤ 3
minutes_length n below = part_length 2 n (77 ∷ []) (omega arith) (omega (arith, below)) (omega (arith, below))

pub seconds_length : (n : ℕ) → n < 60 → length (decimal n) ≤ 2
seconds_length n below = length-decimal-le 2 n (omega arith) (omega (arith, below)) (omega (arith, below))

pub date_length : (n : ℕ) (unit : List ℕ) → n < 2 ^ 32 → length (part_text n unit) ≤ 10 + length unit
date_length n unit below = part_length 10 n unit (omega arith) (omega (arith, below)) (omega (arith, below))

-- ---- texts, part by part
some_seconds : (v : ℕ) → 0 < v → seconds_text v ≡ decimal (v / second) ++ (fraction_text (v % second) ++ 83 ∷ [])
some_seconds v some = grind (arith, nat_tests)

pub seconds_appended : (s n : ℕ) (a b c d : List ℕ) → n < 1000000000 → 0 < s + n → b ≡ a ++ decimal s → c ≡ b ++ fraction_text n → d ≡ c ++ 83 ∷ [] → d ≡ a ++ seconds_text (s * second + n)
seconds_appended s n a b c d below some e f g =
    let whole : (s * second + n) / second ≡ s = omega arith in
    let past : (s * second + n) % second ≡ n = omega arith in
    let text : seconds_text (s * second + n) ≡ decimal s ++ (fraction_text n ++ 83 ∷ []) =
    some_seconds (s * second + n) (omega (arith, some)) ∙ ap (λ x. decimal x ++ (fraction_text ((s * second + n) % second) ++ 83 ∷ [])) whole
    ∙ ap (λ x. decimal s ++ (fraction_text x ++ 83 ∷ [])) past in
    g ∙ ap (λ x. x ++ 83 ∷ []) (f ∙ ap (λ x. x ++ fraction_text n) e) ∙ regrouped a (decimal s) (fraction_text n) (83 ∷ []) ∙ ap (λ x. a ++ x) (sym text)
  where
    regrouped : (a b c d : List ℕ) → a ++ b ++ c ++ d ≡ a ++ (b ++ (c ++ d))
    regrouped a b c d = simp append_assoc

pub no_seconds_appended : (s n : ℕ) (a : List ℕ) → s ≡ 0 → n ≡ 0 → a ≡ a ++ seconds_text (s * second + n)
no_seconds_appended s n a e f =
    let none : s * second + n ≡ 0 = omega (arith, e, f) in
    sym (ap (λ v. a ++ seconds_text v) none ∙ append-nil a)

pub clock_appended : (s n : ℕ) (a b c d : List ℕ) → n < 1000000000 → a ≡ [] → b ≡ a ++ part_text (s / 3600) (72 ∷ []) → c ≡ b ++ part_text (s % 3600 / 60) (77 ∷ [])
    → d ≡ c ++ seconds_text (s % 60 * second + n) → d ≡ clock_text (s * second + n)
clock_appended s n a b c d below start e f g =
    let hours : s / 3600 ≡ (s * second + n) / hour = omega arith in
    let minutes : s % 3600 / 60 ≡ (s * second + n) % hour / minute = omega arith in
    let seconds : s % 60 * second + n ≡ (s * second + n) % minute = omega arith in
    g ∙ ap (λ x. x ++ seconds_text (s % 60 * second + n)) (f ∙ ap (λ x. x ++ part_text (s % 3600 / 60) (77 ∷ [])) (e ∙ ap (λ x. x ++ part_text (s / 3600) (72 ∷ [])) start))
    ∙ append_assoc (part_text (s / 3600) (72 ∷ [])) (part_text (s % 3600 / 60) (77 ∷ [])) (seconds_text (s % 60 * second + n))
    ∙ (λ i. part_text (hours i) (72 ∷ []) ++ (part_text (minutes i) (77 ∷ []) ++ seconds_text (seconds i)))

-- ---- the sign and the whole
pub not_below_zero : (n : ℕ) → int_lt (pos n) (pos 0) ≡ false
not_below_zero n = grind (arith, ints, nat_tests)

pub is_below : (v : ℤ) (b : Bool) → IsTrue b ↔ (v <ℤ pos 0) → b ≡ int_lt v (pos 0)
is_below (pos n) true h = absurd (omega (arith, ints, h.0 refl))
is_below (pos n) false h = sym (not_below_zero n)
is_below (negsuc n) true h = refl
is_below (negsuc n) false h = let t : IsTrue false = h.1 (omega (arith, ints)) in absurd cc

magnitude_whole : (v : ℤ) (s n : ℕ) → s ≡ unsigned_abs v / second → n ≡ unsigned_abs v % second → s * second + n ≡ unsigned_abs v
magnitude_whole v s n e f = omega (arith, e, f)

not_zero : (v : ℤ) → 0 < unsigned_abs v → duration_text v ≡ sign_text (int_lt v (pos 0)) ++ (codes "PT" ++ clock_text (unsigned_abs v))
not_zero v some = grind (arith, nat_tests)

some_magnitude : (v : ℤ) → ¬ (v ≡ pos 0) → 0 < unsigned_abs v
some_magnitude (pos zero) h = absurd (h refl)
some_magnitude (pos (suc n)) h = omega arith
some_magnitude (negsuc n) h = omega arith

-- a test that failed
not_true : IsTrue false → ⊥
not_true h = absurd cc

pub duration_appended : (v : ℤ) (s n : ℕ) (b : Bool) (a c d e sign clock : List ℕ) → IsTrue false ↔ (v ≡ pos 0) → s ≡ unsigned_abs v / second → n ≡ unsigned_abs v % second → IsTrue b ↔ (v <ℤ pos 0)
    → a ≡ [] → sign ≡ sign_text b → c ≡ a ++ sign → d ≡ c ++ codes "PT" → clock ≡ clock_text (s * second + n) → e ≡ d ++ clock → e ≡ duration_text v
duration_appended v s n b a c d e sign clock some seconds nanos below start f g h i j =
    let text : clock ≡ clock_text (unsigned_abs v) = i ∙ ap clock_text (magnitude_whole v s n seconds nanos) in
    let front : c ≡ sign_text (int_lt v (pos 0)) = g ∙ ap (λ x. x ++ sign) start ∙ f ∙ ap sign_text (is_below v b below) in
    j ∙ ap (λ x. x ++ clock) (h ∙ ap (λ x. x ++ codes "PT") front) ∙ append_assoc (sign_text (int_lt v (pos 0))) (codes "PT") clock ∙ ap (λ x. sign_text (int_lt v (pos 0)) ++ (codes "PT" ++ x)) text
    ∙ sym (not_zero v (some_magnitude v (λ e. not_true (some.1 e))))

pub time_appended : (v : ℤ) (s n : ℕ) (a b c clock : List ℕ) → IsTrue false ↔ (v ≡ pos 0) → s ≡ unsigned_abs v / second → n ≡ unsigned_abs v % second → b ≡ a ++ 84 ∷ [] → clock ≡ clock_text (s * second + n) → c ≡ b ++ clock
    → c ≡ a ++ time_text (unsigned_abs v)
time_appended v s n a b c clock some seconds nanos e f g =
    let text : clock ≡ clock_text (unsigned_abs v) = f ∙ ap clock_text (magnitude_whole v s n seconds nanos) in
    g ∙ ap (λ x. x ++ clock) e ∙ append_assoc a (84 ∷ []) clock ∙ ap (λ x. a ++ 84 ∷ x) text ∙ ap (λ x. a ++ x) (sym (some_time (unsigned_abs v) (some_magnitude v (λ e. not_true (some.1 e)))))
  where
    some_time : (v : ℕ) → 0 < v → time_text v ≡ 84 ∷ clock_text v
    some_time v some = grind (arith, nat_tests)

pub no_time_appended : (v : ℤ) (a : List ℕ) → v ≡ pos 0 → a ≡ a ++ time_text (unsigned_abs v)
no_time_appended v a e = sym (ap (λ w. a ++ time_text (unsigned_abs w)) e ∙ append-nil a)

-- ---- a period
pub period_appended : (p : Parts) (b : Bool) (a0 a1 a2 a3 a4 a5 a6 a7 sign y m w d : List ℕ) → is_zero p ≡ false → b ≡ is_negative p → a0 ≡ [] → sign ≡ sign_text b
    → y ≡ part_text (unsigned_abs p.years) (89 ∷ []) → m ≡ part_text (unsigned_abs p.months) (77 ∷ []) → w ≡ part_text (unsigned_abs p.weeks) (87 ∷ []) → d ≡ part_text (unsigned_abs p.days) (68 ∷ [])
    → a1 ≡ a0 ++ sign → a2 ≡ a1 ++ 80 ∷ [] → a3 ≡ a2 ++ y → a4 ≡ a3 ++ m → a5 ≡ a4 ++ w → a6 ≡ a5 ++ d → a7 ≡ a6 ++ time_text (unsigned_abs p.exact) → a7 ≡ period_text p
period_appended p b a0 a1 a2 a3 a4 a5 a6 a7 sign y m w d some below start s ys ms ws ds e1 e2 e3 e4 e5 e6 e7 =
    let t = time_text (unsigned_abs p.exact) in
    let front : a1 ≡ sign_text (is_negative p) = e1 ∙ ap (λ x. x ++ sign) start ∙ s ∙ ap sign_text below in
    let all : a7 ≡ sign_text (is_negative p) ++ 80 ∷ [] ++ y ++ m ++ w ++ d ++ t =
    e7 ∙ ap (λ x. x ++ t) (e6 ∙ ap (λ x. x ++ d) (e5 ∙ ap (λ x. x ++ w) (e4 ∙ ap (λ x. x ++ m) (e3 ∙ ap (λ x. x ++ y) (e2 ∙ ap (λ x. x ++ 80 ∷ []) front))))) in
    let date : y ++ (m ++ (w ++ d)) ≡ date_text p = λ i. ys i ++ (ms i ++ (ws i ++ ds i)) in
    all ∙ regrouped (sign_text (is_negative p)) y m w d t ∙ ap (λ x. sign_text (is_negative p) ++ 80 ∷ (x ++ t)) date
    ∙ sym (ap (λ b. if b then codes "PT0S" else sign_text (is_negative p) ++ 80 ∷ (date_text p ++ t)) some)
  where
    regrouped : (s y m w d t : List ℕ) → s ++ 80 ∷ [] ++ y ++ m ++ w ++ d ++ t ≡ s ++ 80 ∷ ((y ++ (m ++ (w ++ d))) ++ t)
    regrouped s y m w d t = simp append_assoc

-- The text of a number that was passed on as an i32.
pub passed_text : (x v : ℤ) (letter : List ℕ) → FitsSigned w32 x → x ≡ v → part_text (unsigned_abs (to_z w32 (of_z w32 x))) letter ≡ part_text (unsigned_abs v) letter
passed_text x v letter fits e = ap (λ n. part_text (unsigned_abs n) letter) (to_z-of_z w32 x fits ∙ e)

pub passed_time : (x v : ℤ) (a b : List ℕ) → b ≡ a ++ time_text (unsigned_abs x) → x ≡ v → b ≡ a ++ time_text (unsigned_abs v)
passed_time x v a b e f = e ∙ ap (λ n. a ++ time_text (unsigned_abs n)) f
