-- The text of a duration in hours, minutes and seconds.
use Rattle.std.proofs.Common.{◌≡◌, ◌∙◌, ℕ, ◌+◌, ◌*◌, ◌-◌, ◌/◌, ◌%◌, ◌<◌, ◌≤◌, ◌^◌, Bool, true, false, ℤ, pos, negsuc, ◌<ℤ◌, unsigned_abs, List, [], ◌∷◌, ◌++◌, length, length-append, replicate, ap, refl, sym, arith}
use Rattle.std.specs.Prelude.{decimal, int_lt, IsTrue, ◌↔◌}
use Rattle.std.proofs.lemmas.Bool.Decides.{nat_tests}
use Rattle.std.proofs.lemmas.Fmt.{decimal_nonempty, decimal_step, length-decimal-le}
use Rattle.std.proofs.lemmas.Int.{ints}
use Rattle.std.proofs.lemmas.List.{append_assoc}
use Rattle.cal_duration.specs.Form.{sign_text}
use Rattle.cal_time.specs.DateText.{digits_at_least}
use Rattle.cal_time.specs.SignedDuration.{second}
use Rattle.caldate_answers.specs.Periods.{clock_text, hours_text}

pub few_digits : (n : ℕ) → n < 2 ^ 64 → length (decimal n) ≤ 20
few_digits n small = length-decimal-le 20 n (omega arith) (omega (arith, small)) small

-- a number of three digits or more has no zeros before it
pub no_zeros : (n : ℕ) → 100 ≤ n → n < 2 ^ 64 → decimal n ≡ digits_at_least 2 n
no_zeros n wide small =
    let step = ap length (decimal_step n (omega (arith, wide)) (omega (arith, small))) ∙ length-append (decimal (n / 10)) ((48 + n % 10) ∷ []) in
    let some = decimal_nonempty (n / 10) (omega (arith, small)) in
    let none : 2 - length (decimal n) ≡ 0 = omega (arith, step, some) in
    sym (ap (λ k. replicate k 48 ++ decimal n) none)

not_below_zero : (n : ℕ) → int_lt (pos n) (pos 0) ≡ false
not_below_zero n = grind (arith, ints, nat_tests)

is_below : (v : ℤ) (b : Bool) → IsTrue b ↔ (v <ℤ pos 0) → b ≡ int_lt v (pos 0)
is_below (pos n) true h = absurd (omega (arith, ints, h.0 refl))
is_below (pos n) false h = sym (not_below_zero n)
is_below (negsuc n) true h = refl
is_below (negsuc n) false h = let t : IsTrue false = h.1 (omega (arith, ints)) in absurd cc

magnitude_whole : (v : ℤ) (s n : ℕ) → s ≡ unsigned_abs v / second → n ≡ unsigned_abs v % second → s * second + n ≡ unsigned_abs v
magnitude_whole v s n e f = omega (arith, e, f)

pub hours_appended : (v : ℤ) (s n : ℕ) (b : Bool) (old mid new sign clock : List ℕ) → s ≡ unsigned_abs v / second → n ≡ unsigned_abs v % second → IsTrue b ↔ (v <ℤ pos 0)
    → sign ≡ sign_text b → mid ≡ old ++ sign → clock ≡ clock_text (s * second + n) → new ≡ mid ++ clock → new ≡ old ++ hours_text v
hours_appended v s n b old mid new sign clock seconds nanos below e f g h =
    h ∙ ap (λ x. x ++ clock) f ∙ append_assoc old sign clock
    ∙ ap (λ x. old ++ x) (ap (λ x. x ++ clock) (e ∙ ap sign_text (is_below v b below)) ∙ ap (λ x. sign_text (int_lt v (pos 0)) ++ x) (g ∙ ap clock_text (magnitude_whole v s n seconds nanos)))
