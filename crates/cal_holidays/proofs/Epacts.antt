-- Epacts and full moons in closed form.
use Rattle.std.proofs.Common.{◌≡◌, ℕ, zero, suc, ◌+◌, ◌-◌, ◌*◌, ◌/◌, ◌%◌, ◌<◌, refl, sym, arith, if◌then◌else◌, ◌∙◌}
use Rattle.std.proofs.lemmas.Bool.Decides.{nat_tests}
use Rattle.std.specs.Prelude.{◌==◌, ◌&&◌, ◌||◌, nat_lt}
use Rattle.cal_holidays.specs.Epacts.{first_epact, epact, full_moon, julian_full_moon, new_moon, golden, is_solar, is_lunar}

first_epact-suc : (c : ℕ) → first_epact (suc c) ≡ (first_epact c + (if is_solar (suc c) then 29 else 0) + (if is_lunar (suc c) then 1 else 0)) % 30
unfolding first_epact
first_epact-suc c = refl

-- The equations in one step, by divisions.
solar-step : (c : ℕ) → (if is_solar (suc c) then 29 else 0) + suc c ≡ c + suc c / 4 - c / 4 + 30 * ((if is_solar (suc c) then 29 else 0) / 29)
solar-step c = grind (arith, nat_tests)

lunar-step : (c : ℕ) → (if is_lunar (suc c) then 1 else 0) + (8 * c + 13) / 25 ≡ (8 * suc c + 13) / 25
lunar-step c = grind (arith, nat_tests)

closed-step : (c n f f' s l : ℕ) → n ≡ c + 1 → f' ≡ (f + s + l) % 30 → s + n ≡ c + n / 4 - c / 4 + 30 * (s / 29) → l + (8 * c + 13) / 25 ≡ (8 * n + 13) / 25
    → (f + (c - c / 4)) % 30 ≡ (8 + (8 * c + 13) / 25) % 30 → (f' + (n - n / 4)) % 30 ≡ (8 + (8 * n + 13) / 25) % 30
closed-step c n f f' s l next e g h before = omega arith

-- The epact of the golden number 1, by induction over the centuries.
pub first_epact-closed : (c : ℕ) → (first_epact c + (c - c / 4)) % 30 ≡ (8 + (8 * c + 13) / 25) % 30
first_epact-closed zero = unfold first_epact in refl
first_epact-closed (suc c) =
    closed-step c (suc c) (first_epact c) (first_epact (suc c)) (if is_solar (suc c) then 29 else 0) (if is_lunar (suc c) then 1 else 0) (omega arith) (first_epact-suc c) (solar-step c) (lunar-step c)
    (first_epact-closed c)

-- The days from 21 March to the full moon, without the exceptions, for a golden number from 0.
abbrev pub moon_days : ℕ → ℕ → ℕ
moon_days a c = (19 * a + (c - c / 4 - (8 * c + 13) / 25) + 15) % 30

complement : (a c f e d : ℕ) → (f + (c - c / 4)) % 30 ≡ (8 + (8 * c + 13) / 25) % 30 → e ≡ (f + 11 * a) % 30 → d ≡ (19 * a + (c - c / 4 - (8 * c + 13) / 25) + 15) % 30
    → (e + d) % 30 ≡ 23
complement a c f e d h i j = omega arith

moon : (g e d : ℕ) → e < 30 → d < 30 → (e + d) % 30 ≡ 23 → (if (d == 29) || ((d == 28) && nat_lt 10 g) then d + 20 else d + 21) ≡ new_moon (g + 1) e + 13
unfolding new_moon
moon g e d low below h = grind (arith, nat_tests)

pub full_moon_closed : (y : ℕ) → full_moon y ≡ (if (moon_days (y % 19) (y / 100) == 29) || ((moon_days (y % 19) (y / 100) == 28) && nat_lt 10 (y % 19)) then moon_days (y % 19) (y / 100) + 20 else moon_days (y % 19) (y / 100) + 21)
unfolding full_moon
full_moon_closed y =
    let d = moon_days (y % 19) (y / 100) in
    let e = epact (first_epact (y / 100)) (golden y) in
    let sum : (e + d) % 30 ≡ 23 = complement (y % 19) (y / 100) (first_epact (y / 100)) e d (first_epact-closed (y / 100)) (omega arith) refl in
    sym (moon (y % 19) e d (omega arith) (omega arith) sum)

julian-moon : (a d : ℕ) → a < 19 → d ≡ (19 * a + 15) % 30 → (if (d == 29) || ((d == 28) && nat_lt 10 a) then d + 20 else d + 21) ≡ d + 21
julian-moon a d low is = grind (arith, nat_tests)

-- By the Julian calendar no golden number has an exception.
pub julian_full_moon_closed : (y : ℕ) → julian_full_moon y ≡ (19 * (y % 19) + 15) % 30 + 21
unfolding julian_full_moon
julian_full_moon_closed y =
    let d = (19 * (y % 19) + 15) % 30 in
    sym (moon (y % 19) (epact 8 (golden y)) d (omega arith) (omega arith) (omega arith)) ∙ julian-moon (y % 19) d (omega arith) refl

-- The tables after 5700000 years.
moon_days-later : (y : ℕ) → moon_days ((y + 5700000) % 19) ((y + 5700000) / 100) ≡ moon_days (y % 19) (y / 100)
moon_days-later y = omega arith

pub full_moon-later : (y : ℕ) → full_moon (y + 5700000) ≡ full_moon y
full_moon-later y =
    let g : (y + 5700000) % 19 ≡ y % 19 = omega arith in
    let d = moon_days-later y in
    cc (full_moon_closed (y + 5700000), full_moon_closed y)

pub first_epacts : (first_epact 15 ≡ 1) × (first_epact 16 ≡ 1) × (first_epact 17 ≡ 0)
unfolding first_epact
first_epacts = (refl, refl, refl)
