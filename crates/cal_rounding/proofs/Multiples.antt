-- The multiple to which a number is rounded, over whole numbers.
use Rattle.std.proofs.Common.{◌≡◌, ◌↔◌, ◌∙◌, ℕ, zero, suc, ◌+◌, ◌-◌, ◌*◌, ◌%◌, ◌<◌, ◌≤◌, refl, sym, ap, subst, arith, Bool, true, false, leb, nat_eq, nat_lt, IsTrue, Option, SomeIff}
use Rattle.std.proofs.lemmas.Int.{ints, by_lt_z}
use Rattle.std.proofs.lemmas.Bool.{false≢true}
use Rattle.std.proofs.lemmas.Bool.Decides.{nat_tests}
use Rattle.std.specs.Prelude.{ℤ, pos, negsuc, ◌<ℤ◌, ◌≤ℤ◌, ◌+ℤ◌, ◌*ℤ◌, unsigned_abs}
use Rattle.std.proofs.Math.Nat.{mul-le-mul_left}
use Rattle.cal_time.specs.SignedDuration.{day, with_sign, IsDuration}
use Rattle.cal_time.specs.Time.{modulo_day}
use Rattle.cal_rounding.specs.declared.rounding_mode.RoundingMode.{RoundingMode}
use Rattle.cal_rounding.specs.declared.rounding_mode.RoundingMode.TheVariants.{Floor, Ceil, Trunc, HalfCeil, HalfEven}
use Rattle.cal_rounding.specs.Rounding.{IsAllowed, IsEven, IsPreferred, IsRounded, RoundsWithin, distance, multiple}

-- two multiples are at least a unit apart
pub apart_below : (k n : ℤ) (u : ℕ) → k <ℤ n → (multiple u k +ℤ pos u) ≤ℤ multiple u n
apart_below (pos a) (pos b) u h = let m : suc a ≤ b = omega (arith, ints, h) in omega (arith, ints, mul-le-mul_left u m)
apart_below (pos a) (negsuc b) u h = absurd (omega (arith, ints, h))
apart_below (negsuc a) (pos b) u h = omega (arith, ints)
apart_below (negsuc a) (negsuc b) u h = let m : suc b ≤ a = omega (arith, ints, h) in omega (arith, ints, mul-le-mul_left u m)

-- r is at most as far from z as another number, and preferred to it at the same distance
abbrev IsBetter : RoundingMode → ℤ → ℤ → ℤ → ℤ → ℤ → Type 0
IsBetter mode z r n x k = (distance z r ≤ distance z x) × (distance z r ≡ distance z x → IsPreferred mode n k)

at :
    (mode : RoundingMode) (z r n : ℤ) (u : ℕ) → r ≡ multiple u n → IsAllowed mode z r
    → ((k : ℤ) → k <ℤ n → (multiple u k +ℤ pos u) ≤ℤ r → IsAllowed mode z (multiple u k) → IsBetter mode z r n (multiple u k) k)
    → ((k : ℤ) → n <ℤ k → (r +ℤ pos u) ≤ℤ multiple u k → IsAllowed mode z (multiple u k) → IsBetter mode z r n (multiple u k) k)
    → IsRounded mode u z r
at mode z r n u e allowed below above = record {
  number = n;
  is_multiple = e;
  allowed = allowed;
  nearest = λ k ok. by_lt_z k n (λ less. (under k less ok).0) (λ most. by_lt_z n k (λ more. (over k more ok).0) (λ least. same k (omega (arith, ints, most, least))));
  tie = λ k ok other tied. by_lt_z k n (λ less. (under k less ok).1 tied) (λ most. by_lt_z n k (λ more. (over k more ok).1 tied) (λ least. absurd (other (omega (arith, ints, most, least)))));
}
  where
    under : (k : ℤ) → k <ℤ n → IsAllowed mode z (multiple u k) → IsBetter mode z r n (multiple u k) k
    under k less ok = below k less (subst (λ (x : ℤ). (multiple u k +ℤ pos u) ≤ℤ x) (sym e) (apart_below k n u less)) ok

    over : (k : ℤ) → n <ℤ k → IsAllowed mode z (multiple u k) → IsBetter mode z r n (multiple u k) k
    over k more ok = above k more (subst (λ (x : ℤ). (x +ℤ pos u) ≤ℤ multiple u k) (sym e) (apart_below n k u more)) ok

    same : (k : ℤ) → k ≡ n → distance z r ≤ distance z (multiple u k)
    same k is = subst (λ (x : ℤ). distance z r ≤ distance z (multiple u x)) (sym is) (subst (λ (x : ℤ). distance z r ≤ distance z x) e (omega arith))

pub floor_at : (z r n : ℤ) (u : ℕ) → r ≡ multiple u n → r ≤ℤ z → z <ℤ (r +ℤ pos u) → IsRounded Floor u z r
floor_at z r n u e low high = at Floor z r n u e low
    (λ k less a ok. (omega (arith, ints, a, low, high), λ tied. less))
    (λ k more a ok. absurd (omega (arith, ints, a, high, ok)))

pub ceil_at : (z r n : ℤ) (u : ℕ) → r ≡ multiple u n → z ≤ℤ r → r <ℤ (z +ℤ pos u) → IsRounded Ceil u z r
ceil_at z r n u e low high = at Ceil z r n u e low
    (λ k less a ok. absurd (omega (arith, ints, a, high, ok)))
    (λ k more a ok. (omega (arith, ints, a, low, high), λ tied. absurd (omega (arith, ints, a, low, high, tied))))

pub trunc_at_positive : (z r n : ℤ) (u : ℕ) → r ≡ multiple u n → pos 0 ≤ℤ r → r ≤ℤ z → z <ℤ (r +ℤ pos u) → IsRounded Trunc u z r
trunc_at_positive z r n u e sign low high = at Trunc z r n u e (omega (arith, ints, sign, low))
    (λ k less a ok. (omega (arith, ints, a, low, high), λ tied. less))
    (λ k more a ok. absurd (omega (arith, ints, a, sign, low, high, ok)))

pub trunc_at_negative : (z r n : ℤ) (u : ℕ) → r ≡ multiple u n → r ≤ℤ pos 0 → z ≤ℤ r → r <ℤ (z +ℤ pos u) → IsRounded Trunc u z r
trunc_at_negative z r n u e sign low high = at Trunc z r n u e (omega (arith, ints, sign, low))
    (λ k less a ok. absurd (omega (arith, ints, a, sign, low, high, ok)))
    (λ k more a ok. (omega (arith, ints, a, low, high), λ tied. absurd (omega (arith, ints, a, low, high, tied))))

pub half_ceil_at : (z r n : ℤ) (u : ℕ) → r ≡ multiple u n → (r +ℤ r) ≤ℤ (z +ℤ z +ℤ pos u) → (z +ℤ z) <ℤ (r +ℤ r +ℤ pos u) → IsRounded HalfCeil u z r
half_ceil_at z r n u e low high = at HalfCeil z r n u e tt
    (λ k less a ok. (omega (arith, ints, a, low, high), λ tied. less))
    (λ k more a ok. (omega (arith, ints, a, low, high), λ tied. absurd (omega (arith, ints, a, low, high, tied))))

pub half_even_at :
    (z r n : ℤ) (u : ℕ) → r ≡ multiple u n → (r +ℤ r) ≤ℤ (z +ℤ z +ℤ pos u) → (z +ℤ z) ≤ℤ (r +ℤ r +ℤ pos u)
    → (distance z r + distance z r ≡ u → IsEven n) → IsRounded HalfEven u z r
half_even_at z r n u e low high even = at HalfEven z r n u e tt
    (λ k less a ok. (omega (arith, ints, a, low, high), λ tied. even (omega (arith, ints, a, low, high, tied))))
    (λ k more a ok. (omega (arith, ints, a, low, high), λ tied. even (omega (arith, ints, a, low, high, tied))))

-- a multiple by its sign and its magnitude
pub signed : (sign : Bool) (n u : ℕ) → with_sign sign (n * u) ≡ multiple u (with_sign sign n)
signed false n u = omega (arith, ints)
signed true zero u = omega (arith, ints)
signed true (suc n) u = omega (arith, ints)

-- the same of a mode and a sign that are known
pub known :
    (mode m : RoundingMode) (sign s : Bool) (u a b : ℕ) → mode ≡ m → sign ≡ s
    → IsRounded m u (with_sign s a) (with_sign s b) → IsRounded mode u (with_sign sign a) (with_sign sign b)
known mode m sign s u a b e f h =
    subst (λ (x : RoundingMode). IsRounded x u (with_sign sign a) (with_sign sign b)) (sym e) (subst (λ (x : Bool). IsRounded m u (with_sign x a) (with_sign x b)) (sym f) h)

pub known_mode :
    (mode m : RoundingMode) (sign : Bool) (u a b : ℕ) → mode ≡ m
    → IsRounded m u (with_sign sign a) (with_sign sign b) → IsRounded mode u (with_sign sign a) (with_sign sign b)
known_mode mode m sign u a b e h = subst (λ (x : RoundingMode). IsRounded x u (with_sign sign a) (with_sign sign b)) (sym e) h

-- what the tests say
pub is_less : (a b : ℕ) → IsTrue (nat_lt a b) → a < b
is_less a b h = grind (arith, nat_tests, h)

pub not_less : (a b : ℕ) → (IsTrue (nat_lt a b) → ⊥) → b ≤ a
not_less a b h = grind (arith, nat_tests, h)

pub is_most : (a b : ℕ) → IsTrue (leb a b) → a ≤ b
is_most a b h = grind (arith, nat_tests, h)

pub not_most : (a b : ℕ) → (IsTrue (leb a b) → ⊥) → b < a
not_most a b h = grind (arith, nat_tests, h)

pub is_odd : (n : ℕ) → IsTrue (nat_eq (n % 2) 1) → n % 2 ≡ 1
is_odd n h = grind (arith, nat_tests, h)

pub not_odd : (n : ℕ) → (IsTrue (nat_eq (n % 2) 1) → ⊥) → n % 2 ≡ 0
not_odd n h = let x : (n % 2 ≡ 1 → ⊥) = grind (arith, nat_tests, h) in omega (arith, x)

-- by its magnitude n * u + p, a number is rounded away from zero, or toward it
pub floor_away : (n u p : ℕ) → p < u → 0 < p → IsRounded Floor u (with_sign true (n * u + p)) (with_sign true ((n + 1) * u))
floor_away n u p h some = floor_at _ _ (with_sign true (n + 1)) u (signed true (n + 1) u) (omega (arith, ints, h)) (omega (arith, ints, some))

pub floor_stays : (n u p : ℕ) → p < u → p ≤ 0 → IsRounded Floor u (with_sign true (n * u + p)) (with_sign true (n * u))
floor_stays n u p h none = floor_at _ _ (with_sign true n) u (signed true n u) (omega (arith, ints, none)) (omega (arith, ints, h, none))

pub floor_toward : (n u p : ℕ) → p < u → IsRounded Floor u (with_sign false (n * u + p)) (with_sign false (n * u))
floor_toward n u p h = floor_at _ _ (with_sign false n) u (signed false n u) (omega (arith, ints)) (omega (arith, ints, h))

pub ceil_away : (n u p : ℕ) → p < u → 0 < p → IsRounded Ceil u (with_sign false (n * u + p)) (with_sign false ((n + 1) * u))
ceil_away n u p h some = ceil_at _ _ (with_sign false (n + 1)) u (signed false (n + 1) u) (omega (arith, ints, h)) (omega (arith, ints, some))

pub ceil_stays : (n u p : ℕ) → p < u → p ≤ 0 → IsRounded Ceil u (with_sign false (n * u + p)) (with_sign false (n * u))
ceil_stays n u p h none = ceil_at _ _ (with_sign false n) u (signed false n u) (omega (arith, ints, none)) (omega (arith, ints, h, none))

pub ceil_toward : (n u p : ℕ) → p < u → IsRounded Ceil u (with_sign true (n * u + p)) (with_sign true (n * u))
ceil_toward n u p h = ceil_at _ _ (with_sign true n) u (signed true n u) (omega (arith, ints)) (omega (arith, ints, h))

pub trunc_toward : (sign : Bool) (n u p : ℕ) → p < u → IsRounded Trunc u (with_sign sign (n * u + p)) (with_sign sign (n * u))
trunc_toward false n u p h = trunc_at_positive _ _ (with_sign false n) u (signed false n u) (omega (arith, ints)) (omega (arith, ints)) (omega (arith, ints, h))
trunc_toward true n u p h = trunc_at_negative _ _ (with_sign true n) u (signed true n u) (omega (arith, ints)) (omega (arith, ints)) (omega (arith, ints, h))

pub half_ceil_away : (n u p : ℕ) → p < u → u - p ≤ p → IsRounded HalfCeil u (with_sign false (n * u + p)) (with_sign false ((n + 1) * u))
half_ceil_away n u p h most = half_ceil_at _ _ (with_sign false (n + 1)) u (signed false (n + 1) u) (omega (arith, ints, h, most)) (omega (arith, ints, h, most))

pub half_ceil_toward : (n u p : ℕ) → p < u → p < u - p → IsRounded HalfCeil u (with_sign false (n * u + p)) (with_sign false (n * u))
half_ceil_toward n u p h less = half_ceil_at _ _ (with_sign false n) u (signed false n u) (omega (arith, ints, h, less)) (omega (arith, ints, h, less))

pub half_ceil_away_below : (n u p : ℕ) → p < u → u - p < p → IsRounded HalfCeil u (with_sign true (n * u + p)) (with_sign true ((n + 1) * u))
half_ceil_away_below n u p h less = half_ceil_at _ _ (with_sign true (n + 1)) u (signed true (n + 1) u) (omega (arith, ints, h, less)) (omega (arith, ints, h, less))

pub half_ceil_toward_below : (n u p : ℕ) → p < u → p ≤ u - p → IsRounded HalfCeil u (with_sign true (n * u + p)) (with_sign true (n * u))
half_ceil_toward_below n u p h most = half_ceil_at _ _ (with_sign true n) u (signed true n u) (omega (arith, ints, h, most)) (omega (arith, ints, h, most))

pub half_even_away :
    (sign : Bool) (n u p : ℕ) → p < u → u - p ≤ p → (u - p ≡ p → n % 2 ≡ 1)
    → IsRounded HalfEven u (with_sign sign (n * u + p)) (with_sign sign ((n + 1) * u))
half_even_away false n u p h most odd =
    half_even_at _ _ (with_sign false (n + 1)) u (signed false (n + 1) u) (omega (arith, ints, h, most)) (omega (arith, ints, h, most))
    (λ tied. let o = odd (omega (arith, ints, h, most, tied)) in omega (arith, ints, o))
half_even_away true n u p h most odd =
    half_even_at _ _ (with_sign true (n + 1)) u (signed true (n + 1) u) (omega (arith, ints, h, most)) (omega (arith, ints, h, most))
    (λ tied. let o = odd (omega (arith, ints, h, most, tied)) in omega (arith, ints, o))

pub half_even_toward :
    (sign : Bool) (n u p : ℕ) → p < u → p ≤ u - p → (u - p ≡ p → n % 2 ≡ 0)
    → IsRounded HalfEven u (with_sign sign (n * u + p)) (with_sign sign (n * u))
half_even_toward false n u p h most even =
    half_even_at _ _ (with_sign false n) u (signed false n u) (omega (arith, ints, h, most)) (omega (arith, ints, h, most))
    (λ tied. even (omega (arith, ints, h, most, tied)))
half_even_toward true n u p h most even =
    half_even_at _ _ (with_sign true n) u (signed true n u) (omega (arith, ints, h, most)) (omega (arith, ints, h, most))
    (λ tied. let e = even (omega (arith, ints, h, most, tied)) in omega (arith, ints, e))

-- a number has its sign and its magnitude
pub whole : (b : Bool) (v : ℤ) → (IsTrue b ↔ (v <ℤ pos 0)) → with_sign b (unsigned_abs v) ≡ v
whole true (pos n) h = absurd (omega (arith, ints, h.0 refl))
whole true (negsuc n) h = omega (arith, ints)
whole false (pos n) h = refl
whole false (negsuc n) h = absurd (false≢true (h.1 (omega (arith, ints))))

-- a duration, by its magnitude
pub rounds_duration :
    (mode : RoundingMode) (b : Bool) (m u r : ℕ) (v unit : ℤ) (res : Option ℤ) → (IsTrue b ↔ (v <ℤ pos 0)) → m ≡ unsigned_abs v → u ≡ unsigned_abs unit
    → IsRounded mode u (with_sign b m) (with_sign b r) → SomeIff res (IsDuration (with_sign b r)) (with_sign b r)
    → RoundsWithin IsDuration mode (unsigned_abs unit) v res
rounds_duration mode b m u r v unit res sign e f h value = record {
  to = with_sign b r;
  rounded =
      subst (λ (x : ℕ). IsRounded mode x v (with_sign b r)) f
      (subst (λ (x : ℤ). IsRounded mode u x (with_sign b r)) (ap (with_sign b) e ∙ whole b v sign) h);
  value = value;
}

-- the part of a number past its whole days
pub within_day : (d k : ℤ) (r : ℕ) → r < day → (pos 0 +ℤ d) ≡ k *ℤ pos day +ℤ pos r → r ≡ modulo_day d
within_day (pos n) (pos k) r h e = omega (arith, ints, h, e)
within_day (pos n) (negsuc k) r h e = absurd (omega (arith, ints, h, e))
within_day (negsuc n) (pos k) r h e = absurd (omega (arith, ints, h, e))
within_day (negsuc n) (negsuc k) r h e = omega (arith, ints, h, e)
