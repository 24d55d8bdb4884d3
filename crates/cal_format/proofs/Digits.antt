-- The digits of numbers, printed and read.
use Rattle.std.proofs.Common.{◌≡◌, ℕ, zero, suc, ◌+◌, ◌-◌, ◌*◌, ◌/◌, ◌%◌, ◌<◌, ◌≤◌, ◌^◌, List, [], ◌∷◌, ◌++◌, length, take, replicate, refl, ap, ◌∙◌, arith, lit≤, length-append}
use Rattle.std.specs.Prelude.{decimal, fold}
use Rattle.std.proofs.lemmas.Fmt.{decimal_by_steps, length-decimal-le}
use Rattle.std.proofs.lemmas.List.{length-replicate, take-replicate}
use Rattle.std.proofs.lemmas.List.Sums.{fold-append}
use Rattle.cal_time.specs.Laws.{digits_at_least-two, digits_at_least-four, length-decimals}
use Rattle.cal_units.proofs.Digits.{digits_at_least-three, decimal-one, decimal-two}
use Rattle.cal_format.specs.declared.item.Padding.{Padding}
use Rattle.cal_format.specs.declared.item.Padding.TheVariants as padding
use Rattle.cal_format.specs.declared.item.Component.{Component}
use Rattle.cal_format.specs.declared.item.Component.TheVariants.{Year}
use Rattle.cal_format.specs.Moment.{width, most_digits, width_of}
use Rattle.cal_format.specs.Text.{padded}
use Rattle.cal_format.proofs.Ends.{AreDigits}

pub ruleset digits = (digits_at_least-two, digits_at_least-three, digits_at_least-four)

pub ruleset short_numbers = (decimal-one, decimal-two)

-- ---- the number that digits spell
-- A digit after a number. A space counts as 0.
abbrev pub step : ℕ → ℕ → ℕ
step n b = n * 10 + b % 16

pub step-digit : (n m : ℕ) → m ≡ n / 10 → step m (48 + n % 10) ≡ n
step-digit n m e = omega arith

pub step-one : (n : ℕ) → n < 10 → step 0 (48 + n) ≡ n
step-one n low = omega arith

value-more : (n : ℕ) (ds : List ℕ) → 10 ≤ n → fold step 0 ds ≡ n / 10 → fold step 0 (ds ++ (48 + n % 10) ∷ []) ≡ n
value-more n ds low h = fold-append step 0 ds ((48 + n % 10) ∷ []) ∙ step-digit n (fold step 0 ds) h

pub value-decimal : (n : ℕ) → n < 2 ^ 64 → fold step 0 (decimal n) ≡ n
value-decimal n small = decimal_by_steps (λ k ds. fold step 0 ds ≡ k) step-one value-more n small

value-fill : (k b : ℕ) (ds : List ℕ) → b % 16 ≡ 0 → fold step 0 (replicate k b ++ ds) ≡ fold step 0 ds
value-fill zero b ds e = refl
value-fill (suc k) b ds e = let same : step 0 b ≡ 0 = omega (arith, e) in ap (λ a. fold step a (replicate k b ++ ds)) same ∙ value-fill k b ds e

-- Digits that spell the same number are the same.
pub digits-one : (a b : ℕ) (ds es : List ℕ) → length ds ≡ length es → AreDigits ds → AreDigits es → fold step a ds ≡ fold step b es → (a ≡ b) × (ds ≡ es)
digits-one a b [] [] long h k e = (e, refl)
digits-one a b [] (y ∷ ys) long h k e = absurd (omega (arith, long))
digits-one a b (x ∷ xs) [] long h k e = absurd (omega (arith, long))
digits-one a b (x ∷ xs) (y ∷ ys) long h k e =
    let found = digits-one (step a x) (step b y) xs ys (omega (arith, long)) h.2 k.2 e in
    let first : x ≡ y = omega (arith, found.0, h.0, h.1, k.0, k.1) in
    (omega (arith, found.0, first), λ i. first i ∷ found.1 i)

pub value-padded : (p : Padding) (w n : ℕ) → n < 2 ^ 64 → fold step 0 (padded p w n) ≡ n
value-padded padding.Zero w n small = value-fill (w - length (decimal n)) 48 (decimal n) refl ∙ value-decimal n small
value-padded padding.Space w n small = value-fill (w - length (decimal n)) 32 (decimal n) refl ∙ value-decimal n small
value-padded padding.None w n small = value-decimal n small

-- ---- how many digits there are
pub small-width : (c : Component) → 10 ^ width c ≤ 1_000_000_000
small-width Year = lit≤ tt
small-width _ = lit≤ tt

pub small-digits : (c : Component) → 10 ^ most_digits c ≤ 100_000_000_000_000
small-digits Year = lit≤ tt
small-digits _ = lit≤ tt

pub digits-some : (c : Component) → 1 ≤ most_digits c
digits-some Year = lit≤ tt
digits-some _ = lit≤ tt

-- A number with padding has no more digits than one without.
width-up : (c : Component) → 10 ^ width c ≤ 10 ^ most_digits c
width-up Year = lit≤ tt
width-up _ = lit≤ tt

pub fits-most : (p : Padding) (c : Component) (n : ℕ) → n < 10 ^ width_of p c → n < 10 ^ most_digits c
fits-most padding.None c n low = low
fits-most padding.Zero c n low = omega (arith, low, width-up c)
fits-most padding.Space c n low = omega (arith, low, width-up c)

pub fits-width : (p : Padding) (c : Component) (n : ℕ) → n < 10 ^ width c → n < 10 ^ width_of p c
fits-width padding.None c n low = omega (arith, low, width-up c)
fits-width padding.Zero c n low = low
fits-width padding.Space c n low = low

pub width-some : (c : Component) → 1 ≤ width c
width-some Year = lit≤ tt
width-some _ = lit≤ tt

pub width-most : (c : Component) → width c ≤ 9
width-most Year = lit≤ tt
width-most _ = lit≤ tt

pub length-zeros : (w n : ℕ) → 1 ≤ w → n < 10 ^ w → n < 2 ^ 64 → length (padded padding.Zero w n) ≡ w
length-zeros w n some low small =
    let short = length-decimal-le w n some low small in
    omega (arith, length-append (replicate (w - length (decimal n)) 48) (decimal n), length-replicate {A = ℕ} (w - length (decimal n)) 48, short)

AreDigits-more : (ds : List ℕ) (d : ℕ) → AreDigits ds → 48 ≤ d → d ≤ 57 → AreDigits (ds ++ d ∷ [])
AreDigits-more [] d h low high = (low, high, tt)
AreDigits-more (x ∷ ds) d h low high = (h.0, h.1, AreDigits-more ds d h.2 low high)

pub AreDigits-decimal : (n : ℕ) → n < 2 ^ 64 → AreDigits (decimal n)
AreDigits-decimal n small =
    decimal_by_steps (λ k ds. AreDigits ds) (λ k low. (omega arith, omega arith, tt)) (λ k ds low h. AreDigits-more ds (48 + k % 10) h (omega arith) (omega arith)) n small

zeros-before : (k : ℕ) (ds : List ℕ) → AreDigits ds → AreDigits (replicate k 48 ++ ds)
zeros-before zero ds h = h
zeros-before (suc k) ds h = (lit≤ tt, lit≤ tt, zeros-before k ds h)

pub AreDigits-zeros : (w n : ℕ) → n < 2 ^ 64 → AreDigits (padded padding.Zero w n)
AreDigits-zeros w n small = zeros-before (w - length (decimal n)) (decimal n) (AreDigits-decimal n small)

pub short-decimal : (n : ℕ) → n < 2 ^ 64 → length (decimal n) ≤ 20
short-decimal n small = length-decimal-le 20 n (omega arith) (omega arith) small

pub fill-is : (b k : ℕ) → k ≤ 9 → take k (replicate 9 b) ≡ replicate k b
fill-is b k h = take-replicate k 9 b h

pub ruleset short_decimals = (short-decimal)

pub ruleset fills = (fill-is)

pub ruleset short_fractions = (length-decimals)
