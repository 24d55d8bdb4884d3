-- Scanning the form of a text.
use Rattle.std.proofs.Common.{◌≡◌, ◌≢◌, ℕ, zero, suc, ◌+◌, ◌-◌, ◌*◌, ◌<◌, ◌≤◌, ◌^◌, List, [], ◌∷◌, ◌++◌, length, replicate, refl, sym, ap, subst, ◌∙◌, arith, length-append, lit<}
use Rattle.std.specs.Prelude.{decimal, Option, Some, None, IfSome}
use Rattle.std.proofs.Math.Nat.{pow-le-pow_right}
use Rattle.std.proofs.lemmas.Fmt.{length-decimal-le, decimal_digit}
use Rattle.cal_text.specs.Shape.{Shape, ByteRange, Branch, Digits, unmatched_bytes, Scans, ParsesDigits, ParsesMoreDigits}
use Rattle.cal_text.proofs.NumberShapes.{put_number}
use Rattle.cal_text.proofs.ReadDigits.{printed}
use Rattle.cal_time.specs.DateText.{digits_at_least}
use Rattle.cal_format.specs.declared.item.Padding.TheVariants as padding
use Rattle.cal_format.specs.Text.{padded}
use Rattle.cal_format.specs.Form.{AfterSpaces}

-- ---- steps of a scan
pub carried : {V : Type 0} (P Q : Shape → Shape) (old mid new : List ℕ) (r : Option V) → ((f : Shape) → unmatched_bytes (P f) old ≡ unmatched_bytes (Q f) mid) → Scans Q mid new r → Scans P old new r
carried P Q old mid new None e h = λ f. e f ∙ h f
carried P Q old mid new (Some v) e h = λ f. e f ∙ h f

pub digits-past : (k : ℕ) (f : Shape) (old mid : List ℕ) → k ≢ 0 → ((g : Shape) → unmatched_bytes (Digits 1 g) old ≡ unmatched_bytes g mid)
    → unmatched_bytes (Digits k f) old ≡ unmatched_bytes (Digits (k - 1) f) mid
digits-past zero f old mid some first = absurd (some refl)
digits-past (suc k) f old mid some first =
    let same : suc k - 1 ≡ k = omega arith in
    first (Digits k f) ∙ ap (λ n. unmatched_bytes (Digits n f) mid) (sym same)

pub digits-stop : (k r : ℕ) (f : Shape) (old : List ℕ) → k ≢ 0 → ((g : Shape) → unmatched_bytes (Digits 1 g) old ≡ r) → unmatched_bytes (Digits k f) old ≡ r
digits-stop zero r f old some first = absurd (some refl)
digits-stop (suc k) r f old some first = first (Digits k f)

pub spaces-past : (k : ℕ) (f : Shape) (old mid : List ℕ) → k ≢ 0 → ((g h : Shape) → unmatched_bytes (Branch 32 0 g h) old ≡ unmatched_bytes g mid)
    → unmatched_bytes (AfterSpaces k f) old ≡ unmatched_bytes (AfterSpaces (k - 1) f) mid
spaces-past zero f old mid some first = absurd (some refl)
spaces-past (suc k) f old mid some first =
    let same : suc k - 1 ≡ k = omega arith in
    first (AfterSpaces k f) (ByteRange 49 8 (Digits (suc k) f)) ∙ ap (λ n. unmatched_bytes (AfterSpaces n f) mid) (sym same)

pub spaces-none : (k : ℕ) (f : Shape) (old mid : List ℕ) → k ≢ 0 → ((g h : Shape) → unmatched_bytes (Branch 32 0 g h) old ≡ unmatched_bytes h mid)
    → unmatched_bytes (AfterSpaces k f) old ≡ unmatched_bytes (ByteRange 49 8 (Digits k f)) mid
spaces-none zero f old mid some first = absurd (some refl)
spaces-none (suc k) f old mid some first = first (AfterSpaces k f) (ByteRange 49 8 (Digits (suc k) f))

-- ---- numbers
pub few-digits : (d more : ℕ) → more ≤ 8 → d < 10 → (d + 1) * 10 ^ more ≤ 10 ^ 9
few-digits d more few low =
    let up : 10 ^ more ≤ 10 ^ 8 = pow-le-pow_right (lit< tt) few in
    omega (arith, up, low, digits-room (10 ^ more) d up low)
  where
    digits-room : (p e : ℕ) → p ≤ 100_000_000 → e < 10 → (e + 1) * p ≤ 1_000_000_000
    digits-room p e small below = grind (arith)

pub counted : (w n : ℕ) (old new : List ℕ) → 1 ≤ w → w ≤ 9 → ParsesMoreDigits old new w 0 n → length old ≡ w + length new → (n < 10 ^ w) × (old ≡ digits_at_least w n ++ new)
counted w n old new some few h long =
    let is : ParsesDigits old new w n = record {
      digits = h.digits;
      all = h.all;
      count_is = omega (arith, long, ap length h.bytes_are, length-append h.digits new);
      value = h.value;
      bytes_are = h.bytes_are;
    } in
    printed old new w n some few is

-- A digit, or spaces and a number.
one-digit : (d : ℕ) (old new : List ℕ) → d < 10 → old ≡ (48 + d) ∷ new → old ≡ padded padding.Space 1 d ++ new
one-digit d old new low e =
    let one : decimal d ≡ (48 + d) ∷ [] = decimal_digit d low in
    let none : 1 - length (decimal d) ≡ 0 = omega (arith, ap length one) in
    e ∙ ap (λ ds. ds ++ new) (sym one) ∙ ap (λ k. (replicate k 32 ++ decimal d) ++ new) (sym none)

pub one-space : (k d : ℕ) (old new : List ℕ) → k ≡ 0 → d < 10 → old ≡ (48 + d) ∷ new → old ≡ padded padding.Space (k + 1) d ++ new
one-space k d old new none low e =
    let one : 1 ≡ k + 1 = omega (arith, none) in
    subst (λ w. old ≡ padded padding.Space w d ++ new) one (one-digit d old new low e)

pub more-space : (k n : ℕ) (old mid new : List ℕ) → k ≢ 0 → k ≤ 8 → n < 10 ^ (k - 1 + 1) → old ≡ 32 ∷ mid → mid ≡ padded padding.Space (k - 1 + 1) n ++ new
    → (n < 10 ^ (k + 1)) × (old ≡ padded padding.Space (k + 1) n ++ new)
more-space k n old mid new some few low e f =
    let same : k - 1 + 1 ≡ k = omega arith in
    let below : n < 10 ^ k = subst (λ j. n < 10 ^ j) same low in
    let up : k ≤ k + 1 = omega arith in
    let power : 10 ^ k ≤ 10 ^ (k + 1) = pow-le-pow_right (lit< tt) up in
    let most : 10 ^ k ≤ 10 ^ 8 = pow-le-pow_right (lit< tt) few in
    let short = length-decimal-le k n (omega arith) below (omega (arith, below, most)) in
    let fill : k + 1 - length (decimal n) ≡ suc (k - length (decimal n)) = omega (arith, short) in
    (omega (arith, below, power), e ∙ ap (λ l. 32 ∷ l) f ∙ ap (λ j. 32 ∷ (padded padding.Space j n ++ new)) same ∙ ap (λ j. (replicate j 32 ++ decimal n) ++ new) (sym fill))

pub full-space : (k d n : ℕ) (old mid new : List ℕ) → k ≤ 8 → (1 ≤ d) × (d < 10) × (old ≡ (48 + d) ∷ mid) → ParsesMoreDigits mid new k d n → length mid ≡ k + length new
    → (n < 10 ^ (k + 1)) × (old ≡ padded padding.Space (k + 1) n ++ new)
full-space k d n old mid new few first h long =
    let is = put_number k d n old mid new (omega arith) first h in
    let none : k + 1 - length (decimal n) ≡ 0 = omega (arith, long, ap length first.2, ap length is.2, length-append (decimal n) new) in
    (is.1, is.2 ∙ ap (λ j. (replicate j 32 ++ decimal n) ++ new) (sym none))

-- ---- what an option holds
pub mapped : {V : Type 0} (P Q : V → Type 0) (r : Option V) → ((v : V) → P v → Q v) → IfSome r P → IfSome r Q
mapped P Q None f h = tt
mapped P Q (Some v) f h = f v h

pub mapped_both : {V : Type 0} (P Q R : V → Type 0) (r : Option V) → ((v : V) → P v → Q v → R v) → IfSome r P → IfSome r Q → IfSome r R
mapped_both P Q R None f h k = tt
mapped_both P Q R (Some v) f h k = f v h k

pub power-some : (k : ℕ) → 0 < 10 ^ k
power-some k =
    let low : 0 ≤ k = omega arith in
    let one : 10 ^ 0 ≤ 10 ^ k = pow-le-pow_right (lit< tt) low in
    omega (arith, one)
