-- A text with numbers has the form of its items.
use Rattle.std.proofs.Common.{◌≡◌, ◌≢◌, ℕ, zero, suc, ◌+◌, ◌-◌, ◌<◌, ◌≤◌, ◌^◌, List, [], ◌∷◌, ◌++◌, length, take, drop, get_or, replicate, refl, sym, ap, ◌∙◌, arith, inl, inr, lit≤}
use Rattle.std.specs.Prelude.{Bool, true, false, IsTrue, decimal, codes, ◌==◌, ◌||◌, ◌&&◌, if◌then◌else◌}
use Rattle.std.proofs.lemmas.Bool.{cases_eq, cases_lt}
use Rattle.std.proofs.lemmas.List.{take_all}
use Rattle.std.proofs.lemmas.Fmt.{decimal_digit, first_decimal, decimal_nonempty, length-decimal-le}
use Rattle.cal_text.specs.Shape.{Shape, ByteRange, Branch, Digits, UpTo, Number, Sign, unmatched_bytes}
use Rattle.cal_text.proofs.Stops.{in_or_out, unmatched_bytes-in, unmatched_bytes-branch_in, unmatched_bytes-branch_out, unmatched_bytes-branch_end, unmatched_bytes-done}
use Rattle.cal_time.specs.declared.Month.{Month}
use Rattle.cal_time.specs.declared.Month.TheVariants.{January}
use Rattle.cal_time.specs.declared.Weekday.{Weekday}
use Rattle.cal_time.specs.declared.Weekday.TheVariants.{Monday}
use Rattle.cal_time.specs.Digits.{without_trailing_zeros, decimals}
use Rattle.cal_time.specs.Month as month
use Rattle.cal_time.specs.Month.{month_of_index}
use Rattle.cal_time.specs.Weekday as weekday
use Rattle.cal_time.specs.Weekday.{weekday_of_index}
use Rattle.cal_format.specs.declared.item.Item.{Item}
use Rattle.cal_format.specs.declared.item.Item.TheVariants as item
use Rattle.cal_format.specs.declared.item.Component.{Component}
use Rattle.cal_format.specs.declared.item.Name.{Name}
use Rattle.cal_format.specs.declared.item.Name.TheVariants as name
use Rattle.cal_format.specs.declared.item.Padding.{Padding}
use Rattle.cal_format.specs.declared.item.Padding.TheVariants as padding
use Rattle.cal_format.specs.Form.{AfterSpaces, Decimal, Padded, Decimals, MonthName, WeekdayName, TwoLetters, PeriodName, NameShape, ItemShape, shape_of, numbered_name, numbered_item, numbered_text, IsNumber, AreNumbers, HasNumbers}
use Rattle.cal_format.specs.Moment.{width, most_digits, width_of}
use Rattle.cal_format.specs.Names.{short_month, short_weekday}
use Rattle.cal_format.specs.Reading.{ends_before, are_apart}
use Rattle.cal_format.specs.Text.{padded, fraction_text}
use Rattle.cal_format.proofs.Apart.{both_tests, either_test, same_test, numbers-ended}
use Rattle.cal_format.proofs.Digits.{AreDigits-decimal, AreDigits-zeros, length-zeros, small-width, width-some, small-digits, digits-some}
use Rattle.cal_format.proofs.Ends.{AreDigits, BeginsApart, BeginsPastPoint, BeginsPastMinus, IsEnded}
use Rattle.cal_format.proofs.FormDecimals.{tail-last, one-high, more-after, none-last}
use Rattle.cal_format.proofs.Fractions.{AreDigits-decimals, decimals-present, decimals-last, decimals-many, fraction-none, fraction-some}
use Rattle.cal_time.specs.Laws.{length-decimals}

-- ---- digits
branch-apart : (low above : ℕ) (f g : Shape) (rest : List ℕ) → 48 ≤ low → low + above ≤ 57 → BeginsApart rest → unmatched_bytes (Branch low above f g) rest ≡ unmatched_bytes g rest
branch-apart low above f g [] least most out = unmatched_bytes-branch_end low above f g
branch-apart low above f g (x ∷ xs) least most (inl under) = unmatched_bytes-branch_out low above f g x xs (λ h. absurd (omega (arith, h.0, under, least)))
branch-apart low above f g (x ∷ xs) least most (inr over) = unmatched_bytes-branch_out low above f g x xs (λ h. absurd (omega (arith, h.1, over, most)))

digits-each : (k : ℕ) (f : Shape) (ds rest : List ℕ) → AreDigits ds → length ds ≡ k → unmatched_bytes (Digits k f) (ds ++ rest) ≡ unmatched_bytes f rest
digits-each zero f [] rest h long = refl
digits-each zero f (x ∷ xs) rest h long = absurd (omega (arith, long))
digits-each (suc k) f [] rest h long = absurd (omega (arith, long))
digits-each (suc k) f (x ∷ xs) rest h long =
    unmatched_bytes-in 48 9 (Digits k f) x (xs ++ rest) (h.0, omega (arith, h.1)) ∙ digits-each k f xs rest h.2 (omega (arith, long))

some-each : (m : ℕ) (f : Shape) (ds rest : List ℕ) → AreDigits ds → length ds ≤ m → BeginsApart rest → unmatched_bytes (UpTo m f) (ds ++ rest) ≡ unmatched_bytes f rest
some-each zero f [] rest h few out = refl
some-each zero f (x ∷ xs) rest h few out = absurd (omega (arith, few))
some-each (suc m) f [] rest h few out = branch-apart 48 9 (UpTo m f) f rest (lit≤ tt) (lit≤ tt) out
some-each (suc m) f (x ∷ xs) rest h few out =
    unmatched_bytes-branch_in 48 9 (UpTo m f) f x (xs ++ rest) (h.0, omega (arith, h.1)) ∙ some-each m f xs rest h.2 (omega (arith, few)) out

-- ---- a number without leading zeros
positive-each : (more : ℕ) (f : Shape) (ds rest : List ℕ) → AreDigits ds → 48 < get_or ds 0 0 → length ds ≤ more + 1 → BeginsApart rest
    → unmatched_bytes (Decimal more f) (ds ++ rest) ≡ unmatched_bytes f rest
positive-each more f [] rest h first few out = absurd (omega (arith, first))
positive-each more f (x ∷ xs) rest h first few out =
    unmatched_bytes-branch_out 48 0 f (Number more f) x (xs ++ rest) (λ z. absurd (omega (arith, z.1, first)))
    ∙ unmatched_bytes-in 49 8 (UpTo more f) x (xs ++ rest) (omega (arith, first), omega (arith, h.1)) ∙ some-each more f xs rest h.2 (omega (arith, few)) out

decimal-each : (w n : ℕ) (f : Shape) (rest : List ℕ) → 1 ≤ w → n < 10 ^ w → n < 2 ^ 64 → BeginsApart rest → unmatched_bytes (Decimal (w - 1) f) (decimal n ++ rest) ≡ unmatched_bytes f rest
decimal-each w zero f rest some low small out =
    ap (λ ds. unmatched_bytes (Decimal (w - 1) f) (ds ++ rest)) (decimal_digit 0 (omega arith)) ∙ unmatched_bytes-branch_in 48 0 f (Number (w - 1) f) 48 rest (lit≤ tt, lit≤ tt)
decimal-each w (suc k) f rest some low small out =
    positive-each (w - 1) f (decimal (suc k)) rest (AreDigits-decimal (suc k) small) (first_decimal (suc k) (omega arith) small) (omega (arith, length-decimal-le w (suc k) some low small, some)) out

-- ---- spaces and a number
spaces-each : (k j : ℕ) (f : Shape) (ds rest : List ℕ) → AreDigits ds → j + length ds ≡ k + 1 → 1 ≤ length ds → (2 ≤ length ds → 48 < get_or ds 0 0)
    → unmatched_bytes (AfterSpaces k f) ((replicate j 32 ++ ds) ++ rest) ≡ unmatched_bytes f rest
spaces-each zero zero f ds rest h long some first = digits-each 1 f ds rest h (omega (arith, long))
spaces-each zero (suc j) f ds rest h long some first = absurd (omega (arith, long, some))
spaces-each (suc k) zero f [] rest h long some first = absurd (omega (arith, some))
spaces-each (suc k) zero f (x ∷ xs) rest h long some first =
    let high : 48 < x = first (omega (arith, long)) in
    unmatched_bytes-branch_out 32 0 (AfterSpaces k f) (ByteRange 49 8 (Digits (suc k) f)) x (xs ++ rest) (λ z. absurd (omega (arith, z.1, high)))
    ∙ unmatched_bytes-in 49 8 (Digits (suc k) f) x (xs ++ rest) (omega (arith, high), omega (arith, h.1)) ∙ digits-each (suc k) f xs rest h.2 (omega (arith, long))
spaces-each (suc k) (suc j) f ds rest h long some first =
    unmatched_bytes-branch_in 32 0 (AfterSpaces k f) (ByteRange 49 8 (Digits (suc k) f)) 32 ((replicate j 32 ++ ds) ++ rest) (lit≤ tt, lit≤ tt)
    ∙ spaces-each k j f ds rest h (omega (arith, long)) some first

first-high : (n : ℕ) → n < 2 ^ 64 → 2 ≤ length (decimal n) → 48 < get_or (decimal n) 0 0
first-high zero small two = absurd (omega (arith, two, ap length (decimal_digit 0 (omega arith))))
first-high (suc k) small two = first_decimal (suc k) (omega arith) small

padded-each : (p : Padding) (w n : ℕ) (f : Shape) (rest : List ℕ) → 1 ≤ w → n < 10 ^ w → n < 2 ^ 64 → (p ≡ padding.None → BeginsApart rest)
    → unmatched_bytes (Padded p w f) (padded p w n ++ rest) ≡ unmatched_bytes f rest
padded-each padding.Zero w n f rest some low small out = digits-each w f (padded padding.Zero w n) rest (AreDigits-zeros w n small) (length-zeros w n some low small)
padded-each padding.Space w n f rest some low small out =
    spaces-each (w - 1) (w - length (decimal n)) f (decimal n) rest (AreDigits-decimal n small) (omega (arith, some, length-decimal-le w n some low small)) (decimal_nonempty n small) (first-high n small)
padded-each padding.None w n f rest some low small out = decimal-each w n f rest some low small (out refl)

-- ---- a fraction
high : (x : ℕ) → 48 ≤ x → x ≢ 48 → 49 ≤ x
high x low other = omega (arith, low, other)

decimals-each : (end : Bool) (more : ℕ) (f : Shape) (ds rest : List ℕ) → AreDigits ds → without_trailing_zeros ds ≡ ds → length ds ≤ more + 1 → (end ≡ false → 0 < length ds) → BeginsApart rest
    → unmatched_bytes (Decimals end more f) (ds ++ rest) ≡ unmatched_bytes f rest
decimals-each false more f [] rest h last few some out = absurd (omega (arith, some refl))
decimals-each true zero f [] rest h last few some out = branch-apart 49 8 f f rest (lit≤ tt) (lit≤ tt) out
decimals-each true (suc k) f [] rest h last few some out =
    branch-apart 49 8 (Decimals true k f) (Branch 48 0 (Decimals false k f) f) rest (lit≤ tt) (lit≤ tt) out ∙ branch-apart 48 0 (Decimals false k f) f rest (lit≤ tt) (lit≤ tt) out
decimals-each false zero f (x ∷ []) rest h last few some out = unmatched_bytes-in 49 8 f x rest (one-high x h.0 last, omega (arith, h.1))
decimals-each true zero f (x ∷ []) rest h last few some out = unmatched_bytes-branch_in 49 8 f f x rest (one-high x h.0 last, omega (arith, h.1))
decimals-each false zero f (x ∷ y ∷ ys) rest h last few some out = absurd (omega (arith, few))
decimals-each true zero f (x ∷ y ∷ ys) rest h last few some out = absurd (omega (arith, few))
decimals-each false (suc k) f (x ∷ xs) rest h last few some out =
    elim (cases_eq x 48) as (λ _. unmatched_bytes (Decimals false (suc k) f) (x ∷ (xs ++ rest)) ≡ unmatched_bytes f rest) [
      | inl zero_is ↦
          unmatched_bytes-branch_out 49 8 (Decimals true k f) (ByteRange 48 0 (Decimals false k f)) x (xs ++ rest) (λ z. absurd (omega (arith, z.0, zero_is)))
          ∙ unmatched_bytes-in 48 0 (Decimals false k f) x (xs ++ rest) (h.0, omega (arith, zero_is))
          ∙ decimals-each false k f xs rest h.2 (tail-last x xs last) (omega (arith, few)) (λ _. more-after x xs zero_is last) out
      | inr other ↦
          unmatched_bytes-branch_in 49 8 (Decimals true k f) (ByteRange 48 0 (Decimals false k f)) x (xs ++ rest) (high x h.0 other, omega (arith, h.1))
          ∙ decimals-each true k f xs rest h.2 (tail-last x xs last) (omega (arith, few)) (λ e. cc) out
    ]
decimals-each true (suc k) f (x ∷ xs) rest h last few some out =
    elim (cases_eq x 48) as (λ _. unmatched_bytes (Decimals true (suc k) f) (x ∷ (xs ++ rest)) ≡ unmatched_bytes f rest) [
      | inl zero_is ↦
          unmatched_bytes-branch_out 49 8 (Decimals true k f) (Branch 48 0 (Decimals false k f) f) x (xs ++ rest) (λ z. absurd (omega (arith, z.0, zero_is)))
          ∙ unmatched_bytes-branch_in 48 0 (Decimals false k f) f x (xs ++ rest) (h.0, omega (arith, zero_is))
          ∙ decimals-each false k f xs rest h.2 (tail-last x xs last) (omega (arith, few)) (λ _. more-after x xs zero_is last) out
      | inr other ↦
          unmatched_bytes-branch_in 49 8 (Decimals true k f) (Branch 48 0 (Decimals false k f) f) x (xs ++ rest) (high x h.0 other, omega (arith, h.1))
          ∙ decimals-each true k f xs rest h.2 (tail-last x xs last) (omega (arith, few)) (λ e. cc) out
    ]

no-point : (g f : Shape) (r : List ℕ) → BeginsPastPoint r → unmatched_bytes (Branch 46 0 g f) r ≡ unmatched_bytes f r
no-point g f [] p = unmatched_bytes-branch_end 46 0 g f
no-point g f (x ∷ xs) p = unmatched_bytes-branch_out 46 0 g f x xs (λ z. p (omega (arith, z.0, z.1)))

fraction-each : (n : ℕ) (f : Shape) (rest : List ℕ) → n < 1_000_000_000 → BeginsApart rest → BeginsPastPoint rest
    → unmatched_bytes (Branch 46 0 (Decimals false 8 f) f) (fraction_text n ++ rest) ≡ unmatched_bytes f rest
fraction-each n f rest low out past = elim (cases_lt 0 n) as (λ _. unmatched_bytes (Branch 46 0 (Decimals false 8 f) f) (fraction_text n ++ rest) ≡ unmatched_bytes f rest) [
  | inl some ↦
      ap (λ l. unmatched_bytes (Branch 46 0 (Decimals false 8 f) f) (l ++ rest)) (fraction-some n some)
      ∙ unmatched_bytes-branch_in 46 0 (Decimals false 8 f) f 46 (decimals n ++ rest) (lit≤ tt, lit≤ tt)
      ∙ decimals-each false 8 f (decimals n) rest (AreDigits-decimals n low) (decimals-last n some) (length-decimals n) (λ _. decimals-present n) out
  | inr none ↦ (let e : n ≡ 0 = omega arith in ap (λ l. unmatched_bytes (Branch 46 0 (Decimals false 8 f) f) (l ++ rest)) (fraction-none n e) ∙ no-point (Decimals false 8 f) f rest past)
]

-- The decimals of a fraction are a first digit and digits of which the last isn't 0.
first-each : (f : Shape) (ds rest : List ℕ) → AreDigits ds → 0 < length ds → length ds ≤ 9 → (1 < length ds → without_trailing_zeros ds ≡ ds) → BeginsApart rest
    → unmatched_bytes (ByteRange 48 9 (Decimals true 7 f)) (ds ++ rest) ≡ unmatched_bytes f rest
first-each f [] rest h some few last out = absurd (omega (arith, some))
first-each f (x ∷ []) rest h some few last out = unmatched_bytes-in 48 9 (Decimals true 7 f) x rest (h.0, omega (arith, h.1)) ∙ decimals-each true 7 f [] rest tt none-last (omega arith) (λ e. cc) out
first-each f (x ∷ y ∷ ys) rest h some few last out =
    unmatched_bytes-in 48 9 (Decimals true 7 f) x ((y ∷ ys) ++ rest) (h.0, omega (arith, h.1))
    ∙ decimals-each true 7 f (y ∷ ys) rest h.2 (tail-last x (y ∷ ys) (last (omega arith))) (omega (arith, few)) (λ e. cc) out

some_decimals-each : (n : ℕ) (f : Shape) (rest : List ℕ) → n < 1_000_000_000 → BeginsApart rest → unmatched_bytes (ByteRange 48 9 (Decimals true 7 f)) (decimals n ++ rest) ≡ unmatched_bytes f rest
some_decimals-each n f rest low out = first-each f (decimals n) rest (AreDigits-decimals n low) (decimals-present n) (length-decimals n) (decimals-many n) out

-- ---- names
month-each : (m : Month) (f : Shape) (rest : List ℕ) → unmatched_bytes (MonthName true f) (month.name m ++ rest) ≡ unmatched_bytes f rest
unfolding unmatched_bytes MonthName
month-each January f rest = refl
month-each _ f rest = refl

pub short_month-each : (m : Month) (f : Shape) (rest : List ℕ) → unmatched_bytes (MonthName false f) (short_month m ++ rest) ≡ unmatched_bytes f rest
unfolding unmatched_bytes MonthName
short_month-each January f rest = refl
short_month-each _ f rest = refl

weekday-each : (w : Weekday) (f : Shape) (rest : List ℕ) → unmatched_bytes (WeekdayName true f) (weekday.name w ++ rest) ≡ unmatched_bytes f rest
unfolding unmatched_bytes WeekdayName
weekday-each Monday f rest = refl
weekday-each _ f rest = refl

short_weekday-each : (w : Weekday) (f : Shape) (rest : List ℕ) → unmatched_bytes (WeekdayName false f) (short_weekday w ++ rest) ≡ unmatched_bytes f rest
unfolding unmatched_bytes WeekdayName
short_weekday-each Monday f rest = refl
short_weekday-each _ f rest = refl

period-each : (b : Bool) (f : Shape) (rest : List ℕ) → unmatched_bytes (PeriodName true f) ((if b then codes "AM" else codes "PM") ++ rest) ≡ unmatched_bytes f rest
unfolding unmatched_bytes PeriodName
period-each true f rest = refl
period-each false f rest = refl

lower_period-each : (b : Bool) (f : Shape) (rest : List ℕ) → unmatched_bytes (PeriodName false f) ((if b then codes "am" else codes "pm") ++ rest) ≡ unmatched_bytes f rest
unfolding unmatched_bytes PeriodName
lower_period-each true f rest = refl
lower_period-each false f rest = refl

-- Two letters at the front of a text.
pub letters-front : (a b last : ℕ) (f : Shape) (text : List ℕ) → 2 ≤ length text → IsTrue (((get_or text 0 0 == b) || (get_or text 0 0 == a)) && (get_or text 1 0 == last))
    → unmatched_bytes (TwoLetters a b last f) text ≡ unmatched_bytes f (take (length text - 2) (drop 2 text))
letters-front a b last f [] some h = absurd (omega (arith, some))
letters-front a b last f (x ∷ []) some h = absurd (omega (arith, some))
letters-front a b last f (x ∷ y ∷ rest) some h =
    let both = both_tests ((x == b) || (x == a)) (y == last) h in
    let end : unmatched_bytes (ByteRange last 0 f) (y ∷ rest) ≡ unmatched_bytes f rest = unmatched_bytes-in last 0 f y rest (omega (arith, same_test y last both.1), omega (arith, same_test y last both.1)) in
    let last_is = λ (e : unmatched_bytes (TwoLetters a b last f) (x ∷ y ∷ rest) ≡ unmatched_bytes (ByteRange last 0 f) (y ∷ rest)). e ∙ end ∙ ap (unmatched_bytes f) (sym (take_all (length (x ∷ y ∷ rest) - 2) rest (omega arith))) in
    elim (in_or_out a 0 x) as (λ _. unmatched_bytes (TwoLetters a b last f) (x ∷ y ∷ rest) ≡ unmatched_bytes f (take (length (x ∷ y ∷ rest) - 2) rest)) [
      | inl here ↦ last_is (unmatched_bytes-branch_in a 0 (ByteRange last 0 f) (ByteRange b 0 (ByteRange last 0 f)) x (y ∷ rest) here)
      | inr out ↦
          let second : x ≡ b = elim (either_test (x == b) (x == a) both.0) as (λ _. x ≡ b) [ inl e ↦ same_test x b e | inr e ↦ absurd (out (omega (arith, same_test x a e), omega (arith, same_test x a e))) ] in
          last_is (unmatched_bytes-branch_out a 0 (ByteRange last 0 f) (ByteRange b 0 (ByteRange last 0 f)) x (y ∷ rest) out ∙ unmatched_bytes-in b 0 (ByteRange last 0 f) x (y ∷ rest) (omega (arith, second), omega (arith, second)))
    ]

sign-each : (b : Bool) (f : Shape) (rest : List ℕ) → unmatched_bytes (Sign f) ((if b then codes "-" else codes "+") ++ rest) ≡ unmatched_bytes f rest
unfolding unmatched_bytes
sign-each true f rest = refl
sign-each false f rest = refl

minus-each : (b : Bool) (f : Shape) (rest : List ℕ) → BeginsPastMinus rest → unmatched_bytes (Branch 45 0 f f) ((if b then codes "-" else []) ++ rest) ≡ unmatched_bytes f rest
minus-each true f rest past = unmatched_bytes-branch_in 45 0 f f 45 rest (lit≤ tt, lit≤ tt)
minus-each false f [] past = unmatched_bytes-branch_end 45 0 f f
minus-each false f (x ∷ xs) past = unmatched_bytes-branch_out 45 0 f f x xs (λ z. past (omega (arith, z.0, z.1)))

name-each : (k : Name) (n : ℕ) (f : Shape) (rest : List ℕ) → unmatched_bytes (NameShape k f) (numbered_name k n ++ rest) ≡ unmatched_bytes f rest
name-each name.Month n f rest = month-each (month_of_index (n - 1)) f rest
name-each name.MonthAlone n f rest = month-each (month_of_index (n - 1)) f rest
name-each name.ShortMonth n f rest = short_month-each (month_of_index (n - 1)) f rest
name-each name.Weekday n f rest = weekday-each (weekday_of_index (n - 1)) f rest
name-each name.ShortWeekday n f rest = short_weekday-each (weekday_of_index (n - 1)) f rest
name-each name.Period n f rest = period-each (n == 0) f rest
name-each name.LowerPeriod n f rest = lower_period-each (n == 0) f rest

-- ---- items
number-each : (c : Component) (p : Padding) (n : ℕ) (f : Shape) (rest : List ℕ) → n < 10 ^ width_of p c → IsEnded (item.Number c p) rest → unmatched_bytes (Padded p (width_of p c) f) (padded p (width c) n ++ rest) ≡ unmatched_bytes f rest
number-each c padding.Zero n f rest h ended = padded-each padding.Zero (width c) n f rest (width-some c) h (omega (arith, h, small-width c)) (λ e. cc)
number-each c padding.Space n f rest h ended = padded-each padding.Space (width c) n f rest (width-some c) h (omega (arith, h, small-width c)) (λ e. cc)
number-each c padding.None n f rest h ended = padded-each padding.None (most_digits c) n f rest (digits-some c) h (omega (arith, h, small-digits c)) (λ e. ended)

signed-ended : (c : Component) (p : Padding) (rest : List ℕ) → IsEnded (item.Signed c p) rest → IsEnded (item.Number c p) rest
signed-ended c padding.None rest ended = ended
signed-ended c _ rest ended = tt

pub item-each : (i : Item) (n : ℕ) (f : Shape) (rest : List ℕ) → IsNumber i n → IsEnded i rest → unmatched_bytes (ItemShape i f) (numbered_item i n ++ rest) ≡ unmatched_bytes f rest
item-each (item.Literal b) n f rest h ended = unmatched_bytes-in b 0 f b rest (omega arith, omega arith)
item-each (item.Number c p) n f rest h ended = number-each c p n f rest h ended
item-each (item.Signed c p) n f rest h ended = unmatched_bytes-in 43 0 (Padded p (width_of p c) f) 43 (padded p (width c) n ++ rest) (omega arith, omega arith) ∙ number-each c p n f rest h (signed-ended c p rest ended)
item-each (item.Name k) n f rest h ended = name-each k n f rest
item-each item.Fraction n f rest h ended = fraction-each n f rest h ended.0 ended.1
item-each item.Decimals n f rest h ended = some_decimals-each n f rest h ended
item-each item.Abbreviation n f rest h ended = refl
item-each item.OffsetSign n f rest h ended = sign-each (n == 1) f rest
item-each item.OffsetMinus n f rest h ended = minus-each (n == 1) f rest ended
item-each item.TimestampSign n f rest h ended = sign-each (n == 1) f rest
item-each item.TimestampMinus n f rest h ended = minus-each (n == 1) f rest ended

items-each : (items : List Item) (numbers : List ℕ) → AreNumbers items numbers → IsTrue (are_apart items) → unmatched_bytes (shape_of items) (numbered_text items numbers) ≡ 0
items-each [] numbers fit apart = unmatched_bytes-done
items-each (i ∷ items) [] fit apart = absurd fit
items-each (i ∷ items) (n ∷ numbers) fit apart =
    let both = both_tests (ends_before i items) (are_apart items) apart in
    item-each i n (shape_of items) (numbered_text items numbers) fit.0 (numbers-ended i items numbers both.0 fit.1) ∙ items-each items numbers fit.1 both.1

pub has-form : (items : List Item) (numbers text : List ℕ) → IsTrue (are_apart items) → HasNumbers items numbers text → unmatched_bytes (shape_of items) text ≡ 0
has-form items numbers text apart h = ap (unmatched_bytes (shape_of items)) h.text_is ∙ items-each items numbers h.fit apart
