-- The numbers of variants that are scanned.
use Rattle.std.proofs.Common.{◌≡◌, ◌⊎◌, ℕ, zero, suc, ◌+◌, ◌-◌, ◌*◌, ◌<◌, ◌≤◌, ◌^◌, List, [], ◌∷◌, ◌++◌, length, take, drop, replicate, get_or, refl, sym, ap, subst, ◌∙◌, arith, length-append, inl, inr}
use Rattle.std.specs.Prelude.{Bool, true, false, IsTrue, IsSome, Option, Some, None, ◌==◌, ◌&&◌, not, if◌then◌else◌}
use Rattle.std.specs.Char.{digit_value}
use Rattle.std.specs.Str.Parse.{AllDigits, digits_value_after}
use Rattle.std.proofs.lemmas.Bool.{cases_lt}
use Rattle.std.proofs.lemmas.Bool.Decides.{nat_tests}
use Rattle.std.proofs.lemmas.List.{take_all, append_assoc}
use Rattle.std.proofs.lemmas.Str.Parse.{digit_from_value}
use Rattle.cal_text.specs.Shape.{Shape, End, Byte, Digits, unmatched_bytes, ScansWhole, GoesPast, ParsesMoreDigits}
use Rattle.cal_text.proofs.ReadDigits.{value-of}
use Rattle.cal_text.proofs.Stops.{unmatched_bytes-in, unmatched_bytes-done}
use Rattle.cal_time.specs.declared.Month.{Month}
use Rattle.cal_time.specs.declared.Month.TheVariants.{January}
use Rattle.cal_time.specs.declared.Weekday.{Weekday}
use Rattle.cal_time.specs.declared.Weekday.TheVariants.{Monday}
use Rattle.cal_time.specs.Month as month
use Rattle.cal_time.specs.Month.{month_of_index}
use Rattle.cal_time.specs.MonthCycle.{index-month_of_index}
use Rattle.cal_time.specs.Weekday as weekday
use Rattle.cal_time.specs.Weekday.{weekday_of_index}
use Rattle.cal_time.specs.WeekdayCycle.{index-weekday_of_index}
use Rattle.cal_format.specs.declared.item.Component.{Component}
use Rattle.cal_format.specs.declared.item.Item.{Item}
use Rattle.cal_format.specs.declared.item.Item.TheVariants as item
use Rattle.cal_format.specs.declared.item.Name.{Name}
use Rattle.cal_format.specs.declared.item.Name.TheVariants as name
use Rattle.cal_format.specs.declared.item.Padding.{Padding}
use Rattle.cal_format.specs.declared.item.Padding.TheVariants as padding
use Rattle.cal_format.specs.Description.{is_space, spaces}
use Rattle.cal_format.specs.Form.{Word, ItemShape, numbered_name, numbered_item, IsNameNumber, IsNumber}
use Rattle.cal_format.specs.Lenient.{ends_leniently, are_leniently_apart, IsOut, IsNumberEnded, IsLenientlyEnded}
use Rattle.cal_format.specs.Moment.{width, width_of}
use Rattle.cal_format.specs.Text.{padded}
use Rattle.cal_format.specs.Variants.{is_letter, same_letters, is_name, all_letters, letters, least_name, most_name, all_spaces, is_white, is_free, is_exact, IsLiteralVariant, IsNumberVariant, IsNumberText, IsVariant, HasVariants}
use Rattle.cal_format.proofs.Apart.{either_test, both_tests, first_of, others_of}
use Rattle.cal_format.proofs.Ends.{BeginsApart, BeginsPastPoint, BeginsPastMinus, IsEnded}
use Rattle.cal_format.proofs.Shapes.{item-each}
use Rattle.cal_format.proofs.Uniques.{same-length, exact-split, item-number, month_by, weekday_by}
use Rattle.cal_format.proofs.Variant.{lowered, same-lower, items-ended}

-- ---- an item without variants
word-each : (word : List ℕ) → unmatched_bytes (Word word End) word ≡ 0
word-each [] = unmatched_bytes-done
word-each (x ∷ xs) = unmatched_bytes-in x 0 (Word xs End) x xs (omega arith, omega arith) ∙ word-each xs

pub never-stops : (i : Item) (m k : ℕ) (old rest : List ℕ) (P : Type 0) → IsNumber i m → IsEnded i rest → old ≡ numbered_item i m ++ rest → ((f : Shape) → unmatched_bytes (ItemShape i f) old ≡ suc k) → P
never-stops i m k old rest P fit ended e stop =
    let f = Word rest End in
    absurd (omega (arith, stop f, ap (unmatched_bytes (ItemShape i f)) e ∙ item-each i m f rest fit ended ∙ word-each rest))

pub same-scan : (i : Item) (n m : ℕ) (old new rest : List ℕ) → IsNumber i n → IsNumber i m → IsEnded i rest → ((f : Shape) → unmatched_bytes (ItemShape i f) old ≡ unmatched_bytes f new)
    → old ≡ numbered_item i n ++ new → old ≡ numbered_item i m ++ rest → (n ≡ m) × (new ≡ rest)
same-scan i n m old new rest fit own ended scans e g =
    let long = same-length new rest (sym (scans End) ∙ ap (unmatched_bytes (ItemShape i End)) g ∙ item-each i m End rest own ended) in
    let found = exact-split (numbered_item i n) (numbered_item i m) new rest
    (omega (arith, long, ap length e, ap length g, length-append (numbered_item i n) new, length-append (numbered_item i m) rest)) (sym e ∙ g) in
    (item-number i n m fit own found.0, found.1)

out-apart : (text : List ℕ) → IsOut 10 48 text → BeginsApart text
out-apart [] h = tt
out-apart (x ∷ xs) (inl low) = inl low
out-apart (x ∷ xs) (inr high) = inr (omega (arith, high))

out-point : (text : List ℕ) → IsOut 1 46 text → BeginsPastPoint text
out-point [] h = tt
out-point (x ∷ xs) (inl low) = λ e. absurd (omega (arith, low, e))
out-point (x ∷ xs) (inr high) = λ e. absurd (omega (arith, high, e))

out-minus : (text : List ℕ) → IsOut 1 45 text → BeginsPastMinus text
out-minus [] h = tt
out-minus (x ∷ xs) (inl low) = λ e. absurd (omega (arith, low, e))
out-minus (x ∷ xs) (inr high) = λ e. absurd (omega (arith, high, e))

number-exact : (free : Bool) (c : Component) (p : Padding) (text : List ℕ) → IsTrue (not free) → IsNumberEnded free p text → IsEnded (item.Number c p) text
number-exact true c p text h k = cc
number-exact false c padding.None text h k = out-apart text k
number-exact false c _ text h k = tt

signed-exact : (c : Component) (p : Padding) (text : List ℕ) → IsNumberEnded false p text → IsEnded (item.Signed c p) text
signed-exact c padding.None text k = out-apart text k
signed-exact c _ text k = tt

pub exact-ended : (i : Item) (text : List ℕ) → IsTrue (is_exact i) → IsLenientlyEnded i text → IsEnded i text
exact-ended (item.Literal b) text h k = tt
exact-ended (item.Number c p) text h k = number-exact (is_free c) c p text h k
exact-ended (item.Signed c p) text h k = signed-exact c p text k
exact-ended (item.Name n) text h k = cc
exact-ended item.Fraction text h k = (out-apart text k.0, out-point text k.1)
exact-ended item.Decimals text h k = out-apart text k
exact-ended item.OffsetMinus text h k = out-minus text k
exact-ended item.TimestampMinus text h k = out-minus text k
exact-ended _ text h k = tt

-- ---- the bytes at the front that pass a test
pub front-take : (front rest : List ℕ) → take (length front) (front ++ rest) ≡ front
front-take [] rest = refl
front-take (x ∷ xs) rest = ap (λ l. x ∷ l) (front-take xs rest)

pub front-drop : (front rest : List ℕ) → drop (length front) (front ++ rest) ≡ rest
front-drop [] rest = refl
front-drop (x ∷ xs) rest = front-drop xs rest

no-letter : (x : ℕ) (xs : List ℕ) → IsOut 26 65 (x ∷ xs) → IsOut 26 97 (x ∷ xs) → is_letter x ≡ false
no-letter x xs h k = grind (arith, nat_tests, h, k)

pub letters-are : (front rest : List ℕ) → IsTrue (all_letters front) → IsOut 26 65 rest → IsOut 26 97 rest → letters (front ++ rest) ≡ length front
unfolding letters
letters-are [] [] h low high = refl
letters-are [] (y ∷ ys) h low high = ap (λ b. if b then letters ys + 1 else 0) (no-letter y ys low high)
letters-are (x ∷ xs) rest h low high =
    let both = both_tests (is_letter x) (all_letters xs) h in
    ap (λ b. if b then letters (xs ++ rest) + 1 else 0) both.0 ∙ omega (arith, letters-are xs rest both.1 low high)

no-space : (x : ℕ) (xs : List ℕ) → IsOut 5 9 (x ∷ xs) → IsOut 1 32 (x ∷ xs) → is_space x ≡ false
no-space x xs h k = grind (arith, nat_tests, h, k)

pub spaces-are : (front rest : List ℕ) → IsTrue (all_spaces front) → IsOut 5 9 rest → IsOut 1 32 rest → spaces (front ++ rest) ≡ length front
unfolding spaces
spaces-are [] [] h low high = refl
spaces-are [] (y ∷ ys) h low high = ap (λ b. if b then spaces ys + 1 else 0) (no-space y ys low high)
spaces-are (x ∷ xs) rest h low high =
    let both = both_tests (is_space x) (all_spaces xs) h in
    ap (λ b. if b then spaces (xs ++ rest) + 1 else 0) both.0 ∙ omega (arith, spaces-are xs rest both.1 low high)

first-space : (x : ℕ) (xs : List ℕ) (b : Bool) → is_space x ≡ b → IsTrue (all_spaces (take (spaces xs) xs)) → IsTrue (all_spaces (take (if b then spaces xs + 1 else 0) (x ∷ xs)))
first-space x xs false e h = refl
first-space x xs true e h =
    let one : spaces xs + 1 ≡ suc (spaces xs) = omega arith in
    subst (λ k. IsTrue (all_spaces (take k (x ∷ xs)))) (sym one) (subst (λ c. IsTrue (c && all_spaces (take (spaces xs) xs))) (sym e) h)

pub spaces-all : (text : List ℕ) → IsTrue (all_spaces (take (spaces text) text))
unfolding spaces
spaces-all [] = refl
spaces-all (x ∷ xs) = first-space x xs (is_space x) refl (spaces-all xs)

pub parted : (k : ℕ) (l : List ℕ) → k ≤ length l → l ≡ take k l ++ take (length l - k) (drop k l)
parted zero [] few = refl
parted zero (x ∷ xs) few = sym (take_all (length (x ∷ xs) - 0) (x ∷ xs) (omega arith))
parted (suc k) [] few = absurd (omega (arith, few))
parted (suc k) (x ∷ xs) few =
    let same : suc (length xs) - suc k ≡ length xs - k = omega arith in
    ap (λ r. x ∷ r) (parted k xs (omega (arith, few))) ∙ ap (λ j. x ∷ (take k xs ++ take j (drop k xs))) (sym same)

pub front-long : (k : ℕ) (l : List ℕ) → k ≤ length l → length (take k l) ≡ k
front-long zero l few = refl
front-long (suc k) [] few = absurd (omega (arith, few))
front-long (suc k) (x ∷ xs) few = ap (λ n. suc n) (front-long k xs (omega (arith, few)))

pub tail-is : (k : ℕ) (old front rest : List ℕ) → k ≡ length front → old ≡ front ++ rest → take (length old - k) (drop k old) ≡ rest
tail-is k old front rest e f =
    let same : drop k old ≡ rest = (λ i. drop (e i) (f i)) ∙ front-drop front rest in
    let long : length rest ≤ length old - k = omega (arith, ap length f, length-append front rest, e) in
    ap (take (length old - k)) same ∙ take_all (length old - k) rest long

pub head-is : (k : ℕ) (old front rest : List ℕ) → k ≡ length front → old ≡ front ++ rest → take k old ≡ front
head-is k old front rest e f = (λ i. take (e i) (f i)) ∙ front-take front rest

-- ---- a byte that isn't there
pub out-at : (k low x : ℕ) (xs rest : List ℕ) → IsOut k low rest → rest ≡ x ∷ xs → low ≤ x → x < low + k → ⊥
out-at k low x xs [] out e h l = absurd (omega (arith, ap length e))
out-at k low x xs (y ∷ ys) (inl under) e h l = absurd (omega (arith, under, ap (λ t. get_or t 0 0) e, h))
out-at k low x xs (y ∷ ys) (inr over) e h l = absurd (omega (arith, over, ap (λ t. get_or t 0 0) e, l))

byte-there : (b k : ℕ) (old xs : List ℕ) → old ≡ b ∷ xs → ((f : Shape) → unmatched_bytes (Byte b f) old ≡ suc k) → ⊥
byte-there b k old xs e stop =
    let f = Word xs End in
    absurd (omega (arith, stop f, ap (unmatched_bytes (Byte b f)) e ∙ unmatched_bytes-in b 0 f b xs (omega arith, omega arith) ∙ word-each xs))

digit-there : (x k : ℕ) (xs : List ℕ) → 48 ≤ x → x ≤ 57 → ((f : Shape) → unmatched_bytes (Digits 1 f) (x ∷ xs) ≡ suc k) → ⊥
digit-there x k xs low high stop =
    let f = Word xs End in
    absurd (omega (arith, stop f, unmatched_bytes-in 48 9 f x xs (low, omega (arith, high)) ∙ word-each xs))

pub no-digit : (k : ℕ) (old : List ℕ) → ((f : Shape) → unmatched_bytes (Digits 1 f) old ≡ suc k) → IsOut 10 48 old
no-digit k [] stop = tt
no-digit k (x ∷ xs) stop = elim (cases_lt x 48) [
  | inl low ↦ inl low
  | inr least ↦ (elim (cases_lt 57 x) [
    | inl high ↦ inr (omega (arith, high))
    | inr most ↦ absurd (digit-there x k xs least most stop)
  ])
]

-- ---- spaces before a number
pub skipped-more : (fill most r : ℕ) (old mid new rest : List ℕ) → fill ≤ most → IsOut 1 32 rest → old ≡ 32 ∷ mid → old ≡ replicate fill 32 ++ rest
    → ((k : ℕ) (s : List ℕ) → k ≤ most - 1 → IsOut 1 32 s → mid ≡ replicate k 32 ++ s → (r ≡ k) × (new ≡ s)) → (r + 1 ≡ fill) × (new ≡ rest)
skipped-more zero most r old mid new rest few out e f g = absurd (out-at 1 32 32 mid rest out (sym f ∙ e) (omega arith) (omega arith))
skipped-more (suc k) most r old mid new rest few out e f g =
    let found = g k rest (omega (arith, few)) out (sym (ap (λ l. drop 1 l) e) ∙ ap (λ l. drop 1 l) f) in
    (omega (arith, found.0), found.1)

pub skipped-none : (fill k : ℕ) (old new rest : List ℕ) → old ≡ replicate fill 32 ++ rest → ((f : Shape) → unmatched_bytes (Byte 32 f) old ≡ suc k) → new ≡ old → (0 ≡ fill) × (new ≡ rest)
skipped-none zero k old new rest e stop same = (refl, same ∙ e)
skipped-none (suc j) k old new rest e stop same = absurd (byte-there 32 k old (replicate j 32 ++ rest) e stop)

-- ---- names, by their letters in lower case
month-key : (m : Month) → (month_by (lowered (month.name m)) ≡ month.number m) × (month_by (lowered (take 3 (month.name m))) ≡ month.number m)
month-key January = (refl, refl)
month-key _ = (refl, refl)

short_month-key : (m : Month) → (month_by (lowered (take 3 (month.name m))) ≡ month.number m) × (month_by (lowered (take 3 (take 3 (month.name m)))) ≡ month.number m)
short_month-key January = (refl, refl)
short_month-key _ = (refl, refl)

weekday-key : (w : Weekday) → (weekday_by (lowered (weekday.name w)) ≡ weekday.index w) × (weekday_by (lowered (take 3 (weekday.name w))) ≡ weekday.index w)
weekday-key Monday = (refl, refl)
weekday-key _ = (refl, refl)

short_weekday-key : (w : Weekday) → (weekday_by (lowered (take 3 (weekday.name w))) ≡ weekday.index w) × (weekday_by (lowered (take 3 (take 3 (weekday.name w)))) ≡ weekday.index w)
short_weekday-key Monday = (refl, refl)
short_weekday-key _ = (refl, refl)

-- A variant of a name has the key of the name.
keyed : (key : List ℕ → ℕ) (k : ℕ) (name text : List ℕ) → (key (lowered name) ≡ k) × (key (lowered (take 3 name)) ≡ k) → IsTrue (is_name name text) → key (lowered text) ≡ k
keyed key k name text e h = elim (either_test (same_letters text name) (same_letters text (take 3 name)) h) as (λ _. key (lowered text) ≡ k) [
  | inl whole ↦ ap key (same-lower text name whole) ∙ e.0
  | inr front ↦ ap key (same-lower text (take 3 name) front) ∙ e.1
]

month-one : (f : Month → List ℕ) (n m : ℕ) (text : List ℕ) → ((o : Month) → (month_by (lowered (f o)) ≡ month.number o) × (month_by (lowered (take 3 (f o))) ≡ month.number o)) → (1 ≤ n) × (n ≤ 12) → (1 ≤ m) × (m ≤ 12)
    → IsTrue (is_name (f (month_of_index (n - 1))) text) → IsTrue (is_name (f (month_of_index (m - 1))) text) → n ≡ m
month-one f n m text by h k a b =
    let p = index-month_of_index (n - 1) (omega (arith, h)) in
    let q = index-month_of_index (m - 1) (omega (arith, k)) in
    let one = keyed month_by _ (f (month_of_index (n - 1))) text (by (month_of_index (n - 1))) a in
    let two = keyed month_by _ (f (month_of_index (m - 1))) text (by (month_of_index (m - 1))) b in
    omega (arith, p, q, one, two, h, k)

weekday-one : (f : Weekday → List ℕ) (n m : ℕ) (text : List ℕ) → ((w : Weekday) → (weekday_by (lowered (f w)) ≡ weekday.index w) × (weekday_by (lowered (take 3 (f w))) ≡ weekday.index w)) → (1 ≤ n) × (n ≤ 7) → (1 ≤ m) × (m ≤ 7)
    → IsTrue (is_name (f (weekday_of_index (n - 1))) text) → IsTrue (is_name (f (weekday_of_index (m - 1))) text) → n ≡ m
weekday-one f n m text by h k a b =
    let p = index-weekday_of_index (n - 1) (omega (arith, h)) in
    let q = index-weekday_of_index (m - 1) (omega (arith, k)) in
    let one = keyed weekday_by _ (f (weekday_of_index (n - 1))) text (by (weekday_of_index (n - 1))) a in
    let two = keyed weekday_by _ (f (weekday_of_index (m - 1))) text (by (weekday_of_index (m - 1))) b in
    omega (arith, p, q, one, two, h, k)

-- AM begins with an A, and PM with a P.
abbrev period_by : List ℕ → ℕ
period_by l = if get_or l 0 0 == 97 then 0 else 1

period-key : (f : ℕ → List ℕ) → (period_by (lowered (f 0)) ≡ 0) × (period_by (lowered (take 3 (f 0))) ≡ 0) → (period_by (lowered (f 1)) ≡ 1) × (period_by (lowered (take 3 (f 1))) ≡ 1) → (n : ℕ) → n < 2
    → (period_by (lowered (f n)) ≡ n) × (period_by (lowered (take 3 (f n))) ≡ n)
period-key f a b zero h = a
period-key f a b (suc zero) h = b
period-key f a b (suc (suc n)) h = absurd (omega (arith, h))

period-one : (f : ℕ → List ℕ) (n m : ℕ) (text : List ℕ) → ((k : ℕ) → k < 2 → (period_by (lowered (f k)) ≡ k) × (period_by (lowered (take 3 (f k))) ≡ k)) → n < 2 → m < 2
    → IsTrue (is_name (f n) text) → IsTrue (is_name (f m) text) → n ≡ m
period-one f n m text by h k a b = sym (keyed period_by n (f n) text (by n h) a) ∙ keyed period_by m (f m) text (by m k) b

pub one-name : (k : Name) (n m : ℕ) (text : List ℕ) → IsNameNumber k n → IsNameNumber k m → IsTrue (is_name (numbered_name k n) text) → IsTrue (is_name (numbered_name k m) text) → n ≡ m
one-name name.Month n m text h k a b = month-one month.name n m text month-key h k a b
one-name name.MonthAlone n m text h k a b = month-one month.name n m text month-key h k a b
one-name name.ShortMonth n m text h k a b = month-one (λ o. take 3 (month.name o)) n m text short_month-key h k a b
one-name name.Weekday n m text h k a b = weekday-one weekday.name n m text weekday-key h k a b
one-name name.ShortWeekday n m text h k a b = weekday-one (λ w. take 3 (weekday.name w)) n m text short_weekday-key h k a b
one-name name.Period n m text h k a b = period-one (numbered_name name.Period) n m text (period-key (numbered_name name.Period) (refl, refl) (refl, refl)) h k a b
one-name name.LowerPeriod n m text h k a b = period-one (numbered_name name.LowerPeriod) n m text (period-key (numbered_name name.LowerPeriod) (refl, refl) (refl, refl)) h k a b

pub name-range : (k : Name) (n : ℕ) → IsNameNumber k n → (least_name k ≤ n) × (n ≤ most_name k)
name-range name.Month n h = h
name-range name.MonthAlone n h = h
name-range name.ShortMonth n h = h
name-range name.Weekday n h = h
name-range name.ShortWeekday n h = h
name-range name.Period n h = (omega arith, omega (arith, h))
name-range name.LowerPeriod n h = (omega arith, omega (arith, h))

pub name-number : (k : Name) (n : ℕ) → least_name k ≤ n → n ≤ most_name k → IsNameNumber k n
name-number name.Month n h l = (h, l)
name-number name.MonthAlone n h l = (h, l)
name-number name.ShortMonth n h l = (h, l)
name-number name.Weekday n h l = (h, l)
name-number name.ShortWeekday n h l = (h, l)
name-number name.Period n h l = omega (arith, l)
name-number name.LowerPeriod n h l = omega (arith, l)

-- ---- digits
-- Two runs of digits, each as long as it can be, are the same.
pub one-run : (most : ℕ) (ds es new rest : List ℕ) → AllDigits 10 ds → AllDigits 10 es → length ds ≤ most → length es ≤ most → (length ds ≡ most) ⊎ IsOut 10 48 new → IsOut 10 48 rest
    → ds ++ new ≡ es ++ rest → (ds ≡ es) × (new ≡ rest)
one-run most [] [] new rest a b few less full out e = (refl, e)
one-run most [] (y ∷ ys) new rest a b few less (inl full) out e = absurd (omega (arith, full, less))
one-run most [] (y ∷ ys) [] rest a b few less (inr stop) out e = absurd (omega (arith, ap length e))
one-run most [] (y ∷ ys) (z ∷ zs) rest a b few less (inr stop) out e =
    let same : z ≡ y = ap (λ l. get_or l 0 0) e in
    let range = digit_from_value y b.0 in
    absurd (out-digit z zs stop (omega (arith, same, range.0)) (omega (arith, same, range.1)))
  where
    out-digit : (x : ℕ) (xs : List ℕ) → IsOut 10 48 (x ∷ xs) → 48 ≤ x → x ≤ 57 → ⊥
    out-digit x xs (inl low) h k = omega (arith, low, h)
    out-digit x xs (inr high) h k = omega (arith, high, k)
one-run most (x ∷ xs) [] new [] a b few less full out e = absurd (omega (arith, ap length e))
one-run most (x ∷ xs) [] new (z ∷ zs) a b few less full out e =
    let same : x ≡ z = ap (λ l. get_or l 0 0) e in
    let range = digit_from_value x a.0 in
    absurd (out-digit z zs out (omega (arith, same, range.0)) (omega (arith, same, range.1)))
  where
    out-digit : (y : ℕ) (ys : List ℕ) → IsOut 10 48 (y ∷ ys) → 48 ≤ y → y ≤ 57 → ⊥
    out-digit y ys (inl low) h k = omega (arith, low, h)
    out-digit y ys (inr high) h k = omega (arith, high, k)
one-run zero (x ∷ xs) (y ∷ ys) new rest a b few less full out e = absurd (omega (arith, few))
one-run (suc most) (x ∷ xs) (y ∷ ys) new rest a b few less full out e =
    let first : x ≡ y = ap (λ l. get_or l 0 0) e in
    let found = one-run most xs ys new rest a.1 b.1 (omega (arith, few)) (omega (arith, less)) (shorter full) out (ap (λ l. drop 1 l) e) in
    (λ i. first i ∷ found.0 i, found.1)
  where
    shorter : (length (x ∷ xs) ≡ suc most) ⊎ IsOut 10 48 new → (length xs ≡ most) ⊎ IsOut 10 48 new
    shorter (inl full_is) = inl (omega (arith, full_is))
    shorter (inr stop) = inr stop

digits-past-spaces : (ds rest : List ℕ) → AllDigits 10 ds → 1 ≤ length ds → IsOut 1 32 (ds ++ rest)
digits-past-spaces [] rest h some = absurd (omega (arith, some))
digits-past-spaces (x ∷ xs) rest h some = let range = digit_from_value x h.0 in inr (omega (arith, range.0))

digits-begin : (ds rest mid : List ℕ) → AllDigits 10 ds → 1 ≤ length ds → mid ≡ ds ++ rest → IsOut 10 48 mid → ⊥
digits-begin [] rest mid h some e out = absurd (omega (arith, some))
digits-begin (x ∷ xs) rest mid h some e out = let range = digit_from_value x h.0 in out-at 10 48 x (xs ++ rest) mid out e range.0 (omega (arith, range.1))

-- The spaces before a number are skipped.
pub record IsFilled (may : Bool) (most fill : ℕ) (old mid : List ℕ) : Type 0 where
  pub value : old ≡ replicate fill 32 ++ mid
  pub range : fill ≤ most
  pub unfilled : may ≡ false → fill ≡ 0
  pub every : (k : ℕ) (rest : List ℕ) → (may ≡ false → k ≡ 0) → k ≤ most → IsOut 1 32 rest → old ≡ replicate k 32 ++ rest → (fill ≡ k) × (mid ≡ rest)

pub unfilled-every : (may : Bool) (k : ℕ) (old rest : List ℕ) → may ≡ false → (may ≡ false → k ≡ 0) → old ≡ replicate k 32 ++ rest → (0 ≡ k) × (old ≡ rest)
unfilled-every may zero old rest e f g = (refl, g)
unfilled-every may (suc k) old rest e f g = absurd (omega (arith, f e))

first-value : (d : ℕ) → d < 10 → 0 * 10 + digit_value (48 + d) ≡ d
first-value d low = omega (arith, value-of d low)

pub number-scanned : (may : Bool) (w fill d n : ℕ) (old mid next new : List ℕ) → 1 ≤ w → IsFilled may (w - 1) fill old mid → (d < 10) × (mid ≡ (48 + d) ∷ next) → ParsesMoreDigits next new (w - fill - 1) d n
    → GoesPast (IsNumberVariant may w n) old new
number-scanned may w fill d n old mid next new wide filled first more = record {
  front = replicate fill 32 ++ ((48 + d) ∷ more.digits);
  is = record {
    fill = fill;
    digits = (48 + d) ∷ more.digits;
    unfilled = filled.unfilled;
    all = (omega (arith, value-of d first.0, first.0), more.all);
    some = omega arith;
    fit = omega (arith, more.few, filled.range, wide);
    value = ap (λ v. digits_value_after 10 v more.digits) (first-value d first.0) ∙ more.value;
    text_is = refl;
  };
  bytes_are = filled.value ∙ ap (λ l. replicate fill 32 ++ l) (first.1 ∙ ap (λ l. (48 + d) ∷ l) more.bytes_are) ∙ sym (append_assoc (replicate fill 32) ((48 + d) ∷ more.digits) new);
}

-- A number that the text begins with, up to what isn't a digit, is the one that is scanned.
variant-mid : (may : Bool) (w fill n : ℕ) (old mid front rest : List ℕ) (v : IsNumberVariant may w n front) → IsFilled may (w - 1) fill old mid → old ≡ front ++ rest → (fill ≡ v.fill) × (mid ≡ v.digits ++ rest)
variant-mid may w fill n old mid front rest v filled e =
    filled.every v.fill (v.digits ++ rest) v.unfilled (omega (arith, v.fit, v.some)) (digits-past-spaces v.digits rest v.all v.some)
    (e ∙ ap (λ l. l ++ rest) v.text_is ∙ append_assoc (replicate v.fill 32) v.digits rest)

pub number-none : (may : Bool) (w fill n k : ℕ) (old mid front rest : List ℕ) (P : Type 0) → IsFilled may (w - 1) fill old mid → IsNumberVariant may w n front → old ≡ front ++ rest
    → ((f : Shape) → unmatched_bytes (Digits 1 f) mid ≡ suc k) → P
number-none may w fill n k old mid front rest P filled v e stop =
    absurd (digits-begin v.digits rest mid v.all v.some (variant-mid may w fill n old mid front rest v filled e).1 (no-digit k mid stop))

run-full : (most : ℕ) (es new next : List ℕ) → 1 ≤ most → next ≡ es ++ new → (length next ≡ most - 1 + length new) ⊎ IsOut 10 48 new → (suc (length es) ≡ most) ⊎ IsOut 10 48 new
run-full most es new next some e (inl full) = inl (omega (arith, full, some, ap length e, length-append es new))
run-full most es new next some e (inr out) = inr out

pub number-every : (may : Bool) (w fill d r n : ℕ) (old mid next new front rest : List ℕ) → 1 ≤ w → IsFilled may (w - 1) fill old mid → (d < 10) × (mid ≡ (48 + d) ∷ next)
    → ParsesMoreDigits next new (w - fill - 1) d r → (length next ≡ w - fill - 1 + length new) ⊎ IsOut 10 48 new → IsNumberVariant may w n front → IsOut 10 48 rest → old ≡ front ++ rest
    → (r ≡ n) × (new ≡ rest)
number-every may w fill d r n old mid next new front rest wide filled first more end v out e =
    let is = variant-mid may w fill n old mid front rest v filled e in
    let some : 1 ≤ w - fill = omega (arith, filled.range, wide) in
    let found = one-run (w - fill) ((48 + d) ∷ more.digits) v.digits new rest (omega (arith, value-of d first.0, first.0), more.all) v.all (omega (arith, more.few, some))
    (omega (arith, v.fit, is.0)) (run-full (w - fill) more.digits new next some more.bytes_are end) out
    (sym (first.1 ∙ ap (λ l. (48 + d) ∷ l) more.bytes_are) ∙ is.1) in
    (sym (ap (λ w. digits_value_after 10 w more.digits) (first-value d first.0) ∙ more.value) ∙ ap (digits_value_after 10 0) found.0 ∙ v.value, found.1)

-- ---- all items
-- An item and the items after it.
pub record HasFirst (after : Bool) (items : List Item) (ns text : List ℕ) : Type 0 where
  pub number : ℕ
  pub numbers : List ℕ
  pub front : List ℕ
  pub rest : List ℕ
  pub variant : IsVariant after (first_of items) number front
  pub ended : IsLenientlyEnded (first_of items) rest
  pub text_is : text ≡ front ++ rest
  pub others : HasVariants (is_white (first_of items)) (others_of items) numbers rest
  pub apart : IsTrue (are_leniently_apart (others_of items))
  pub numbers_are : ns ≡ number ∷ numbers

pub first-parts : (after : Bool) (items : List Item) (ns text : List ℕ) → 1 ≤ length items → IsTrue (are_leniently_apart items) → HasVariants after items ns text → HasFirst after items ns text
first-parts after [] ns text some apart h = absurd (omega (arith, some))
first-parts after (i ∷ items) [] text some apart h = absurd h
first-parts after (i ∷ items) (n ∷ ns) text some apart h =
    let both = both_tests (ends_leniently i items) (are_leniently_apart items) apart in
    let same : items ≡ take (length (i ∷ items) - 1) items = sym (take_all (length (i ∷ items) - 1) items (omega arith)) in
    record {
      number = n;
      numbers = ns;
      front = h.front;
      rest = h.rest;
      variant = h.first;
      ended = items-ended i items ns h.rest both.0 h.next;
      text_is = h.text_is;
      others = subst (λ l. HasVariants (is_white i) l ns h.rest) same h.next;
      apart = subst (λ l. IsTrue (are_leniently_apart l)) same both.1;
      numbers_are = refl;
    }

pub first-variant : (after : Bool) (items : List Item) (n : ℕ) (numbers rest old mid : List ℕ) → 1 ≤ length items → GoesPast (IsVariant after (first_of items) n) old mid
    → HasVariants (is_white (first_of items)) (others_of items) rest mid → numbers ≡ n ∷ rest → HasVariants after items numbers old
first-variant after [] n numbers rest old mid some h k e = absurd (omega (arith, some))
first-variant after (i ∷ items) n numbers rest old mid some h k e =
    let same : take (length (i ∷ items) - 1) items ≡ items = take_all (length (i ∷ items) - 1) items (omega arith) in
    let whole : HasVariants after (i ∷ items) (n ∷ rest) old = record {
      front = h.front;
      rest = mid;
      first = h.is;
      next = subst (λ l. HasVariants (is_white i) l rest mid) same k;
      text_is = h.bytes_are;
    } in
    subst (λ l. HasVariants after (i ∷ items) l old) (sym e) whole

literal-exact : (s after : Bool) (b : ℕ) (text : List ℕ) → IsTrue (not s) → IsLiteralVariant s after b text → text ≡ b ∷ []
literal-exact true after b text h k = cc
literal-exact false after b text h k = k

number-as-printed : (free after : Bool) (c : Component) (p : Padding) (n : ℕ) (text : List ℕ) → IsTrue (not free) → IsNumberText free after c p n text → (n < 10 ^ width_of p c) × (text ≡ padded p (width c) n)
number-as-printed true after c p n text h k = cc
number-as-printed false after c p n text h k = k

-- An item without variants has the text that it prints.
pub exact-variant : (after : Bool) (i : Item) (n : ℕ) (text : List ℕ) → IsTrue (is_exact i) → IsVariant after i n text → IsNumber i n × (text ≡ numbered_item i n)
exact-variant after (item.Literal b) n text h k = (k.0, literal-exact (is_space b) after b text h k.1)
exact-variant after (item.Number c p) n text h k = number-as-printed (is_free c) after c p n text h k
exact-variant after (item.Name m) n text h k = cc
exact-variant after (item.Signed c p) n text h k = k
exact-variant after item.Fraction n text h k = k
exact-variant after item.Decimals n text h k = k
exact-variant after item.OffsetSign n text h k = k
exact-variant after item.OffsetMinus n text h k = k
exact-variant after item.TimestampSign n text h k = k
exact-variant after item.TimestampMinus n text h k = k
exact-variant after item.Abbreviation n text h k = k

pub other-exact : (i : Item) → ((b : ℕ) → i ≡ item.Literal b → ⊥) → ((c : Component) (p : Padding) → i ≡ item.Number c p → ⊥) → ((k : Name) → i ≡ item.Name k → ⊥) → IsTrue (is_exact i)
other-exact (item.Literal b) f g h = absurd (f b refl)
other-exact (item.Number c p) f g h = absurd (g c p refl)
other-exact (item.Name k) f g h = absurd (h k refl)
other-exact (item.Signed c p) f g h = refl
other-exact item.Fraction f g h = refl
other-exact _ f g h = refl

pub empty-variants : (after : Bool) (items : List Item) (ns text : List ℕ) → length items < 1 → HasVariants after items ns text → (ns ≡ []) × (text ≡ [])
empty-variants after [] [] text few h = (refl, h)
empty-variants after [] (n ∷ ns) text few h = absurd h
empty-variants after (i ∷ items) ns text few h = absurd (omega (arith, few))

pub end-some : {V : Type 0} (r : Option V) (old new : List ℕ) → old ≡ [] → ScansWhole End old new r → IsSome r
end-some None old new e scans = absurd (omega (arith, scans, ap (unmatched_bytes End) e, unmatched_bytes-done))
end-some (Some x) old new e scans = refl

pub drop-all : (k : ℕ) (l : List ℕ) → length l ≤ k → drop k l ≡ []
drop-all zero [] few = refl
drop-all zero (x ∷ xs) few = absurd (omega (arith, few))
drop-all (suc k) [] few = refl
drop-all (suc k) (x ∷ xs) few = drop-all k xs (omega (arith, few))
