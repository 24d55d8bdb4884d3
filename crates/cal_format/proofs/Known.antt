-- The numbers of a lenient format, and the century that a pivot gives.
use Rattle.std.proofs.Common.{◌≡◌, ℕ, ◌+◌, ◌-◌, ◌*◌, ◌<◌, ◌≤◌, ◌^◌, List, [], ◌∷◌, length, take, drop, refl, sym, ap, subst, ◌∙◌, arith, lit<, inl, inr}
use Rattle.std.specs.Prelude.{Bool, true, false, IsTrue, Option, Some, None, Result, Ok, Err, IfOk, IfErr, ◌==◌, ◌&&◌, ◌||◌, not, if◌then◌else◌, ℤ, unsigned_abs}
use Rattle.std.proofs.lemmas.Bool.{cases_lt}
use Rattle.std.proofs.lemmas.Int.Digits.{digits_value-lt}
use Rattle.std.proofs.Math.Nat.{pow-le-pow_right}
use Rattle.std.proofs.lemmas.List.{take_all}
use Rattle.cal_time.specs.Date.{year_at, IsDate}
use Rattle.cal_time.specs.UtcOffset.{IsOffset}
use Rattle.cal_datetime.specs.DateTime.{IsDateTime, date_at, time_at}
use Rattle.cal_datetime.specs.OffsetDateTime.{LocalAndOffset}
use Rattle.cal_format.specs.declared.error.ParseError.{ParseError}
use Rattle.cal_format.specs.declared.error.ParseError.TheVariants.{UnexpectedByte, UnexpectedEnd, OutOfRange, Contradiction}
use Rattle.cal_format.specs.declared.item.Component.{Component}
use Rattle.cal_format.specs.declared.item.Component.TheVariants.{Year, Century, YearOfCentury}
use Rattle.cal_format.specs.declared.item.Item.{Item}
use Rattle.cal_format.specs.declared.item.Item.TheVariants as item
use Rattle.cal_format.specs.declared.item.Name.TheVariants as name
use Rattle.cal_format.specs.declared.item.Padding.{Padding}
use Rattle.cal_format.specs.declared.item.Padding.TheVariants as padding
use Rattle.cal_format.specs.declared.lenient.LenientFormat.{LenientFormat}
use Rattle.cal_format.specs.declared.moment.Moment.{Moment}
use Rattle.cal_format.specs.Form.{numbers_of, numbered_text, IsNumber, AreNumbers}
use Rattle.cal_format.specs.Lenient.{known_items, items_of, PivotFits, InWindow, HasKnown, CanRead, IsRead, IsLenientRejection, ReadsDates, ReadsTimes, ReadsDateTimes, ReadsOffsetDateTimes}
use Rattle.cal_format.specs.Moment.{IsMoment, number, width, width_of, moment_of_date, moment_of_time, moment_of_date_time, moment_of_offset_date_time}
use Rattle.cal_format.specs.Reading.{index, shows, any_shows, are_apart, are_time_items, holds_time, holds_offset, DeterminesDate, DeterminesDateTime, DeterminesOffsetDateTime}
use Rattle.cal_format.specs.Rejection.{IsNumberRejection}
use Rattle.cal_format.specs.Scanning.{AreHeld}
use Rattle.cal_format.specs.Values.{Holds, number_in, IsPrinted}
use Rattle.cal_format.specs.Variants.{is_free, is_white, IsNumberText, IsVariant, HasVariants}
use Rattle.cal_format.proofs.Alike.{AreAlike, dates-alike, times-alike, date_times-alike}
use Rattle.cal_format.proofs.Apart.{both_tests, same_test, index-one, agrees-shown}
use Rattle.cal_format.proofs.Contradictions.{zero-holds, zero-offset}
use Rattle.cal_format.proofs.Digits.{fits-width}
use Rattle.cal_format.proofs.Moments.{date-holds, date_time-holds, moment-holds}
use Rattle.cal_format.proofs.Own.{own-in, has-own}
use Rattle.cal_format.proofs.Uniques.{one-numbers}

-- ---- a variant has a number of its item
number-fits : (free after : Bool) (c : Component) (p : Padding) (n : ℕ) (text : List ℕ) → IsNumberText free after c p n text → n < 10 ^ width_of p c
number-fits true after c p n text h =
    let few : length h.digits ≤ width c = omega (arith, h.fit) in
    let up : 10 ^ length h.digits ≤ 10 ^ width c = pow-le-pow_right (lit< tt) few in
    fits-width p c n (omega (arith, up, digits_value-lt 10 h.digits h.all, h.value))
number-fits false after c p n text h = h.0

item-fits : (after : Bool) (i : Item) (n : ℕ) (text : List ℕ) → IsVariant after i n text → IsNumber i n
item-fits after (item.Literal b) n text h = h.0
item-fits after (item.Number c p) n text h = number-fits (is_free c) after c p n text h
item-fits after (item.Name k) n text h = h.0
item-fits after (item.Signed c p) n text h = h.0
item-fits after item.Fraction n text h = h.0
item-fits after item.Decimals n text h = h.0
item-fits after item.OffsetSign n text h = h.0
item-fits after item.OffsetMinus n text h = h.0
item-fits after item.TimestampSign n text h = h.0
item-fits after item.TimestampMinus n text h = h.0
item-fits after item.Abbreviation n text h = h.0

pub variants-fit : (after : Bool) (items : List Item) (ns text : List ℕ) → HasVariants after items ns text → AreNumbers items ns
variants-fit after [] [] text h = tt
variants-fit after [] (n ∷ ns) text h = absurd h
variants-fit after (i ∷ items) [] text h = absurd h
variants-fit after (i ∷ items) (n ∷ ns) text h = (item-fits after i n h.front h.first, variants-fit (is_white i) items ns h.rest h.next)

pub known-fit : (p : Option ℕ) (items : List Item) (ns text : List ℕ) → PivotFits p items → HasKnown p items ns text → AreNumbers (known_items p items) ns
known-fit None items ns text fits h = variants-fit false items ns text h
known-fit (Some pivot) items [] text fits h = absurd h
known-fit (Some pivot) items (c ∷ ns) text fits h = (omega (arith, fits.0, h.2), variants-fit false items ns text h.0)

-- ---- the century
pub one-century : (p c d k : ℕ) → k < 100 → p ≤ c * 100 + k → c * 100 + k < p + 100 → p ≤ d * 100 + k → d * 100 + k < p + 100 → c ≡ d
one-century p c d k low a b e f = omega (arith, a, b, e, f)

pub pair-shown : (items : List Item) (v : Moment) → IsTrue (any_shows YearOfCentury items) → number_in items (numbers_of items v) YearOfCentury ≡ number YearOfCentury v
pair-shown items v h = agrees-shown (any_shows YearOfCentury items) (number_in items (numbers_of items v) YearOfCentury) (number YearOfCentury v) h (own-in items YearOfCentury v)

abbrev pub Shown : List Item → Type 0
Shown items = IsTrue (any_shows YearOfCentury items && not (any_shows Year items || any_shows Century items))

pub pair-there : (items : List Item) → Shown items → IsTrue (any_shows YearOfCentury items)
pair-there items h = (both_tests (any_shows YearOfCentury items) (not (any_shows Year items || any_shows Century items)) h).0

whole-year : (v : Moment) (k : ℕ) → k ≡ number YearOfCentury v → number Century v * 100 + k ≡ number Year v
whole-year v k e = omega (arith, e)

pub read-known : (p : Option ℕ) (items : List Item) (v : Moment) (text : List ℕ) → PivotFits p items → InWindow p v → HasVariants false items (numbers_of items v) text
    → HasKnown p items (numbers_of (known_items p items) v) text
read-known None items v text fits window h = h
read-known (Some pivot) items v text fits window h =
    let year = whole-year v (number_in items (numbers_of items v) YearOfCentury) (pair-shown items v (pair-there items fits.1)) in
    (h, omega (arith, window.0, year), omega (arith, window.1, year))

pub known-read : (p : Option ℕ) (items : List Item) (ns : List ℕ) (v : Moment) (text : List ℕ) → PivotFits p items → ns ≡ numbers_of (known_items p items) v → HasKnown p items ns text
    → InWindow p v × HasVariants false items (numbers_of items v) text
known-read None items ns v text fits e h = (tt, subst (λ l. HasVariants false items l text) e h)
known-read (Some pivot) items ns v text fits e h =
    let known : HasKnown (Some pivot) items (number Century v ∷ numbers_of items v) text = subst (λ l. HasKnown (Some pivot) items l text) e h in
    let year = whole-year v (number_in items (numbers_of items v) YearOfCentury) (pair-shown items v (pair-there items fits.1)) in
    ((omega (arith, known.1, year), omega (arith, known.2, year)), known.0)

-- The century shows no part of a time or of an offset.
pub time-known : (p : Option ℕ) (items : List Item) (t : ℕ) → holds_time (known_items p items) t ≡ holds_time items t
time-known None items t = refl
time-known (Some pivot) items t = refl

pub offset-known : (p : Option ℕ) (items : List Item) (o : ℤ) → holds_offset (known_items p items) o ≡ holds_offset items o
offset-known None items o = refl
offset-known (Some pivot) items o = refl

-- ---- two digits of the year
pair-of-number : (c : Component) (p : Padding) (n : ℕ) → c ≡ YearOfCentury → n < 10 ^ width_of p c → n < 100
pair-of-number c padding.Zero n e low = subst (λ d. n < 10 ^ width_of padding.Zero d) e low
pair-of-number c padding.Space n e low = subst (λ d. n < 10 ^ width_of padding.Space d) e low
pair-of-number c padding.None n e low = subst (λ d. n < 10 ^ width_of padding.None d) e low

shown-pair : (c : Component) → IsTrue (index c == index YearOfCentury) → c ≡ YearOfCentury
shown-pair c h = index-one c YearOfCentury (same_test (index c) (index YearOfCentury) h)

item-pair : (i : Item) (n : ℕ) → IsTrue (shows YearOfCentury i) → IsNumber i n → n < 100
item-pair (item.Number c p) n h fit = pair-of-number c p n (shown-pair c h) fit
item-pair (item.Signed c p) n h fit = pair-of-number c p n (shown-pair c h) fit
item-pair (item.Name name.Month) n h fit = cc
item-pair (item.Name name.MonthAlone) n h fit = cc
item-pair (item.Name name.ShortMonth) n h fit = cc
item-pair (item.Name name.Weekday) n h fit = cc
item-pair (item.Name name.ShortWeekday) n h fit = cc
item-pair (item.Name name.Period) n h fit = cc
item-pair (item.Name name.LowerPeriod) n h fit = cc
item-pair (item.Literal b) n h fit = cc
item-pair _ n h fit = cc

first-pair : (b : Bool) (n m : ℕ) → (IsTrue b → n < 100) → m < 100 → (if b then n else m) < 100
first-pair true n m f h = f refl
first-pair false n m f h = h

pub pair-low : (items : List Item) (ns : List ℕ) → AreNumbers items ns → number_in items ns YearOfCentury < 100
pair-low [] ns fit = omega arith
pair-low (i ∷ items) [] fit = absurd fit
pair-low (i ∷ items) (n ∷ ns) fit = first-pair (shows YearOfCentury i) n (number_in items ns YearOfCentury) (λ h. item-pair i n h fit.0) (pair-low items ns fit.1)

pub tail-whole : (l : List ℕ) → take (length l - 1) (drop 1 l) ≡ drop 1 l
tail-whole [] = refl
tail-whole (x ∷ xs) = take_all (length (x ∷ xs) - 1) xs (omega arith)

-- ---- the moment
pub false-true : IsTrue false → ⊥
false-true e = cc

pub mapped_ok : {V E : Type 0} (P Q : V → Type 0) (r : Result V E) → ((v : V) → P v → Q v) → IfOk r P → IfOk r Q
mapped_ok P Q (Ok v) f h = f v h
mapped_ok P Q (Err e) f h = tt

pub printed-read : (f : LenientFormat) (known : List Item) (ns text : List ℕ) (v : Moment) → known ≡ items_of f → CanRead f → IsTrue (are_apart known) → HasKnown f.pivot f.format ns text
    → IsPrinted known v (numbered_text known ns) → IsRead f v text
printed-read f known ns text v e can apart has h =
    let fit = subst (λ l. AreNumbers l ns) (sym e) (known-fit f.pivot f.format ns text can.pivot has) in
    let own = has-own known v (numbered_text known ns) h.in_range h.numbers h.text_is in
    let same : ns ≡ numbers_of known v = one-numbers known ns (numbers_of known v) (numbered_text known ns) apart (record { fit = fit; text_is = refl }) own in
    let read = known-read f.pivot f.format ns v text can.pivot (same ∙ ap (λ l. numbers_of l v) e) has in
    record {
      numbers = subst (AreHeld v) e h.numbers;
      window = read.0;
      parts = subst IsTrue (time-known f.pivot f.format v.time) (subst (λ l. IsTrue (holds_time l v.time)) e h.parts);
      offset_parts = subst IsTrue (offset-known f.pivot f.format v.offset) (subst (λ l. IsTrue (holds_offset l v.offset)) e h.offset_parts);
      variant = read.1;
    }

-- ---- errors
pub lenient-unexpected : (f : LenientFormat) (text : List ℕ) (p : ℕ) (e : ParseError) → p ≤ length text → (p < length text → e ≡ UnexpectedByte p) → (p ≡ length text → e ≡ UnexpectedEnd p)
    → ((ns : List ℕ) → HasKnown f.pivot f.format ns text → ⊥) → IsLenientRejection f text e
lenient-unexpected f text p e most byte end none = elim (cases_lt p (length text)) as (λ _. IsLenientRejection f text e) [
  | inl low ↦ subst (IsLenientRejection f text) (sym (byte low)) (low, none)
  | inr high ↦ (let same : p ≡ length text = omega (arith, most, high) in subst (IsLenientRejection f text) (sym (end same)) (same, none))
]

pub number-rejected : (f : LenientFormat) (known : List Item) (ns text : List ℕ) (e : ParseError) → known ≡ items_of f → HasKnown f.pivot f.format ns text → IsNumberRejection known ns e → IsLenientRejection f text e
number-rejected f known ns text (OutOfRange why) e has h = (ns, has, subst (λ l. IsNumberRejection l ns (OutOfRange why)) e h)
number-rejected f known ns text (Contradiction c) e has h = (ns, has, subst (λ l. IsNumberRejection l ns (Contradiction c)) e h)
number-rejected f known ns text (UnexpectedByte p) e has h = absurd h
number-rejected f known ns text (UnexpectedEnd p) e has h = absurd h

pub mapped_err : {V E : Type 0} (P Q : E → Type 0) (r : Result V E) → ((e : E) → P e → Q e) → IfErr r P → IfErr r Q
mapped_err P Q (Ok v) f h = tt
mapped_err P Q (Err e) f h = f e h

-- ---- values of one type
-- What parsing a variant gives.
pub record IsParsedLeniently (f : LenientFormat) (known : List Item) (text : List ℕ) (r : Result Moment ParseError) : Type 0 where
  pub every : (v : Moment) → Holds known v → IsRead f v text → r ≡ Ok v
  pub range : IfOk r IsMoment
  pub value : IfOk r (λ v. IsRead f v text)
  pub error : IfErr r (IsLenientRejection f text)

tail-numbers : (p : Option ℕ) (items : List Item) (v m : Moment) → numbers_of (known_items p items) v ≡ numbers_of (known_items p items) m → numbers_of items v ≡ numbers_of items m
tail-numbers None items v m e = e
tail-numbers (Some pivot) items v m e = ap (λ l. drop 1 l) e

pub same-window : (p : Option ℕ) (v m : Moment) → v.date ≡ m.date → InWindow p v → InWindow p m
same-window None v m e h = tt
same-window (Some pivot) v m e h =
    let year : number Year v ≡ number Year m = ap (λ d. unsigned_abs (year_at d)) e in
    (omega (arith, h.0, year), omega (arith, h.1, year))

-- The century is no part of a time of day.
pub no-window : (p : Option ℕ) (items : List Item) (m : Moment) → IsTrue (are_time_items (known_items p items)) → InWindow p m
no-window None items m h = tt
no-window (Some pivot) items m h = cc

pub read-alike : (f : LenientFormat) (v m : Moment) (text : List ℕ) → AreAlike (items_of f) v m → InWindow f.pivot m → IsTrue (holds_time f.format m.time) → IsTrue (holds_offset f.format m.offset) → IsRead f v text
    → IsRead f m text
read-alike f v m text alike window time offset h = record {
  numbers = alike.1 h.numbers;
  window = window;
  parts = time;
  offset_parts = offset;
  variant = subst (λ l. HasVariants false f.format l text) (tail-numbers f.pivot f.format v m alike.2) h.variant;
}

pub date-every : (f : LenientFormat) (known : List Item) (text : List ℕ) (r : Result Moment ParseError) → known ≡ items_of f → ReadsDates f → IsParsedLeniently f known text r → (n : ℕ) → IsDate n → IsRead f (moment_of_date n) text
    → r ≡ Ok (moment_of_date n)
date-every f known text r e reads parsed n date read =
    parsed.every (moment_of_date n) (date-holds known n (subst DeterminesDate (sym e) reads.1) date (subst (AreHeld (moment_of_date n)) (sym e) read.numbers)) read

pub date-read : (f : LenientFormat) (text : List ℕ) (v : Moment) → ReadsDates f → IsRead f v text → IsRead f (moment_of_date v.date) text
date-read f text v reads h =
    read-alike f v (moment_of_date v.date) text (dates-alike (items_of f) v (moment_of_date v.date) refl reads.1.1) (same-window f.pivot v (moment_of_date v.date) refl h.window) (zero-holds f.format) (zero-offset f.format) h

pub time-read : (f : LenientFormat) (text : List ℕ) (v : Moment) → ReadsTimes f → IsRead f v text → IsRead f (moment_of_time v.time) text
time-read f text v reads h =
    read-alike f v (moment_of_time v.time) text (times-alike (items_of f) v (moment_of_time v.time) refl reads.1.1) (no-window f.pivot f.format (moment_of_time v.time) reads.1.1) h.parts (zero-offset f.format) h

known-time : (f : LenientFormat) (known : List Item) (t : ℕ) → known ≡ items_of f → IsTrue (holds_time f.format t) → IsTrue (holds_time known t)
known-time f known t e h = subst (λ l. IsTrue (holds_time l t)) (sym e) (subst IsTrue (sym (time-known f.pivot f.format t)) h)

known-offset : (f : LenientFormat) (known : List Item) (o : ℤ) → known ≡ items_of f → IsTrue (holds_offset f.format o) → IsTrue (holds_offset known o)
known-offset f known o e h = subst (λ l. IsTrue (holds_offset l o)) (sym e) (subst IsTrue (sym (offset-known f.pivot f.format o)) h)

pub date_time-every : (f : LenientFormat) (known : List Item) (text : List ℕ) (r : Result Moment ParseError) → known ≡ items_of f → ReadsDateTimes f → IsParsedLeniently f known text r → (z : ℤ) → IsDateTime z
    → IsRead f (moment_of_date_time z) text → r ≡ Ok (moment_of_date_time z)
date_time-every f known text r e reads parsed z range read =
    parsed.every (moment_of_date_time z)
    (date_time-holds known z (subst DeterminesDateTime (sym e) reads.1) range (subst (AreHeld (moment_of_date_time z)) (sym e) read.numbers) (known-time f known (time_at z) e read.parts)) read

pub date_time-read : (f : LenientFormat) (text : List ℕ) (v : Moment) (z : ℤ) → ReadsDateTimes f → date_at z ≡ v.date → time_at z ≡ v.time → IsRead f v text → IsRead f (moment_of_date_time z) text
date_time-read f text v z reads d t h =
    read-alike f v (moment_of_date_time z) text (date_times-alike (items_of f) v (moment_of_date_time z) (sym d) (sym t) reads.1.1) (same-window f.pivot v (moment_of_date_time z) (sym d) h.window)
    (subst (λ n. IsTrue (holds_time f.format n)) (sym t) h.parts) (zero-offset f.format) h

pub moment-every : (f : LenientFormat) (known : List Item) (text : List ℕ) (r : Result Moment ParseError) → known ≡ items_of f → ReadsOffsetDateTimes f → IsParsedLeniently f known text r → (m : LocalAndOffset) → IsDateTime m.local
    → IsOffset m.offset → IsRead f (moment_of_offset_date_time m) text → r ≡ Ok (moment_of_offset_date_time m)
moment-every f known text r e reads parsed m local range read =
    parsed.every (moment_of_offset_date_time m)
    (moment-holds known m (subst DeterminesOffsetDateTime (sym e) reads.1) local range (subst (AreHeld (moment_of_offset_date_time m)) (sym e) read.numbers) (known-time f known (time_at m.local) e read.parts)
    (known-offset f known m.offset e read.offset_parts)) read
