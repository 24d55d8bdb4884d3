-- The shapes of a moment, and what a scanner read of one.
use Rattle.std.proofs.Common.{Bool, ◌≡◌, ℕ, zero, suc, ◌+◌, ◌<◌, ◌≤◌, ◌⊎◌, inl, inr, List, [], ◌∷◌, ◌++◌, length, refl, sym, ap, ◌∙◌, arith, lit≤}
use Rattle.std.proofs.lemmas.List.{append_assoc, length-append}
use Rattle.cal_time.specs.DateText.{digits_at_least, date_digits}
use Rattle.cal_text.specs.declared.rfc3339.numbers.Numbers.{Numbers}
use Rattle.cal_text.specs.declared.rfc3339.numbers.TimeOffset.{TimeOffset}
use Rattle.cal_text.specs.declared.rfc3339.numbers.TimeOffset.TheVariants.{Utc, Signed}
use Rattle.cal_text.specs.Rfc3339Form.{IsSeparator, IsTimeOffset, sign_byte, HasMomentForm, HasFractionBefore, clock_digits}
use Rattle.cal_text.specs.Shape.{Shape, unmatched_bytes, Byte, Digits, UpTo, Fraction, Separator, TwoNumbers, moment, ParsesDigits}
use Rattle.cal_text.proofs.Decimals.{fraction-below}
use Rattle.cal_text.proofs.DigitForms.{IsNumber, number, two}
use Rattle.cal_text.proofs.Forms.{IsForm, IsNothing, IsLed, IsThen, IsEither, always, nothing, led, both, either, retold, whole, put}
use Rattle.cal_text.proofs.OffsetShapes.{Zoned, IsZoned, zoned}
use Rattle.cal_text.proofs.Parts.{at_end}
use Rattle.cal_text.proofs.Positions.{IsShapeOf, AreShapesOf}
use Rattle.cal_text.proofs.ReadDigits.{printed}
use Rattle.cal_text.proofs.Stops.{in_or_out, unmatched_bytes-in, unmatched_bytes-out, unmatched_bytes-end, unmatched_bytes-branch_in, unmatched_bytes-branch_out, unmatched_bytes-branch_end}
use Rattle.cal_text.proofs.UnixShapes.{fraction}

-- ---- the byte between the date and the time
abbrev pub HasSeparator : List ℕ → ℕ → Type 0
HasSeparator bytes s = IsSeparator s × (bytes ≡ s ∷ [])

pub separator : IsForm Separator HasSeparator always
separator = retold HasSeparator (either 84 0 (led 84 nothing) (either 116 0 (led 116 nothing) (led 32 nothing))) into there here
  where
    Raw : Type 0
    Raw = Unit {0} ⊎ Unit {0} ⊎ Unit {0}

    IsRaw : List ℕ → Raw → Type 0
    IsRaw = IsEither (IsLed 84 IsNothing) (IsEither (IsLed 116 IsNothing) (IsLed 32 IsNothing))

    into : Raw → ℕ
    into (inl u) = 84
    into (inr (inl u)) = 116
    into (inr (inr u)) = 32

    there : (bytes : List ℕ) (v : Raw) → IsRaw bytes v → HasSeparator bytes (into v)
    there bytes (inl u) h = (inl refl, h.2 ∙ ap (λ r. 84 ∷ r) h.1)
    there bytes (inr (inl u)) h = (inr (inl refl), h.2 ∙ ap (λ r. 116 ∷ r) h.1)
    there bytes (inr (inr u)) h = (inr (inr refl), h.2 ∙ ap (λ r. 32 ∷ r) h.1)

    here : (bytes : List ℕ) (s : ℕ) → HasSeparator bytes s → (v : Raw) × IsRaw bytes v × (into v ≡ s)
    here bytes s (inl e, b) = (inl tt, ([], refl, b ∙ ap (λ x. x ∷ []) e), sym e)
    here bytes s (inr (inl e), b) = (inr (inl tt), ([], refl, b ∙ ap (λ x. x ∷ []) e), sym e)
    here bytes s (inr (inr e), b) = (inr (inr tt), ([], refl, b ∙ ap (λ x. x ∷ []) e), sym e)

-- ---- the offset
time_offset_form : IsForm (Zoned (λ f. Digits 2 (Byte 58 (Digits 2 f)))) IsTimeOffset always
time_offset_form = retold IsTimeOffset (zoned (both two (led 58 two))) into there here
  where
    Raw : Type 0
    Raw = Unit {0} ⊎ Unit {0} ⊎ (Bool × (ℕ × ℕ))

    IsRaw : List ℕ → Raw → Type 0
    IsRaw = IsZoned (IsThen (IsNumber 2) (IsLed 58 (IsNumber 2)))

    into : Raw → TimeOffset
    into (inl u) = Utc
    into (inr (inl u)) = Utc
    into (inr (inr v)) = Signed v.0 v.1.0 v.1.1

    there : (bytes : List ℕ) (v : Raw) → IsRaw bytes v → IsTimeOffset bytes (into v)
    there bytes (inl u) h = inl (h.2 ∙ ap (λ r. 90 ∷ r) h.1)
    there bytes (inr (inl u)) h = inr (h.2 ∙ ap (λ r. 122 ∷ r) h.1)
    there bytes (inr (inr v)) h =
        let c = h.second in (c.first.0, c.second.1.0, put h.bytes_are h.first (put c.bytes_are c.first.1 (c.second.2 ∙ ap (λ r. 58 ∷ r) c.second.1.1)))

    here : (bytes : List ℕ) (z : TimeOffset) → IsTimeOffset bytes z → (v : Raw) × IsRaw bytes v × (into v ≡ z)
    here bytes Utc (inl e) = (inl tt, ([], refl, e), refl)
    here bytes Utc (inr e) = (inr (inl tt), ([], refl, e), refl)
    here bytes (Signed is_west h m) is =
        let minutes = digits_at_least 2 m in
        let pair : IsThen (IsNumber 2) (IsLed 58 (IsNumber 2)) (digits_at_least 2 h ++ 58 ∷ minutes) (h, m) =
        record { front = digits_at_least 2 h; back = 58 ∷ minutes; first = (is.0, refl); second = (minutes, (is.1, refl), refl); bytes_are = refl } in
        (inr (inr (is_west, (h, m))), record { front = sign_byte is_west ∷ []; back = _; first = refl; second = pair; bytes_are = is.2 }, refl)

-- ---- up to the seconds
abbrev AreTwo : ℕ → List ℕ → ℕ × ℕ → Type 0
AreTwo b bytes v = (v.0 < 100) × (v.1 < 100) × (bytes ≡ b ∷ (digits_at_least 2 v.0 ++ b ∷ digits_at_least 2 v.1))

two_numbers : (b : ℕ) → IsForm (TwoNumbers b) (AreTwo b) always
two_numbers b =
    retold (AreTwo b) (led b (both two (led b two))) (λ v. v)
    (λ bytes v h.
    let m = h.1 in (m.first.0, m.second.1.0, h.2 ∙ ap (λ r. b ∷ r) (put m.bytes_are m.first.1 (m.second.2 ∙ ap (λ r. b ∷ r) m.second.1.1))))
    (λ bytes v h.
    let m = digits_at_least 2 v.0 in
    let n = digits_at_least 2 v.1 in
    (v, (m ++ b ∷ n, record { front = m; back = b ∷ n; first = (h.0, refl); second = (n, (h.1, refl), refl); bytes_are = refl }, h.2), refl))

-- The text of these parts, grouped like the form.
joined : (ys ms ds hs ns ss rest : List ℕ) (s : ℕ)
    → ys ++ ((45 ∷ (ms ++ 45 ∷ ds)) ++ (s ∷ [] ++ (hs ++ ((58 ∷ (ns ++ 58 ∷ ss)) ++ rest))))
    ≡ (ys ++ 45 ∷ [] ++ ms ++ 45 ∷ [] ++ ds) ++ s ∷ ((hs ++ 58 ∷ [] ++ ns ++ 58 ∷ [] ++ ss) ++ rest)
joined ys ms ds hs ns ss rest s = simp append_assoc

-- ---- the whole, with a fraction of at most more + 1 digits
pub record HasMomentUpTo (more : ℕ) (bytes : List ℕ) (m : Numbers) : Type 0 where
  pub form : HasMomentForm bytes m
  pub short : length form.fraction ≤ more + 2

moment_up_to : (more : ℕ) → IsShapeOf (HasMomentUpTo more) (moment more)
moment_up_to more =
    whole
    (retold (HasMomentUpTo more) (both (number 4 (lit≤ tt) (lit≤ tt)) (both (two_numbers 45) (both separator (both two (both (two_numbers 58) (both (fraction more) time_offset_form))))))
    (λ v. record { year = v.0; month = v.1.0.0; day = v.1.0.1; hour = v.1.1.1.0; minute = v.1.1.1.1.0.0; second = v.1.1.1.1.0.1; nanosecond = v.1.1.1.1.1.0; offset = v.1.1.1.1.1.1 })
    (λ bytes v h.
    let date = h.second in
    let t = date.second in
    let hour = t.second in
    let clock = hour.second in
    let rest = clock.second in
    record {
      form = record {
        numbers = record {
          year = h.first.0;
          month = date.first.0;
          day = date.first.1;
          hour = hour.first.0;
          minute = clock.first.0;
          second = clock.first.1;
          nanosecond = fraction-below rest.front v.1.1.1.1.1.0 rest.first.0;
        };
        separator = v.1.1.0;
        fraction = rest.front;
        offset = rest.back;
        is_separator = t.first.0;
        is_fraction = rest.first.0;
        is_offset = rest.second;
        bytes_are = put h.bytes_are h.first.1 (put date.bytes_are date.first.2 (put t.bytes_are t.first.1 (put hour.bytes_are hour.first.1 (put clock.bytes_are clock.first.2 rest.bytes_are))))
            ∙ joined (digits_at_least 4 v.0) (digits_at_least 2 v.1.0.0) (digits_at_least 2 v.1.0.1) (digits_at_least 2 v.1.1.1.0) (digits_at_least 2 v.1.1.1.1.0.0)
            (digits_at_least 2 v.1.1.1.1.0.1) (rest.front ++ rest.back) v.1.1.0;
      };
      short = rest.first.1;
    })
    (λ bytes m h.
    let n = h.form.numbers in
    let s = h.form.separator in
    let rest = h.form.fraction ++ h.form.offset in
    let clock = 58 ∷ (digits_at_least 2 m.minute ++ 58 ∷ digits_at_least 2 m.second) in
    let date = 45 ∷ (digits_at_least 2 m.month ++ 45 ∷ digits_at_least 2 m.day) in (
      (m.year, ((m.month, m.day), (s, (m.hour, ((m.minute, m.second), (m.nanosecond, m.offset)))))),
      record {
        front = digits_at_least 4 m.year;
        back = date ++ (s ∷ [] ++ (digits_at_least 2 m.hour ++ (clock ++ rest)));
        first = (n.year, refl);
        second = record {
          front = date;
          back = s ∷ [] ++ (digits_at_least 2 m.hour ++ (clock ++ rest));
          first = (n.month, n.day, refl);
          second = record {
            front = s ∷ [];
            back = digits_at_least 2 m.hour ++ (clock ++ rest);
            first = (h.form.is_separator, refl);
            second = record {
              front = digits_at_least 2 m.hour;
              back = clock ++ rest;
              first = (n.hour, refl);
              second = record {
                front = clock;
                back = rest;
                first = (n.minute, n.second, refl);
                second = record { front = h.form.fraction; back = h.form.offset; first = (h.form.is_fraction, h.short); second = h.form.is_offset; bytes_are = refl };
                bytes_are = refl;
              };
              bytes_are = refl;
            };
            bytes_are = refl;
          };
          bytes_are = refl;
        };
        bytes_are = h.form.bytes_are
            ∙ sym (joined (digits_at_least 4 m.year) (digits_at_least 2 m.month) (digits_at_least 2 m.day) (digits_at_least 2 m.hour) (digits_at_least 2 m.minute) (digits_at_least 2 m.second) rest s);
      },
      refl,
    )))
    refl

fits : (k : ℕ) (bytes : List ℕ) (m : Numbers) → length bytes ≤ k → HasMomentForm bytes m → HasMomentUpTo k bytes m
fits k bytes m few h =
    let clock = clock_digits m.hour m.minute m.second in
    record {
      form = h;
      short = omega (
        arith,
        ap length h.bytes_are,
        length-append (date_digits m.year m.month m.day) (h.separator ∷ (clock ++ (h.fraction ++ h.offset))),
        length-append clock (h.fraction ++ h.offset),
        length-append h.fraction h.offset,
        few,
      );
    }

pub moment_shapes : AreShapesOf HasMomentForm moment
moment_shapes = record {
  each = λ k bytes few (m, h). (moment_up_to k).each bytes (m, fits k bytes m few h);
  only = λ k bytes e. let found = (moment_up_to k).only bytes e in (found.0, found.1.form);
  one = λ bytes v w a b. one_moment bytes v w a b;
}
  where
    one_moment : (bytes : List ℕ) (v w : Numbers) → HasMomentForm bytes v → HasMomentForm bytes w → v ≡ w
    one_moment bytes v w a b =
        let long : length bytes ≤ length bytes = omega arith in
        (moment_up_to (length bytes)).one bytes v w (fits (length bytes) bytes v long a) (fits (length bytes) bytes w long b)

-- ---- what a scanner read
pub put_two : (b m n : ℕ) (old first mid second new : List ℕ) → old ≡ b ∷ first → ParsesDigits first mid 2 m → mid ≡ b ∷ second → ParsesDigits second new 2 n
    → (m < 100) × (n < 100) × (old ≡ b ∷ (digits_at_least 2 m ++ b ∷ (digits_at_least 2 n ++ new)))
put_two b m n old first mid second new one h other k =
    let x = printed first mid 2 m (lit≤ tt) (lit≤ tt) h in
    let y = printed second new 2 n (lit≤ tt) (lit≤ tt) k in
    (x.0, y.0, one ∙ ap (λ r. b ∷ r) (x.1 ∙ ap (λ r. digits_at_least 2 m ++ r) (other ∙ ap (λ r. b ∷ r) y.1)))

pub put_pair : (m n : ℕ) (old mid second new : List ℕ) → ParsesDigits old mid 2 m → mid ≡ 58 ∷ second → ParsesDigits second new 2 n → new ≡ []
    → (m < 100) × (n < 100) × (old ≡ digits_at_least 2 m ++ 58 ∷ digits_at_least 2 n)
put_pair m n old mid second new h colon k end =
    let x = printed old mid 2 m (lit≤ tt) (lit≤ tt) h in
    let y = printed second new 2 n (lit≤ tt) (lit≤ tt) k in
    (x.0, y.0, x.1 ∙ ap (λ r. digits_at_least 2 m ++ r) (colon ∙ ap (λ r. 58 ∷ r) (at_end second (digits_at_least 2 n) new y.1 end)))

-- more digits than there are bytes do not matter
same_digits : (j k : ℕ) (f : Shape) (bytes : List ℕ) → length bytes ≤ j → length bytes ≤ k → unmatched_bytes (UpTo j f) bytes ≡ unmatched_bytes (UpTo k f) bytes
same_digits zero zero f bytes a b = refl
same_digits zero (suc k) f [] a b = sym (unmatched_bytes-branch_end 48 9 (UpTo k f) f)
same_digits (suc j) zero f [] a b = unmatched_bytes-branch_end 48 9 (UpTo j f) f
same_digits zero (suc k) f (x ∷ xs) a b = absurd (omega (arith, a))
same_digits (suc j) zero f (x ∷ xs) a b = absurd (omega (arith, b))
same_digits (suc j) (suc k) f [] a b = unmatched_bytes-branch_end 48 9 (UpTo j f) f ∙ sym (unmatched_bytes-branch_end 48 9 (UpTo k f) f)
same_digits (suc j) (suc k) f (x ∷ xs) a b =
    elim (in_or_out 48 9 x) as (λ _. unmatched_bytes (UpTo (suc j) f) (x ∷ xs) ≡ unmatched_bytes (UpTo (suc k) f) (x ∷ xs)) [
      | inl here ↦
          unmatched_bytes-branch_in 48 9 (UpTo j f) f x xs here ∙ same_digits j k f xs (omega (arith, a)) (omega (arith, b)) ∙ sym (unmatched_bytes-branch_in 48 9 (UpTo k f) f x xs here)
      | inr out ↦ unmatched_bytes-branch_out 48 9 (UpTo j f) f x xs out ∙ sym (unmatched_bytes-branch_out 48 9 (UpTo k f) f x xs out)
    ]

pub same_fraction : (j k : ℕ) (f : Shape) (bytes : List ℕ) → length bytes ≤ j → length bytes ≤ k → unmatched_bytes (Fraction j f) bytes ≡ unmatched_bytes (Fraction k f) bytes
same_fraction j k f [] a b = unmatched_bytes-branch_end 46 0 (Digits 1 (UpTo j f)) f ∙ sym (unmatched_bytes-branch_end 46 0 (Digits 1 (UpTo k f)) f)
same_fraction j k f (x ∷ xs) a b =
    elim (in_or_out 46 0 x) as (λ _. unmatched_bytes (Fraction j f) (x ∷ xs) ≡ unmatched_bytes (Fraction k f) (x ∷ xs)) [
      | inl here ↦
          unmatched_bytes-branch_in 46 0 (Digits 1 (UpTo j f)) f x xs here ∙ digit xs (omega (arith, a)) (omega (arith, b)) ∙ sym (unmatched_bytes-branch_in 46 0 (Digits 1 (UpTo k f)) f x xs here)
      | inr out ↦ unmatched_bytes-branch_out 46 0 (Digits 1 (UpTo j f)) f x xs out ∙ sym (unmatched_bytes-branch_out 46 0 (Digits 1 (UpTo k f)) f x xs out)
    ]
  where
    digit : (xs : List ℕ) → length xs ≤ j → length xs ≤ k → unmatched_bytes (Digits 1 (UpTo j f)) xs ≡ unmatched_bytes (Digits 1 (UpTo k f)) xs
    digit [] a b = unmatched_bytes-end 48 9 (UpTo j f) ∙ sym (unmatched_bytes-end 48 9 (UpTo k f))
    digit (x ∷ xs) a b =
        elim (in_or_out 48 9 x) as (λ _. unmatched_bytes (Digits 1 (UpTo j f)) (x ∷ xs) ≡ unmatched_bytes (Digits 1 (UpTo k f)) (x ∷ xs)) [
          | inl here ↦ unmatched_bytes-in 48 9 (UpTo j f) x xs here ∙ same_digits j k f xs (omega (arith, a)) (omega (arith, b)) ∙ sym (unmatched_bytes-in 48 9 (UpTo k f) x xs here)
          | inr out ↦ unmatched_bytes-out 48 9 (UpTo j f) x xs out ∙ sym (unmatched_bytes-out 48 9 (UpTo k f) x xs out)
        ]

-- the parts up to the seconds, as they were read
pub record IsToSeconds (old rest : List ℕ) (y m d h n s : ℕ) : Type 0 where
  pub year : y < 10000
  pub hour : h < 100
  pub separator : ℕ
  pub is_separator : IsSeparator separator
  pub bytes_are : old ≡ date_digits y m d ++ separator ∷ (clock_digits h n s ++ rest)

pub to_seconds : (y m d h n s b : ℕ) (old a c e g rest : List ℕ) → ParsesDigits old a 4 y
    → a ≡ 45 ∷ (digits_at_least 2 m ++ 45 ∷ (digits_at_least 2 d ++ c)) → IsSeparator b → c ≡ b ∷ e → ParsesDigits e g 2 h
    → g ≡ 58 ∷ (digits_at_least 2 n ++ 58 ∷ (digits_at_least 2 s ++ rest)) → IsToSeconds old rest y m d h n s
to_seconds y m d h n s b old a c e g rest year date is byte hour time =
    let front = printed old a 4 y (lit≤ tt) (lit≤ tt) year in
    let clock = printed e g 2 h (lit≤ tt) (lit≤ tt) hour in
    record {
      year = front.0;
      hour = clock.0;
      separator = b;
      is_separator = is;
      bytes_are = front.1 ∙ ap (λ r. digits_at_least 4 y ++ r)
          (date ∙ ap (λ r. 45 ∷ (digits_at_least 2 m ++ 45 ∷ (digits_at_least 2 d ++ r)))
          (byte ∙ ap (λ r. b ∷ r) (clock.1 ∙ ap (λ r. digits_at_least 2 h ++ r) time)))
          ∙ flat (digits_at_least 4 y) (digits_at_least 2 m) (digits_at_least 2 d) (digits_at_least 2 h) (digits_at_least 2 n) (digits_at_least 2 s);
    }
  where
    flat : (ys ms ds hs ns ss : List ℕ) → ys ++ 45 ∷ (ms ++ 45 ∷ (ds ++ b ∷ (hs ++ 58 ∷ (ns ++ 58 ∷ (ss ++ rest)))))
        ≡ (ys ++ 45 ∷ [] ++ ms ++ 45 ∷ [] ++ ds) ++ b ∷ ((hs ++ 58 ∷ [] ++ ns ++ 58 ∷ [] ++ ss) ++ rest)
    flat ys ms ds hs ns ss = simp append_assoc

pub rest-short : (old rest : List ℕ) (y m d h n s : ℕ) → IsToSeconds old rest y m d h n s → length rest ≤ length old
rest-short old rest y m d h n s is =
    omega (arith, ap length is.bytes_are, length-append (date_digits y m d) (is.separator ∷ (clock_digits h n s ++ rest)), length-append (clock_digits h n s) rest)

pub put_moment : (old rest offset : List ℕ) (y m d h n s v more : ℕ) (z : TimeOffset) → IsToSeconds old rest y m d h n s → m < 100 → d < 100 → n < 100 → s < 100
    → HasFractionBefore offset more rest v → IsTimeOffset offset z
    → HasMomentForm old (record { year = y; month = m; day = d; hour = h; minute = n; second = s; nanosecond = v; offset = z })
put_moment old rest offset y m d h n s v more z is month day minute second fraction is_offset = record {
  numbers = record { year = is.year; month = month; day = day; hour = is.hour; minute = minute; second = second; nanosecond = fraction-below fraction.fraction v fraction.is_fraction };
  separator = is.separator;
  fraction = fraction.fraction;
  offset = offset;
  is_separator = is.is_separator;
  is_fraction = fraction.is_fraction;
  is_offset = is_offset;
  bytes_are = is.bytes_are ∙ ap (λ r. date_digits y m d ++ is.separator ∷ (clock_digits h n s ++ r)) fraction.bytes_are;
}
