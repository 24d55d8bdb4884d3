-- The shape of the forms of a date.
use Rattle.std.proofs.Common.{◌≡◌, ℕ, ◌+◌, ◌-◌, ◌⊎◌, inl, inr, Bool, true, false, ◌&&◌, IsTrue, ℤ, pos, neg_ℤ, List, [], ◌∷◌, ◌++◌, length, refl, sym, ap, subst, ◌∙◌, arith}
use Rattle.std.proofs.lemmas.List.{append-nil, length-append}
use Rattle.std.specs.Str.Parse.{AllDigits, digits_value}
use Rattle.cal_text.specs.declared.date_numbers.DateNumbers.{DateNumbers}
use Rattle.cal_text.specs.declared.date_numbers.DateNumbers.TheVariants.{Calendar, Ordinal, Week}
use Rattle.cal_text.specs.DateForms.{form_year}
use Rattle.cal_text.specs.Rfc3339Form.{sign_byte}
use Rattle.cal_text.specs.Shape.{Shape, Branch, Digits, End}
use Rattle.cal_text.proofs.DigitForms.{IsRun, run}
use Rattle.cal_text.proofs.DigitParts.{IsExact, exact-each, exact-one, counted-only}
use Rattle.cal_text.proofs.Forms.{IsForm, IsByteFrom, IsNothing, IsLed, IsThen, IsEither, always, avoids, byte_from, nothing, led, both, either, retold, weakened, whole, first_true, second_true}
use Rattle.cal_text.proofs.Positions.{IsShapeOf}
use Rattle.cal_text.proofs.ReadDigits.{all-append}
use Rattle.cal_iso.specs.DateForm.{IsNumber, IsExpandedYear, IsWeekday, IsMonthAndDay, IsWeekAndDay, IsAfterYear, HasIsoDate, signed}
use Rattle.cal_iso.specs.IsoShape.{AfterHyphen, BasicRest, Date, Expanded, WeekdayAfterHyphen}

-- ---- what may follow a date: no hyphen and no digit
abbrev pub ends_date : Shape → Bool
ends_date f = avoids 45 0 f && (avoids 49 6 f && avoids 48 9 f)

and_true : (a : Bool) → IsTrue a → IsTrue (a && true)
and_true true h = refl
and_true false h = absurd cc

and_both : (a b : Bool) → IsTrue a → IsTrue b → IsTrue (a && b)
and_both true b h k = k
and_both false b h k = absurd cc

-- ---- k digits
pub digits : (k : ℕ) → IsForm (Digits k) (IsNumber k) always
digits k = record {
  each = λ f v front rest _ h e. exact-each k f front rest (h.all, h.count) ∙ e;
  only = λ f bytes e.
      let a = counted-only k 0 f bytes e in
      record {
        value = digits_value 10 a.value;
        front = a.value;
        rest = a.rest;
        is = record { all = a.valid.0; count = omega (arith, a.valid.1, a.valid.2); value = refl };
        bytes_are = a.bytes_are;
        next = a.next;
      };
  one = λ f v w a b r s _ h k _ _ e.
      let found = exact-one _ a b r s h.count k.count e in
      (h.value ∙ ap (digits_value 10) found.0 ∙ sym k.value, found.0, found.1);
}

-- the digits themselves
abbrev pub AreDigits : ℕ → List ℕ → List ℕ → Type 0
AreDigits k bytes ds = IsExact k bytes × (bytes ≡ ds)

pub lists : (k : ℕ) → IsForm (Digits k) (AreDigits k) always
lists k = record {
  each = λ f v front rest _ h e. exact-each k f front rest h.0 ∙ e;
  only = λ f bytes e.
      let a = counted-only k 0 f bytes e in
      record { value = a.value; front = a.value; rest = a.rest; is = ((a.valid.0, omega (arith, a.valid.1, a.valid.2)), refl); bytes_are = a.bytes_are; next = a.next };
  one = λ f v w a b r s _ h k _ _ e. let found = exact-one _ a b r s h.0.1 k.0.1 e in (sym h.1 ∙ found.0 ∙ k.1, found.0, found.1);
}

number_of : (k : ℕ) (bytes ds : List ℕ) → AreDigits k bytes ds → IsNumber k bytes (digits_value 10 ds)
number_of k bytes ds h = record { all = h.0.0; count = h.0.1; value = ap (digits_value 10) (sym h.1) }

-- ---- weekdays
weekday_after_hyphen : IsForm WeekdayAfterHyphen (IsWeekday (45 ∷ [])) (avoids 45 0)
weekday_after_hyphen = retold (IsWeekday (45 ∷ [])) (either 45 0 (led 45 (byte_from 49 6)) nothing) into there here
  where
    into : ℕ ⊎ Unit {0} → ℕ
    into (inl b) = b - 48
    into (inr u) = 1

    there : (bytes : List ℕ) (v : ℕ ⊎ Unit {0}) → IsEither (IsLed 45 (IsByteFrom 49 6)) IsNothing bytes v → IsWeekday (45 ∷ []) bytes (into v)
    there bytes (inl b) h =
        let in_range = h.1.0 in
        let same : b ≡ 48 + (b - 48) = omega (arith, in_range.0) in
        inr (omega (arith, in_range.0), omega (arith, in_range.1), h.2 ∙ ap (λ r. 45 ∷ r) (h.1.1 ∙ ap (λ x. x ∷ []) same))
    there bytes (inr u) h = inl (h, refl)

    here : (bytes : List ℕ) (d : ℕ) → IsWeekday (45 ∷ []) bytes d → (v : ℕ ⊎ Unit {0}) × IsEither (IsLed 45 (IsByteFrom 49 6)) IsNothing bytes v × (into v ≡ d)
    here bytes d (inl none) = (inr tt, none.0, sym none.1)
    here bytes d (inr is) =
        let same : 48 + d - 48 ≡ d = omega arith in
        (inl (48 + d), ((48 + d) ∷ [], ((omega (arith, is.0), omega (arith, is.1)), refl), is.2), same)

weekday_alone : IsForm (λ f. Branch 49 6 f f) (IsWeekday []) (avoids 49 6)
weekday_alone = retold (IsWeekday []) (either 49 6 {part = λ f. f} (byte_from 49 6) nothing) into there here
  where
    into : ℕ ⊎ Unit {0} → ℕ
    into (inl b) = b - 48
    into (inr u) = 1

    there : (bytes : List ℕ) (v : ℕ ⊎ Unit {0}) → IsEither (IsByteFrom 49 6) IsNothing bytes v → IsWeekday [] bytes (into v)
    there bytes (inl b) h =
        let same : b ≡ 48 + (b - 48) = omega (arith, h.0.0) in
        inr (omega (arith, h.0.0), omega (arith, h.0.1), h.1 ∙ ap (λ x. x ∷ []) same)
    there bytes (inr u) h = inl (h, refl)

    here : (bytes : List ℕ) (d : ℕ) → IsWeekday [] bytes d → (v : ℕ ⊎ Unit {0}) × IsEither (IsByteFrom 49 6) IsNothing bytes v × (into v ≡ d)
    here bytes d (inl none) = (inr tt, none.0, sym none.1)
    here bytes d (inr is) =
        let same : 48 + d - 48 ≡ d = omega arith in
        (inl (48 + d), ((omega (arith, is.0), omega (arith, is.1)), is.2), same)

-- ---- what follows a year: a week, a calendar date, or an ordinal
abbrev pub Rest : Type 0
Rest = (ℕ × ℕ) ⊎ ((ℕ × ℕ) ⊎ ℕ)

pub with_year : ℤ → Rest → DateNumbers
with_year y (inl (w, d)) = Week y w d
with_year y (inr (inl (m, d))) = Calendar y m d
with_year y (inr (inr o)) = Ordinal y o

abbrev pub IsRest : List ℕ → List ℕ → Rest → Type 0
IsRest mark bytes (inl (w, d)) = IsWeekAndDay mark bytes w d
IsRest mark bytes (inr (inl (m, d))) = IsMonthAndDay mark bytes m d
IsRest mark bytes (inr (inr o)) = IsNumber 3 bytes o

pub joined : (j k : ℕ) (bytes a b ds es : List ℕ) → AreDigits j a ds → AreDigits k b es → bytes ≡ a ++ b → IsNumber (j + k) bytes (digits_value 10 (ds ++ es))
joined j k bytes a b ds es h g e = record {
  all = subst (AllDigits 10) (sym e) (all-append a b h.0.0 g.0.0);
  count = ap length e ∙ length-append a b ∙ ap (λ n. n + length b) h.0.1 ∙ ap (λ n. j + n) g.0.1;
  value = ap (digits_value 10) (sym (e ∙ ap (λ x. x ++ b) h.1 ∙ ap (λ x. ds ++ x) g.1));
}

-- digits in two parts
pub record Split (j k : ℕ) (bytes : List ℕ) : Type 0 where
  pub front : List ℕ
  pub last : List ℕ
  pub is_front : IsExact j front
  pub is_last : IsExact k last
  pub bytes_are : bytes ≡ front ++ last

three_from : (bytes : List ℕ) → AllDigits 10 bytes → length bytes ≡ 3 → Split 2 1 bytes
three_from [] h e = absurd (omega (arith, e))
three_from (x ∷ []) h e = absurd (omega (arith, e))
three_from (x ∷ y ∷ []) h e = absurd (omega (arith, e))
three_from (x ∷ y ∷ z ∷ []) h e = record { front = x ∷ y ∷ []; last = z ∷ []; is_front = ((h.0, (h.1.0, tt)), refl); is_last = ((h.1.1.0, tt), refl); bytes_are = refl }
three_from (x ∷ y ∷ z ∷ w ∷ ws) h e = absurd (omega (arith, e))

pub two_from : (bytes : List ℕ) → AllDigits 10 bytes → length bytes ≡ 2 → Split 1 1 bytes
two_from [] h e = absurd (omega (arith, e))
two_from (x ∷ []) h e = absurd (omega (arith, e))
two_from (x ∷ y ∷ []) h e = record { front = x ∷ []; last = y ∷ []; is_front = ((h.0, tt), refl); is_last = ((h.1.0, tt), refl); bytes_are = refl }
two_from (x ∷ y ∷ z ∷ zs) h e = absurd (omega (arith, e))

-- ---- after a year and its hyphen
after_hyphen : IsForm AfterHyphen (IsRest (45 ∷ [])) ends_date
after_hyphen =
    weakened ends_date
    (retold (IsRest (45 ∷ [])) (either 87 0 (led 87 (both (digits 2) weekday_after_hyphen)) (both (lists 2) (either 45 0 (led 45 (digits 2)) (lists 1)))) into there here)
    (λ f h. and_true (avoids 45 0 f) (first_true _ _ h))
  where
    Raw : Type 0
    Raw = (ℕ × ℕ) ⊎ (List ℕ × (ℕ ⊎ List ℕ))

    IsRaw : List ℕ → Raw → Type 0
    IsRaw = IsEither (IsLed 87 (IsThen (IsNumber 2) (IsWeekday (45 ∷ [])))) (IsThen (AreDigits 2) (IsEither (IsLed 45 (IsNumber 2)) (AreDigits 1)))

    into : Raw → Rest
    into (inl v) = inl v
    into (inr (a, inl d)) = inr (inl (digits_value 10 a, d))
    into (inr (a, inr b)) = inr (inr (digits_value 10 (a ++ b)))

    there : (bytes : List ℕ) (v : Raw) → IsRaw bytes v → IsRest (45 ∷ []) bytes (into v)
    there bytes (inl (w, d)) h = record { week = h.1.front; weekday = h.1.back; is_week = h.1.first; is_weekday = h.1.second; bytes_are = h.2 ∙ ap (λ r. 87 ∷ r) h.1.bytes_are }
    there bytes (inr (a, inl d)) h = record {
      month = h.front;
      day = h.second.0;
      is_month = number_of 2 h.front a h.first;
      is_day = h.second.1;
      bytes_are = h.bytes_are ∙ ap (λ r. h.front ++ r) h.second.2;
    }
    there bytes (inr (a, inr b)) h = joined 2 1 bytes h.front h.back a b h.first h.second h.bytes_are

    here : (bytes : List ℕ) (r : Rest) → IsRest (45 ∷ []) bytes r → (v : Raw) × IsRaw bytes v × (into v ≡ r)
    here bytes (inl (w, d)) h = (inl (w, d), (h.week ++ h.weekday, record { front = h.week; back = h.weekday; first = h.is_week; second = h.is_weekday; bytes_are = refl }, h.bytes_are), refl)
    here bytes (inr (inl (m, d))) h = (
      inr (h.month, inl d),
      record { front = h.month; back = 45 ∷ h.day; first = ((h.is_month.all, h.is_month.count), refl); second = (h.day, h.is_day, refl); bytes_are = h.bytes_are },
      ap (λ n. inr (inl (n, d))) (sym h.is_month.value),
    )
    here bytes (inr (inr o)) h =
        let s = three_from bytes h.all h.count in (
          inr (s.front, inr s.last),
          record { front = s.front; back = s.last; first = (s.is_front, refl); second = (s.is_last, refl); bytes_are = s.bytes_are },
          ap (λ n. inr (inr n)) (ap (digits_value 10) (sym s.bytes_are) ∙ sym h.value),
        )

-- ---- after a year of the basic format
basic_rest : IsForm BasicRest (IsRest []) ends_date
basic_rest =
    weakened ends_date
    (retold (IsRest [])
    (either 87 0 (led 87 (both (digits 2) weekday_alone)) (both (lists 2) (both (lists 1) (either 48 9 {part = λ f. f} (lists 1) nothing))))
    into there here)
    (λ f h. let others = second_true _ _ h in and_both (avoids 49 6 f) _ (first_true _ _ others) (and_true (avoids 48 9 f) (second_true _ _ others)))
  where
    Raw : Type 0
    Raw = (ℕ × ℕ) ⊎ (List ℕ × (List ℕ × (List ℕ ⊎ Unit {0})))

    IsRaw : List ℕ → Raw → Type 0
    IsRaw = IsEither (IsLed 87 (IsThen (IsNumber 2) (IsWeekday []))) (IsThen (AreDigits 2) (IsThen (AreDigits 1) (IsEither (AreDigits 1) IsNothing)))

    into : Raw → Rest
    into (inl v) = inl v
    into (inr (a, (b, inl c))) = inr (inl (digits_value 10 a, digits_value 10 (b ++ c)))
    into (inr (a, (b, inr u))) = inr (inr (digits_value 10 (a ++ b)))

    there : (bytes : List ℕ) (v : Raw) → IsRaw bytes v → IsRest [] bytes (into v)
    there bytes (inl (w, d)) h = record { week = h.1.front; weekday = h.1.back; is_week = h.1.first; is_weekday = h.1.second; bytes_are = h.2 ∙ ap (λ r. 87 ∷ r) h.1.bytes_are }
    there bytes (inr (a, (b, inl c))) h = record {
      month = h.front;
      day = h.back;
      is_month = number_of 2 h.front a h.first;
      is_day = joined 1 1 h.back h.second.front h.second.back b c h.second.first h.second.second h.second.bytes_are;
      bytes_are = h.bytes_are;
    }
    there bytes (inr (a, (b, inr u))) h =
        joined 2 1 bytes h.front h.second.front a b h.first h.second.first
        (h.bytes_are ∙ ap (λ r. h.front ++ r) (h.second.bytes_are ∙ ap (λ r. h.second.front ++ r) h.second.second ∙ append-nil h.second.front))

    here : (bytes : List ℕ) (r : Rest) → IsRest [] bytes r → (v : Raw) × IsRaw bytes v × (into v ≡ r)
    here bytes (inl (w, d)) h = (inl (w, d), (h.week ++ h.weekday, record { front = h.week; back = h.weekday; first = h.is_week; second = h.is_weekday; bytes_are = refl }, h.bytes_are), refl)
    here bytes (inr (inl (m, d))) h =
        let s = two_from h.day h.is_day.all h.is_day.count in (
          inr (h.month, (s.front, inl s.last)),
          record {
            front = h.month;
            back = h.day;
            first = ((h.is_month.all, h.is_month.count), refl);
            second = record { front = s.front; back = s.last; first = (s.is_front, refl); second = (s.is_last, refl); bytes_are = s.bytes_are };
            bytes_are = h.bytes_are;
          },
          ap (λ n. inr (inl (n, digits_value 10 (s.front ++ s.last)))) (sym h.is_month.value) ∙ ap (λ n. inr (inl (m, n))) (ap (digits_value 10) (sym s.bytes_are) ∙ sym h.is_day.value),
        )
    here bytes (inr (inr o)) h =
        let s = three_from bytes h.all h.count in (
          inr (s.front, (s.last, inr tt)),
          record {
            front = s.front;
            back = s.last;
            first = (s.is_front, refl);
            second = record { front = s.last; back = []; first = (s.is_last, refl); second = refl; bytes_are = sym (append-nil s.last) };
            bytes_are = s.bytes_are;
          },
          ap (λ n. inr (inr n)) (ap (digits_value 10) (sym s.bytes_are) ∙ sym h.value),
        )

-- ---- the whole
rest_of : (mark : List ℕ) (bytes : List ℕ) (y : ℤ) (r : Rest) → IsRest mark bytes r → IsAfterYear mark bytes (with_year y r)
unfolding with_year
rest_of mark bytes y (inl (w, d)) h = h
rest_of mark bytes y (inr (inl (m, d))) h = h
rest_of mark bytes y (inr (inr o)) h = h

year_of : (y : ℤ) (r : Rest) → form_year (with_year y r) ≡ y
unfolding with_year
year_of y (inl (w, d)) = refl
year_of y (inr (inl (m, d))) = refl
year_of y (inr (inr o)) = refl

record Parts (mark bytes : List ℕ) (f : DateNumbers) : Type 0 where
  rest : Rest
  is : IsRest mark bytes rest
  whole : with_year (form_year f) rest ≡ f

parts : (mark bytes : List ℕ) (f : DateNumbers) → IsAfterYear mark bytes f → Parts mark bytes f
unfolding with_year
parts mark bytes (Calendar y m d) h = record { rest = inr (inl (m, d)); is = h; whole = refl }
parts mark bytes (Ordinal y o) h = record { rest = inr (inr o); is = h; whole = refl }
parts mark bytes (Week y w d) h = record { rest = inl (w, d); is = h; whole = refl }

pub date_form : IsForm Date HasIsoDate ends_date
date_form =
    weakened ends_date
    (retold HasIsoDate (either 43 0 (led 43 years_form) (either 45 0 (led 45 years_form) (both (digits 4) (either 45 0 (led 45 after_hyphen) basic_rest)))) into there here)
    (λ f h. all (ends_date f) h)
  where
    all : (b : Bool) → IsTrue b → IsTrue (b && ((b && ((b && (b && true)) && true)) && true))
    all true h = refl
    all false h = absurd cc

    Raw : Type 0
    Raw = (ℕ × Rest) ⊎ ((ℕ × Rest) ⊎ (ℕ × (Rest ⊎ Rest)))

    Years : List ℕ → ℕ × Rest → Type 0
    Years = IsThen (IsRun 4 2 (digits_value 10)) (IsLed 45 (IsRest (45 ∷ [])))

    years_form : IsForm Expanded Years ends_date
    years_form = both (run 4 2 (digits_value 10)) (led 45 after_hyphen)

    IsRaw : List ℕ → Raw → Type 0
    IsRaw = IsEither (IsLed 43 Years) (IsEither (IsLed 45 Years) (IsThen (IsNumber 4) (IsEither (IsLed 45 (IsRest (45 ∷ []))) (IsRest []))))

    into : Raw → DateNumbers
    into (inl (n, r)) = with_year (pos n) r
    into (inr (inl (n, r))) = with_year (neg_ℤ (pos n)) r
    into (inr (inr (n, inl r))) = with_year (pos n) r
    into (inr (inr (n, inr r))) = with_year (pos n) r

    expanded_there : (bytes rest : List ℕ) (b : Bool) (n : ℕ) (r : Rest) → Years rest (n, r) → bytes ≡ sign_byte b ∷ rest → HasIsoDate bytes (with_year (signed b n) r)
    expanded_there bytes rest b n r h e =
        let year = h.first in
        inl (record {
          year = sign_byte b ∷ h.front;
          rest = h.second.0;
          is_year = inr (record {
            is_negative = b;
            digits = h.front;
            all = year.0.0;
            least = year.0.1;
            most = omega (arith, year.0.2);
            bytes_are = refl;
            value = year_of (signed b n) r ∙ ap (signed b) year.1;
          });
          is_rest = rest_of (45 ∷ []) h.second.0 (signed b n) r h.second.1;
          bytes_are = e ∙ ap (λ x. sign_byte b ∷ x) (h.bytes_are ∙ ap (λ x. h.front ++ x) h.second.2);
        })

    there : (bytes : List ℕ) (v : Raw) → IsRaw bytes v → HasIsoDate bytes (into v)
    there bytes (inl (n, r)) h = expanded_there bytes h.0 false n r h.1 h.2
    there bytes (inr (inl (n, r))) h = expanded_there bytes h.0 true n r h.1 h.2
    there bytes (inr (inr (n, inl r))) h =
        inl (record {
          year = h.front;
          rest = h.second.0;
          is_year = inl (n, h.first, year_of (pos n) r);
          is_rest = rest_of (45 ∷ []) h.second.0 (pos n) r h.second.1;
          bytes_are = h.bytes_are ∙ ap (λ x. h.front ++ x) h.second.2;
        })
    there bytes (inr (inr (n, inr r))) h =
        inr (record { year = h.front; rest = h.back; is_year = (n, h.first, year_of (pos n) r); is_rest = rest_of [] h.back (pos n) r h.second; bytes_are = h.bytes_are })

    Found : List ℕ → DateNumbers → Type 0
    Found bytes f = (v : Raw) × IsRaw bytes v × (into v ≡ f)

    expanded_here : (bytes rest : List ℕ) (f : DateNumbers) (year : List ℕ) → IsExpandedYear year (form_year f) → IsAfterYear (45 ∷ []) rest f → bytes ≡ year ++ 45 ∷ rest → Found bytes f
    expanded_here bytes rest f year h is e = at h.is_negative refl
      where
        p : Parts (45 ∷ []) rest f
        p = parts (45 ∷ []) rest f is

        years : Years (h.digits ++ 45 ∷ rest) (digits_value 10 h.digits, p.rest)
        years = record {
          front = h.digits;
          back = 45 ∷ rest;
          first = ((h.all, h.least, omega (arith, h.most)), refl);
          second = (rest, p.is, refl);
          bytes_are = refl;
        }

        text : (b : Bool) → h.is_negative ≡ b → bytes ≡ sign_byte b ∷ (h.digits ++ 45 ∷ rest)
        text b same = e ∙ ap (λ x. x ++ 45 ∷ rest) h.bytes_are ∙ ap (λ x. sign_byte x ∷ (h.digits ++ 45 ∷ rest)) same

        value : (b : Bool) → h.is_negative ≡ b → with_year (signed b (digits_value 10 h.digits)) p.rest ≡ f
        value b same = ap (λ y. with_year y p.rest) (sym (h.value ∙ ap (λ x. signed x (digits_value 10 h.digits)) same)) ∙ p.whole

        at : (b : Bool) → h.is_negative ≡ b → Found bytes f
        at false same = (inl (digits_value 10 h.digits, p.rest), (h.digits ++ 45 ∷ rest, years, text false same), value false same)
        at true same = (inr (inl (digits_value 10 h.digits, p.rest)), (h.digits ++ 45 ∷ rest, years, text true same), value true same)

    here : (bytes : List ℕ) (f : DateNumbers) → HasIsoDate bytes f → Found bytes f
    here bytes f (inl h) = elim h.is_year as (λ _. Found bytes f) [
      | inl year ↦
          let p = parts (45 ∷ []) h.rest f h.is_rest in (
            inr (inr (year.0, inl p.rest)),
            record { front = h.year; back = 45 ∷ h.rest; first = year.1; second = (h.rest, p.is, refl); bytes_are = h.bytes_are },
            ap (λ y. with_year y p.rest) (sym year.2) ∙ p.whole,
          )
      | inr year ↦ expanded_here bytes h.rest f h.year year h.is_rest h.bytes_are
    ]
    here bytes f (inr h) =
        let p = parts [] h.rest f h.is_rest in (
          inr (inr (h.is_year.0, inr p.rest)),
          record { front = h.year; back = h.rest; first = h.is_year.1; second = p.is; bytes_are = h.bytes_are },
          ap (λ y. with_year y p.rest) (sym h.is_year.2) ∙ p.whole,
        )

pub date_shape : IsShapeOf HasIsoDate (Date End)
date_shape = whole date_form refl
