-- The shape of the three forms of a date.
use Rattle.std.proofs.Common.{◌≡◌, ℕ, ◌+◌, ◌-◌, ◌*◌, ◌/◌, ◌%◌, ◌⊎◌, inl, inr, ℤ, List, [], ◌∷◌, ◌++◌, refl, sym, ap, ◌∙◌, arith, lit≤}
use Rattle.std.proofs.lemmas.List.{append_assoc}
use Rattle.cal_time.specs.DateText.{digits_at_least}
use Rattle.cal_text.specs.declared.date_numbers.DateNumbers.{DateNumbers}
use Rattle.cal_text.specs.declared.date_numbers.DateNumbers.TheVariants.{Calendar, Ordinal, Week}
use Rattle.cal_text.specs.DateForms.{year_text, HasForm}
use Rattle.cal_text.specs.Shape.{Date, date}
use Rattle.cal_text.proofs.DigitForms.{IsNumber, number, two}
use Rattle.cal_text.proofs.FormReads.{three_digits-split}
use Rattle.cal_text.proofs.Forms.{IsForm, IsByteFrom, IsLed, IsThen, IsEither, always, byte_from, led, both, either, retold, whole, put}
use Rattle.cal_text.proofs.NumberTexts.{one_digit}
use Rattle.cal_text.proofs.Positions.{IsShapeOf}
use Rattle.cal_text.proofs.YearParts.{IsYear, year}

abbrev Raw : Type 0
Raw = ℤ × ((ℕ × ℕ) ⊎ (ℕ × (ℕ ⊎ ℕ)))

abbrev IsRaw : List ℕ → Raw → Type 0
IsRaw =
    IsThen IsYear (IsEither (IsLed 87 (IsThen (IsNumber 2) (IsLed 45 (IsByteFrom 49 6)))) (IsThen (IsNumber 2) (IsEither (IsLed 45 (IsNumber 2)) (IsNumber 1))))

into : Raw → DateNumbers
into (y, inl (w, b)) = Week y w (b - 48)
into (y, inr (m, inl d)) = Calendar y m d
into (y, inr (front, inr last)) = Ordinal y (front * 10 + last)

there : (bytes : List ℕ) (v : Raw) → IsRaw bytes v → HasForm bytes (into v)
unfolding into
there bytes (y, inl (w, b)) h =
    let t = h.second.1 in
    let two = digits_at_least 2 w in
    let in_range = t.second.1.0 in
    let weekday : b ∷ [] ≡ digits_at_least 1 (b - 48) = ap (λ x. x ∷ []) (omega (arith, in_range.0)) ∙ one_digit (b - 48) (omega (arith, in_range.1)) in
    record {
      form = (h.first.0, omega (arith, t.first.0), omega (arith, in_range.0), omega (arith, in_range.1));
      bytes_are = put h.bytes_are h.first.1 (h.second.2 ∙ ap (λ r. 87 ∷ r)
          (put t.bytes_are t.first.1 (t.second.2 ∙ ap (λ r. 45 ∷ r) (t.second.1.1 ∙ weekday)) ∙ sym (append_assoc two (45 ∷ []) (digits_at_least 1 (b - 48)))));
    }
there bytes (y, inr (m, inl d)) h =
    let t = h.second in
    record {
      form = (h.first.0, omega (arith, t.first.0), omega (arith, t.second.1.0));
      bytes_are = put h.bytes_are h.first.1
          (put t.bytes_are t.first.1 (t.second.2 ∙ ap (λ r. 45 ∷ r) t.second.1.1) ∙ sym (append_assoc (digits_at_least 2 m) (45 ∷ []) (digits_at_least 2 d)));
    }
there bytes (y, inr (front, inr last)) h =
    let t = h.second in
    record {
      form = (h.first.0, omega (arith, t.first.0, t.second.0));
      bytes_are = put h.bytes_are h.first.1 (put t.bytes_are t.first.1 t.second.1 ∙ sym (three_digits-split front last (omega (arith, t.first.0)) (omega (arith, t.second.0))));
    }

here : (bytes : List ℕ) (f : DateNumbers) → HasForm bytes f → (v : Raw) × IsRaw bytes v × (into v ≡ f)
unfolding into
here bytes (Calendar y m d) h = (
  (y, inr (m, inl d)),
  record {
    front = year_text y ++ 45 ∷ [];
    back = digits_at_least 2 m ++ 45 ∷ digits_at_least 2 d;
    first = (h.form.0, refl);
    second = record { front = digits_at_least 2 m; back = 45 ∷ digits_at_least 2 d; first = (h.form.1, refl); second = (digits_at_least 2 d, (h.form.2, refl), refl); bytes_are = refl };
    bytes_are = h.bytes_are ∙ ap (λ r. (year_text y ++ 45 ∷ []) ++ r) (append_assoc (digits_at_least 2 m) (45 ∷ []) (digits_at_least 2 d));
  },
  refl,
)
here bytes (Ordinal y o) h =
    let same : o / 10 * 10 + o % 10 ≡ o = omega arith in
    let split = ap (λ n. digits_at_least 3 n) (sym same) ∙ three_digits-split (o / 10) (o % 10) (omega (arith, h.form.1)) (omega arith) in (
      (y, inr (o / 10, inr (o % 10))),
      record {
        front = year_text y ++ 45 ∷ [];
        back = digits_at_least 2 (o / 10) ++ digits_at_least 1 (o % 10);
        first = (h.form.0, refl);
        second = record { front = digits_at_least 2 (o / 10); back = digits_at_least 1 (o % 10); first = (omega (arith, h.form.1), refl); second = (omega arith, refl); bytes_are = refl };
        bytes_are = h.bytes_are ∙ ap (λ r. (year_text y ++ 45 ∷ []) ++ r) split;
      },
      ap (λ n. Ordinal y n) same,
    )
here bytes (Week y w d) h =
    let two = digits_at_least 2 w in
    let weekday : digits_at_least 1 d ≡ (48 + d) ∷ [] = sym (one_digit d (omega (arith, h.form.3))) in
    let same : 48 + d - 48 ≡ d = omega arith in (
      (y, inl (w, 48 + d)),
      record {
        front = year_text y ++ 45 ∷ [];
        back = 87 ∷ (two ++ 45 ∷ (48 + d) ∷ []);
        first = (h.form.0, refl);
        second = (
          two ++ 45 ∷ (48 + d) ∷ [],
          record {
            front = two;
            back = 45 ∷ (48 + d) ∷ [];
            first = (h.form.1, refl);
            second = ((48 + d) ∷ [], ((omega (arith, h.form.2), omega (arith, h.form.3)), refl), refl);
            bytes_are = refl;
          },
          refl,
        );
        bytes_are = h.bytes_are ∙ ap (λ r. (year_text y ++ 45 ∷ []) ++ 87 ∷ r) (append_assoc two (45 ∷ []) (digits_at_least 1 d) ∙ ap (λ r. two ++ 45 ∷ r) weekday);
      },
      ap (λ n. Week y w n) same,
    )

pub date_form : IsForm Date HasForm always
date_form =
    retold HasForm (both year (either 87 0 (led 87 (both two (led 45 (byte_from 49 6)))) (both two (either 45 0 (led 45 two) (number 1 (lit≤ tt) (lit≤ tt)))))) into there here

pub date_shape : IsShapeOf HasForm date
date_shape = whole date_form refl
