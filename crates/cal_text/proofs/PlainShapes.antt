-- The shape of a date-time, and what a scanner read of one.
use Rattle.std.proofs.Common.{◌≡◌, ℕ, List, [], ◌∷◌, ◌++◌, refl, sym, ap, ◌∙◌}
use Rattle.std.proofs.lemmas.List.{append_assoc}
use Rattle.cal_text.specs.declared.date_numbers.DateNumbers.{DateNumbers}
use Rattle.cal_text.specs.declared.time.numbers.TimeNumbers.{TimeNumbers}
use Rattle.cal_text.specs.DateForms.{HasForm}
use Rattle.cal_text.specs.PlainForm.{HasPlainForm}
use Rattle.cal_text.specs.Rfc3339Form.{IsSeparator}
use Rattle.cal_text.specs.Shape.{Plain, plain, GoesPast}
use Rattle.cal_text.specs.TimeForm.{HasTimeForm}
use Rattle.cal_text.proofs.FormShapes.{date_form}
use Rattle.cal_text.proofs.Forms.{IsForm, both, retold, whole, put}
use Rattle.cal_text.proofs.MomentShapes.{separator}
use Rattle.cal_text.proofs.Positions.{IsShapeOf}
use Rattle.cal_text.proofs.TimeShapes.{ends_time, time_form}

pub plain_form : IsForm Plain HasPlainForm ends_time
plain_form =
    retold HasPlainForm (both date_form (both separator time_form)) (λ v. record { date = v.0; time = v.1.1 })
    (λ bytes v h.
    let t = h.second in
    record {
      date = h.front;
      separator = v.1.0;
      time = t.back;
      has_date = h.first;
      is_separator = t.first.0;
      has_time = t.second;
      bytes_are = put h.bytes_are refl (put t.bytes_are t.first.1 refl);
    })
    (λ bytes p h. (
      (p.date, (h.separator, p.time)),
      record {
        front = h.date;
        back = h.separator ∷ h.time;
        first = h.has_date;
        second = record { front = h.separator ∷ []; back = h.time; first = (h.is_separator, refl); second = h.has_time; bytes_are = refl };
        bytes_are = h.bytes_are;
      },
      refl,
    ))

pub plain_shape : IsShapeOf HasPlainForm plain
plain_shape = whole plain_form refl

-- ---- what a scanner read
pub put_plain : (f : DateNumbers) (t : TimeNumbers) (s : ℕ) (old mid rest new : List ℕ) → GoesPast (λ bytes. HasForm bytes f) old mid → IsSeparator s → mid ≡ s ∷ rest
    → GoesPast (λ bytes. HasTimeForm bytes t) rest new → GoesPast (λ bytes. HasPlainForm bytes (record { date = f; time = t })) old new
put_plain f t s old mid rest new date separator byte time = record {
  front = date.front ++ s ∷ time.front;
  is = record {
    date = date.front;
    separator = s;
    time = time.front;
    has_date = date.is;
    is_separator = separator;
    has_time = time.is;
    bytes_are = refl;
  };
  bytes_are = date.bytes_are ∙ ap (λ r. date.front ++ r) (byte ∙ ap (λ r. s ∷ r) time.bytes_are) ∙ sym (append_assoc date.front (s ∷ time.front) new);
}
