-- A string that has no form shows nothing.
use Rattle.std.proofs.Common.{◌≡◌, ◌∙◌, List, ℕ, sym, inl, inr}
use Rattle.std.specs.Prelude.{◌⊎◌, Option, None, Some}
use Rattle.std.proofs.lemmas.Option.{none-some}
use Rattle.cal_errors.specs.declared.components.Components.{Components}
use Rattle.cal_text.specs.OffsetForm.{HasOffsetForm}
use Rattle.cal_text.specs.Rfc3339Form.{HasMomentForm}
use Rattle.cal_text.specs.declared.date_numbers.DateNumbers.{DateNumbers}
use Rattle.cal_text.specs.declared.offset.numbers.OffsetNumbers.{OffsetNumbers}
use Rattle.cal_text.specs.declared.offset_date_time.numbers.OffsetDateTimeNumbers.{OffsetDateTimeNumbers}
use Rattle.cal_text.specs.declared.plain.numbers.PlainNumbers.{PlainNumbers}
use Rattle.cal_text.specs.declared.rfc3339.numbers.Numbers.{Numbers}
use Rattle.cal_text.specs.declared.time.numbers.TimeNumbers.{TimeNumbers}
use Rattle.cal_string_errors.specs.Shown.{Shows, ShowsDate, ShowsMoment, ShowsPlain, ShowsTime}

-- Two parsers, of which the first returned nothing and the second this.
pub neither : {V : Type 0} (r : Option V) (P Q : V → Type 0) → ((v : V) → P v → None ≡ Some v) → ((v : V) → Q v → r ≡ Some v) → r ≡ None → (v : V) → P v ⊎ Q v → ⊥
neither r P Q own other none v (inl h) = none-some v (own v h)
neither r P Q own other none v (inr h) = none-some v (sym none ∙ other v h)

pub nothing-shown : (text : List ℕ) → ((d : DateNumbers) → ShowsDate text d → ⊥) → ((t : TimeNumbers) → ShowsTime text t → ⊥) → ((o : OffsetNumbers) → HasOffsetForm text o → ⊥)
    → ((p : PlainNumbers) → ShowsPlain text p → ⊥) → ((m : OffsetDateTimeNumbers) → ShowsMoment text m → ⊥) → ((m : Numbers) → HasMomentForm text m → ⊥)
    → (c : Components) → Shows text c → ⊥
nothing-shown text date time offset plain moment numbers c (inl h) = date h.0 h.1
nothing-shown text date time offset plain moment numbers c (inr (inl h)) = time h.0 h.1
nothing-shown text date time offset plain moment numbers c (inr (inr (inl h))) = offset h.0 h.1
nothing-shown text date time offset plain moment numbers c (inr (inr (inr (inl h)))) = plain h.0 h.1
nothing-shown text date time offset plain moment numbers c (inr (inr (inr (inr (inl h))))) = moment h.0 h.1
nothing-shown text date time offset plain moment numbers c (inr (inr (inr (inr (inr h))))) = numbers h.0 h.1
