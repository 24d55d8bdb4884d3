use Rattle.std.proofs.Common.{◌≡◌, ◌↔◌, ◌∙◌, ℕ, ℤ, Result, Ok, Err, IfOk, IfErr, List, ap, arith, refl, sym, subst}
use Rattle.std.proofs.lemmas.Int.{ints}
use Rattle.cal_time.specs.ComponentError.{FailsWith}
use Rattle.cal_time.specs.Date.{IsDate, HasJulianDay, NoDate, julian_day_at}
use Rattle.cal_time.specs.DateErrors.{julian_day_out_of_range}
use Rattle.cal_time.specs.declared.error.ComponentRange.{ComponentRange}
use Rattle.cal_text.specs.JulianForm.{julian_form, julian_text, IsJulianForm, IsJulianDayError}
use Rattle.cal_text.specs.Shape.{julian_day}
use Rattle.cal_text.proofs.Errors.{all, last}
use Rattle.cal_text.proofs.NumberShapes.{julian_shape}
use Rattle.cal_text.proofs.Parsed.{IsMade, made, refused, unmatched}
use Rattle.cal_text.proofs.Positions.{stopped}
use Rattle.cal_text.proofs.YearTexts.{written-cast}
use Rattle.cal_text.proofs.julian_day.parse.Goals as goal

abbrev IsDay : ℤ → ℕ → Type 0
IsDay j n = IsDate n × HasJulianDay j n

form_of : (text : List ℕ) (n : ℕ) → IsDate n → text ≡ julian_text n → (j : ℤ) × IsJulianForm text j × IsDay j n
form_of text n date e = (julian_day_at n, record { digits = omega (arith, ints, date); bytes_are = e }, (date, refl))

day_made : (j k : ℤ) (r : Result ℕ ComponentRange) → k ≡ j → ((n : ℕ) → IsDate n → HasJulianDay k n → r ≡ Ok n) → IfOk r (IsDay k)
    → FailsWith julian_day_out_of_range r ↔ NoDate (HasJulianDay k) → IfErr r (λ e. e ≡ julian_day_out_of_range) → IsMade IsDay IsJulianDayError j r
day_made j k r same every value fails kind =
    subst (λ i. IsMade IsDay IsJulianDayError i r) same (record { every = λ n h. every n h.0 h.1; value = value; error = all r (last r julian_day_out_of_range _ fails) kind })

pub returns-in-Ok : goal.returns-in-Ok
returns-in-Ok c =
    let j = c.in-Some.julian_day in
    let has = c.in-Some.ensures.value in
    let e = c.in-Ok.ensures in
    let day = day_made j _ (Ok c.in-Ok.date) (written-cast j has.digits) e.every e.value e.julian_day e.error_kind in
    let is = made IsJulianForm IsDay IsJulianDayError _ j _ julian_shape.one has day in
    record { every = λ n date t. is.every n (form_of _ n date t); value = (e.value.0, has.bytes_are ∙ ap julian_form (sym day.value.1)); syntax_error = is.syntax_error; position = is.position; out_of_range = is.out_of_range }

pub returns-in-Err : goal.returns-in-Err
returns-in-Err c =
    let j = c.in-Some.julian_day in
    let has = c.in-Some.ensures.value in
    let e = c.in-Err.ensures in
    let is = refused IsJulianForm IsDay IsJulianDayError _ j _ julian_shape.one has (day_made j _ (Err c.in-Err.error) (written-cast j has.digits) e.every e.value e.julian_day e.error_kind) in
    record { every = λ n date t. is.every n (form_of _ n date t); value = tt; syntax_error = is.syntax_error; position = is.position; out_of_range = is.out_of_range }

pub overflow_sub-position : goal.overflow_sub-position
overflow_sub-position c = (stopped IsJulianForm julian_day julian_shape _ _ c.in-None.ensures.scans).within

pub returns-in-None : goal.returns-in-None
returns-in-None c =
    let e = c.unexpected.ensures in
    let is = unmatched IsJulianForm IsDay IsJulianDayError _ _ c.unexpected.result (stopped IsJulianForm julian_day julian_shape _ _ c.in-None.ensures.scans) e.byte e.end e.form in
    record { every = λ n date t. is.every n (form_of _ n date t); value = tt; syntax_error = is.syntax_error; position = is.position; out_of_range = is.out_of_range }
