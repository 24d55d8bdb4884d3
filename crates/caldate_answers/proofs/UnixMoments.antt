-- Whole numbers of units as moments.
use Rattle.std.proofs.Common.{◌≡◌, inl, inr, refl, ℕ, ◌<◌, ◌≤◌, ◌^◌, List, ℤ, pos, negsuc, unsigned_abs, Result, Ok, ap, subst, sym, ◌∙◌, arith, lit≤, to_z, of_z, ◌+ℤ◌, ◌*ℤ◌}
use Rattle.std.specs.Int.{w128}
use Rattle.std.proofs.lemmas.Bool.{cases_lt}
use Rattle.std.proofs.lemmas.Int.{ints, to_z-of_z}
use Rattle.cal_time.specs.declared.error.ComponentRange.{ComponentRange}
use Rattle.cal_datetime.specs.DateTime.{IsDateTime, last_date_time}
use Rattle.cal_datetime.specs.OffsetDateTime.{LocalAndOffset, unix_epoch}
use Rattle.cal_text.specs.declared.any.DateOrMoment.{DateOrMoment}
use Rattle.cal_text.specs.declared.any.DateOrMoment.TheVariants.{Moment}
use Rattle.cal_text.specs.declared.any.MomentForm.TheVariants.{Unix}
use Rattle.cal_text.proofs.Results.{one}
use Rattle.caldate_answers.specs.Readings.{IsErrorIn, IsNumber, IsNumberOf, local_of, nanoseconds_in}
use Rattle.caldate_answers.specs.declared.reading.Reading.TheVariants as reading
use Rattle.caldate_answers.specs.declared.request.UnixUnit.{UnixUnit}
use Rattle.caldate_answers.specs.declared.request.UnixUnit.TheVariants.{Milliseconds, Microseconds, Nanoseconds}
use Rattle.caldate_answers.proofs.WholeNumbers.{whole_shape}

-- ---- one number of 128 bits
pub wide : (z : ℤ) → unsigned_abs z < 10 ^ 33 → to_z w128 (of_z w128 z) ≡ z
wide (pos n) h = to_z-of_z w128 (pos n) (record { sfits = grind (arith, ints) })
wide (negsuc n) h = to_z-of_z w128 (negsuc n) (record { sfits = grind (arith, ints) })

-- ---- a number of units, in nanoseconds
scaled : (unit : UnixUnit) (z : ℤ) → unsigned_abs z < 10 ^ 27 → unsigned_abs (z *ℤ pos (nanoseconds_in unit)) < 10 ^ 33
scaled Milliseconds z h = omega (arith, ints, h)
scaled Microseconds z h = omega (arith, ints, h)
scaled Nanoseconds z h = omega (arith, ints, h)

short : (unit : UnixUnit) → nanoseconds_in unit ≤ 1000000
short Milliseconds = lit≤ tt
short Microseconds = lit≤ tt
short Nanoseconds = lit≤ tt

pub product : (unit : UnixUnit) (z f : ℤ) → unsigned_abs z < 10 ^ 27 → f ≡ pos (nanoseconds_in unit)
    → to_z w128 (of_z w128 (to_z w128 (of_z w128 z) *ℤ to_z w128 (of_z w128 f))) ≡ z *ℤ pos (nanoseconds_in unit)
product unit z f small e =
    let number : to_z w128 (of_z w128 z) ≡ z = wide z (omega (arith, small)) in
    let factor : to_z w128 (of_z w128 f) ≡ pos (nanoseconds_in unit) = ap (λ f. to_z w128 (of_z w128 f)) e ∙ wide (pos (nanoseconds_in unit)) (omega (arith, short unit)) in
    ap (λ z. to_z w128 (of_z w128 (z *ℤ to_z w128 (of_z w128 f)))) number ∙ ap (λ f. to_z w128 (of_z w128 (z *ℤ f))) factor
    ∙ wide (z *ℤ pos (nanoseconds_in unit)) (scaled unit z small)

-- the moment of a number, or none
in_range : (z : ℤ) → (¬ IsDateTime z → ⊥) → IsDateTime z
in_range (pos n) h = elim (cases_lt last_date_time n) as (λ _. IsDateTime (pos n)) [
  | inl more ↦ absurd (h (λ k. omega (arith, ints, k.not_after, more)))
  | inr few ↦ record { not_before = omega (arith, ints); not_after = omega (arith, ints, few) }
]
in_range (negsuc n) h = absurd (h (λ k. omega (arith, ints, k.not_before)))

abbrev at_utc : ℤ → LocalAndOffset
at_utc v = record { local = unix_epoch +ℤ v; offset = pos 0 }

pub moment_of : {E : Type 0} (unit : UnixUnit) (text : List ℕ) (z v : ℤ) (m : LocalAndOffset) → IsNumber text z → v ≡ z *ℤ pos (nanoseconds_in unit)
    → (IsDateTime (unix_epoch +ℤ v) → ◌≡◌ {A = Result LocalAndOffset E} (Ok m) (Ok (record { local = unix_epoch +ℤ v; offset = pos 0 })))
    → (¬ IsDateTime (unix_epoch +ℤ v) → ⊥) → IsNumberOf unit text (Moment Unix m)
moment_of unit text z v m n e made some =
    let range = in_range (unix_epoch +ℤ v) some in
    let local : unix_epoch +ℤ v ≡ local_of unit z = ap (λ v. unix_epoch +ℤ v) e in
    (z, n, (m, record { in_range = subst IsDateTime local range; at_utc = one _ _ (made range) ∙ ap at_utc e }, refl))

pub same_moment : {E : Type 0} (unit : UnixUnit) (text : List ℕ) (z v : ℤ) (found : DateOrMoment) (r : Result LocalAndOffset E) → IsNumber text z → v ≡ z *ℤ pos (nanoseconds_in unit)
    → (IsDateTime (unix_epoch +ℤ v) → r ≡ Ok (record { local = unix_epoch +ℤ v; offset = pos 0 })) → IsNumberOf unit text found
    → (m : LocalAndOffset) × (r ≡ Ok m) × (found ≡ Moment Unix m)
same_moment unit text z v found r number e made (x, n, (m, is, same)) =
    let local : unix_epoch +ℤ v ≡ local_of unit x = ap (λ v. unix_epoch +ℤ v) e ∙ ap (local_of unit) (whole_shape.one text z x number n) in
    (m, made (subst IsDateTime (sym local) is.in_range) ∙ ap (λ z. let at : LocalAndOffset = record { local = z; offset = pos 0 } in Ok at) local ∙ ap Ok (sym is.at_utc), same)

pub no_fault : (unit : UnixUnit) (text : List ℕ) (z v : ℤ) (why : ComponentRange) → IsNumber text z
    → v ≡ z *ℤ pos (nanoseconds_in unit) → (¬ IsDateTime (unix_epoch +ℤ v) → ⊥) → IsErrorIn (reading.Unix unit) text why → ⊥
no_fault unit text z v why number e some (is, (x, n, out)) =
    let same = whole_shape.one text z x number n in
    some (λ range. out (subst IsDateTime (ap (λ v. unix_epoch +ℤ v) e ∙ ap (local_of unit) same) range))
