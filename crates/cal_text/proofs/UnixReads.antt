-- A Unix time in text has one moment at UTC, or none.
use Rattle.std.proofs.Common.{◌≡◌, ℕ, ◌<◌, ◌^◌, ℤ, pos, negsuc, ◌+ℤ◌, ◌*ℤ◌, unsigned_abs, FitsSigned, to_z, of_z, ◌↔◌, Result, Ok, Err, IfOk, IfErr, List, refl, sym, subst, ap, ◌∙◌, arith, inl, inr}
use Rattle.std.proofs.lemmas.Bool.{cases_lt}
use Rattle.std.specs.Int.{w128}
use Rattle.std.proofs.lemmas.Int.{ints, to_z-of_z}
use Rattle.cal_time.specs.SignedDuration.{second}
use Rattle.cal_datetime.specs.DateTime.{IsDateTime, last_date_time}
use Rattle.cal_datetime.specs.OffsetDateTime.{LocalAndOffset, instant, unix_epoch, unix_nanoseconds}
use Rattle.cal_time.specs.ComponentError.{FailsWith}
use Rattle.cal_time.specs.declared.error.ComponentRange.{ComponentRange}
use Rattle.cal_text.specs.UnixText.{HasUnixForm, IsUnixText, IsUnixTimeError, timestamp_out_of_range}
use Rattle.cal_text.proofs.Errors.{all, last}
use Rattle.cal_text.proofs.Parsed.{IsMade}
use Rattle.cal_text.proofs.Results.{one}

-- the moment at UTC of a Unix time
abbrev pub at_utc : ℤ → LocalAndOffset
at_utc v = record { local = unix_epoch +ℤ v; offset = pos 0 }

says : (v : ℤ) → unix_nanoseconds (instant (at_utc v)) ≡ v
unfolding instant
says v = omega (arith, ints)

local-is : (m : LocalAndOffset) → m.offset ≡ pos 0 → m.local ≡ unix_epoch +ℤ unix_nanoseconds (instant m)
unfolding instant
local-is m e = let none = ap (λ o. o *ℤ pos second) e in omega (arith, ints, none)

is-at_utc : (m : LocalAndOffset) → m.offset ≡ pos 0 → m ≡ at_utc (unix_nanoseconds (instant m))
is-at_utc m e = let local = local-is m e in λ i. record { local = local i; offset = e i }

-- A number is a date-time if it isn't out of range.
pub in_range : (z : ℤ) → ¬ ¬ IsDateTime z → IsDateTime z
in_range (pos n) h = elim (cases_lt last_date_time n) as (λ _. IsDateTime (pos n)) [
  | inl more ↦ absurd (h (λ k. omega (arith, ints, k.not_after, more)))
  | inr few ↦ record { not_before = omega (arith, ints); not_after = omega (arith, ints, few) }
]
in_range (negsuc n) h = absurd (h (λ k. omega (arith, ints, k.not_before)))

-- the moment of a number
abbrev pub IsUnixOf : ℤ → LocalAndOffset → Type 0
IsUnixOf v m = IsDateTime (unix_epoch +ℤ v) × (at_utc v ≡ m)

pub text_of : (text : List ℕ) (v : ℤ) (m : LocalAndOffset) → HasUnixForm text v → IsUnixOf v m → IsUnixText text m
text_of text v m form is = subst (IsUnixText text) is.1 (record { in_range = is.0; at_utc = refl; form = subst (HasUnixForm text) (sym (says v)) form })

pub form_of : (text : List ℕ) (m : LocalAndOffset) → IsUnixText text m → (v : ℤ) × HasUnixForm text v × IsUnixOf v m
form_of text m is = (unix_nanoseconds (instant m), is.form, (subst IsDateTime (local-is m is.at_utc) is.in_range, sym (is-at_utc m is.at_utc)))

pub unix_made : (v k : ℤ) (r : Result LocalAndOffset ComponentRange) → k ≡ v → (IsDateTime (unix_epoch +ℤ k) → r ≡ Ok (at_utc k))
    → FailsWith timestamp_out_of_range r ↔ ¬ IsDateTime (unix_epoch +ℤ k) → IfErr r (λ e. e ≡ timestamp_out_of_range) → IsMade IsUnixOf IsUnixTimeError v r
unix_made v k r same value fails kind =
    subst (λ u. IsMade IsUnixOf IsUnixTimeError u r) same (record { every = λ m is. value is.0 ∙ ap Ok is.1; value = found r value fails; error = all r (last r timestamp_out_of_range _ fails) kind })
  where
    found : (s : Result LocalAndOffset ComponentRange) → (IsDateTime (unix_epoch +ℤ k) → s ≡ Ok (at_utc k)) → FailsWith timestamp_out_of_range s ↔ ¬ IsDateTime (unix_epoch +ℤ k)
        → IfOk s (IsUnixOf k)
    found (Ok m) made error = let range = in_range (unix_epoch +ℤ k) (λ none. error.1 none) in (range, sym (one m (at_utc k) (made range)))
    found (Err e) made error = tt

-- what a text says fits into 128 bits
fits : (v : ℤ) → unsigned_abs v < 10 ^ 28 → FitsSigned w128 v
fits (pos n) h = record { sfits = grind (arith, ints) }
fits (negsuc n) h = record { sfits = grind (arith, ints) }

wide : (v : ℤ) → unsigned_abs v < 10 ^ 28 → to_z w128 (of_z w128 v) ≡ v
wide v h = to_z-of_z w128 v (fits v h)

pub wide-form : (text : List ℕ) (v : ℤ) → HasUnixForm text v → to_z w128 (of_z w128 v) ≡ v
wide-form text v h = wide v (omega (arith, h.seconds))
