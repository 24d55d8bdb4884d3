-- The shape of a moment, and what a scanner read of one.
use Rattle.std.proofs.Common.{◌≡◌, ◌⊎◌, inl, inr, List, ℕ, refl}
use Rattle.cal_text.specs.declared.offset.numbers.OffsetNumbers.{OffsetNumbers}
use Rattle.cal_text.specs.declared.plain.numbers.PlainNumbers.{PlainNumbers}
use Rattle.cal_text.specs.OffsetDateTimeForm.{IsSpacedOffset, HasOffsetDateTimeForm}
use Rattle.cal_text.specs.OffsetForm.{HasOffsetForm}
use Rattle.cal_text.specs.PlainForm.{HasPlainForm}
use Rattle.cal_text.specs.Shape.{offset_date_time, GoesPast}
use Rattle.cal_text.proofs.Forms.{IsLed, IsEither, led, both, either, retold, whole}
use Rattle.cal_text.proofs.OffsetShapes.{offset_form}
use Rattle.cal_text.proofs.PlainShapes.{plain_form}
use Rattle.cal_text.proofs.Positions.{IsShapeOf}

abbrev IsSpaced : List ℕ → OffsetNumbers ⊎ OffsetNumbers → Type 0
IsSpaced = IsEither (IsLed 32 HasOffsetForm) HasOffsetForm

offset_of : OffsetNumbers ⊎ OffsetNumbers → OffsetNumbers
offset_of (inl o) = o
offset_of (inr o) = o

spaced-there : (bytes : List ℕ) (v : OffsetNumbers ⊎ OffsetNumbers) → IsSpaced bytes v → IsSpacedOffset bytes (offset_of v)
unfolding offset_of
spaced-there bytes (inl o) h = inr h
spaced-there bytes (inr o) h = inl h

spaced-here : (bytes : List ℕ) (o : OffsetNumbers) → IsSpacedOffset bytes o → (v : OffsetNumbers ⊎ OffsetNumbers) × IsSpaced bytes v × (offset_of v ≡ o)
unfolding offset_of
spaced-here bytes o (inl h) = (inr o, h, refl)
spaced-here bytes o (inr h) = (inl o, h, refl)

pub moment_shape : IsShapeOf HasOffsetDateTimeForm offset_date_time
moment_shape = whole
    (retold HasOffsetDateTimeForm (both plain_form (retold IsSpacedOffset (either 32 0 (led 32 offset_form) offset_form) offset_of spaced-there spaced-here))
    (λ v. record { local = v.0; offset = v.1 })
    (λ bytes v h. record { local = h.front; offset = h.back; has_local = h.first; has_offset = h.second; bytes_are = h.bytes_are })
    (λ bytes m h. ((m.local, m.offset), record { front = h.local; back = h.offset; first = h.has_local; second = h.has_offset; bytes_are = h.bytes_are }, refl)))
    refl

-- ---- what a scanner read
pub put_moment : (p : PlainNumbers) (o : OffsetNumbers) (old mid : List ℕ) → GoesPast (λ bytes. HasPlainForm bytes p) old mid → IsSpacedOffset mid o
    → HasOffsetDateTimeForm old (record { local = p; offset = o })
put_moment p o old mid local offset = record { local = local.front; offset = mid; has_local = local.is; has_offset = offset; bytes_are = local.bytes_are }
