-- An iterator over steps has one next item.
use Rattle.std.proofs.Common.{◌≡◌, ◌<◌, ℤ, refl, sym, ap, ◌∙◌}
use Rattle.std.specs.Prelude.{Option, Some, None, Result, Err}
use Rattle.cal_datetime.specs.DateTime.{IsDateTime}
use Rattle.cal_zone.specs.declared.local_time_error.LocalTimeError.{LocalTimeError}
use Rattle.cal_zone.specs.declared.local_time_error.LocalTimeError.TheVariants.{OutOfRange}
use Rattle.cal_zoned.specs.Steps.{end_of_steps, IsNextResult, IsNextStep, Series, YieldsResult, YieldsStep, ZonedSeries}
use Rattle.cal_zoned.specs.Zoned.{InZone}

pub same_some : (o : Option ℤ) (x y : ℤ) → o ≡ Some x → o ≡ Some y → x ≡ y
same_some o x y h k = cc

pub one_step : (old : Series) → (old.next < end_of_steps → (x y : ℤ) → IsDateTime x → IsDateTime y → IsNextStep old x → IsNextStep old y → x ≡ y)
    → (a b : Option ℤ) (s t : Series) → YieldsStep old a s → YieldsStep old b t → (a ≡ b) × (s ≡ t)
one_step old one None None s t h k = (refl, h.1 ∙ sym k.1)
one_step old one None (Some y) s t h k = absurd (h.0 k.0 y k.1 k.2)
one_step old one (Some x) None s t h k = absurd (k.0 h.0 x h.1 h.2)
one_step old one (Some x) (Some y) s t h k =
    (ap (λ (z : ℤ). Some z) (one h.0 x y h.1 k.1 h.2 k.2), h.3 ∙ sym k.3)

pub one_result : (old : ZonedSeries) → (old.next < end_of_steps → (x y : Result InZone LocalTimeError) → IsNextResult old x → IsNextResult old y → x ≡ y)
    → (a b : Option (Result InZone LocalTimeError)) (s t : ZonedSeries) → YieldsResult old a s → YieldsResult old b t → (a ≡ b) × (s ≡ t)
one_result old one None None s t h k = (refl, h.1 ∙ sym k.1)
one_result old one None (Some y) s t h k = absurd (k.1 (one k.0 y (Err OutOfRange) k.2 (h.0 k.0)))
one_result old one (Some x) None s t h k = absurd (h.1 (one h.0 x (Err OutOfRange) h.2 (k.0 h.0)))
one_result old one (Some x) (Some y) s t h k =
    (ap (λ (r : Result InZone LocalTimeError). Some r) (one h.0 x y h.2 k.2), h.3 ∙ sym k.3)
