-- The offset that the numbers of a text have.
use Rattle.std.proofs.Common.{◌≡◌, ℕ, ◌+◌, ◌*◌, ◌/◌, ◌%◌, ◌<◌, List, refl, ap, ◌∙◌, arith}
use Rattle.std.specs.Prelude.{Bool, true, false, ◌==◌, ◌||◌, ◌&&◌, not, IsTrue, if◌then◌else◌, ℤ, pos, negsuc, int_lt, unsigned_abs}
use borrow.Author.Tests.{le-ltb}
use Rattle.cal_time.specs.UtcOffset.{IsOffset}
use Rattle.cal_format.specs.declared.item.Item.{Item}
use Rattle.cal_format.specs.declared.item.Component.{Component}
use Rattle.cal_format.specs.declared.item.Component.TheVariants.{OffsetHour, OffsetMinute, OffsetSecond, OffsetSign}
use Rattle.cal_format.specs.Moment.{number, moment_of_offset}
use Rattle.cal_format.specs.Reading.{any_shows, is_within, are_offset_items, shows_offset, holds_offset}
use Rattle.cal_format.specs.Scanning.{AreHeld, signed_seconds}
use Rattle.cal_format.proofs.Apart.{both_tests, same_test}
use Rattle.cal_format.proofs.Contradictions.{then-holds}
use Rattle.cal_format.proofs.Holding.{IsNarrow, all-held}

pub offset-size : (o : ℤ) (h m s : ℕ) → h ≡ unsigned_abs o / 3_600 → m ≡ unsigned_abs o / 60 % 60 → s ≡ unsigned_abs o % 60 → h * 3_600 + m * 60 + s ≡ unsigned_abs o
offset-size o h m s e f g = omega arith

-- The sign and the magnitude are the offset.
pub signed-is : (o : ℤ) (s m : ℕ) → s ≡ (if int_lt o (pos 0) then 1 else 0) → m ≡ unsigned_abs o → signed_seconds s m ≡ o
signed-is (pos n) s m e f =
    let low : int_lt (pos n) (pos 0) ≡ false = le-ltb n 0 (omega arith) in
    let none : s ≡ 0 = e ∙ ap (λ b. if b then 1 else 0) low in
    λ i. signed_seconds (none i) (f i)
signed-is (negsuc n) s m e f = λ i. signed_seconds (e i) (f i)

pub record OffsetShown (items : List Item) (o : ℤ) : Type 0 where
  pub sign : IsTrue (any_shows OffsetSign items)
  pub hour : IsTrue (any_shows OffsetHour items)
  pub minute : IsTrue (any_shows OffsetMinute items || (unsigned_abs o / 60 % 60 == 0))
  pub second : IsTrue (any_shows OffsetSecond items || (unsigned_abs o % 60 == 0))

pub offset-shown : (items : List Item) (o : ℤ) → IsTrue (shows_offset items) → IsTrue (holds_offset items o) → OffsetShown items o
offset-shown items o s h =
    let first = both_tests (any_shows OffsetSign items) (any_shows OffsetHour items && (any_shows OffsetMinute items || not (any_shows OffsetSecond items))) s in
    let hour = both_tests (any_shows OffsetHour items) (any_shows OffsetMinute items || not (any_shows OffsetSecond items)) first.1 in
    let parts = both_tests (any_shows OffsetMinute items || (unsigned_abs o / 60 % 60 == 0)) (any_shows OffsetSecond items || (unsigned_abs o % 60 == 0)) (then-holds (shows_offset items) _ _ s h) in
    record { sign = first.0; hour = hour.0; minute = parts.0; second = parts.1 }

-- A format of an offset holds each offset.
sign-low : (b : Bool) (x : ℕ) → x ≡ (if b then 1 else 0) → x < 10
sign-low true x e = omega arith
sign-low false x e = omega arith

offset-number : (c : Component) (o : ℤ) → IsOffset o → IsTrue (is_within 28 32 c) → IsNarrow c (moment_of_offset o)
offset-number OffsetHour o h u = let most = h.magnitude in (omega arith, refl)
offset-number OffsetMinute o h u = (omega arith, refl)
offset-number OffsetSecond o h u = (omega arith, refl)
offset-number OffsetSign o h u = (sign-low (int_lt o (pos 0)) (number OffsetSign (moment_of_offset o)) refl, refl)
offset-number _ o h u = cc

pub offset-held : (items : List Item) (o : ℤ) → IsOffset o → IsTrue (are_offset_items items) → AreHeld (moment_of_offset o) items
offset-held items o h u = all-held 28 32 items (moment_of_offset o) (λ c w. offset-number c o h w) u

pub no-offset : (o : ℤ) → IsTrue (unsigned_abs o == 0) → o ≡ pos 0
no-offset (pos n) h = ap (λ k. pos k) (same_test n 0 h)
no-offset (negsuc n) h = absurd (omega (arith, same_test (unsigned_abs (negsuc n)) 0 h))
