-- Texts that start with two digits.
use Rattle.std.proofs.Common.{◌≡◌, ℕ, zero, suc, ◌≤◌, List, [], ◌∷◌, length, refl, arith}
use Rattle.cal_format.specs.Form.{HasForm, ItemShape, shape_of}
use Rattle.cal_format.specs.Moment.{width, width_of}
use Rattle.cal_format.specs.declared.item.Component.{Component}
use Rattle.cal_format.specs.declared.item.Item.{Item}
use Rattle.cal_format.specs.declared.item.Item.TheVariants.{Number}
use Rattle.cal_format.specs.declared.item.Padding.TheVariants.{Zero}
use Rattle.cal_format.proofs.Apart.{first_of}
use Rattle.cal_text.specs.Shape.{Digits, Shape, unmatched_bytes}
use Rattle.caldate_answers.specs.Scans.{StartsWithDigits}
use Rattle.caldate_answers.proofs.ShapeBytes.{digit_at}

-- a number of at least two digits
digits_start : (count : ℕ) (f : Shape) (bytes : List ℕ) → 2 ≤ count → unmatched_bytes (Digits count f) bytes ≡ 0 → StartsWithDigits bytes
digits_start zero f bytes some e = absurd (omega (arith, some))
digits_start (suc zero) f bytes some e = absurd (omega (arith, some))
digits_start (suc (suc k)) f bytes some e = let g = Digits (suc (suc k)) f in rw (digit_at 0 g bytes refl e, digit_at 1 g bytes refl e) refl

pub padded_starts : (c : Component) (f : Shape) (bytes : List ℕ) → 2 ≤ width c → unmatched_bytes (ItemShape (Number c Zero) f) bytes ≡ 0 → StartsWithDigits bytes
padded_starts c f bytes some e = digits_start (width_of Zero c) f bytes some e

-- a text whose first item starts so
pub first_starts : (items : List Item) (bytes : List ℕ) → 1 ≤ length items
    → ((others : Shape) (bytes : List ℕ) → unmatched_bytes (ItemShape (first_of items) others) bytes ≡ 0 → StartsWithDigits bytes) → HasForm items bytes → StartsWithDigits bytes
first_starts [] bytes some starts e = absurd (omega (arith, some))
first_starts (i ∷ items) bytes some starts e = starts (shape_of items) bytes e
