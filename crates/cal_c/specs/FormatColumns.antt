-- Columns of dates in the strings of a format.
use Rattle.std.specs.Prelude.{◌≡◌, ℕ, ◌*◌, ℤ, pos, List, [], min, max, IsTrue}
use Rattle.cal_time.specs.Date.{julian_day_at}
use Rattle.cal_format.specs.declared.item.Item.{Item}
use Rattle.cal_format.specs.Moment.{moment_of_date}
use Rattle.cal_format.specs.Reading.{are_date_items, DeterminesDate}
use Rattle.cal_format.specs.Rejection.{IsRejection}
use Rattle.cal_format.specs.Text.{text_of}
use Rattle.cal_c.specs.Formats.{HasItems, IsFormat}
use Rattle.cal_c.specs.FormatParsing.{IsParsed, IsTextOfDate}
use Rattle.cal_c.specs.Results.{date_ok, date_error}
use Rattle.cal_c.specs.declared.status.TheConstants.{OK, INVALID_DATE, INVALID_BOUNDS, INVALID_FORMAT, UNSUPPORTED_ITEM, INSUFFICIENT_FORMAT}
use Rattle.cal_c.specs.TextColumns.{AreBoundsWithin, bytes_between}
use Rattle.cal_c.specs.Values.{IsJulianDay, day_of}
use Rattle.cal_c.specs.declared.formats.format_parts.FormatParts.{FormatParts}
use Rattle.cal_c.specs.declared.results.DateResult.{DateResult}

-- The result of `fots_date_parse_format` without the position.
pub record IsDateByFormat (f : FormatParts) (bytes : List ℕ) (r : DateResult) : Type 0 where
  pub invalid_format : (IsFormat f → ⊥) → r ≡ date_error INVALID_FORMAT
  pub insufficient_format : (items : List Item) → HasItems f items → (DeterminesDate items → ⊥) → r ≡ date_error INSUFFICIENT_FORMAT
  pub value : (items : List Item) → HasItems f items → DeterminesDate items → IsParsed (IsTextOfDate items bytes) (IsRejection items bytes) (λ n. date_ok (julian_day_at n)) (λ s at. date_error s) r

-- The same for the bytes between two bounds.
pub record IsDateByFormatRow (f : FormatParts) (bytes : List ℕ) (from to : ℤ) (r : DateResult) : Type 0 where
  pub bounds : (AreBoundsWithin bytes from to → ⊥) → r ≡ date_error INVALID_BOUNDS
  pub read : AreBoundsWithin bytes from to → IsDateByFormat f (bytes_between bytes from to) r

-- The bytes of room for each string of a format: 15 for each item, and at least 15.
abbrev pub room_for_text : FormatParts → ℕ
room_for_text f = max 1 (min f.length 64) * 15

-- The result of `fots_date_format`.
pub record IsTextByFormatRow (f : FormatParts) (date : ℤ) (bytes : List ℕ) (status : ℕ) : Type 0 where
  pub invalid_date : (IsJulianDay date → ⊥) → (bytes ≡ []) × (pos status ≡ INVALID_DATE)
  pub invalid_format : IsJulianDay date → (IsFormat f → ⊥) → (bytes ≡ []) × (pos status ≡ INVALID_FORMAT)
  pub unsupported_item : IsJulianDay date → (items : List Item) → HasItems f items → (IsTrue (are_date_items items) → ⊥) → (bytes ≡ []) × (pos status ≡ UNSUPPORTED_ITEM)
  pub value : IsJulianDay date → (items : List Item) → HasItems f items → IsTrue (are_date_items items)
      → (bytes ≡ text_of items (moment_of_date (day_of date))) × (pos status ≡ OK)
