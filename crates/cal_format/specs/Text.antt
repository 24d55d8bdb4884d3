-- The texts that a format prints of a moment.
use Rattle.std.specs.Prelude.{codes, pos, int_lt, decimal, ℕ, ◌-◌, ◌==◌, List, [], ◌∷◌, ◌++◌, length, replicate, if◌then◌else◌}
use Rattle.std.specs.List.{flat_map}
use Rattle.cal_time.specs.Date.{year_at}
use Rattle.cal_time.specs.IsoWeekDate.{iso_year_at}
use Rattle.cal_time.specs.DateText.{digits_at_least, sign_text}
use Rattle.cal_time.specs.Digits.{decimals}
use Rattle.cal_time.specs.Time.{nanosecond_of}
use Rattle.cal_time.specs.UtcOffset as offset
use Rattle.cal_format.specs.declared.item.Item.{Item}
use Rattle.cal_format.specs.declared.item.Item.TheVariants as item
use Rattle.cal_format.specs.declared.item.Padding.{Padding}
use Rattle.cal_format.specs.declared.item.Padding.TheVariants as padding
use Rattle.cal_format.specs.declared.item.Component.{Component}
use Rattle.cal_format.specs.declared.item.Component.TheVariants.{Year, Century, IsoYear}
use Rattle.cal_format.specs.declared.moment.Moment.{Moment}
use Rattle.cal_format.specs.Moment.{timestamp_of, number, width}
use Rattle.cal_format.specs.Names.{name_text}

-- A year outside 0 to 9999 has a sign before its digits.
abbrev pub sign : Component → Moment → List ℕ
sign Year v = sign_text (year_at v.date)
sign Century v = sign_text (year_at v.date)
sign IsoYear v = sign_text (iso_year_at v.date)
sign _ v = []

-- A sign, or a plus sign if there is none.
abbrev pub or_plus : List ℕ → List ℕ
or_plus [] = codes "+"
or_plus (b ∷ bytes) = b ∷ bytes

-- A number with fewer digits than its width has zeros before it, or spaces, or nothing.
abbrev pub padded : Padding → ℕ → ℕ → List ℕ
padded padding.Zero w n = digits_at_least w n
padded padding.Space w n = replicate (w - length (decimal n)) 32 ++ decimal n
padded padding.None w n = decimal n

-- The fraction of a second is a point and its digits without trailing zeros. A fraction of 0
-- nanoseconds has an empty text.
abbrev pub fraction_text : ℕ → List ℕ
fraction_text n = if n == 0 then [] else 46 ∷ decimals n

-- An item prints the abbreviation of a zone, or what it shows of a moment.
abbrev pub item_text : List ℕ → Moment → Item → List ℕ
item_text a v (item.Literal b) = b ∷ []
item_text a v (item.Number c p) = sign c v ++ padded p (width c) (number c v)
item_text a v (item.Signed c p) = or_plus (sign c v) ++ padded p (width c) (number c v)
item_text a v (item.Name k) = name_text k v
item_text a v item.Fraction = fraction_text (nanosecond_of v.time)
item_text a v item.Decimals = decimals (nanosecond_of v.time)
item_text a v item.OffsetSign = offset.sign v.offset
item_text a v item.OffsetMinus = if int_lt v.offset (pos 0) then codes "-" else []
item_text a v item.TimestampSign = if int_lt (timestamp_of v) (pos 0) then codes "-" else codes "+"
item_text a v item.TimestampMinus = if int_lt (timestamp_of v) (pos 0) then codes "-" else []
item_text a v item.Abbreviation = a

-- Items print one after the other, with this abbreviation or without one.
abbrev pub text_in_zone : List ℕ → List Item → Moment → List ℕ
text_in_zone a items v = flat_map (item_text a v) items

abbrev pub text_of : List Item → Moment → List ℕ
text_of items v = text_in_zone [] items v
