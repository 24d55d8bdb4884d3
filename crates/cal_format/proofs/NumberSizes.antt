-- A number of an item has at most 14 digits.
use Rattle.std.proofs.Common.{ℕ, ◌<◌, List, [], ◌∷◌, arith}
use Rattle.std.specs.Prelude.{Bool, true, false, if◌then◌else◌}
use Rattle.cal_format.specs.declared.item.Item.{Item}
use Rattle.cal_format.specs.declared.item.Item.TheVariants as item
use Rattle.cal_format.specs.declared.item.Name.{Name}
use Rattle.cal_format.specs.declared.item.Name.TheVariants as name
use Rattle.cal_format.specs.declared.item.Component.{Component}
use Rattle.cal_format.specs.Form.{IsNameNumber, IsNumber, AreNumbers}
use Rattle.cal_format.specs.Reading.{shows}
use Rattle.cal_format.specs.Values.{number_in}
use Rattle.cal_format.proofs.Digits.{fits-most, small-digits}

name-below : (k : Name) (n : ℕ) → IsNameNumber k n → n < 100_000_000_000_000
name-below name.Month n h = omega (arith, h.1)
name-below name.MonthAlone n h = omega (arith, h.1)
name-below name.ShortMonth n h = omega (arith, h.1)
name-below name.Weekday n h = omega (arith, h.1)
name-below name.ShortWeekday n h = omega (arith, h.1)
name-below name.Period n h = omega (arith, h)
name-below name.LowerPeriod n h = omega (arith, h)

item-below : (i : Item) (n : ℕ) → IsNumber i n → n < 100_000_000_000_000
item-below (item.Literal b) n h = omega (arith, h)
item-below (item.Number c p) n h = omega (arith, fits-most p c n h, small-digits c)
item-below (item.Signed c p) n h = omega (arith, fits-most p c n h, small-digits c)
item-below (item.Name k) n h = name-below k n h
item-below item.Fraction n h = omega (arith, h)
item-below item.Decimals n h = omega (arith, h)
item-below item.OffsetSign n h = omega (arith, h)
item-below item.OffsetMinus n h = omega (arith, h)
item-below item.TimestampSign n h = omega (arith, h)
item-below item.TimestampMinus n h = omega (arith, h)
item-below item.Abbreviation n h = omega (arith, h)

either-below : (b : Bool) (x y m : ℕ) → x < m → y < m → (if b then x else y) < m
either-below true x y m h k = h
either-below false x y m h k = k

pub number-below : (items : List Item) (numbers : List ℕ) (c : Component) → AreNumbers items numbers → number_in items numbers c < 100_000_000_000_000
number-below [] numbers c fit = omega arith
number-below (i ∷ items) [] c fit = omega arith
number-below (i ∷ items) (n ∷ numbers) c fit = either-below (shows c i) n (number_in items numbers c) 100_000_000_000_000 (item-below i n fit.0) (number-below items numbers c fit.1)
