-- The ranges of components, and their errors.
use Rattle.std.specs.Prelude.{ℕ, ◌&&◌, List, [], ◌∷◌, Option, Some, None, if◌then◌else◌, nat_le}
use Rattle.cal_units.specs.ComponentError.{unconditional, conditional}
use Rattle.cal_units.specs.declared.error.Component.{Component as Named}
use Rattle.cal_units.specs.declared.error.Component.TheVariants as error
use Rattle.cal_units.specs.declared.error.ComponentRange.{ComponentRange}
use Rattle.cal_format.specs.declared.item.Item.{Item}
use Rattle.cal_format.specs.declared.item.Item.TheVariants as item
use Rattle.cal_format.specs.declared.item.Component.{Component}
use Rattle.cal_format.specs.declared.item.Component.TheVariants.{Day, Ordinal, IsoWeek, SundayWeek, MondayWeek}
use Rattle.cal_format.specs.Moment.{facts_of}

-- The name of a component in an error, its minimum and its maximum.
abbrev pub named : Component → Named
named c = (facts_of c).named

abbrev pub minimum : Component → ℕ
minimum c = (facts_of c).minimum

abbrev pub maximum : Component → ℕ
maximum c = (facts_of c).maximum

-- The error of a component out of range. It is conditional for the day, the ordinal and the weeks,
-- whose ranges depend on other components.
abbrev pub range_error : Component → ComponentRange
range_error Day = conditional error.Day
range_error Ordinal = conditional error.Ordinal
range_error IsoWeek = conditional error.Week
range_error SundayWeek = conditional error.Week
range_error MondayWeek = conditional error.Week
range_error c = unconditional (named c)

-- The first error if there is one, else the other.
abbrev pub either : {A : Type 0} → Option A → Option A → Option A
either (Some e) other = Some e
either None other = other

-- The error of the first number out of range. Names, fractions and signs are in range.
abbrev pub item_error : Item → ℕ → Option ComponentRange
item_error (item.Number c p) n = if nat_le (minimum c) n && nat_le n (maximum c) then None else Some (range_error c)
item_error (item.Signed c p) n = if nat_le (minimum c) n && nat_le n (maximum c) then None else Some (range_error c)
item_error _ n = None

abbrev pub first_range_error : List Item → List ℕ → Option ComponentRange
first_range_error [] numbers = None
first_range_error (i ∷ items) [] = None
first_range_error (i ∷ items) (n ∷ numbers) = either (item_error i n) (first_range_error items numbers)
