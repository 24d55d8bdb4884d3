-- The values that a format with the names of a table parses.
use Rattle.std.specs.Prelude.{◌≡◌, ℕ, ℤ, List, Result, Ok, IfOk, IfErr, IsTrue}
use Rattle.cal_time.specs.Date.{IsDate}
use Rattle.cal_time.specs.Time.{IsTime}
use Rattle.cal_time.specs.UtcOffset.{IsOffset}
use Rattle.cal_datetime.specs.DateTime.{IsDateTime, time_at}
use Rattle.cal_datetime.specs.OffsetDateTime.{LocalAndOffset}
use Rattle.cal_format.specs.declared.error.ParseError.{ParseError}
use Rattle.cal_format.specs.declared.item.Item.{Item}
use Rattle.cal_format.specs.declared.moment.Moment.{Moment}
use Rattle.cal_format.specs.Moment.{moment_of_date, moment_of_date_time, moment_of_offset_date_time}
use Rattle.cal_format.specs.Reading.{holds_time, holds_offset}
use Rattle.cal_format.specs.Scanning.{AreHeld}
use Rattle.cal_names.specs.declared.names.Names.{Names}
use Rattle.cal_named_format.specs.Named.{text_in}
use Rattle.cal_named_format.specs.Rejection.{IsRejectionIn}

-- A format holds a date, a time of day, a date-time, or a date-time at an offset: each year that it
-- shows is from 0 to 9999, and each part of the time of day and of the offset that it doesn't
-- determine is 0.
abbrev pub HoldsDate : List Item → ℕ → Type 0
HoldsDate items n = IsDate n × AreHeld (moment_of_date n) items

abbrev pub HoldsTime : List Item → ℕ → Type 0
HoldsTime items t = IsTime t × IsTrue (holds_time items t)

abbrev pub HoldsDateTime : List Item → ℤ → Type 0
HoldsDateTime items z = IsDateTime z × AreHeld (moment_of_date_time z) items × IsTrue (holds_time items (time_at z))

abbrev pub HoldsOffsetDateTime : List Item → LocalAndOffset → Type 0
HoldsOffsetDateTime items m =
    IsDateTime m.local × IsOffset m.offset × AreHeld (moment_of_offset_date_time m) items × IsTrue (holds_time items (time_at m.local)) × IsTrue (holds_offset items m.offset)

-- The result is the value that the format holds and prints with these names as the text, or an
-- error. A value of this type is printed as its moment.
pub record ParsesIn {V : Type 0} (IsHeld : V → Type 0) (moment_of : V → Moment) (t : Names) (items : List Item) (text : List ℕ) (r : Result V ParseError) : Type 0 where
  pub every : (v : V) → IsHeld v → text ≡ text_in t items (moment_of v) → r ≡ Ok v
  pub value : IfOk r (λ v. IsHeld v × (text ≡ text_in t items (moment_of v)))
  pub error : IfErr r (IsRejectionIn t items text)
