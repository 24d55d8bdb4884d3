-- The POSIX text of a zone, such as `CET-1CEST,M3.5.0,M10.5.0/3`: what its parts say, and where
-- they end. Each part begins at a position.
use Rattle.std.specs.Prelude.{◌≡◌, ◌≢◌, ◌⊎◌, ℕ, zero, suc, ◌+◌, ◌-◌, ◌*◌, ◌%◌, ◌<◌, ◌≤◌, ◌==◌, Bool, true, false, nat_le, List, length, if◌then◌else◌, ℤ, pos, neg_ℤ, ◌+ℤ◌, Option, Some, None}
use Rattle.cal_time.specs.Month.{number}
use Rattle.cal_time.specs.Weekday.{index}
use Rattle.cal_zone.specs.declared.local_type.LocalType.{LocalType}
use Rattle.cal_zone.specs.declared.rule.Rule.{Rule}
use Rattle.cal_zone.specs.declared.yearly.Yearly.{Yearly}
use Rattle.cal_tzif.specs.declared.footer.Footer.{Footer}
use Rattle.cal_tzif.specs.Bytes.{byte}

-- A digit from 0 to 9.
abbrev pub is_digit : ℕ → Bool
is_digit b = if nat_le 48 b then nat_le b 57 else false

-- The number of at most n digits and the digits before them, whose number is `value`, and the
-- position after them.
unfoldable pub digits : List ℕ → ℕ → ℕ → ℕ → ℕ × ℕ
digits text zero at value = (value, at)
digits text (suc n) at value = if is_digit (byte text at) then digits text n (at + 1) (value * 10 + (byte text at - 48)) else (value, at)

-- Minutes or seconds after a colon, or 0 without a colon, and the position after them.
unfoldable pub part : List ℕ → ℕ → ℕ × ℕ
part text at = if byte text at == 58 then digits text 2 (at + 1) 0 else (0, at)

-- After a colon comes at least one digit, and the number is at most 59.
abbrev pub IsPart : List ℕ → ℕ → Type 0
IsPart text at = byte text at ≡ 58 → (at + 1 < (part text at).1) × ((part text at).0 ≤ 59)

-- Hours, minutes and seconds: the seconds, and the position after them.
abbrev pub hours : List ℕ → ℕ → ℕ × ℕ
hours text at = digits text 3 at 0

abbrev pub minutes : List ℕ → ℕ → ℕ × ℕ
minutes text at = part text (hours text at).1

abbrev pub seconds : List ℕ → ℕ → ℕ × ℕ
seconds text at = part text (minutes text at).1

unfoldable pub time : List ℕ → ℕ → ℕ × ℕ
time text at = ((hours text at).0 * 3600 + (minutes text at).0 * 60 + (seconds text at).0, (seconds text at).1)

-- The position after a sign, if there is one.
unfoldable pub after_sign : List ℕ → ℕ → ℕ
after_sign text at = if byte text at == 43 then at + 1 else (if byte text at == 45 then at + 1 else at)

-- The number n, negative if the byte `sign` is a minus sign.
abbrev pub signed : ℕ → ℕ → ℤ
signed sign n = if sign == 45 then neg_ℤ (pos n) else pos n

-- The seconds of hours, minutes and seconds with a sign or without one, and the position after
-- them.
unfoldable pub signed_time : List ℕ → ℕ → ℤ × ℕ
signed_time text at = (signed (byte text at) (time text (after_sign text at)).0, (time text (after_sign text at)).1)

-- There are hours of at least one digit, which are at most `most`, and minutes and seconds to 59.
pub record IsTime (text : List ℕ) (at most : ℕ) : Type 0 where
  pub some : after_sign text at < (hours text (after_sign text at)).1
  pub few : (hours text (after_sign text at)).0 ≤ most
  pub minute : IsPart text (hours text (after_sign text at)).1
  pub second : IsPart text (minutes text (after_sign text at)).1

-- An offset in seconds ahead of UTC. POSIX counts hours behind UTC, so the sign is reversed.
unfoldable pub offset : List ℕ → ℕ → ℤ
offset text at = neg_ℤ (signed_time text at).0

-- The bytes of a name: letters, and between < and > also digits and signs.
abbrev pub is_letter : ℕ → Bool
is_letter b = if nat_le 97 b then nat_le b 122 else (if nat_le 65 b then nat_le b 90 else false)

abbrev pub is_sign : ℕ → Bool
is_sign b = if b == 43 then true else b == 45

abbrev pub is_name_byte : Bool → ℕ → Bool
is_name_byte quoted b = if is_letter b then true else (if quoted then (if is_digit b then true else is_sign b) else false)

-- The position after at most n bytes of a name.
unfoldable pub run_end : Bool → List ℕ → ℕ → ℕ → ℕ
run_end quoted text zero at = at
run_end quoted text (suc n) at = if is_name_byte quoted (byte text at) then run_end quoted text n (at + 1) else at

-- A name may be between < and >. Its letters begin and stop at two positions, and the name ends at
-- a third, which is past the >.
abbrev pub is_quoted : List ℕ → ℕ → Bool
is_quoted text at = byte text at == 60

unfoldable pub name_start : List ℕ → ℕ → ℕ
name_start text at = if is_quoted text at then at + 1 else at

unfoldable pub name_stop : List ℕ → ℕ → ℕ
name_stop text at = run_end (is_quoted text at) text (length text) (name_start text at)

unfoldable pub name_end : List ℕ → ℕ → ℕ
name_end text at = if is_quoted text at then name_stop text at + 1 else name_stop text at

-- A name has at least three bytes, and > closes it if < opens it.
pub record IsName (text : List ℕ) (at : ℕ) : Type 0 where
  pub letters : name_start text at + 3 ≤ name_stop text at
  pub closed : is_quoted text at ≡ true → byte text (name_stop text at) ≡ 62

-- A day such as M3.5.0: the month, the week and the weekday, counted from Sunday.
abbrev pub month : List ℕ → ℕ → ℕ × ℕ
month text at = digits text 2 (at + 1) 0

abbrev pub week : List ℕ → ℕ → ℕ × ℕ
week text at = digits text 1 ((month text at).1 + 1) 0

abbrev pub weekday : List ℕ → ℕ → ℕ × ℕ
weekday text at = digits text 1 ((week text at).1 + 1) 0

unfoldable pub day_end : List ℕ → ℕ → ℕ
day_end text at = (weekday text at).1

-- The letter M, a month from 1 to 12, a week from 1 to 5 and a weekday from 0 to 6, with points
-- between them.
pub record IsDay (text : List ℕ) (at : ℕ) : Type 0 where
  pub letter : byte text at ≡ 77
  pub month_in : (1 ≤ (month text at).0) × ((month text at).0 ≤ 12)
  pub dot : byte text (month text at).1 ≡ 46
  pub week_in : (1 ≤ (week text at).0) × ((week text at).0 ≤ 5)
  pub next_dot : byte text (week text at).1 ≡ 46
  pub weekday_in : (weekday text at).0 ≤ 6
  pub some : (week text at).1 + 1 < (weekday text at).1

-- The time of day after a day and a slash, or 2:00, in seconds, and the position after it.
unfoldable pub change_time : List ℕ → ℕ → ℤ × ℕ
change_time text at = if byte text at == 47 then signed_time text (at + 1) else (pos 7200, at)

-- After a slash comes a time of at most 167 hours.
abbrev pub IsChangeTime : List ℕ → ℕ → Type 0
IsChangeTime text at = byte text at ≡ 47 → IsTime text (at + 1) 167

-- The standard time: its name and its offset.
abbrev pub standard : List ℕ → ℕ → LocalType
standard text at = record {
  offset = offset text (name_end text at);
  is_daylight = false;
  name_start = name_start text at;
  name_end = name_stop text at;
}

-- The position after the standard time.
unfoldable pub standard_end : List ℕ → ℕ → ℕ
standard_end text at = (signed_time text (name_end text at)).1

-- A name, and an offset of at most 24 hours.
pub record IsStandard (text : List ℕ) (at : ℕ) : Type 0 where
  pub name : IsName text at
  pub offset : IsTime text (name_end text at) 24

-- The daylight time: its name and its offset, which is one hour more than the standard offset if
-- the text has a comma in its place.
abbrev pub has_no_offset : List ℕ → ℕ → Bool
has_no_offset text at = byte text (name_end text at) == 44

unfoldable pub daylight_offset : List ℕ → ℕ → ℤ → ℤ
daylight_offset text at before = if has_no_offset text at then before +ℤ pos 3600 else offset text (name_end text at)

abbrev pub daylight : List ℕ → ℕ → ℤ → LocalType
daylight text at before = record {
  offset = daylight_offset text at before;
  is_daylight = true;
  name_start = name_start text at;
  name_end = name_stop text at;
}

-- The position after the daylight time.
unfoldable pub daylight_end : List ℕ → ℕ → ℕ
daylight_end text at = if has_no_offset text at then name_end text at else standard_end text at

-- A name, and an offset of at most 24 hours unless a comma comes next.
pub record IsDaylight (text : List ℕ) (at : ℕ) : Type 0 where
  pub name : IsName text at
  pub offset : has_no_offset text at ≡ false → IsTime text (name_end text at) 24

-- The position after a comma, a day and its time.
unfoldable pub change_end : List ℕ → ℕ → ℕ
change_end text at = (change_time text (day_end text (at + 1))).1

-- A comma, a day, and its time or nothing.
pub record IsChange (text : List ℕ) (at : ℕ) : Type 0 where
  pub comma : byte text at ≡ 44
  pub date : IsDay text (at + 1)
  pub time : IsChangeTime text (day_end text (at + 1))

-- The yearly change has the day and the time after a comma, and this type.
pub record IsYearlyAt (text : List ℕ) (at : ℕ) (kind : LocalType) (r : Yearly) : Type 0 where
  pub month_is : number r.month ≡ (month text (at + 1)).0
  pub week_is : r.week ≡ (week text (at + 1)).0
  pub weekday_is : index r.weekday ≡ ((weekday text (at + 1)).0 + 6) % 7
  pub time_is : r.time ≡ (change_time text (day_end text (at + 1))).0
  pub kind_is : r.kind ≡ kind

-- The position of the change at which daylight time ends.
abbrev pub end_at : List ℕ → ℕ → ℕ
end_at text at = change_end text (daylight_end text at)

-- Another month lies between the two months, also over the new year.
abbrev pub IsApart : ℕ → ℕ → Type 0
IsApart m n = (m + 2 ≤ n) × (n ≤ m + 10)

-- The same for the months of the two changes of a text, in either order.
abbrev pub AreApart : List ℕ → ℕ → Type 0
AreApart text at =
    let m = (month text (daylight_end text at + 1)).0 in let n = (month text (end_at text at + 1)).0 in IsApart m n ⊎ IsApart n m

-- From a position on, the text has daylight time, the change at which it begins, and the change at
-- which it ends.
pub record HasRule (text : List ℕ) (at : ℕ) : Type 0 where
  pub daylight : IsDaylight text at
  pub begins : IsChange text (daylight_end text at)
  pub ends : IsChange text (end_at text at)
  pub whole : change_end text (end_at text at) ≡ length text
  pub apart : AreApart text at

-- The yearly change at which daylight time begins, or ends.
abbrev pub IsBegin : List ℕ → ℕ → LocalType → Yearly → Type 0
IsBegin text at before r = IsYearlyAt text (daylight_end text at) (daylight text at before.offset) r

abbrev pub IsEnd : List ℕ → ℕ → LocalType → Yearly → Type 0
IsEnd text at before r = IsYearlyAt text (end_at text at) before r

-- The rule has the two changes, in the order of their months.
pub record IsRule (text : List ℕ) (at : ℕ) (before : LocalType) (rule : Rule) : Type 0 where
  pub has : HasRule text at
  pub changes : (IsBegin text at before rule.one × IsEnd text at before rule.other) ⊎ (IsEnd text at before rule.one × IsBegin text at before rule.other)

-- The text ends at a position, or a rule goes from there to its end.
abbrev pub IsRest : List ℕ → ℕ → LocalType → Option Rule → Type 0
IsRest text at before None = at ≡ length text
IsRest text at before (Some rule) = (at ≢ length text) × IsRule text at before rule

-- From a position to its end, the text spells a footer: the standard time, and the rule if there is
-- one (POSIX, TZ).
pub record Spells (text : List ℕ) (at : ℕ) (f : Footer) : Type 0 where
  pub has : IsStandard text at
  pub first : f.standard ≡ standard text at
  pub rest : IsRest text (standard_end text at) (standard text at) f.rule
