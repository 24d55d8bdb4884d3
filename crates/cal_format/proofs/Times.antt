-- The time of day that the numbers of a text have.
use Rattle.std.proofs.Common.{◌≡◌, ℕ, List, arith}
use Rattle.std.specs.Prelude.{◌==◌, ◌||◌, ◌&&◌, not, IsTrue}
use Rattle.cal_time.specs.Time.{IsTime, hour_of, minute_of, second_of, nanosecond_of, time_of}
use Rattle.cal_format.specs.declared.item.Item.{Item}
use Rattle.cal_format.specs.declared.item.Component.TheVariants.{Minute, Second}
use Rattle.cal_format.specs.Reading.{any_shows, shows_hour, shows_subsecond, shows_time, holds_subsecond, holds_parts}
use Rattle.cal_format.proofs.Apart.{both_tests}

pub time-parts : (t : ℕ) → IsTime t → time_of (hour_of t) (minute_of t) (second_of t) (nanosecond_of t) ≡ t
time-parts t time = let below = time.below_day in omega arith

pub record TimeShown (items : List Item) (t : ℕ) : Type 0 where
  pub hour : IsTrue (shows_hour items)
  pub minute : IsTrue (any_shows Minute items || (minute_of t == 0))
  pub second : IsTrue (any_shows Second items || (second_of t == 0))
  pub subsecond : IsTrue (holds_subsecond items (nanosecond_of t))

pub time-shown : (items : List Item) (t : ℕ) → IsTrue (shows_time items) → IsTrue (holds_parts items t) → TimeShown items t
time-shown items t s h =
    let first = both_tests (shows_hour items) ((any_shows Minute items || not (any_shows Second items)) && (any_shows Second items || not (shows_subsecond items))) s in
    let minute = both_tests (any_shows Minute items || (minute_of t == 0)) ((any_shows Second items || (second_of t == 0)) && holds_subsecond items (nanosecond_of t)) h in
    let second = both_tests (any_shows Second items || (second_of t == 0)) (holds_subsecond items (nanosecond_of t)) minute.1 in
    record { hour = first.0; minute = minute.0; second = second.0; subsecond = second.1 }
