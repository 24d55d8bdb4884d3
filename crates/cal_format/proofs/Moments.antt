-- The moments that formats of each value hold.
use Rattle.std.proofs.Common.{ℕ, List, refl, inl, inr, lit<, lit≤}
use Rattle.std.specs.Prelude.{Bool, true, false, IsTrue, not, ◌||◌, ◌&&◌, ℤ}
use Rattle.cal_time.specs.Date.{IsDate}
use Rattle.cal_time.specs.Time.{IsTime}
use Rattle.cal_time.specs.UtcOffset.{IsOffset}
use Rattle.cal_datetime.specs.OffsetDateTime.{LocalAndOffset}
use Rattle.cal_datetime.specs.DateTime.{IsDateTime, time_at}
use Rattle.cal_datetime.specs.DateTimeLaws.{IsDate-date_at, IsTime-time_at}
use Rattle.cal_format.specs.declared.item.Item.{Item}
use Rattle.cal_format.specs.Moment.{moment_of_date, moment_of_time, moment_of_date_time, moment_of_offset, moment_of_offset_date_time}
use Rattle.cal_format.specs.Reading.{shows_date, shows_time, shows_offset, shows_timestamp, holds_time, holds_offset, DeterminesDate, DeterminesTime, DeterminesOffset, DeterminesDateTime, DeterminesOffsetDateTime}
use Rattle.cal_format.specs.Scanning.{AreHeld}
use Rattle.cal_format.specs.Values.{Holds}
use Rattle.cal_format.proofs.Apart.{both_tests}
use Rattle.cal_format.proofs.Contradictions.{zero-holds, zero-offset}
use Rattle.cal_format.proofs.Holding.{time-held}
use Rattle.cal_format.proofs.Offsets.{offset-held}

pub date-holds : (items : List Item) (n : ℕ) → DeterminesDate items → IsDate n → AreHeld (moment_of_date n) items → Holds items (moment_of_date n)
date-holds items n determines date held = record {
  in_range = record { date = date; time = record { below_day = lit< tt }; offset = record { magnitude = lit≤ tt } };
  numbers = held;
  date = λ _. inl determines.2;
  time = λ _. inr refl;
  parts = zero-holds items;
  offset_parts = zero-offset items;
}

pub time-holds : (items : List Item) (t : ℕ) → DeterminesTime items → IsTime t → IsTrue (holds_time items t) → Holds items (moment_of_time t)
time-holds items t determines time holds = record {
  in_range = record { date = lit≤ tt; time = time; offset = record { magnitude = lit≤ tt } };
  numbers = time-held items t time determines.1;
  date = λ _. inr refl;
  time = λ _. inl determines.2;
  parts = holds;
  offset_parts = zero-offset items;
}

pub offset-holds : (items : List Item) (o : ℤ) → DeterminesOffset items → IsOffset o → IsTrue (holds_offset items o) → Holds items (moment_of_offset o)
offset-holds items o determines range holds = record {
  in_range = record { date = lit≤ tt; time = record { below_day = lit< tt }; offset = range };
  numbers = offset-held items o range determines.1;
  date = λ _. inr refl;
  time = λ _. inr refl;
  parts = zero-holds items;
  offset_parts = holds;
}

pub date_time-holds : (items : List Item) (z : ℤ) → DeterminesDateTime items → IsDateTime z → AreHeld (moment_of_date_time z) items → IsTrue (holds_time items (time_at z))
    → Holds items (moment_of_date_time z)
date_time-holds items z determines h held holds = record {
  in_range = record { date = IsDate-date_at z h; time = IsTime-time_at z; offset = record { magnitude = lit≤ tt } };
  numbers = held;
  date = λ _. inl determines.2;
  time = λ _. inl determines.3;
  parts = holds;
  offset_parts = zero-offset items;
}

other-shown : (t a b c : Bool) → IsTrue (t || (a && (b && c))) → IsTrue (not t) → IsTrue a × IsTrue b
other-shown true a b c h n = cc
other-shown false a b c h n = let first = both_tests a (b && c) h in (first.0, (both_tests b c first.1).0)

pub moment-holds : (items : List Item) (m : LocalAndOffset) → DeterminesOffsetDateTime items → IsDateTime m.local → IsOffset m.offset → AreHeld (moment_of_offset_date_time m) items
    → IsTrue (holds_time items (time_at m.local)) → IsTrue (holds_offset items m.offset) → Holds items (moment_of_offset_date_time m)
moment-holds items m determines h range held holds offset =
    let other = other-shown (shows_timestamp items) (shows_date items) (shows_time items) (shows_offset items) determines.2 in
    record {
      in_range = record { date = IsDate-date_at m.local h; time = IsTime-time_at m.local; offset = range };
      numbers = held;
      date = λ n. inl (other n).0;
      time = λ n. inl (other n).1;
      parts = holds;
      offset_parts = offset;
    }
