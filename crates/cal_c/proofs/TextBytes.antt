-- The bytes of a text and zeros, put together.
use Rattle.std.proofs.Common.{◌≡◌, ℕ, ◌+◌, ◌-◌, List, ◌++◌, drop, replicate, length, ap, sym, ◌∙◌, arith}
use Rattle.cal_time.specs.declared.Month.{Month}
use Rattle.cal_time.specs.declared.Weekday.{Weekday}
use Rattle.cal_time.specs.Month as months
use Rattle.cal_time.specs.MonthCycle.{month_of_index-index}
use Rattle.cal_time.specs.Weekday as weekdays
use Rattle.cal_time.specs.WeekdayCycle.{weekday_of_index-index}
use Rattle.cal_c.proofs.Filled.{copied-over}
use Rattle.cal_c.specs.declared.status.TheConstants.{OK}
use Rattle.cal_c.specs.Texts.{text_ok, month_name, weekday_name}
use Rattle.cal_c.specs.declared.texts.TextResult.{TextResult}

abbrev pub text_with : List ℕ → List ℕ → TextResult
text_with text bytes = record { status = OK; length = length text; bytes = bytes }

pub copied-over-zeros : (text copied : List ℕ) → copied ≡ text → text_with text (copied ++ drop (length text) (replicate 40 0)) ≡ text_ok text
copied-over-zeros text copied same = ap (text_with text) (copied-over 40 0 text copied same)

-- the names of the month and the weekday that have a number
pub month-named : (m : Month) (n : ℕ) → months.number m ≡ n → months.name m ≡ month_name n
month-named m n e =
    let index : n - 1 ≡ months.index m = omega (arith, e) in
    ap months.name (sym (ap months.month_of_index index ∙ month_of_index-index m))

pub weekday-named : (w : Weekday) (n : ℕ) → weekdays.index w + 1 ≡ n → weekdays.name w ≡ weekday_name n
weekday-named w n e =
    let index : n - 1 ≡ weekdays.index w = omega (arith, e) in
    ap weekdays.name (sym (ap weekdays.weekday_of_index index ∙ weekday_of_index-index w))

pub ruleset names = (month-named, weekday-named)
