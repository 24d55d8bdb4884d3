use Rattle.std.proofs.Common.{◌≡◌, ◌∙◌, rules, subst, sym, to_z, of_z, w32}
use Rattle.cal_text.specs.DateForms.{IsPrintableYear}
use Rattle.cal_text.specs.Shape.{Branch, Byte, ByteRange, Digits, WeekDate, MonthOrOrdinal, AfterYear}
use Rattle.cal_text.proofs.FormReads.{put_calendar, put_form, put_ordinal, put_week}
use Rattle.cal_text.proofs.date_numbers.parsing.scan_date.Goals as goal

-- a week date
pub returns-in-Some-clause-value : goal.returns-in-Some-clause-value
returns-in-Some-clause-value c =
    let year = c.in_ok-year.ensures.value in
    let here = to_z w32 (of_z w32 c.in_ok-year.year) in
    let same : here ≡ c.in_ok-year.year = search rules in
    let found = put_week here _ _ _ _ _ _ (subst IsPrintableYear (sym same) year.0) c.in_ok-week.ensures.value c.in_ok-byte.ensures.value c.in_ok-weekday.ensures.value in
    put_form _ _ _ _ _ year.1 found.0 same (c.in-Some.ensures.value ∙ found.1)

-- a calendar date
pub returns-in_ok-day-in-Some-byte-clause-value : goal.returns-in_ok-day-in-Some-byte-clause-value
returns-in_ok-day-in-Some-byte-clause-value c =
    let year = c.in_ok-year.ensures.value in
    let here = to_z w32 (of_z w32 c.in_ok-year.year) in
    let same : here ≡ c.in_ok-year.year = search rules in
    let found = put_calendar here _ _ _ _ _ _ (subst IsPrintableYear (sym same) year.0) c.in_ok-front.ensures.value c.in-Some-byte.ensures.value c.in_ok-day-in-Some-byte.ensures.value in
    put_form _ _ _ _ _ year.1 found.0 same (sym c.in_default.ensures.unchanged ∙ found.1)

-- an ordinal date
pub returns-in_ok-last-in-None-clause-value : goal.returns-in_ok-last-in-None-clause-value
returns-in_ok-last-in-None-clause-value c =
    let year = c.in_ok-year.ensures.value in
    let here = to_z w32 (of_z w32 c.in_ok-year.year) in
    let same : here ≡ c.in_ok-year.year = search rules in
    let last = c.in_ok-last-in-None.ensures.value in
    let found = put_ordinal here _ _ _ _ _ (subst IsPrintableYear (sym same) year.0) c.in_ok-front.ensures.value (last.0, sym c.in-None.ensures.unchanged ∙ last.1) in
    put_form _ _ _ _ _ year.1 found.0 same (sym c.in_default.ensures.unchanged ∙ found.1)

-- ---- where it stops
pub returns-in_err-week-clause-scans : goal.returns-in_err-week-clause-scans
returns-in_err-week-clause-scans c =
    rw c.from_residual-in_err-week.ensures
    (λ f. c.in_ok-year.ensures.scans (AfterYear f) ∙ c.in-Some.ensures.branches (WeekDate f) (MonthOrOrdinal f) ∙ c.in_err-week.ensures.scans (Byte 45 (ByteRange 49 6 f)))

pub returns-in_err-byte-clause-scans : goal.returns-in_err-byte-clause-scans
returns-in_err-byte-clause-scans c =
    rw c.from_residual-in_err-byte.ensures
    (λ f. c.in_ok-year.ensures.scans (AfterYear f) ∙ c.in-Some.ensures.branches (WeekDate f) (MonthOrOrdinal f) ∙ c.in_ok-week.ensures.scans (Byte 45 (ByteRange 49 6 f)) ∙ c.in_err-byte.ensures.scans (ByteRange 49 6 f))

pub returns-in_err-weekday-clause-scans : goal.returns-in_err-weekday-clause-scans
returns-in_err-weekday-clause-scans c =
    rw c.from_residual-in_err-weekday.ensures
    (λ f. c.in_ok-year.ensures.scans (AfterYear f) ∙ c.in-Some.ensures.branches (WeekDate f) (MonthOrOrdinal f) ∙ c.in_ok-week.ensures.scans (Byte 45 (ByteRange 49 6 f)) ∙ c.in_ok-byte.ensures.scans (ByteRange 49 6 f) ∙ c.in_err-weekday.ensures.scans f)

pub returns-in_err-front-clause-scans : goal.returns-in_err-front-clause-scans
returns-in_err-front-clause-scans c =
    rw c.from_residual-in_err-front.ensures
    (λ f. c.in_ok-year.ensures.scans (AfterYear f) ∙ c.in_default.ensures.branches (WeekDate f) (MonthOrOrdinal f) ∙ c.in_err-front.ensures.scans (Branch 45 0 (Digits 2 f) (Digits 1 f)))

pub returns-in_err-day-in-Some-byte-clause-scans : goal.returns-in_err-day-in-Some-byte-clause-scans
returns-in_err-day-in-Some-byte-clause-scans c =
    rw c.from_residual-in_err-day-in-Some-byte.ensures
    (λ f. c.in_ok-year.ensures.scans (AfterYear f) ∙ c.in_default.ensures.branches (WeekDate f) (MonthOrOrdinal f) ∙ c.in_ok-front.ensures.scans (Branch 45 0 (Digits 2 f) (Digits 1 f)) ∙ c.in-Some-byte.ensures.branches (Digits 2 f) (Digits 1 f) ∙ c.in_err-day-in-Some-byte.ensures.scans f)

pub returns-in_err-last-in-None-clause-scans : goal.returns-in_err-last-in-None-clause-scans
returns-in_err-last-in-None-clause-scans c =
    rw c.from_residual-in_err-last-in-None.ensures
    (λ f. c.in_ok-year.ensures.scans (AfterYear f) ∙ c.in_default.ensures.branches (WeekDate f) (MonthOrOrdinal f) ∙ c.in_ok-front.ensures.scans (Branch 45 0 (Digits 2 f) (Digits 1 f)) ∙ c.in-None.ensures.branches (Digits 2 f) (Digits 1 f) ∙ c.in_err-last-in-None.ensures.scans f)
