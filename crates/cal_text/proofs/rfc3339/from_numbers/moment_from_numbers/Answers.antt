use Rattle.std.proofs.Common.{rules, ◌≡◌, ◌⊎◌, ◌≤◌, Ok, ap, sym, subst, inl, inr, ◌∙◌, arith, pos, w32, to_z, of_z}
use Rattle.std.proofs.lemmas.Bool.{cases_lt}
use Rattle.cal_time.specs.Date.{HasCalendarDate}
use Rattle.cal_time.specs.Time.{time_of, hour_out_of_range, minute_out_of_range, second_out_of_range}
use Rattle.cal_time.specs.UtcOffset.{offset_hour_out_of_range, offset_minute_out_of_range}
use Rattle.cal_datetime.specs.DateTime.{date_at}
use Rattle.cal_datetime.specs.DateTimeLaws.{IsDate-date_at}
use Rattle.cal_datetime.specs.OffsetDateTime.{LocalAndOffset}
use Rattle.cal_text.specs.Rfc3339Form.{IsOffsetOf}
use Rattle.cal_text.proofs.Moments.{made}
use Rattle.cal_text.proofs.Results.{one}
use Rattle.cal_text.proofs.YearTexts.{written-cast}
use Rattle.cal_text.proofs.rfc3339.from_numbers.moment_from_numbers.Goals as goal

pub returns-in_err-time-clause-error_kind : goal.returns-in_err-time-clause-error_kind
returns-in_err-time-clause-error_kind c =
    let m = c.args.numbers in
    let why = c.in_err-time.ensures in
    let e = c.in_err-time.field-0.0 in
    let IsClock = (e ≡ hour_out_of_range) ⊎ (e ≡ minute_out_of_range) ⊎ (e ≡ second_out_of_range) ⊎ (e ≡ offset_hour_out_of_range) ⊎ (e ≡ offset_minute_out_of_range) in
    let clock : IsClock = elim (cases_lt 23 m.hour) as (λ _. IsClock) [
      | inl hour ↦ inl (why.error.hour.1 hour)
      | inr hour ↦ elim (cases_lt 59 m.minute) as (λ _. IsClock) [
        | inl minute ↦ inr (inl (why.error.minute.1 (omega (arith, hour), minute)))
        | inr minute ↦ elim (cases_lt 59 m.second) as (λ _. IsClock) [
          | inl second ↦ inr (inr (inl (why.error.second.1 (omega (arith, hour), omega (arith, minute), second))))
          | inr second ↦
              let made = why.value (omega (arith, hour)) (omega (arith, minute)) (omega (arith, second)) (omega (arith, c.requires.nanosecond)) in
              let never : ⊥ = cc in
              absurd never
        ]
      ]
    ] in
    search rules

pub returns-clause-value : goal.returns-clause-value
returns-clause-value c =
    let m = c.args.numbers in
    let clock = c.in_ok-time.ensures in
    let year : to_z w32 (of_z w32 c.from.result) ≡ pos m.year = ap (λ z. to_z w32 (of_z w32 z)) c.from.ensures ∙ written-cast (pos m.year) (omega (arith, c.requires.year)) in
    let date = rw year at c.in_ok-date.ensures.value in
    let hour : m.hour ≤ 23 = elim (cases_lt 23 m.hour) as (λ _. m.hour ≤ 23) [ inl more ↦ absurd (clock.error.hour.1 more) | inr low ↦ omega (arith, low) ] in
    let minute : m.minute ≤ 59 = elim (cases_lt 59 m.minute) as (λ _. m.minute ≤ 59) [ inl more ↦ absurd (clock.error.minute.1 (hour, more)) | inr low ↦ omega (arith, low) ] in
    let second : m.second ≤ 59 = elim (cases_lt 59 m.second) as (λ _. m.second ≤ 59) [ inl more ↦ absurd (clock.error.second.1 (hour, minute, more)) | inr low ↦ omega (arith, low) ] in
    let made = clock.value hour minute second (omega (arith, c.requires.nanosecond)) in
    let at = c.new_in_offset.ensures in
    let time : c.in_ok-time.time ≡ time_of m.hour m.minute m.second m.nanosecond = cc in
    record {
      in_range = at.in_range.0;
      date = subst (HasCalendarDate (pos m.year) m.month m.day) (sym at.date) date.1;
      hour = hour;
      minute = minute;
      second = second;
      time = at.time ∙ time;
      offset = subst (IsOffsetOf m.offset) (sym (ap (λ (s : LocalAndOffset). s.offset) at.value)) c.in_ok-offset.ensures.value;
    }

pub returns-clause-every : goal.returns-clause-every
returns-clause-every c at is =
    let m = c.args.numbers in
    let year : to_z w32 (of_z w32 c.from.result) ≡ pos m.year = ap (λ z. to_z w32 (of_z w32 z)) c.from.ensures ∙ written-cast (pos m.year) (omega (arith, c.requires.year)) in
    let days = rw year at c.in_ok-date.ensures.every in
    let date = one _ _ (days (date_at at.local) (IsDate-date_at at.local is.in_range) is.date) in
    let time = one _ _ (c.in_ok-time.ensures.value is.hour is.minute is.second (omega (arith, c.requires.nanosecond))) in
    let offset = one _ _ (c.in_ok-offset.ensures.every at.offset is.offset) in
    ap Ok (c.new_in_offset.ensures.value ∙ made at _ _ _ is.in_range date (time ∙ sym is.time) offset)
