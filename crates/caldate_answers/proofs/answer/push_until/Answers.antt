use Rattle.std.proofs.Common.{◌≡◌, ◌∙◌, ◌++◌, ◌<◌, ◌^◌, ◌-ℤ◌, to_z, of_z, w32, true, ap, sym, subst, length, arith}
use Rattle.std.specs.Fmt.{signed_decimal}
use Rattle.std.specs.Prelude.{unsigned_abs}
use Rattle.std.proofs.lemmas.Int.{ints}
use Rattle.cal_time.proofs.TextLengths.{length-signed}
use Rattle.cal_time.specs.Date.{IsDate, julian_day_at}
use Rattle.cal_datetime.specs.DateTime.{date_at}
use Rattle.cal_datetime.specs.OffsetDateTime.{LocalAndOffset}
use Rattle.caldate_answers.specs.Answers.{day_of, is_date}
use Rattle.caldate_answers.proofs.Texts.{days_between}
use Rattle.caldate_answers.proofs.answer.push_until.Goals as goal

-- the days between two dates of the range have few digits
pub push_i32-requires : goal.push_i32-requires
push_i32-requires c =
    let n = c.date.result in
    let m = c.date-then-is_date-2.result in
    let to_date : IsDate n = c.to_julian_day.ensures.in_range in
    let from_date : IsDate m = c.to_julian_day-then-is_date-2.ensures.in_range in
    let days = days_between n m _ _ to_date from_date c.to_julian_day.ensures.value c.to_julian_day-then-is_date-2.ensures.value in
    let small : unsigned_abs (julian_day_at n -ℤ julian_day_at m) < 2 ^ 32 = omega (arith, ints, to_date, from_date) in
    let few = length-signed (julian_day_at n -ℤ julian_day_at m) small in
    rw days (omega (arith, few, ap length c.new-days.ensures))

pub returns-then-is_date-2-clause-text : goal.returns-then-is_date-2-clause-text
returns-then-is_date-2-clause-text c =
    let from : is_date c.args.from.now ≡ true = sym c.is_date.ensures ∙ c.if-is_date.true in
    let to : is_date c.args.to.now ≡ true = sym c.is_date-then-is_date.ensures ∙ c.if-is_date-2.true in
    let end_day = c.date.ensures.value ∙ ap (λ (m : LocalAndOffset). date_at m.local) c.moment_of-end.ensures in
    let start_day = c.date-then-is_date-2.ensures.value ∙ ap (λ (m : LocalAndOffset). date_at m.local) c.moment_of-start.ensures in
    let end = c.to_julian_day.ensures.value ∙ ap julian_day_at end_day in
    let start = c.to_julian_day-then-is_date-2.ensures.value ∙ ap julian_day_at start_day in
    let to_date = subst IsDate end_day c.to_julian_day.ensures.in_range in
    let from_date = subst IsDate start_day c.to_julian_day-then-is_date-2.ensures.in_range in
    let days = days_between (day_of c.args.to.now) (day_of c.args.from.now) _ _ to_date from_date end start in
    let digits = signed_decimal (to_z w32 (of_z w32 (to_z w32 (of_z w32 c.to_julian_day.result) -ℤ to_z w32 (of_z w32 c.to_julian_day-then-is_date-2.result)))) in
    rw (from, to) (c.push.ensures.appended ∙ ap (λ text. c.args.buffer.now ++ text) (c.as_bytes.ensures.value ∙ c.push_i32.ensures.appended ∙ ap (λ front. front ++ digits) c.new-days.ensures ∙ ap signed_decimal days))
