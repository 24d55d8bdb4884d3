use Rattle.std.proofs.Common.{◌≡◌, ◌∙◌, ap, arith, length, of_z, sym, to_z}
use Rattle.std.proofs.lemmas.Int.{ints}
use mir.Syntax.{w32}
use Rattle.cal_time.specs.Date.{year_at}
use Rattle.caldate_answers.proofs.InYear.{found_elsewhere, found_in_year, unread_in_year, with_error}
use Rattle.caldate_answers.proofs.Nearest.{few_digits, full_is}
use Rattle.caldate_answers.proofs.reading.yearless.read_in_year.Goals as goal

pub push_year-requires-clause-room : goal.push_year-requires-clause-room
push_year-requires-clause-room c =
    omega (arith, ap length c.new-digits.ensures, few_digits (to_z w32 (of_z w32 c.args.year)) (omega (arith, ints)) (omega (arith, ints)))

pub with_year-requires : goal.with_year-requires
with_year-requires c = (
  c.requires,
  omega (arith, ap length c.new-digits.ensures, c.push_year.ensures.length, ap length c.as_bytes.ensures.value, few_digits (to_z w32 (of_z w32 c.args.year)) (omega (arith, ints)) (omega (arith, ints))),
)

pub returns-then-year : goal.returns-then-year
returns-then-year c =
    let e : to_z w32 (of_z w32 c.args.year) ≡ c.args.year = omega (arith, ints) in
    let full = full_is c.args.text.now c.as_bytes-2.result.now _ _ _ _ c.args.year _ c.as_bytes-2.ensures c.with_year.ensures c.as_bytes.ensures.value c.push_year.ensures.appended c.new-digits.ensures e in
    let same : c.year.result ≡ c.args.year = omega (arith, ints, ap (to_z w32) c.if-year.true) in
    let year = ap year_at (sym c.date_of.ensures) ∙ sym c.year.ensures.value ∙ same in (
      found_in_year c.args.offset c.args.format.now c.args.text.now c.as_bytes-2.result.now c.args.year c.in-Ok.found full year (omega (arith, ints)) (omega (arith, ints)) c.in-Ok.ensures.0,
      λ any h. c.in-Ok.ensures.1 any (with_error c.args.format.now c.args.text.now c.as_bytes-2.result.now c.args.year any full h),
    )

pub returns-else-year : goal.returns-else-year
returns-else-year c =
    let e : to_z w32 (of_z w32 c.args.year) ≡ c.args.year = omega (arith, ints) in
    let full = full_is c.args.text.now c.as_bytes-2.result.now _ _ _ _ c.args.year _ c.as_bytes-2.ensures c.with_year.ensures c.as_bytes.ensures.value c.push_year.ensures.appended c.new-digits.ensures e in (
      found_elsewhere c.args.offset c.args.format.now c.args.text.now c.as_bytes-2.result.now c.args.year c.in-Ok.found full
          (λ year. c.if-year.false (ap (of_z w32) (c.year.ensures.value ∙ ap year_at c.date_of.ensures ∙ year))) c.in-Ok.ensures.0 c.in-Ok.ensures.1,
      tt,
    )

pub returns-in-Err : goal.returns-in-Err
returns-in-Err c =
    let e : to_z w32 (of_z w32 c.args.year) ≡ c.args.year = omega (arith, ints) in
    let full = full_is c.args.text.now c.as_bytes-2.result.now _ _ _ _ c.args.year _ c.as_bytes-2.ensures c.with_year.ensures c.as_bytes.ensures.value c.push_year.ensures.appended c.new-digits.ensures e in
    (unread_in_year c.args.offset c.args.format.now c.args.text.now c.as_bytes-2.result.now c.args.year c.in-Err.why full (omega (arith, ints)) (omega (arith, ints)) c.in-Err.ensures.0, tt)
