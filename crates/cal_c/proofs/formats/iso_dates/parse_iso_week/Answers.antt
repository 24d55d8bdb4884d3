use Rattle.std.proofs.Common.{◌≡◌, ◌-◌, ℕ, subst, arith}
use Rattle.std.specs.Prelude.{Ok}
use Rattle.cal_time.specs.Date.{IsDate}
use Rattle.cal_time.specs.IsoWeekDate.{HasIsoWeekDate}
use Rattle.cal_text.proofs.YearTexts.{plain-cast}
use Rattle.cal_c.proofs.UsualFormats.{week-text, week-read}
use Rattle.cal_c.proofs.formats.iso_dates.parse_iso_week.Goals as goal

pub returns : goal.returns
returns c =
    let y = c.in_ok-year.year in
    let w = c.in_ok-week.week in
    let g = c.in_ok-digit.digit in
    let found = c.date_from_numbers in
    let n = c.in-Ok.date in
    let read = week-text _ _ _ _ _ _ _ y w g c.in_ok-year.ensures.value c.in_ok-byte.ensures.value c.in_ok-byte-2.ensures.value c.in_ok-week.ensures.value c.in_ok-byte-3.ensures.value
    c.in_ok-digit.ensures.value.2 c.in_ok-end.ensures.value in
    let year = plain-cast y (omega (arith, read.0)) in
    week-read found.result c.args.text.now y w g (g - 48) n read.1 read.0 c.in_ok-week.ensures.range (omega (arith, c.in_ok-digit.ensures.value.0)) (omega (arith, c.in_ok-digit.ensures.value.0)) (omega (arith, c.in_ok-digit.ensures.value.1))
    (subst (λ z. (m : ℕ) → IsDate m → HasIsoWeekDate z w (g - 48 - 1) m → found.result ≡ Ok m) year found.ensures.every) c.in-Ok.ensures.value.0
    (subst (λ z. HasIsoWeekDate z w (g - 48 - 1) n) year c.in-Ok.ensures.value.1) c.in-Ok.is
