use Rattle.std.proofs.Common.{◌≡◌, ◌+◌, ◌-◌, ◌∙◌, inl, inr, sym, ap, arith, true, w32}
use Rattle.std.proofs.lemmas.Int.{to_z-of_z}
use mir.Val.{bool_byte}
use Rattle.cal_units.specs.Lengths.{is_leap_year}
use Rattle.cal_date.specs.Date.{year_at, ordinal_at}
use Rattle.cal_date.specs.PackedDate.{leap_mark}
use Rattle.cal_date.proofs.Dates.{ordinal-most}
use Rattle.cal_date.proofs.Replacements.{replaced-same, replaced-moved, not_replaced, leap_day_marked}
use Rattle.cal_date.proofs.date.Date.ordinal_in_year.Goals as goal

pub returns-then-ordinal-lt-LEAP_DAY : goal.returns-then-ordinal-lt-LEAP_DAY
returns-then-ordinal-lt-LEAP_DAY c =
    let is = replaced-same c.args.year c.args.self (inr (omega (arith, c.if-ordinal-lt-LEAP_DAY.true, c.ordinal-ordinal.ensures.value))) in
    (is.day, c.ordinal-ordinal.ensures.value ∙ is.ordinal_is)

pub returns-then-not-is_leap : goal.returns-then-not-is_leap
returns-then-not-is_leap c =
    let n = c.args.self in
    let z = c.args.year in
    let leap : c.is_leap_year-is_leap.result ≡ is_leap_year z = c.is_leap_year-is_leap.ensures ∙ ap is_leap_year (to_z-of_z w32 z c.ranges.year) in
    let is = leap_day_marked n (sym c.low_bits.ensures.value ∙ c.if-low_bits-eq-LOW_LEAP_DAY.true) (ordinal-most n) in
    not_replaced z n is.1 is.0 (sym leap ∙ c.if-not-is_leap.true)

pub returns-else-ordinal-lt-LEAP_DAY : goal.returns-else-ordinal-lt-LEAP_DAY
returns-else-ordinal-lt-LEAP_DAY c =
    let n = c.args.self in
    let z = c.args.year in
    let leap : c.is_leap_year-is_leap.result ≡ is_leap_year z = c.is_leap_year-is_leap.ensures ∙ ap is_leap_year (to_z-of_z w32 z c.ranges.year) in
    let kept : leap_mark (year_at n) + ordinal_at n ≡ 572 → is_leap_year z ≡ true = λ e. elim c.else-low_bits-eq-LOW_LEAP_DAY.either [
      | inl both ↦ sym leap ∙ both.1
      | inr other ↦ absurd (other (c.low_bits.ensures.value ∙ e))
    ] in
    let is = replaced-moved z n c.from.result c.from-else-ordinal-lt-LEAP_DAY.result (omega (arith, c.if-ordinal-lt-LEAP_DAY.false, c.ordinal-ordinal.ensures.value))
    (c.from.ensures ∙ ap bool_byte leap) (c.from-else-ordinal-lt-LEAP_DAY.ensures ∙ ap bool_byte c.is_in_leap_year.ensures.value) kept in
    (is.day, ap (λ o. o + c.from.result - c.from-else-ordinal-lt-LEAP_DAY.result) c.ordinal-ordinal.ensures.value ∙ is.ordinal_is)
