use Rattle.std.proofs.Common.{Ok, refl, ap, arith, inl, inr, w32}
use Rattle.std.proofs.lemmas.Int.{to_z-of_z}
use Rattle.cal_time.specs.Lengths.{days_in_month}
use Rattle.cal_holidays.proofs.Sundays.{easter-one}
use Rattle.cal_holidays.proofs.gregorian.easter.Goals as goal

pub returns-in-Ok-clause-value : goal.returns-in-Ok-clause-value
returns-in-Ok-clause-value c =
    (c.easter_after.ensures.range, rw (to_z-of_z w32 _ c.ranges.year) at c.easter_after.ensures.value)

pub returns-in-Ok-clause-every : goal.returns-in-Ok-clause-every
returns-in-Ok-clause-every c n date is = ap Ok (easter-one c.args.year _ n (returns-in-Ok-clause-value c).1 is)

pub returns-in-Ok-clause-error : goal.returns-in-Ok-clause-error
returns-in-Ok-clause-error c =
    let is_year = rw (to_z-of_z w32 _ c.ranges.year) at c.in-Ok.ensures.year in
    ((λ e. absurd (cc)), (λ no. absurd (is_year.1 no)))

pub returns-in-Err-clause-error_kind : goal.returns-in-Err-clause-error_kind
returns-in-Err-clause-error_kind c = elim c.in-Err.ensures.error_kind [
  | inl year ↦ year
  | inr day ↦ absurd ((c.in-Err.ensures.day.0 day).1 (omega arith, unfold days_in_month in omega arith))
]

pub returns-in-Err-clause-error : goal.returns-in-Err-clause-error
returns-in-Err-clause-error c =
    let is_year = rw (to_z-of_z w32 _ c.ranges.year) at c.in-Err.ensures.year in
    ((λ _. is_year.0 (returns-in-Err-clause-error_kind c)), (λ _. refl))
