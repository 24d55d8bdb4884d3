use Rattle.std.proofs.Common.{◌≡◌, inl, inr, Some}
use Rattle.cal_c.proofs.schedule.recurrences.moments.zone_of.Goals as goal

pub returns-in-Ok-clause-every : goal.returns-in-Ok-clause-every
returns-in-Ok-clause-every c = λ z is. elim is as (λ _. Some c.in-Ok.zone ≡ Some z) [
  | inl file ↦ let same = c.in-Ok.ensures.every z file in cc
  | inr posix ↦ absurd (posix.1 c.in-Ok.zone c.in-Ok.ensures.value)
]

pub returns-in-Ok-parse_posix-clause-some : goal.returns-in-Ok-parse_posix-clause-some
returns-in-Ok-parse_posix-clause-some c = inr (c.in-Ok-parse_posix.ensures.value, λ y file. let no = c.in-Err.ensures.every y file in absurd (cc))

pub returns-in-Ok-parse_posix-clause-every : goal.returns-in-Ok-parse_posix-clause-every
returns-in-Ok-parse_posix-clause-every c = λ z is. elim is as (λ _. Some c.in-Ok-parse_posix.zone ≡ Some z) [
  | inl file ↦ let no = c.in-Err.ensures.every z file in absurd (cc)
  | inr posix ↦ let same = c.in-Ok-parse_posix.ensures.every z posix.0 in cc
]

pub returns-in-Err-parse_posix-clause-every : goal.returns-in-Err-parse_posix-clause-every
returns-in-Err-parse_posix-clause-every c = λ z is. absurd (elim is as (λ _. ⊥) [
  | inl file ↦ let no = c.in-Err.ensures.every z file in absurd (cc)
  | inr posix ↦ let no = c.in-Err-parse_posix.ensures.every z posix.0 in absurd (cc)
])
