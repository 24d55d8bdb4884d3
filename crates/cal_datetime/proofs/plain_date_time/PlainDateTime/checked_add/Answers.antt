use Rattle.std.proofs.Common.{◌≡◌, ◌+ℤ◌, Some, ap, ◌∙◌, subst, arith}
use Rattle.std.proofs.lemmas.Int.{ints}
use Rattle.cal_datetime.specs.DateTime.{IsDateTime}
use Rattle.cal_datetime.proofs.DateTimes.{later, moved, not_moved}
use Rattle.cal_datetime.proofs.plain_date_time.PlainDateTime.checked_add.Goals as goal

pub returns-in-Some-clause-value : goal.returns-in-Some-clause-value
returns-in-Some-clause-value c =
    let there = moved _ _ _ _ (later c.self.inside.date c.self.inside.time c.args.duration) c.in-Some.ensures in
    rw (← c.self.view_is, ← there) (rw c.new.ensures.value at c.new.ensures.in_range, c.new.ensures.value)

pub returns-in-None-clause-value : goal.returns-in-None-clause-value
returns-in-None-clause-value c =
    rw (← c.self.view_is) (not_moved _ _ (later c.self.inside.date c.self.inside.time c.args.duration) c.in-None.ensures)

pub returns-in-Some-clause-every : goal.returns-in-Some-clause-every
returns-in-Some-clause-every c = λ to _ e.
    let there : c.args.self +ℤ c.args.duration ≡ to = omega (arith, ints, e) in
    ap Some ((returns-in-Some-clause-value c).1 ∙ there)

pub returns-in-None-clause-every : goal.returns-in-None-clause-every
returns-in-None-clause-every c = λ to h e.
    let there : to ≡ c.args.self +ℤ c.args.duration = omega (arith, ints, e) in
    absurd (returns-in-None-clause-value c (subst IsDateTime there h))
