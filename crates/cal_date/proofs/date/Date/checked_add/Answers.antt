use Rattle.std.proofs.Common.{◌≡◌, ◌+ℤ◌, pos, rules, FitsSigned, to_z, of_z, w64, ◌∙◌}
use Rattle.std.proofs.lemmas.Int.{to_z-of_z}
use Rattle.cal_span.specs.SignedDuration.{whole_days}
use Rattle.cal_date.proofs.Moves.{found_number}
use Rattle.cal_date.proofs.SameYear.{moved_in_year}
use Rattle.cal_date.proofs.date.Date.checked_add.Goals as goal

pub returns-clause-same_year : goal.returns-clause-same_year
returns-clause-same_year c = λ h.
    let fits : FitsSigned w64 c.whole_days.result = search rules in
    let days : to_z w64 (of_z w64 c.whole_days.result) ≡ whole_days c.args.duration = to_z-of_z w64 _ fits ∙ c.whole_days.ensures in
    moved_in_year c.args.self (whole_days c.args.duration) c.checked_add_days.result c.checked_add_days.ensures.in_range (rw days at c.checked_add_days.ensures.value) h

pub returns-clause-found : goal.returns-clause-found
returns-clause-found c =
    let fits : FitsSigned w64 c.whole_days.result = search rules in
    let days : to_z w64 (of_z w64 c.whole_days.result) ≡ whole_days c.args.duration = to_z-of_z w64 _ fits ∙ c.whole_days.ensures in
    found_number (pos c.args.self +ℤ whole_days c.args.duration) c.checked_add_days.result (rw days at c.checked_add_days.ensures.value)
