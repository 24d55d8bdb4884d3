use Rattle.std.proofs.Common.{◌≡◌, ◌∙◌, neg_ℤ, rules, FitsSigned, to_z, of_z, w64}
use Rattle.std.proofs.lemmas.Int.{to_z-of_z}
use Rattle.cal_span.specs.SignedDuration.{whole_days}
use Rattle.cal_date.proofs.SameYear.{moved_back_in_year, found_back}
use Rattle.cal_date.proofs.date.Date.checked_sub.Goals as goal

pub returns-clause-same_year : goal.returns-clause-same_year
returns-clause-same_year c =
    let fits : FitsSigned w64 c.whole_days.result = search rules in
    let days : to_z w64 (of_z w64 c.whole_days.result) ≡ whole_days c.args.duration = to_z-of_z w64 _ fits ∙ c.whole_days.ensures in
    let found = rw days at c.in_ok-days.ensures in
    let back : to_z w64 (of_z w64 c.in_ok-days.days) ≡ neg_ℤ (whole_days c.args.duration) = rw found.1 (to_z-of_z w64 _ found.0) in
    moved_back_in_year c.args.self (whole_days c.args.duration) _ c.checked_add_days.result c.checked_add_days.ensures.in_range back c.checked_add_days.ensures.value

pub returns-clause-found : goal.returns-clause-found
returns-clause-found c =
    let fits : FitsSigned w64 c.whole_days.result = search rules in
    let days : to_z w64 (of_z w64 c.whole_days.result) ≡ whole_days c.args.duration = to_z-of_z w64 _ fits ∙ c.whole_days.ensures in
    let found = rw days at c.in_ok-days.ensures in
    let back : to_z w64 (of_z w64 c.in_ok-days.days) ≡ neg_ℤ (whole_days c.args.duration) = rw found.1 (to_z-of_z w64 _ found.0) in
    found_back c.args.self (whole_days c.args.duration) _ c.checked_add_days.result back c.checked_add_days.ensures.value
