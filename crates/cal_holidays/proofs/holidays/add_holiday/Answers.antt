use Rattle.std.proofs.Common.{◌≡◌, ◌⊎◌, ℕ, length, take, inl, inr, ◌∙◌, SFits, rules, w32}
use Rattle.std.specs.Prelude.{◌↔◌, Contains}
use Rattle.std.proofs.lemmas.Int.{to_z-of_z}
use Rattle.cal_holidays.specs.HolidaySearch.{IsHolidayIn, year_of_number}
use Rattle.cal_holidays.proofs.HolidayLists.{are_more-map, if_none-map, if_some-map, is_holiday-date, none_or, same_or}
use Rattle.cal_holidays.proofs.holidays.add_holiday.Goals as goal

pub returns-in-Some-clause-days : goal.returns-in-Some-clause-days
returns-in-Some-clause-days c =
    let a = c.args in
    let date = c.in-Some.date in
    let fits : SFits w32 c.year_of_number.result = search rules in
    let year = to_z-of_z w32 _ fits ∙ c.year_of_number.ensures in
    let value = rw year at c.in-Some.ensures.value in
    let every = rw year at c.in-Some.ensures.every in
    let within = c.is_within.ensures.0 c.if-is_within.true in
    let same = is_holiday-date a.rule (year_of_number a.year) a.first a.last date value every within.0 within.1 in
    if_some-map c.add_date.result (λ more. (n : ℕ) → Contains (take more c.add_date.new.days) n ↔ (n ≡ date) ⊎ Contains (take a.count a.days.now) n)
    (λ more. (n : ℕ) → Contains (take more c.add_date.new.days) n ↔ IsHolidayIn a.rule a.first a.last (year_of_number a.year) n ⊎ Contains (take a.count a.days.now) n)
    (λ more f n. same_or _ _ _ _ (f n) (same n)) c.add_date.ensures.days

pub returns-in-Some-clause-full : goal.returns-in-Some-clause-full
returns-in-Some-clause-full c =
    let a = c.args in
    let date = c.in-Some.date in
    let fits : SFits w32 c.year_of_number.result = search rules in
    let year = to_z-of_z w32 _ fits ∙ c.year_of_number.ensures in
    let value = rw year at c.in-Some.ensures.value in
    let every = rw year at c.in-Some.ensures.every in
    let within = c.is_within.ensures.0 c.if-is_within.true in
    let same = is_holiday-date a.rule (year_of_number a.year) a.first a.last date value every within.0 within.1 in
    if_none-map c.add_date.result _ _
    (are_more-map (λ n. (n ≡ date) ⊎ Contains (take a.count a.days.now) n) (λ n. IsHolidayIn a.rule a.first a.last (year_of_number a.year) n ⊎ Contains (take a.count a.days.now) n)
    (length a.days.now) (λ n h. elim h [ inl is ↦ inl ((same n).0 is) | inr was ↦ inr was ]))
    c.add_date.ensures.full

pub returns-in_default-clause-days : goal.returns-in_default-clause-days
returns-in_default-clause-days c n =
    let a = c.args in
    let fits : SFits w32 c.year_of_number.result = search rules in
    let year = to_z-of_z w32 _ fits ∙ c.year_of_number.ensures in
    let every = rw year at c.in-Some.ensures.every in
    none_or (IsHolidayIn a.rule a.first a.last (year_of_number a.year) n) (Contains (take a.count a.days.now) n)
    (λ is. let date : c.in-Some.date ≡ n = cc (every n is.is) in
    let within = rw date at c.is_within.ensures in
    cc (within.1 (is.from, is.through), c.if-is_within.false))

pub returns-in_default-2-clause-days : goal.returns-in_default-2-clause-days
returns-in_default-2-clause-days c n =
    let a = c.args in
    let fits : SFits w32 c.year_of_number.result = search rules in
    let year = to_z-of_z w32 _ fits ∙ c.year_of_number.ensures in
    let every = rw year at c.holiday_for.ensures.every in
    none_or (IsHolidayIn a.rule a.first a.last (year_of_number a.year) n) (Contains (take a.count a.days.now) n) (λ is. cc (every n is.is, c.in_default.is))
