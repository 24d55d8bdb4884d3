use Rattle.std.proofs.Common.{◌≡◌, ◌⊎◌, ℕ, List, length, take, subst, sym, arith}
use Rattle.std.specs.Prelude.{Contains}
use Rattle.std.proofs.lemmas.List.{take_all}
use Rattle.cal_time.specs.Counted.{IsRising}
use Rattle.cal_time.specs.Date.{julian_day_at}
use Rattle.cal_holidays.specs.Holidays.{AreMore}
use Rattle.cal_holidays.proofs.HolidayLists.{one_more}
use Rattle.cal_holidays.proofs.day_list.add_date.Goals as goal

pub returns-in-Err-clause-full : goal.returns-in-Err-clause-full
returns-in-Err-clause-full c =
    let days = c.args.days.now in
    let date = c.args.date in
    let all : take c.args.count days ≡ days = take_all c.args.count days (omega arith) in
    let rising : IsRising julian_day_at days = subst (λ (xs : List ℕ). IsRising julian_day_at xs) all c.requires.rising in
    let more = one_more days c.in-Err.field-0 date rising c.in-Err.ensures.most c.in-Err.ensures.before c.in-Err.ensures.after in
    subst (λ (xs : List ℕ). AreMore (λ n. (n ≡ date) ⊎ Contains xs n) (length days)) (sym all) more
