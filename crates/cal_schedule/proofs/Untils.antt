-- How many months there are from one day to another.
use Rattle.std.proofs.Common.{◌≡◌, ℕ, ◌+◌, ◌/◌, ◌%◌, ◌<◌, ◌≤◌, min, sym, ap, ◌∙◌, subst, arith, ℤ, pos, ◌+ℤ◌, ◌-ℤ◌, ◌*ℤ◌, ◌≤ℤ◌, ◌<ℤ◌, inl, inr, unsigned_abs}
use Rattle.std.specs.Prelude.{Option, Some, None, IfSome, IfNone, IsSomeAnd}
use Rattle.std.proofs.lemmas.Bool.{cases_lt}
use Rattle.std.proofs.lemmas.Int.{ints, by_lt_z}
use Rattle.cal_time.specs.Lengths.{days_in_month}
use Rattle.cal_time.specs.Date.{first_year, year_at, month_at, day_of_month_at, IsDate, IsDayOfMonth}
use Rattle.cal_time.specs.Days.{day_of_month_at-range, day_with}
use Rattle.cal_schedule.specs.Months.{month_number_at, IsMonthNumber, IsMonthsLater}
use Rattle.cal_schedule.specs.Until.{IsMonthsUpTo, IsMonthsBackTo, IsGreatest, IsLeast}
use Rattle.cal_schedule.proofs.Ends.{days_in_month-least}
use Rattle.cal_schedule.proofs.MonthMoves.{month_numbers-rise, same_month, days_apart, one_later, IsMonthNumber-date, number_from}

-- a later month has later days
earlier : (m n : ℕ) → month_number_at m <ℤ month_number_at n → m < n
earlier m n h =
    elim (cases_lt m n) as (λ _. m < n) [
      | inl less ↦ less
      | inr most ↦ absurd (omega (arith, ints, month_numbers-rise n m most))
    ]

pub no_months : (a : ℕ) → IsMonthsLater a (pos 0) a
no_months a = record { month = omega (arith, ints); day = omega (arith, (day_of_month_at-range a).1) }

-- The months from one day to another, if they don't pass it, and if they do.
pub greatest_same : (a b r : ℕ) (m : ℤ) → IsDate r → IsMonthsLater a m r → month_number_at b ≡ month_number_at a +ℤ m → r ≤ b → IsGreatest (IsMonthsUpTo a b) m
greatest_same a b r m h x e in_time = record {
  holds = record { day = r; date = h; later = x; in_time = in_time };
  greatest = λ k at. omega (arith, ints, month_numbers-rise at.day b at.in_time, at.later.month);
}

pub greatest_less : (a b r s : ℕ) (m less : ℤ) → less ≡ m -ℤ pos 1 → IsDate r → IsDate s → IsMonthsLater a m r → IsMonthsLater a less s
    → month_number_at b ≡ month_number_at a +ℤ m → b < r → IsGreatest (IsMonthsUpTo a b) less
greatest_less a b r s m less is h g x y e past =
    let before : s < b = earlier s b (omega (arith, ints, y.month)) in
    record {
      holds = record { day = s; date = g; later = y; in_time = omega arith };
      greatest = λ k at.
          let rise = month_numbers-rise at.day b at.in_time in
          by_lt_z m k (λ above. omega (arith, ints, rise, at.later.month)) (λ most.
          by_lt_z k m (λ below. omega (arith, ints)) (λ least.
          let same : k ≡ m = omega (arith, ints) in
          let one : at.day ≡ r = one_later a at.day r m (subst (λ z. IsMonthsLater a z at.day) same at.later) x in
          absurd (omega (arith, at.in_time))));
    }

pub least_same : (a b r : ℕ) (m : ℤ) → IsDate r → IsMonthsLater a m r → month_number_at b ≡ month_number_at a +ℤ m → b ≤ r → IsLeast (IsMonthsBackTo a b) m
least_same a b r m h x e in_time = record {
  holds = record { day = r; date = h; later = x; in_time = in_time };
  least = λ k at. omega (arith, ints, month_numbers-rise b at.day at.in_time, at.later.month);
}

pub least_more : (a b r s : ℕ) (m more : ℤ) → more ≡ m +ℤ pos 1 → IsDate r → IsDate s → IsMonthsLater a m r → IsMonthsLater a more s
    → month_number_at b ≡ month_number_at a +ℤ m → r < b → IsLeast (IsMonthsBackTo a b) more
least_more a b r s m more is h g x y e past =
    let after : b < s = earlier b s (omega (arith, ints, y.month)) in
    record {
      holds = record { day = s; date = g; later = y; in_time = omega arith };
      least = λ k at.
          let rise = month_numbers-rise b at.day at.in_time in
          by_lt_z k m (λ above. omega (arith, ints, rise, at.later.month)) (λ most.
          by_lt_z m k (λ below. omega (arith, ints)) (λ least.
          let same : k ≡ m = omega (arith, ints) in
          let one : at.day ≡ r = one_later a at.day r m (subst (λ z. IsMonthsLater a z at.day) same at.later) x in
          absurd (omega (arith, at.in_time))));
    }

-- One month less is a month of the range.
pub nearer_on : (a b r : ℕ) (m less : ℤ) → less ≡ m -ℤ pos 1 → IsDate a → IsDate b → IsDate r → IsMonthsLater a m r → month_number_at b ≡ month_number_at a +ℤ m → a ≤ b → b < r
    → IsMonthNumber (month_number_at a +ℤ less)
nearer_on a b r m less is ha hb hr x e h past =
    let on = month_numbers-rise a b h in
    let low = IsMonthNumber-date a ha in
    let high = IsMonthNumber-date b hb in
    by_lt_z (pos 0) m (λ some. record { not_before = omega (arith, ints); not_after = omega (arith, ints) }) (λ none.
    let zero : m ≡ pos 0 = omega (arith, ints) in
    let one : r ≡ a = one_later a r a (pos 0) (subst (λ z. IsMonthsLater a z r) zero x) (no_months a) in
    absurd (omega arith))

pub nearer_back : (a b r : ℕ) (m more : ℤ) → more ≡ m +ℤ pos 1 → IsDate a → IsDate b → IsDate r → IsMonthsLater a m r → month_number_at b ≡ month_number_at a +ℤ m → b ≤ a → r < b
    → IsMonthNumber (month_number_at a +ℤ more)
nearer_back a b r m more is ha hb hr x e h past =
    let on = month_numbers-rise b a h in
    let low = IsMonthNumber-date b hb in
    let high = IsMonthNumber-date a ha in
    by_lt_z m (pos 0) (λ some. record { not_before = omega (arith, ints); not_after = omega (arith, ints) }) (λ none.
    let zero : m ≡ pos 0 = omega (arith, ints) in
    let one : r ≡ a = one_later a r a (pos 0) (subst (λ z. IsMonthsLater a z r) zero x) (no_months a) in
    absurd (omega arith))

-- Each month of the range has a day m months after a day.
pub record HasLater (a : ℕ) (m : ℤ) : Type 0 where
  pub day : ℕ
  pub date : IsDate day
  pub later : IsMonthsLater a m day

pub has_later : (a : ℕ) (m : ℤ) → IsMonthNumber (month_number_at a +ℤ m) → HasLater a m
has_later a m h =
    let p = unsigned_abs ((month_number_at a +ℤ m) -ℤ first_year *ℤ pos 12) in
    let y = first_year +ℤ pos (p / 12) in
    let i = p % 12 + 1 in
    let d = min (day_of_month_at a) (days_in_month y i) in
    let start = day_of_month_at-range a in
    let some : IsDayOfMonth y i d = (omega (arith, start.0, days_in_month-least y i), omega arith) in
    let at = day_with y i d (omega (arith, ints, h.not_before, h.not_after), omega (arith, ints, h.not_before, h.not_after)) (omega arith, omega arith) some in
    record {
      day = at.day;
      date = at.date;
      later = record {
        month = number_from at.day y i d at.has ∙ omega (arith, ints, h.not_before, h.not_after);
        day = ap (λ c. c.day) at.has ∙ ap (λ c. min (day_of_month_at a) (days_in_month c.year c.month)) (sym at.has);
      };
    }

-- More months give a day that isn't earlier.
pub later-rises : (a r s : ℕ) (k m : ℤ) → k ≤ℤ m → IsMonthsLater a k r → IsMonthsLater a m s → r ≤ s
later-rises a r s k m h x y =
    by_lt_z k m (λ less. let before : r < s = earlier r s (omega (arith, ints, x.month, y.month)) in omega arith) (λ most.
    let same : k ≡ m = omega (arith, ints) in
    let one : r ≡ s = one_later a r s m (subst (λ z. IsMonthsLater a z r) same x) y in
    omega arith)

-- The months forward are not negative, and the months backward are not positive.
pub months-on : (a b : ℕ) (m : ℤ) → IsDate a → a ≤ b → IsGreatest (IsMonthsUpTo a b) m → pos 0 ≤ℤ m
months-on a b m d h most = most.greatest (pos 0) (record { day = a; date = d; later = no_months a; in_time = h })

pub months-back : (a b : ℕ) (m : ℤ) → IsDate a → b < a → IsLeast (IsMonthsBackTo a b) m → m ≤ℤ pos 0
months-back a b m d h least = least.least (pos 0) (record { day = a; date = d; later = no_months a; in_time = omega arith })

-- the whole years of the months
pub years-on : (a b : ℕ) (m y r : ℤ) → IsDate a → IsGreatest (IsMonthsUpTo a b) m → m ≡ pos 12 *ℤ y +ℤ r → pos 0 ≤ℤ y → pos 0 ≤ℤ r → r ≤ℤ pos 11
    → IsGreatest (λ years. IsMonthsUpTo a b (pos 12 *ℤ years)) y
years-on a b m y r d h e some least most =
    let there = h.holds in
    let first = IsMonthNumber-date a d in
    let last = IsMonthNumber-date there.day there.date in
    let near = has_later a (pos 12 *ℤ y) (record { not_before = omega (arith, ints, first.not_before); not_after = omega (arith, ints, last.not_after, there.later.month) }) in
    let before : near.day ≤ there.day = later-rises a near.day there.day (pos 12 *ℤ y) m (omega (arith, ints)) near.later there.later in
    record {
      holds = record { day = near.day; date = near.date; later = near.later; in_time = omega (arith, there.in_time) };
      greatest = λ k at. omega (arith, ints, h.greatest (pos 12 *ℤ k) at);
    }

pub years-back : (a b : ℕ) (m y r : ℤ) → IsDate a → IsLeast (IsMonthsBackTo a b) m → m ≡ pos 12 *ℤ y +ℤ r → y ≤ℤ pos 0 → (pos 0 -ℤ pos 11) ≤ℤ r → r ≤ℤ pos 0
    → IsLeast (λ years. IsMonthsBackTo a b (pos 12 *ℤ years)) y
years-back a b m y r d h e none least most =
    let there = h.holds in
    let first = IsMonthNumber-date there.day there.date in
    let last = IsMonthNumber-date a d in
    let near = has_later a (pos 12 *ℤ y) (record { not_before = omega (arith, ints, first.not_before, there.later.month); not_after = omega (arith, ints, last.not_after) }) in
    let after : there.day ≤ near.day = later-rises a there.day near.day m (pos 12 *ℤ y) (omega (arith, ints)) there.later near.later in
    record {
      holds = record { day = near.day; date = near.date; later = near.later; in_time = omega (arith, there.in_time) };
      least = λ k at. omega (arith, ints, h.least (pos 12 *ℤ k) at);
    }

-- The months until a day, in both directions: their month is in range, and they don't pass the day.
pub until-month : (a b : ℕ) (m : ℤ) → (a ≤ b → IsGreatest (IsMonthsUpTo a b) m) → (b < a → IsLeast (IsMonthsBackTo a b) m) → IsMonthNumber (month_number_at a +ℤ m)
until-month a b m on back =
    elim (cases_lt b a) as (λ _. IsMonthNumber (month_number_at a +ℤ m)) [
      | inl less ↦ let there = (back less).holds in subst IsMonthNumber there.later.month (IsMonthNumber-date there.day there.date)
      | inr most ↦ let there = (on most).holds in subst IsMonthNumber there.later.month (IsMonthNumber-date there.day there.date)
    ]

pub until-on : (a b r : ℕ) (m : ℤ) → IsMonthsLater a m r → IsGreatest (IsMonthsUpTo a b) m → r ≤ b
until-on a b r m x h = let one = one_later a r h.holds.day m x h.holds.later in omega (arith, h.holds.in_time)

pub until-back : (a b r : ℕ) (m : ℤ) → IsMonthsLater a m r → IsLeast (IsMonthsBackTo a b) m → b ≤ r
until-back a b r m x h = let one = one_later a r h.holds.day m x h.holds.later in omega (arith, h.holds.in_time)

-- the order of days is kept
pub order-kept : (a b r s : ℕ) (m : ℤ) → IsDate a → IsDate r → a ≤ b → IsMonthsLater a m r → IsMonthsLater b m s → r ≤ s
order-kept a b r s m ha hr h x y =
    elim (cases_lt s r) as (λ _. r ≤ s) [
      | inl less ↦
          let back : month_number_at s ≤ℤ month_number_at r = month_numbers-rise s r (omega arith) in
          let on : month_number_at a ≤ℤ month_number_at b = month_numbers-rise a b h in
          let results : month_number_at r ≡ month_number_at s = omega (arith, ints, x.month, y.month) in
          let starts : month_number_at a ≡ month_number_at b = omega (arith, ints, x.month, y.month) in
          let same = same_month r s results in
          let lengths : days_in_month (year_at r) (month_at r) ≡ days_in_month (year_at s) (month_at s) =
          ap (λ z. days_in_month z (month_at r)) same.year ∙ ap (days_in_month (year_at s)) same.month in
          omega (arith, days_apart a b ha starts, days_apart r s hr results, lengths, x.day, y.day)
      | inr most ↦ most
    ]

-- Up to the 28th, the way back gives the same day.
pub back-again : (a r b : ℕ) (m less : ℤ) → less ≡ pos 0 -ℤ m → day_of_month_at a ≤ 28 → IsMonthsLater a m r → IsMonthsLater r less b → b ≡ a
back-again a r b m less e early x y =
    let there = days_in_month-least (year_at r) (month_at r) in
    let zero : IsMonthsLater a (pos 0) b = record { month = omega (arith, ints, e, x.month, y.month); day = omega (arith, there, x.day, y.day) } in
    one_later a b a (pos 0) zero (no_months a)

-- The months until a day don't pass it, and one month more does.
pub leads-up : (a b : ℕ) (m : ℤ) (r : Option ℕ) → a ≤ b → IsGreatest (IsMonthsUpTo a b) m → IfSome r (λ n. IsDate n × IsMonthsLater a m n)
    → IfNone r (¬ IsMonthNumber (month_number_at a +ℤ m)) → IsSomeAnd r (λ n. n ≤ b)
leads-up a b m None h most has none = none (subst IsMonthNumber most.holds.later.month (IsMonthNumber-date most.holds.day most.holds.date))
leads-up a b m (Some n) h most has none = until-on a b n m has.1 most

pub leads-past : (a b : ℕ) (m more : ℤ) (r : Option ℕ) → more ≡ m +ℤ pos 1 → IsGreatest (IsMonthsUpTo a b) m → IfSome r (λ n. IsDate n × IsMonthsLater a more n) → IfSome r (λ n. b < n)
leads-past a b m more None e most has = tt
leads-past a b m more (Some n) e most has =
    elim (cases_lt b n) as (λ _. b < n) [
      | inl past ↦ past
      | inr within ↦ let k = most.greatest more (record { day = n; date = has.0; later = has.1; in_time = within }) in absurd (omega (arith, ints))
    ]
