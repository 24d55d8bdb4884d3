-- Lists of holidays: dates that are added, and lists with the same dates.
use Rattle.std.proofs.Common.{Bool, Bor, ◌≡◌, ◌⊎◌, ℕ, zero, suc, ◌+◌, ◌-◌, ◌<◌, ◌≤◌, ℤ, pos, ◌+ℤ◌, List, length, get_or, Option, Some, None, inl, inr, refl, sym, ap, subst, ◌∙◌, arith}
use Rattle.std.specs.Prelude.{◌↔◌, Contains, IfSome, IfNone, IsNone, option_map, unsigned_abs}
use Rattle.std.specs.List.{insert}
use Rattle.std.proofs.lemmas.Bool.{cases_lt}
use Rattle.std.proofs.lemmas.Int.{ints}
use Rattle.std.proofs.lemmas.List.{get_or_default, ext_get_or}
use Rattle.std.proofs.lemmas.List.Edits.{get_or-insert_at, get_or-insert_below, get_or-insert_above, length-insert}
use Rattle.cal_time.specs.Counted.{IsRising}
use Rattle.cal_time.specs.Date.{julian_day_at}
use Rattle.cal_schedule.proofs.WorkdaysWeeks.{Rises, rises}
use Rattle.cal_schedule.specs.Workdays.{WorkWeek}
use Rattle.cal_holidays.specs.Holidays.{AreMore, AreHolidays, AreWorkdays, IsHolidayFor, IsHoliday}
use Rattle.cal_holidays.specs.HolidaySearch.{IsHolidayIn, IsHolidayBy, AreAmongYears, year_of_number}
use Rattle.cal_holidays.specs.declared.holiday_rule.HolidayRule.{HolidayRule}
use Rattle.cal_holidays.proofs.DayLists.{IsInserted, rising_inserted, contains_inserted}

pub if_some-map : (r : Option ℕ) (P Q : ℕ → Type 0) → ((k : ℕ) → P k → Q k) → IfSome r P → IfSome r Q
if_some-map None P Q f h = tt
if_some-map (Some k) P Q f h = f k h

pub if_none-map : (r : Option ℕ) (X Y : Type 0) → (X → Y) → IfNone r X → IfNone r Y
if_none-map None X Y f h = f h
if_none-map (Some k) X Y f h = tt

pub are_more-map : (P Q : ℕ → Type 0) (m : ℕ) → ((n : ℕ) → P n → Q n) → AreMore P m → AreMore Q m
are_more-map P Q m f h = record {
  days = h.days;
  rising = h.rising;
  more = h.more;
  each = λ n in_days. f n (h.each n in_days);
}

inserted : (xs : List ℕ) (at date : ℕ) → at ≤ length xs → IsInserted xs (insert xs at date) at date
inserted xs at date most = record {
  most = most;
  longer = length-insert xs at date most;
  below = λ k h. get_or-insert_below xs at date 0 k h most;
  placed = get_or-insert_at xs at date 0 most;
  above = λ k h l. get_or-insert_above xs at date 0 k h most;
}

-- A date beside those that fill a buffer.
pub one_more : (xs : List ℕ) (at date : ℕ) → IsRising julian_day_at xs → at ≤ length xs → (0 < at → get_or xs (at - 1) 0 < date) → (at < length xs → date < get_or xs at 0)
    → AreMore (λ n. (n ≡ date) ⊎ Contains xs n) (length xs)
one_more xs at date rising most before after =
    let s = inserted xs at date most in
    record {
      days = insert xs at date;
      rising = rising_inserted xs (insert xs at date) at date rising s before after;
      more = omega (arith, s.longer);
      each = λ n h. (contains_inserted xs (insert xs at date) at date s n).0 h;
    }

-- The date at each index is in a list that has all the dates, at the same index or a later one.
pub record IsFoundFrom (ys : List ℕ) (k date : ℕ) : Type 0 where
  pub at : ℕ
  pub from : k ≤ at
  pub within : at < length ys
  pub is : get_or ys at 0 ≡ date

found : (xs ys : List ℕ) → ((n : ℕ) → Contains xs n → Contains ys n) → (k : ℕ) → k < length xs → IsFoundFrom ys 0 (get_or xs k 0)
found xs ys has k h =
    let n = get_or xs k 0 in
    let there = has n (k, h, get_or_default xs k n 0 h) in
    record {
      at = there.0;
      from = omega arith;
      within = there.1;
      is = get_or_default ys there.0 0 n there.1 ∙ there.2;
    }

later : (ys : List ℕ) → Rises ys → (i j a b : ℕ) → i < length ys → j < length ys → get_or ys i 0 ≡ a → get_or ys j 0 ≡ b → a < b → i < j
later ys r i j a b h l e f less =
    elim (cases_lt i j) as (λ _. i < j) [
      | inl before ↦ before
      | inr most ↦ elim (cases_lt j i) as (λ _. i < j) [
        | inl after ↦ absurd (omega (arith, r j i after h))
        | inr least ↦ let same : i ≡ j = omega arith in absurd (omega (arith, ap (λ k. get_or ys k 0) same))
      ]
    ]

pub found_from : (xs ys : List ℕ) → Rises xs → Rises ys → ((n : ℕ) → Contains xs n → Contains ys n) → (k : ℕ) → k < length xs → IsFoundFrom ys k (get_or xs k 0)
found_from xs ys r s has zero h = found xs ys has zero h
found_from xs ys r s has (suc k) h =
    let before = found_from xs ys r s has k (omega arith) in
    let here = found xs ys has (suc k) h in
    let after = later ys s before.at here.at (get_or xs k 0) (get_or xs (suc k) 0) before.within here.within before.is here.is (r k (suc k) (omega arith) h) in
    record {
      at = here.at;
      from = omega (arith, after, before.from);
      within = here.within;
      is = here.is;
    }

-- A list that has all the dates of another isn't shorter.
pub no_shorter : (xs ys : List ℕ) → IsRising julian_day_at xs → IsRising julian_day_at ys → ((n : ℕ) → Contains xs n → Contains ys n) → length xs ≤ length ys
no_shorter xs ys r s has =
    elim (cases_lt 0 (length xs)) as (λ _. length xs ≤ length ys) [
      | inl some ↦
          let there = found_from xs ys (rises xs r) (rises ys s) has (length xs - 1) (omega arith) in
          omega (arith, there.from, there.within)
      | inr none ↦ omega arith
    ]

not_before : (xs ys : List ℕ) → IsRising julian_day_at xs → IsRising julian_day_at ys → ((n : ℕ) → Contains xs n → Contains ys n) → (k : ℕ) → k < length xs → get_or ys k 0 ≤ get_or xs k 0
not_before xs ys r s has k h =
    let there = found_from xs ys (rises xs r) (rises ys s) has k h in
    elim (cases_lt k there.at) as (λ _. get_or ys k 0 ≤ get_or xs k 0) [
      | inl far ↦ omega (arith, rises ys s k there.at far there.within, there.is)
      | inr near ↦ let same : k ≡ there.at = omega (arith, there.from) in omega (arith, ap (λ i. get_or ys i 0) same, there.is)
    ]

pub same_days : (xs ys : List ℕ) → IsRising julian_day_at xs → IsRising julian_day_at ys → ((n : ℕ) → Contains xs n → Contains ys n) → ((n : ℕ) → Contains ys n → Contains xs n)
    → xs ≡ ys
same_days xs ys r s has had =
    let longer = no_shorter xs ys r s has in
    let shorter = no_shorter ys xs s r had in
    ext_get_or 0 xs ys (omega arith)
    (λ i h. let low = not_before xs ys r s has i h in
    let high = not_before ys xs s r had i (omega arith) in
    omega arith)

-- There is one list of the holidays, and there are no more of them.
pub holidays-one : (rules : List HolidayRule) (first last : ℕ) (xs ys : List ℕ) → AreHolidays rules first last xs → AreHolidays rules first last ys → xs ≡ ys
holidays-one rules first last xs ys f g = same_days xs ys f.rising g.rising (λ n h. (g.each n).1 ((f.each n).0 h)) (λ n h. (f.each n).1 ((g.each n).0 h))

pub no_more : (rules : List HolidayRule) (first last most : ℕ) (xs : List ℕ) → AreHolidays rules first last xs → length xs ≤ most → ¬ AreMore (IsHoliday rules first last) most
no_more rules first last most xs f few more =
    omega (arith, more.more, no_shorter more.days xs more.rising f.rising (λ n h. (f.each n).1 (more.each n h)))

-- The holiday of a rule for a year is the date that was found.
pub is_holiday-date : (rule : HolidayRule) (y : ℤ) (first last date : ℕ) → IsHolidayFor rule y date → ((n : ℕ) → IsHolidayFor rule y n → Some date ≡ Some n) → first ≤ date → date ≤ last
    → (n : ℕ) → (n ≡ date) ↔ IsHolidayIn rule first last y n
is_holiday-date rule y first last date is every from through n = (
  λ same. subst (λ k. IsHolidayIn rule first last y k) (sym same) (record { from = from; through = through; is = is }),
  λ h. let e = every n h.is in cc,
)

-- The holidays of a rule for the years with numbers from one up to another.
pub record IsHolidayBelow (rule : HolidayRule) (first last low high n : ℕ) : Type 0 where
  pub number : ℕ
  pub from : low ≤ number
  pub below : number < high
  pub is : IsHolidayIn rule first last (year_of_number number) n

pub none_below : (rule : HolidayRule) (first last low n : ℕ) → ¬ IsHolidayBelow rule first last low low n
none_below rule first last low n h = omega (arith, h.from, h.below)

below-more : (rule : HolidayRule) (first last low k n : ℕ) → IsHolidayBelow rule first last low (k + 1) n
    → IsHolidayIn rule first last (year_of_number k) n ⊎ IsHolidayBelow rule first last low k n
below-more rule first last low k n h =
    elim (cases_lt h.number k) [
      | inl less ↦ inr (record { number = h.number; from = h.from; below = less; is = h.is })
      | inr most ↦
          let same : h.number ≡ k = omega (arith, h.below) in
          inl (subst (λ j. IsHolidayIn rule first last (year_of_number j) n) same h.is)
    ]

-- The holiday for one more year.
pub one_year : (rule : HolidayRule) (first last low k : ℕ) → low ≤ k → (old new start : List ℕ) → ((n : ℕ) → Contains old n ↔ IsHolidayBelow rule first last low k n ⊎ Contains start n)
    → ((n : ℕ) → Contains new n ↔ IsHolidayIn rule first last (year_of_number k) n ⊎ Contains old n)
    → (n : ℕ) → Contains new n ↔ IsHolidayBelow rule first last low (k + 1) n ⊎ Contains start n
one_year rule first last low k from old new start before added n = (
  λ h. elim ((added n).0 h) [
    | inl here ↦ inl (record { number = k; from = from; below = omega arith; is = here })
    | inr there ↦ elim ((before n).0 there) [ inl below ↦ inl (wider below) | inr was ↦ inr was ]
  ],
  λ h. elim h [
    | inl below ↦ elim (below-more rule first last low k n below) [
      | inl here ↦ (added n).1 (inl here)
      | inr earlier ↦ (added n).1 (inr ((before n).1 (inl earlier)))
    ]
    | inr was ↦ (added n).1 (inr ((before n).1 (inr was)))
  ],
)
  where
    wider : IsHolidayBelow rule first last low k n → IsHolidayBelow rule first last low (k + 1) n
    wider b = record { number = b.number; from = b.from; below = omega (arith, b.below); is = b.is }

pub no_years : (rule : HolidayRule) (first last low : ℕ) (days : List ℕ) (n : ℕ) → Contains days n ↔ IsHolidayBelow rule first last low low n ⊎ Contains days n
no_years rule first last low days n = (λ h. inr h, λ h. elim h [ inl none ↦ absurd (none_below rule first last low n none) | inr was ↦ was ])

by_below : (rule : HolidayRule) (first last low k n : ℕ) → IsHolidayBelow rule first last low k n → IsHolidayBy rule first last n
by_below rule first last low k n h = record { year = year_of_number h.number; is = h.is }

-- What the holidays so far and the one for a year are by the rule.
pub by_year : (rule : HolidayRule) (first last low k : ℕ) (old start : List ℕ) → ((n : ℕ) → Contains old n ↔ IsHolidayBelow rule first last low k n ⊎ Contains start n)
    → (n : ℕ) → IsHolidayIn rule first last (year_of_number k) n ⊎ Contains old n → IsHolidayBy rule first last n ⊎ Contains start n
by_year rule first last low k old start before n h = elim h [
  | inl here ↦ inl (record { year = year_of_number k; is = here })
  | inr there ↦ elim ((before n).0 there) [ inl below ↦ inl (by_below rule first last low k n below) | inr was ↦ inr was ]
]

-- The years from one number up to another are all that the rule needs.
pub all_years : (rule : HolidayRule) (first last low high k : ℕ) → AreAmongYears rule first last low high → high ≤ k → (days start : List ℕ)
    → ((n : ℕ) → Contains days n ↔ IsHolidayBelow rule first last low k n ⊎ Contains start n) → (n : ℕ) → Contains days n ↔ IsHolidayBy rule first last n ⊎ Contains start n
all_years rule first last low high k among most days start below n = (
  λ h. elim ((below n).0 h) [ inl b ↦ inl (by_below rule first last low k n b) | inr was ↦ inr was ],
  λ h. elim h [ inl by ↦ (below n).1 (inl (reached by)) | inr was ↦ (below n).1 (inr was) ],
)
  where
    reached : IsHolidayBy rule first last n → IsHolidayBelow rule first last low k n
    reached by =
        let years = among by.year n by.is in
        let number = unsigned_abs (by.year +ℤ pos 1_000_100) in
        let same : by.year ≡ year_of_number number = omega (arith, ints, years.from, years.below) in
        record {
          number = number;
          from = omega (arith, ints, years.from, years.below);
          below = omega (arith, ints, years.from, years.below);
          is = subst (λ y. IsHolidayIn rule first last y n) same by.is;
        }

-- The holidays of the first k rules.
pub record IsHolidayOfFirst (rules : List HolidayRule) (first last k n : ℕ) : Type 0 where
  pub rule : HolidayRule
  pub index : ℕ
  pub below : index < k
  pub within : index < length rules
  pub rule_is : get_or rules index rule ≡ rule
  pub by : IsHolidayBy rule first last n

pub no_rules : (rules : List HolidayRule) (first last : ℕ) (days : List ℕ) → length days ≡ 0 → (n : ℕ) → Contains days n ↔ IsHolidayOfFirst rules first last 0 n
no_rules rules first last days none n = (λ h. absurd (omega (arith, h.1)), λ h. absurd (omega (arith, h.below)))

pub one_rule : (rules : List HolidayRule) (first last k : ℕ) (rule : HolidayRule) → k < length rules → get_or rules k rule ≡ rule → (old new : List ℕ)
    → ((n : ℕ) → Contains old n ↔ IsHolidayOfFirst rules first last k n) → ((n : ℕ) → Contains new n ↔ IsHolidayBy rule first last n ⊎ Contains old n)
    → (n : ℕ) → Contains new n ↔ IsHolidayOfFirst rules first last (k + 1) n
one_rule rules first last k rule h is old new before added n = (
  λ has. elim ((added n).0 has) [
    | inl here ↦ record { rule = rule; index = k; below = omega arith; within = h; rule_is = is; by = here }
    | inr there ↦
        let was = (before n).0 there in
        record { rule = was.rule; index = was.index; below = omega (arith, was.below); within = was.within; rule_is = was.rule_is; by = was.by }
  ],
  λ of. elim (cases_lt of.index k) [
    | inl less ↦
        (added n).1 (inr ((before n).1 (record { rule = of.rule; index = of.index; below = less; within = of.within; rule_is = of.rule_is; by = of.by })))
    | inr most ↦ (added n).1 (inl (subst (λ r. IsHolidayBy r first last n) (same_rule of most) of.by))
  ],
)
  where
    same_rule : (of : IsHolidayOfFirst rules first last (k + 1) n) → k ≤ of.index → of.rule ≡ rule
    same_rule of most =
        let at : of.index ≡ k = omega (arith, of.below) in
        sym of.rule_is ∙ get_or_default rules of.index of.rule rule of.within ∙ ap (λ i. get_or rules i rule) at ∙ is

is_holiday : (rules : List HolidayRule) (first last n k : ℕ) (rule : HolidayRule) → k < length rules → get_or rules k rule ≡ rule → IsHolidayBy rule first last n → IsHoliday rules first last n
is_holiday rules first last n k rule h is by = record {
  from = by.is.from;
  through = by.is.through;
  year = by.year;
  is = record { rule = rule; among = (k, h, is); is = by.is.is };
}

-- What the holidays so far and those of a rule are by the rules.
pub by_rule : (rules : List HolidayRule) (first last k : ℕ) (rule : HolidayRule) → k < length rules → get_or rules k rule ≡ rule → (old : List ℕ)
    → ((n : ℕ) → Contains old n ↔ IsHolidayOfFirst rules first last k n) → (n : ℕ) → IsHolidayBy rule first last n ⊎ Contains old n → IsHoliday rules first last n
by_rule rules first last k rule h is old before n has = elim has [
  | inl here ↦ is_holiday rules first last n k rule h is here
  | inr there ↦ let was = (before n).0 there in is_holiday rules first last n was.index was.rule was.within was.rule_is was.by
]

pub all_rules : (rules : List HolidayRule) (first last k : ℕ) → length rules ≤ k → (days : List ℕ) → IsRising julian_day_at days
    → ((n : ℕ) → Contains days n ↔ IsHolidayOfFirst rules first last k n) → AreHolidays rules first last days
all_rules rules first last k most days rising each = record {
  rising = rising;
  each = λ n. (
    λ h. let of = (each n).0 h in is_holiday rules first last n of.index of.rule of.within of.rule_is of.by,
    λ h. let among = h.is.among in
        (each n).1
        (record {
          rule = h.is.rule;
          index = among.0;
          below = omega (arith, among.1);
          within = among.1;
          rule_is = among.2;
          by = record { year = h.year; is = record { from = h.from; through = h.through; is = h.is.is } };
        }),
  );
}

pub same_or : (X A B C : Type 0) → X ↔ A ⊎ C → A ↔ B → X ↔ B ⊎ C
same_or X A B C f g = (
  λ x. elim (f.0 x) [ inl a ↦ inl (g.0 a) | inr c ↦ inr c ],
  λ h. elim h [ inl b ↦ f.1 (inl (g.1 b)) | inr c ↦ f.1 (inr c) ],
)

pub none_or : (A C : Type 0) → ¬ A → C ↔ A ⊎ C
none_or A C none = (λ c. inr c, λ h. elim h [ inl a ↦ absurd (none a) | inr c ↦ c ])

-- The clauses of the lists and of the working days leave one result.
pub lists-one : (rules : List HolidayRule) (first last most : ℕ) (r s : Option (Bor (List ℕ))) → IfSome r (λ days. AreHolidays rules first last days.now)
    → (IsNone r ↔ AreMore (IsHoliday rules first last) most) → IfSome s (λ days. AreHolidays rules first last days.now) → (IsNone s ↔ AreMore (IsHoliday rules first last) most)
    → option_map (λ days. days.now) r ≡ option_map (λ days. days.now) s
lists-one rules first last most None None f full g also = refl
lists-one rules first last most (Some xs) (Some ys) f full g also = ap Some (holidays-one rules first last xs.now ys.now f g)
lists-one rules first last most None (Some ys) f full g also = let none = also.1 (full.0 refl) in cc
lists-one rules first last most (Some xs) None f full g also = let none = full.1 (also.0 refl) in cc

week-one : (a b : WorkWeek) → a.marks ≡ b.marks → a.holidays ≡ b.holidays → a ≡ b
week-one a b e f =
    let week : List Bool → List ℕ → WorkWeek = λ m h. record { marks = m; holidays = h } in
    ap (λ m. week m a.holidays) e ∙ ap (λ h. week b.marks h) f

pub weeks-one : (marks : List Bool) (rules : List HolidayRule) (first last most : ℕ) (r s : Option WorkWeek) → IfSome r (AreWorkdays marks rules first last)
    → (IsNone r ↔ AreMore (IsHoliday rules first last) most) → IfSome s (AreWorkdays marks rules first last) → (IsNone s ↔ AreMore (IsHoliday rules first last) most) → r ≡ s
weeks-one marks rules first last most None None f full g also = refl
weeks-one marks rules first last most (Some a) (Some b) f full g also = ap Some (week-one a b (f.marks_are ∙ sym g.marks_are) (holidays-one rules first last a.holidays b.holidays f.holidays g.holidays))
weeks-one marks rules first last most None (Some b) f full g also = let none = also.1 (full.0 refl) in cc
weeks-one marks rules first last most (Some a) None f full g also = let none = full.1 (also.0 refl) in cc
