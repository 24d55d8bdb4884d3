-- Working days by their ranks.
use Rattle.std.proofs.Common.{◌≡◌, ℕ, zero, suc, ◌+◌, ◌-◌, ◌<◌, ◌≤◌, ap, arith, List, Bool, length, get_or, slice_get, Option, Some, None, true, refl, sym, ◌∙◌, subst, inl, inr, ℤ, pos, ◌+ℤ◌, ◌-ℤ◌, ◌<ℤ◌, ◌≤ℤ◌}
use Rattle.std.specs.Int.{from_bool}
use Rattle.std.specs.Prelude.{IfSome}
use Rattle.std.proofs.lemmas.Bool.{cases_lt, cases_Bool}
use Rattle.std.proofs.lemmas.Int.{ints, by_lt_z}
use Rattle.std.proofs.lemmas.List.Sums.{count_by_more_yes, count_by_more_no}
use Rattle.cal_time.specs.Date.{last_day, IsDate}
use Rattle.cal_time.specs.IsoWeekDate.{count_before}
use Rattle.cal_schedule.specs.Workdays.{WorkWeek, is_marked, is_workday, workdays_from, workdays_before, workdays_within}
use Rattle.cal_schedule.specs.WorkdaysLaws.{length-within}
use Rattle.cal_schedule.specs.WorkdaysSplit.{HavePassed, IsMarkedBefore, IsRanked, IsSplit, marked_count}
use Rattle.cal_schedule.specs.Ranks.{count-rises, count-less, greater-rank, nth-from, none-nth_from, nth-back, none-nth_back}
use Rattle.cal_schedule.proofs.WorkdaysWeeks.{Rises, ranks, free, held-next, low-more, high-less}

-- the rank of a holiday, by the marked days and the marked holidays before it
split-at : (w : WorkWeek) → Rises w.holidays → (i : ℕ) → i < length w.holidays → IsSplit w.holidays i (get_or w.holidays i 0)
split-at w r i low = record {
  most = omega arith;
  before = λ j h. r j i h low;
  after = high-less w.holidays r i (get_or w.holidays i 0) (omega arith);
}

pub rank-at : (w : WorkWeek) → Rises w.holidays → (i : ℕ) → i < length w.holidays
    → count_before (is_workday w) (get_or w.holidays i 0) + marked_count w i ≡ count_before (is_marked w.marks) (get_or w.holidays i 0)
rank-at w r i low = ranks w r i (get_or w.holidays i 0) (split-at w r i low)

-- a step over a holiday: its rank, and the marked holidays up to it
pub step : (w : WorkWeek) (marks : List Bool) → Rises w.holidays → marks ≡ w.marks → (i day n : ℕ) (b : Bool) → i < length w.holidays → day ≡ get_or w.holidays i 0
    → n ≡ count_before (is_marked marks) day → b ≡ is_marked marks day
    → (count_before (is_workday w) (get_or w.holidays i 0) + marked_count w i ≡ n) × (marked_count w (i + 1) ≡ marked_count w i + from_bool b)
step w marks r same i day n b low at count mark = (
  rank-at w r i low ∙ ap (count_before (is_marked w.marks)) (sym at) ∙ ap (λ m. count_before (is_marked m) day) (sym same) ∙ sym count,
  held-next w i b _ low (mark ∙ ap (λ m. is_marked m day) same ∙ ap (is_marked w.marks) at) refl,
)

-- the halves of a search for a rank
pub passed-more : (w : WorkWeek) → Rises w.holidays → (m : ℕ) (rank : ℤ) → m < length w.holidays → pos (count_before (is_workday w) (get_or w.holidays m 0)) ≤ℤ rank
    → (j : ℕ) → j < m + 1 → pos (count_before (is_workday w) (get_or w.holidays j 0)) ≤ℤ rank
passed-more w r m rank low h j less =
    omega (arith, ints, count-rises (is_workday w) (get_or w.holidays j 0) (get_or w.holidays m 0) (high-less w.holidays r j _ (omega arith) m (omega arith) low))

pub left-less : (w : WorkWeek) → Rises w.holidays → (m : ℕ) (rank : ℤ) → rank <ℤ pos (count_before (is_workday w) (get_or w.holidays m 0))
    → (j : ℕ) → m ≤ j → j < length w.holidays → rank <ℤ pos (count_before (is_workday w) (get_or w.holidays j 0))
left-less w r m rank h j most high =
    omega (arith, ints, count-rises (is_workday w) (get_or w.holidays m 0) (get_or w.holidays j 0) (high-less w.holidays r m _ (omega arith) j most high))

-- the marked holidays before an index never fall
marked-step : (w : WorkWeek) (i : ℕ) → i < length w.holidays → marked_count w i ≤ marked_count w (i + 1)
marked-step w i low =
    elim (cases_Bool (is_marked w.marks (get_or w.holidays i 0))) as (λ _. marked_count w i ≤ marked_count w (i + 1)) [
      | inl hit ↦ omega (arith, count_by_more_yes (is_marked w.marks) w.holidays i 0 low hit)
      | inr miss ↦ omega (arith, count_by_more_no (is_marked w.marks) w.holidays i 0 low miss)
    ]

marked-rises : (w : WorkWeek) (i j : ℕ) → i ≤ j → j ≤ length w.holidays → marked_count w i ≤ marked_count w j
marked-rises w i zero h most = let e : i ≡ 0 = omega arith in omega (arith, ap (marked_count w) e)
marked-rises w i (suc j) h most =
    let one : j + 1 ≡ suc j = omega arith in
    elim (cases_lt i (suc j)) as (λ _. marked_count w i ≤ marked_count w (suc j)) [
      | inl less ↦ omega (arith, marked-rises w i j (omega arith) (omega arith), marked-step w j (omega arith), ap (marked_count w) one)
      | inr same ↦ let e : i ≡ suc j = omega arith in omega (arith, ap (marked_count w) e)
    ]

-- the holidays before a day, if the first k are
split-from : (days : List ℕ) → Rises days → (n k left : ℕ) → k + left ≡ length days → ((j : ℕ) → j < k → get_or days j 0 < n) → (i : ℕ) × (k ≤ i) × IsSplit days i n
split-from days r n k zero e h = (k, omega arith, record { most = omega arith; before = h; after = λ j most low. absurd (omega arith) })
split-from days r n k (suc left) e h =
    elim (cases_lt (get_or days k 0) n) as (λ _. (i : ℕ) × (k ≤ i) × IsSplit days i n) [
      | inl less ↦ let more = split-from days r n (k + 1) left (omega arith) (low-more days r k n (omega arith) less) in (more.0, omega (arith, more.1), more.2)
      | inr most ↦ (k, omega arith, record { most = omega arith; before = h; after = high-less days r k n most })
    ]

held-most : (w : WorkWeek) → Rises w.holidays → (k n : ℕ) → k ≤ length w.holidays → ((j : ℕ) → j < k → get_or w.holidays j 0 < n)
    → count_before (is_workday w) n + marked_count w k ≤ count_before (is_marked w.marks) n
held-most w r k n most h =
    let split = split-from w.holidays r n k (length w.holidays - k) (omega arith) h in
    omega (arith, ranks w r split.0 n split.2, marked-rises w k split.0 split.1 split.2.most)

-- The marked day with the marked holidays of the search and the rank before it is the working day.
below : (w : WorkWeek) → Rises w.holidays → (k : ℕ) (rank : ℤ) (x : ℕ) → HavePassed w rank k → is_marked w.marks x ≡ true
    → pos (count_before (is_marked w.marks) x) ≡ rank +ℤ pos (marked_count w k) → (j : ℕ) → j < k → get_or w.holidays j 0 < x
below w r k rank x p on e j less =
    let low : j < length w.holidays = omega (arith, p.most) in
    let here = rank-at w r j low in
    let counts = marked-rises w j k (omega arith) p.most in
    elim (cases_lt (get_or w.holidays j 0) x) as (λ _. get_or w.holidays j 0 < x) [
      | inl before ↦ before
      | inr most ↦ elim (cases_lt x (get_or w.holidays j 0)) as (λ _. get_or w.holidays j 0 < x) [
        | inl after ↦ absurd (omega (arith, ints, count-less (is_marked w.marks) x (get_or w.holidays j 0) on after, here, counts, e, p.before j less))
        | inr same ↦
            let is : x ≡ get_or w.holidays j 0 = omega arith in
            let more = count_by_more_yes (is_marked w.marks) w.holidays j 0 low (sym (ap (is_marked w.marks) is) ∙ on) in
            absurd (omega (arith, ints, ap (count_before (is_marked w.marks)) is, here, more, e, marked-rises w (j + 1) k (omega arith) p.most, p.before j less))
      ]
    ]

above : (w : WorkWeek) → Rises w.holidays → (k : ℕ) (rank : ℤ) (x : ℕ) → HavePassed w rank k → pos (count_before (is_marked w.marks) x) ≡ rank +ℤ pos (marked_count w k)
    → (j : ℕ) → k ≤ j → j < length w.holidays → x < get_or w.holidays j 0
above w r k rank x p e j most high =
    greater-rank (is_marked w.marks) x (get_or w.holidays j 0)
    (omega (arith, ints, rank-at w r j high, marked-rises w k j most (omega arith), e, p.after j most high))

pub ranked : (w : WorkWeek) (marks : List Bool) → Rises w.holidays → (rank n : ℤ) (r : Option ℕ) → marks ≡ w.marks → IsMarkedBefore w rank n
    → IsRanked (is_marked marks) n r → IsRanked (is_workday w) rank r
ranked w marks rise rank n r same p h = of r (subst (λ m. IsRanked (is_marked m) n r) same h)
  where
    of : (r : Option ℕ) → IsRanked (is_marked w.marks) n r → IsRanked (is_workday w) rank r
    of None (inl negative) = inl (omega (arith, ints, p.2))
    of None (inr past) =
        by_lt_z rank (pos (count_before (is_workday w) (last_day + 1)))
        (λ less. absurd (omega (arith, ints, past, p.2, held-most w rise p.0 (last_day + 1) p.1.most (λ j low. greater-rank (is_workday w) _ _ (omega (arith, ints, p.1.before j low))))))
        (λ most. inr most)
    of (Some x) h =
        let e : pos (count_before (is_marked w.marks) x) ≡ rank +ℤ pos (marked_count w p.0) = h.has_rank ∙ p.2 in
        let lower = below w rise p.0 rank x p.1 h.passes e in
        let higher = above w rise p.0 rank x p.1 e in
        let split : IsSplit w.holidays p.0 x = record { most = p.1.most; before = lower; after = λ j most high. omega (arith, higher j most high) } in
        record { date = h.date; passes = free w p.0 x h.passes lower higher; has_rank = omega (arith, ints, e, ranks w rise p.0 x split) }

-- the day of a rank in the list, or none
pub from-rank : (w : WorkWeek) (n k : ℕ) (rank : ℤ) (r : Option ℕ) → n ≤ last_day + 1 → rank ≡ pos (count_before (is_workday w) n + k)
    → IsRanked (is_workday w) rank r → (r ≡ slice_get (workdays_from w n) k) × IfSome r (λ day. (is_workday w day ≡ true) × (n ≤ day) × IsDate day)
from-rank w n k rank None low e (inl negative) = absurd (omega (arith, ints))
from-rank w n k rank None low e (inr past) =
    let all : n + (last_day + 1 - n) ≡ last_day + 1 = omega arith in
    (sym (none-nth_from (is_workday w) n (last_day + 1 - n) k (omega (arith, ints, ap (count_before (is_workday w)) all))), tt)
from-rank w n k rank (Some x) low e h =
    let not_before : n ≤ x = elim (cases_lt x n) as (λ _. n ≤ x) [
      | inl less ↦ absurd (omega (arith, ints, h.has_rank, count-less (is_workday w) x n h.passes less))
      | inr most ↦ most
    ] in (
      sym (nth-from (is_workday w) n (last_day + 1 - n) k x not_before (omega (arith, h.date)) h.passes (omega (arith, ints, h.has_rank))),
      (h.passes, not_before, h.date),
    )

pub back-rank : (w : WorkWeek) (n k : ℕ) (rank : ℤ) (r : Option ℕ) → n ≤ last_day + 1 → rank ≡ pos (count_before (is_workday w) n) -ℤ pos (k + 1)
    → IsRanked (is_workday w) rank r → (r ≡ slice_get (workdays_before w n) k) × IfSome r (λ day. (is_workday w day ≡ true) × (day < n) × IsDate day)
back-rank w n k rank None low e (inl negative) = (sym (none-nth_back (is_workday w) n k (omega (arith, ints))), tt)
back-rank w n k rank None low e (inr past) = absurd (omega (arith, ints, count-rises (is_workday w) n (last_day + 1) low))
back-rank w n k rank (Some x) low e h =
    let before : x < n = greater-rank (is_workday w) x n (omega (arith, ints, h.has_rank)) in
    (sym (nth-back (is_workday w) n k x before h.passes (omega (arith, ints, h.has_rank))), (h.passes, before, h.date))

-- the count
pub split-order : (w : WorkWeek) (start end from to : ℕ) → from ≤ to → IsSplit w.holidays start from → IsSplit w.holidays end to → start ≤ end
split-order w start end from to h s t =
    elim (cases_lt end start) as (λ _. start ≤ end) [
      | inl less ↦ absurd (omega (arith, s.before end less, t.after end (omega arith) (omega (arith, s.most))))
      | inr most ↦ most
    ]

pub count-within : (w : WorkWeek) (marks : List Bool) → Rises w.holidays → marks ≡ w.marks → (start end index from to held : ℕ) → from ≤ to → IsSplit w.holidays start from
    → IsSplit w.holidays end to → held + marked_count w start ≡ marked_count w index → index ≡ end
    → count_before (is_marked marks) to ≡ length (workdays_within w from to) + held + count_before (is_marked marks) from
count-within w marks r same start end index from to held h s t sum done =
    omega (arith, ap (λ m. count_before (is_marked m) from) same, ap (λ m. count_before (is_marked m) to) same, ap (marked_count w) done, ranks w r start from s, ranks w r end to t, length-within w from to h)

-- the calls on dates, which are their numbers
pub within-same : (w : WorkWeek) (a b m n : ℕ) → a ≡ m → b ≡ n → length (workdays_within w a b) ≡ length (workdays_within w m n)
within-same w a b m n e f = ap (λ k. length (workdays_within w k b)) e ∙ ap (λ k. length (workdays_within w m k)) f
