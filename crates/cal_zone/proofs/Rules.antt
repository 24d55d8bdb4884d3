-- The changes of a rule, by their indexes, and that they are in order.
use Rattle.std.specs.Prelude.{neg_ℤ, int_lt, ◌⊎◌, ◌↔◌, List, [], ◌++◌}
use Rattle.std.proofs.Common.{◌≡◌, ◌==◌, ℕ, zero, suc, ◌+◌, ◌-◌, ◌/◌, ◌%◌, ◌<◌, ◌≤◌, refl, sym, ap, ◌∙◌, subst, arith, ℤ, pos, ◌+ℤ◌, ◌-ℤ◌, ◌*ℤ◌, ◌≤ℤ◌, ◌<ℤ◌, inl, inr, Bool, true, false, map, filter, length, ◌∷◌}
use Rattle.std.proofs.lemmas.Bool.{cases_eq}
use Rattle.std.proofs.lemmas.Bool.Decides.{nat_tests}
use Rattle.std.proofs.lemmas.Int.{ints, clamps}
use Rattle.std.proofs.lemmas.List.FromFn.{get_or-map-range_with_len, length-map-range_with_len}
use Rattle.std.specs.List.{range_with_len, slice_index_or}
use Rattle.cal_time.specs.Date.{first_year, IsYear}
use Rattle.cal_time.specs.Month.{number}
use Rattle.cal_zone.specs.declared.change.Change.{Change}
use Rattle.cal_zone.specs.declared.yearly.Yearly.{Yearly}
use Rattle.cal_zone.specs.Rule.{moment, change_of, instant_at, day_of, rule_count, changes_from, epoch_day, IsYearly, IsCalm}
use Rattle.cal_zone.specs.ChangeError.{Follows}
use Rattle.cal_zone.specs.Timeline.{IsOrdered, at, after_changes, no_change, IsOffset, IsMoment, IsNext}
use Rattle.cal_zone.specs.Split.{IsSplit}
use Rattle.cal_zone.specs.Zone.{is_after, Joins}
use Rattle.cal_zone.proofs.Offsets.{after_changes-offset}
use Rattle.cal_zone.proofs.Orders.{rises}
use Rattle.cal_zone.proofs.Joins.{same_next, joined}
use Rattle.cal_zone.proofs.RuleDays.{rule_day, month_between, is_month, year_later}

-- ---- by parity
at_even : (one other : Yearly) (k : ℕ) → k % 2 ≡ 0 → ((change_of one other k).at ≡ moment one other.kind.offset (first_year +ℤ pos (k / 2))) × ((change_of one other k).kind.offset ≡ one.kind.offset)
at_even one other k even = let test : (k % 2 == 0) ≡ true = grind (arith, nat_tests) in rw test (refl, refl)

at_odd : (one other : Yearly) (k : ℕ) → k % 2 ≡ 1 → ((change_of one other k).at ≡ moment other one.kind.offset (first_year +ℤ pos (k / 2))) × ((change_of one other k).kind.offset ≡ other.kind.offset)
at_odd one other k odd = let test : (k % 2 == 0) ≡ false = grind (arith, nat_tests) in rw test (refl, refl)

pub time_even : (one other : Yearly) (k : ℕ) (a b y : ℤ) → a ≡ moment one b y → k % 2 ≡ 0 → b ≡ other.kind.offset → y ≡ first_year +ℤ pos (k / 2) → a ≡ instant_at one other k
time_even one other k a b y value even b_is y_is = value ∙ ap (λ z. moment one z y) b_is ∙ ap (moment one other.kind.offset) y_is ∙ sym (at_even one other k even).0

pub time_odd : (one other : Yearly) (k : ℕ) (a b y : ℤ) → a ≡ moment other b y → k % 2 ≡ 1 → b ≡ one.kind.offset → y ≡ first_year +ℤ pos (k / 2) → a ≡ instant_at one other k
time_odd one other k a b y value odd b_is y_is = value ∙ ap (λ z. moment other z y) b_is ∙ ap (moment other one.kind.offset) y_is ∙ sym (at_odd one other k odd).0

-- ---- one change and the next: days whose months are two apart
year_in : (k : ℕ) → k < 3_999_998 → IsYear (first_year +ℤ pos (k / 2))
year_in k h = (omega (arith, ints), omega (arith, ints))

-- two days in between
gap_in_year : (one other : Yearly) (y : ℤ) → IsCalm one other → IsYear y → day_of one y + 29 ≤ day_of other y
gap_in_year one other y calm year =
    let a = rule_day one y year calm.first in
    let b = rule_day other y year calm.second in
    let m = is_month other in
    month_between (day_of one y) (day_of other y) y (number one.month + 1) year (omega arith, (let h = calm.apart in let h2 = m.1 in omega arith))
    (omega (arith, ints, a.month)) (omega (arith, ints, b.month, calm.apart))

gap_over_year : (one other : Yearly) (y : ℤ) → IsCalm one other → IsYear y → IsYear (y +ℤ pos 1) → day_of other y + 29 ≤ day_of one (y +ℤ pos 1)
gap_over_year one other y calm year next =
    let a = rule_day other y year calm.second in
    let b = rule_day one (y +ℤ pos 1) next calm.first in
    let m = is_month other in
    elim (cases_eq (number other.month) 12) as (λ _. day_of other y + 29 ≤ day_of one (y +ℤ pos 1)) [
      | inl last ↦
          month_between (day_of other y) (day_of one (y +ℤ pos 1)) (y +ℤ pos 1) 1 next (omega arith, omega arith)
          (omega (arith, ints, a.month, last)) (omega (arith, ints, b.month, last, calm.again))
      | inr before ↦
          month_between (day_of other y) (day_of one (y +ℤ pos 1)) y (number other.month + 1) year (omega arith, (let h = m.1 in omega arith))
          (omega (arith, ints, a.month)) (omega (arith, ints, b.month, calm.again))
    ]

-- ---- in order
abbrev IsTime : ℤ → Type 0
IsTime t = (neg_ℤ (pos 604_800) ≤ℤ t) × (t ≤ℤ pos 604_800)

-- the instant of a change at time t of day d, by a clock that is b ahead of UTC
abbrev instant_of : ℕ → ℤ → ℤ → ℤ
instant_of d t b = ((pos d -ℤ epoch_day) *ℤ pos 86_400 +ℤ t) -ℤ b

-- Instants that are so far apart have no gaps or folds that overlap.
far : (p q x y z : ℤ) → (p +ℤ pos 200_000) ≤ℤ q → IsOffset x → IsOffset y → IsOffset z → IsNext p q x y z
far p q x y z h e f g = record { rising = omega (arith, ints, h); apart = omega (arith, ints, clamps, h, e.0, e.1, f.0, f.1, g.0, g.1) }

days_far : (d e : ℕ) (t u b c : ℤ) → d + 29 ≤ e → IsTime t → IsTime u → IsOffset b → IsOffset c → (instant_of d t b +ℤ pos 200_000) ≤ℤ instant_of e u c
days_far d e t u b c h k l f g = omega (arith, ints, h, k.0, k.1, l.0, l.1, f.0, f.1, g.0, g.1)

same_far : (p p' q q' : ℤ) → p ≡ p' → q ≡ q' → (p' +ℤ pos 200_000) ≤ℤ q' → (p +ℤ pos 200_000) ≤ℤ q
same_far p p' q q' e f is = subst (λ (x : ℤ). (x +ℤ pos 200_000) ≤ℤ q) (sym e) (subst (λ (x : ℤ). (p' +ℤ pos 200_000) ≤ℤ x) (sym f) is)

-- So are one change and the next.
next_far : (one other : Yearly) (j : ℕ) → IsCalm one other → suc j < 3_999_998 → (instant_at one other j +ℤ pos 200_000) ≤ℤ instant_at one other (suc j)
next_far one other j calm h =
    elim (cases_eq (j % 2) 0) as (λ _. (instant_at one other j +ℤ pos 200_000) ≤ℤ instant_at one other (suc j)) [
      | inl even ↦
          let y = first_year +ℤ pos (j / 2) in
          let p = at_even one other j even in
          let q = at_odd one other (suc j) (omega arith) in
          let years : first_year +ℤ pos (suc j / 2) ≡ y = omega (arith, ints) in
          same_far _ _ _ _ p.0 (q.0 ∙ ap (moment other one.kind.offset) years)
          (days_far (day_of one y) (day_of other y) one.time other.time other.kind.offset one.kind.offset (gap_in_year one other y calm (year_in j (omega arith)))
          calm.first.time calm.second.time calm.second.offset calm.first.offset)
      | inr odd ↦
          let y = first_year +ℤ pos (j / 2) in
          let p = at_odd one other j (omega arith) in
          let q = at_even one other (suc j) (omega arith) in
          let years : first_year +ℤ pos (suc j / 2) ≡ y +ℤ pos 1 = omega (arith, ints) in
          let next : IsYear (y +ℤ pos 1) = subst IsYear years (year_in (suc j) h) in
          same_far _ _ _ _ p.0 (q.0 ∙ ap (moment one other.kind.offset) years)
          (days_far (day_of other y) (day_of one (y +ℤ pos 1)) other.time one.time one.kind.offset other.kind.offset (gap_over_year one other y calm (year_in j (omega arith)) next)
          calm.second.time calm.first.time calm.first.offset calm.second.offset)
    ]

-- Each change is at least 335 days later in the next year.
later : (d e : ℕ) (t b : ℤ) → d + 335 ≤ e → (instant_of d t b +ℤ pos 28_944_000) ≤ℤ instant_of e t b
later d e t b h = omega (arith, ints, h)

pub year_far : (one other : Yearly) (j : ℕ) → IsCalm one other → j + 2 < 3_999_998 → (instant_at one other j +ℤ pos 28_944_000) ≤ℤ instant_at one other (j + 2)
year_far one other j calm h =
    let y = first_year +ℤ pos (j / 2) in
    let years : first_year +ℤ pos ((j + 2) / 2) ≡ y +ℤ pos 1 = omega (arith, ints) in
    let year = year_in j (omega arith) in
    let next : IsYear (y +ℤ pos 1) = subst IsYear years (year_in (j + 2) h) in
    elim (cases_eq (j % 2) 0) as (λ _. (instant_at one other j +ℤ pos 28_944_000) ≤ℤ instant_at one other (j + 2)) [
      | inl even ↦
          let e = (at_even one other j even).0 in
          let f = (at_even one other (j + 2) (omega arith)).0 ∙ ap (moment one other.kind.offset) years in
          rw (e, f) (later (day_of one y) _ one.time other.kind.offset (year_later one y year next calm.first))
      | inr odd ↦
          let e = (at_odd one other j (omega arith)).0 in
          let f = (at_odd one other (j + 2) (omega arith)).0 ∙ ap (moment other one.kind.offset) years in
          rw (e, f) (later (day_of other y) _ other.time one.kind.offset (year_later other y year next calm.second))
    ]

-- each by itself
moment_in : (r : Yearly) (b y : ℤ) → IsYear y → IsYearly r → IsOffset b → IsMoment (moment r b y)
moment_in r b y year h f =
    let day = (rule_day r y year h).date in
    (omega (arith, ints, h.time.0, h.time.1, f.0, f.1, day), omega (arith, ints, h.time.0, h.time.1, f.0, f.1, day))

pub change_in : (one other : Yearly) (j : ℕ) → IsCalm one other → j < 3_999_998 → IsMoment (change_of one other j).at × IsOffset (change_of one other j).kind.offset
change_in one other j calm h =
    elim (cases_eq (j % 2) 0) as (λ _. IsMoment (change_of one other j).at × IsOffset (change_of one other j).kind.offset) [
      | inl even ↦
          let p = at_even one other j even in
          (subst IsMoment (sym p.0) (moment_in one other.kind.offset _ (year_in j h) calm.first calm.second.offset), subst IsOffset (sym p.1) calm.first.offset)
      | inr odd ↦
          let p = at_odd one other j (omega arith) in
          (subst IsMoment (sym p.0) (moment_in other one.kind.offset _ (year_in j h) calm.second calm.first.offset), subst IsOffset (sym p.1) calm.second.offset)
    ]

pub rule_count-is : rule_count ≡ 3_999_998
unfolding rule_count
rule_count-is = refl

weak : (a b : ℤ) → (a +ℤ pos 200_000) ≤ℤ b → a ≤ℤ b
weak a b h = omega (arith, ints)

-- the instants rise
pub rule_rises : (one other : Yearly) → IsCalm one other → (j k : ℕ) → j ≤ k → k < rule_count → instant_at one other j ≤ℤ instant_at one other k
rule_rises one other calm = rises (instant_at one other) rule_count
    (λ k h. weak (instant_at one other k) (instant_at one other (suc k)) (next_far one other k calm (let e = rule_count-is in omega arith)))

-- ---- the changes from one on are in order
pub item : (one other : Yearly) (a k : ℕ) → k < rule_count - a → slice_index_or (changes_from one other a) k no_change ≡ change_of one other (a + k)
unfolding changes_from
item one other a k h = get_or-map-range_with_len (change_of one other) a (rule_count - a) k (a + k) no_change h refl

pub size : (one other : Yearly) (a : ℕ) → length (changes_from one other a) ≡ rule_count - a
unfolding changes_from
size one other a = length-map-range_with_len (change_of one other) a (rule_count - a)

pub rule_ordered : (one other : Yearly) (a : ℕ) (o : ℤ) → IsCalm one other → IsOffset o → IsOrdered o (changes_from one other a)
rule_ordered one other a o calm first = record {
  offset = first;
  offsets = offsets;
  moments = λ k h. subst (λ (c : Change). IsMoment c.at) (sym (item one other a k (within k h))) (change_in one other (a + k) calm (inside k h)).0;
  rising = λ k h. (next k h).rising;
  apart = λ k h. (next k h).apart;
}
  where
    within : (k : ℕ) → k < length (changes_from one other a) → k < rule_count - a
    within k h = let s = size one other a in omega arith

    inside : (k : ℕ) → k < length (changes_from one other a) → a + k < 3_999_998
    inside k h = let s = size one other a in let e = rule_count-is in omega arith

    offsets : (k : ℕ) → k < length (changes_from one other a) → IsOffset (slice_index_or (changes_from one other a) k no_change).kind.offset
    offsets k h = subst (λ (c : Change). IsOffset c.kind.offset) (sym (item one other a k (within k h))) (change_in one other (a + k) calm (inside k h)).1

    next : (k : ℕ) → suc k < length (changes_from one other a) → Follows o (changes_from one other a) k
    next k h =
        let cs = changes_from one other a in
        let e : a + suc k ≡ suc (a + k) = omega arith in
        let n = next_far one other (a + k) calm (let i = inside (suc k) h in omega arith) in
        far (at cs k) (at cs (suc k)) _ _ _
        (same_far (at cs k) (instant_at one other (a + k)) (at cs (suc k)) (instant_at one other (suc (a + k)))
        (ap (λ (c : Change). c.at) (item one other a k (within k (omega arith))))
        (ap (λ (c : Change). c.at) (item one other a (suc k) (within (suc k) h)) ∙ ap (instant_at one other) e) n)
        (after_changes-offset o cs k first offsets) (after_changes-offset o cs (suc k) first offsets) (after_changes-offset o cs (suc (suc k)) first offsets)

-- an index of a rule's change past the table
pub record IsIndex (a k : ℕ) : Type 0 where
  pub within : k < rule_count - a
  pub inside : a + k < 3_999_998

pub index_in : (one other : Yearly) (a k : ℕ) → k < length (changes_from one other a) → IsIndex a k
index_in one other a k h = let s = size one other a in let e = rule_count-is in record { within = omega arith; inside = omega arith }

-- ---- the changes that pass a test: all, where all do, and those from one on, where those before it do not
filter_all : (p : Change → Bool) (f : ℕ → Change) (a n : ℕ) → ((k : ℕ) → a ≤ k → k < a + n → p (f k) ≡ true) → filter p (map f (range_with_len a n)) ≡ map f (range_with_len a n)
filter_all p f a zero h = refl
filter_all p f a (suc n) h =
    rw (h a (omega arith) (omega arith)) (ap (λ cs. f a ∷ cs) (filter_all p f (a + 1) n (λ k low high. h k (omega arith) (omega arith))))

filter_from : (p : Change → Bool) (f : ℕ → Change) (a s n : ℕ) → ((k : ℕ) → a ≤ k → k < a + s → p (f k) ≡ false)
    → ((k : ℕ) → a + s ≤ k → k < a + s + n → p (f k) ≡ true)
    → filter p (map f (range_with_len a (s + n))) ≡ map f (range_with_len (a + s) n)
filter_from p f a zero n none all =
    let e : zero + n ≡ n = omega arith in
    let g : a + zero ≡ a = omega arith in
    ap (λ k. filter p (map f (range_with_len a k))) e ∙ filter_all p f a n (λ k low high. all k (omega arith) (omega arith)) ∙ ap (λ b. map f (range_with_len b n)) (sym g)
filter_from p f a (suc s) n none all =
    let e : suc s + n ≡ suc (s + n) = omega arith in
    let g : a + 1 + s ≡ a + suc s = omega arith in
    ap (λ k. filter p (map f (range_with_len a k))) e
    ∙ rw (none a (omega arith) (omega arith)) (filter_from p f (a + 1) s n (λ k low high. none k (omega arith) (omega arith)) (λ k low high. all k (omega arith) (omega arith)))
    ∙ ap (λ b. map f (range_with_len b n)) g

pub rest_from : (p : Change → Bool) (one other : Yearly) (s : ℕ) → s ≤ rule_count → ((k : ℕ) → k < s → p (change_of one other k) ≡ false)
    → ((k : ℕ) → s ≤ k → k < rule_count → p (change_of one other k) ≡ true)
    → filter p (changes_from one other 0) ≡ changes_from one other s
unfolding changes_from
rest_from p one other s h none all =
    let e : rule_count - 0 ≡ s + (rule_count - s) = omega arith in
    let g : 0 + s ≡ s = omega arith in
    ap (λ n. filter p (map (change_of one other) (range_with_len 0 n))) e
    ∙ filter_from p (change_of one other) 0 s (rule_count - s) (λ k low high. none k (omega arith)) (λ k low high. all k (omega arith) (omega arith))
    ∙ ap (λ b. map (change_of one other) (range_with_len b (rule_count - s))) g

-- the test of the changes after a table, by its last one
after_last : (xs : List Change) (c : Change) → 0 < length xs → is_after xs c ≡ int_lt (at xs (length xs - 1)) c.at
after_last [] c h = absurd (omega arith)
after_last (x ∷ xs) c h = refl

after_none : (xs : List Change) (c : Change) → length xs ≡ 0 → is_after xs c ≡ true
after_none [] c h = refl
after_none (x ∷ xs) c h = absurd (omega arith)

is_later : (a b : ℤ) → a <ℤ b → int_lt a b ≡ true
is_later a b h = grind (arith, ints)

not_later : (a b : ℤ) → b ≤ℤ a → int_lt a b ≡ false
not_later a b h = grind (arith, ints)

pub rest_after : (one other : Yearly) (xs : List Change) (s : ℕ) (z : ℤ) → IsSplit (instant_at one other) rule_count z s s → 0 < length xs → z ≡ at xs (length xs - 1)
    → filter (is_after xs) (changes_from one other 0) ≡ changes_from one other s
rest_after one other xs s z split some e =
    rest_from (is_after xs) one other s split.inside
    (λ k h. after_last xs (change_of one other k) some ∙ ap (λ a. int_lt a (instant_at one other k)) (sym e) ∙ not_later z (instant_at one other k) (split.below k h))
    (λ k low high. after_last xs (change_of one other k) some ∙ ap (λ a. int_lt a (instant_at one other k)) (sym e) ∙ is_later z (instant_at one other k) (split.above k low high))

pub rest_none : (one other : Yearly) (xs : List Change) → length xs ≡ 0 → filter (is_after xs) (changes_from one other 0) ≡ changes_from one other 0
rest_none one other xs none = rest_from (is_after xs) one other 0 (omega arith) (λ k h. absurd (omega arith)) (λ k low high. after_none xs (change_of one other k) none)

-- what a test of numbers says of the last change of a table and the next one of a rule
pub joins-next : (one other : Yearly) (first : ℤ) (xs : List Change) (s : ℕ) (a b x y z : ℤ) → 0 < length xs → s < rule_count
    → a ≡ at xs (length xs - 1) → b ≡ (change_of one other s).at → x ≡ after_changes first xs (length xs - 1) → y ≡ (slice_index_or xs (length xs - 1) no_change).kind.offset
    → z ≡ (change_of one other s).kind.offset → IsNext a b x y z ↔ Joins first xs (changes_from one other s)
joins-next one other first xs s a b x y z some below a_is b_is x_is y_is z_is =
    let e : s + 0 ≡ s = omega arith in
    let i : slice_index_or (changes_from one other s) 0 no_change ≡ change_of one other s = item one other s 0 (omega arith) ∙ ap (change_of one other) e in (
      (λ is _ _. same_next _ a _ b _ x _ y _ z (sym a_is) (ap (λ (c : Change). c.at) i ∙ sym b_is) (sym x_is) (sym y_is) (ap (λ (c : Change). c.kind.offset) i ∙ sym z_is) is),
      (λ joins. same_next a _ b _ x _ y _ z _ a_is (b_is ∙ ap (λ (c : Change). c.at) (sym i)) x_is y_is (z_is ∙ ap (λ (c : Change). c.kind.offset) (sym i))
          (joins some (let n = size one other s in omega arith))),
    )

pub joins-none : (one other : Yearly) (first : ℤ) (xs : List Change) (s : ℕ) → (length xs ≡ 0) ⊎ (s ≡ rule_count) → Joins first xs (changes_from one other s)
joins-none one other first xs s h some more =
    elim h [ inl none ↦ absurd (omega arith) | inr past ↦ absurd (let n = size one other s in omega arith) ]

-- So all are in order.
pub whole : (one other : Yearly) (first : ℤ) (xs : List Change) (s : ℕ) → IsCalm one other → IsOrdered first xs
    → Joins first xs (changes_from one other s) → IsOrdered first (xs ++ changes_from one other s)
whole one other first xs s calm order joins =
    joined first xs (changes_from one other s) order
    (rule_ordered one other s (after_changes first xs (length xs)) calm (after_changes-offset first xs (length xs) order.offset order.offsets)) joins
