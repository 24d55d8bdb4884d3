-- The days of an iterator, and the days that are left.
use Rattle.std.proofs.Common.{◌≡◌, ℕ, zero, suc, ◌+◌, ◌-◌, ◌<◌, ◌≤◌, refl, sym, ap, ◌∙◌, arith, [], ◌∷◌, ◌++◌, length, get_or, take, drop, reverse, slice_get, Some, None, inl, inr, false, is_lt}
use Rattle.std.specs.Prelude.{Option, option_map, IfSome, IsSomeAnd}
use Rattle.std.proofs.Math.ListN.{drop_of_length-le}
use Rattle.std.specs.List.Sorted.{IsSorted}
use Rattle.std.specs.Ordering.{nat_cmp}
use Rattle.std.proofs.lemmas.Bool.{cases_lt}
use Rattle.std.proofs.lemmas.Bool.Decides.{nat_tests}
use Rattle.std.proofs.lemmas.List.{get_or-reverse, length-reverse}
use Rattle.std.proofs.lemmas.Option.{slice_get-get_or}
use Rattle.cal_date.specs.Date.{year_at, ordinal_at, IsDate, HasOrdinalDate}
use Rattle.cal_date.specs.Occurrences.{days_from}
use Rattle.cal_date.proofs.Dates.{stands}
use Rattle.cal_date.proofs.Neighbours.{same_year, as_far}
use Rattle.cal_date.proofs.Occurrences.{days_from-none, days_from-suc}
use Rattle.cal_date.specs.DateIter.{IsInOneYear, Walk, walk, IsWalk, days_between, days_of, without_first, without_last}
use Rattle.std.proofs.lemmas.Int.{ints}

pub length-days_from : (n k : ℕ) → length (days_from n k) ≡ k
length-days_from n zero = ap length (days_from-none n)
length-days_from n (suc k) = ap length (days_from-suc n k) ∙ ap suc (length-days_from (n + 1) k)

get_or-days_from : (n k i d : ℕ) → i < k → get_or (days_from n k) i d ≡ n + i
get_or-days_from n zero i d h = absurd (omega arith)
get_or-days_from n (suc k) zero d h = rw (days_from-suc n k) (omega arith)
get_or-days_from n (suc k) (suc i) d h = rw (days_from-suc n k) (get_or-days_from (n + 1) k i d (omega arith) ∙ omega arith)

drop-days_from : (i n k : ℕ) → i ≤ k → drop i (days_from n k) ≡ days_from (n + i) (k - i)
drop-days_from zero n k h =
    let start : n ≡ n + 0 = omega arith in
    let count : k ≡ k - 0 = omega arith in
    ap (λ m. days_from m k) start ∙ ap (days_from (n + 0)) count
drop-days_from (suc i) n zero h = absurd (omega arith)
drop-days_from (suc i) n (suc k) h =
    let start : n + 1 + i ≡ n + suc i = omega arith in
    let count : k - i ≡ suc k - suc i = omega arith in
    ap (drop (suc i)) (days_from-suc n k) ∙ drop-days_from i (n + 1) k (omega arith) ∙ ap (λ m. days_from m (k - i)) start ∙ ap (days_from (n + suc i)) count

take-days_from : (i n k : ℕ) → i ≤ k → take i (days_from n k) ≡ days_from n i
take-days_from zero n k h = sym (days_from-none n)
take-days_from (suc i) n zero h = absurd (omega arith)
take-days_from (suc i) n (suc k) h =
    ap (take (suc i)) (days_from-suc n k) ∙ ap (λ l. n ∷ l) (take-days_from i (n + 1) k (omega arith)) ∙ sym (days_from-suc n i)

-- One more day at the end.
days_from-last : (n k : ℕ) → days_from n (k + 1) ≡ days_from n k ++ (n + k) ∷ []
days_from-last n zero =
    let e : n ≡ n + 0 = omega arith in
    days_from-suc n 0 ∙ ap (λ l. n ∷ l) (days_from-none (n + 1)) ∙ ap (λ m. m ∷ []) e ∙ ap (λ l. l ++ (n + 0) ∷ []) (sym (days_from-none n))
days_from-last n (suc k) =
    let count : suc k + 1 ≡ suc (k + 1) = omega arith in
    let e : n + 1 + k ≡ n + suc k = omega arith in
    ap (days_from n) count ∙ days_from-suc n (k + 1) ∙ ap (λ l. n ∷ l) (days_from-last (n + 1) k) ∙ ap (λ m. n ∷ (days_from (n + 1) k ++ m ∷ [])) e
    ∙ ap (λ l. l ++ (n + suc k) ∷ []) (sym (days_from-suc n k))

slice_get-days_from : (n k i : ℕ) → i < k → slice_get (days_from n k) i ≡ Some (n + i)
slice_get-days_from n k i h =
    slice_get-get_or (days_from n k) i 0 (omega (arith, length-days_from n k)) ∙ ap Some (get_or-days_from n k i 0 h)

slice_get-days_from_back : (n k i : ℕ) → i < k → slice_get (reverse (days_from n k)) i ≡ Some (n + (k - 1 - i))
slice_get-days_from_back n k i h =
    let len = length-days_from n k in
    let within : i < length (days_from n k) = omega (arith, len) in
    slice_get-get_or (reverse (days_from n k)) i 0 (omega (arith, len, length-reverse (days_from n k)))
    ∙ ap Some (get_or-reverse (days_from n k) i 0 within ∙ ap (λ m. get_or (days_from n k) (m - 1 - i) 0) len ∙ get_or-days_from n k (k - 1 - i) 0 (omega arith))

-- The days of an iterator with a back day.
days_of-back : (w : Walk) (b : ℕ) → w.back ≡ Some b → days_of w ≡ days_from w.front (b + 1 - w.front)
days_of-back w b e = rw e refl

pub length-days_of : (w : Walk) (b : ℕ) → w.back ≡ Some b → length (days_of w) ≡ b + 1 - w.front
length-days_of w b e = ap length (days_of-back w b e) ∙ length-days_from w.front (b + 1 - w.front)

-- The day at an index, from the front and from the back.
pub slice_get-days_of : (w : Walk) (b n : ℕ) → w.back ≡ Some b → w.front + n ≤ b → slice_get (days_of w) n ≡ Some (w.front + n)
slice_get-days_of w b n e h = ap (λ l. slice_get l n) (days_of-back w b e) ∙ slice_get-days_from w.front (b + 1 - w.front) n (omega arith)

pub slice_get-days_of_back : (w : Walk) (b n : ℕ) → w.back ≡ Some b → w.front + n ≤ b → slice_get (reverse (days_of w)) n ≡ Some (b - n)
slice_get-days_of_back w b n e h =
    ap (λ l. slice_get (reverse l) n) (days_of-back w b e) ∙ slice_get-days_from_back w.front (b + 1 - w.front) n (omega arith) ∙ ap Some (omega arith)

-- An iterator without its first days: the front day moves, or the back day goes away.
pub without_first-some : (k : ℕ) (w : Walk) → k < length (days_of w) → without_first k w ≡ walk (w.front + k) w.back
without_first-some k w h = grind (arith, nat_tests)

pub without_first-none : (k : ℕ) (w : Walk) → length (days_of w) ≤ k → without_first k w ≡ walk w.front None
without_first-none k w h = grind (arith, nat_tests)

without_last-map : (k : ℕ) (w : Walk) → k < length (days_of w) → without_last k w ≡ walk w.front (option_map (λ b. b - k) w.back)
without_last-map k w h = grind (arith, nat_tests)

pub without_last-some : (k : ℕ) (w : Walk) (b : ℕ) → w.back ≡ Some b → k < length (days_of w) → without_last k w ≡ walk w.front (Some (b - k))
without_last-some k w b e h = without_last-map k w h ∙ ap (λ back. walk w.front (option_map (λ day. day - k) back)) e

pub without_last-none : (k : ℕ) (w : Walk) → length (days_of w) ≤ k → without_last k w ≡ walk w.front None
without_last-none k w h = grind (arith, nat_tests)

-- The days that are left are the days without the first k, or without the last k.
drop-days_between : (k front : ℕ) (back : Option ℕ) → k < length (days_between front back) → days_between (front + k) back ≡ drop k (days_between front back)
drop-days_between k front None h = absurd (omega arith)
drop-days_between k front (Some b) h =
    let within : k ≤ b + 1 - front = omega (arith, length-days_from front (b + 1 - front)) in
    ap (days_from (front + k)) (omega arith) ∙ sym (drop-days_from k front (b + 1 - front) within)

pub days_of-without_first : (k : ℕ) (w : Walk) → days_of (without_first k w) ≡ drop k (days_of w)
days_of-without_first k w =
    elim (cases_lt k (length (days_of w))) [
      | inl within ↦ ap days_of (without_first-some k w within) ∙ drop-days_between k w.front w.back within
      | inr past ↦ ap days_of (without_first-none k w past) ∙ sym (drop_of_length-le (days_of w) past)
    ]

take-days_between : (k front : ℕ) (back : Option ℕ) → k < length (days_between front back)
    → days_between front (option_map (λ b. b - k) back) ≡ take (length (days_between front back) - k) (days_between front back)
take-days_between k front None h = absurd (omega arith)
take-days_between k front (Some b) h =
    let len = length-days_from front (b + 1 - front) in
    let count : b - k + 1 - front ≡ length (days_from front (b + 1 - front)) - k = omega (arith, len) in
    ap (days_from front) count ∙ sym (take-days_from (length (days_from front (b + 1 - front)) - k) front (b + 1 - front) (omega (arith, len)))

pub days_of-without_last : (k : ℕ) (w : Walk) → days_of (without_last k w) ≡ take (length (days_of w) - k) (days_of w)
days_of-without_last k w =
    elim (cases_lt k (length (days_of w))) [
      | inl within ↦ ap days_of (without_last-map k w within) ∙ take-days_between k w.front w.back within
      | inr past ↦
          let none : 0 ≡ length (days_of w) - k = omega arith in
          ap days_of (without_last-none k w past) ∙ ap (λ n. take n (days_of w)) none
    ]

-- The first day and the other days, the last day and the other days.
pub days_of-first : (w : Walk) (b : ℕ) → w.back ≡ Some b → w.front ≤ b → days_of w ≡ w.front ∷ days_of (without_first 1 w)
days_of-first w b e h =
    let all : days_of w ≡ w.front ∷ days_from (w.front + 1) (b - w.front) =
    days_of-back w b e ∙ ap (days_from w.front) (omega arith) ∙ days_from-suc w.front (b - w.front) in
    all ∙ ap (λ l. w.front ∷ l) (sym (days_of-without_first 1 w ∙ ap (drop 1) all))

pub days_of-last : (w : Walk) (b : ℕ) → w.back ≡ Some b → w.front ≤ b → days_of w ≡ days_of (without_last 1 w) ++ b ∷ []
days_of-last w b e h =
    let end : w.front + (b - w.front) ≡ b = omega arith in
    let all : days_of w ≡ days_from w.front (b - w.front) ++ b ∷ [] =
    days_of-back w b e ∙ ap (days_from w.front) (omega arith) ∙ days_from-last w.front (b - w.front) ∙ ap (λ m. days_from w.front (b - w.front) ++ m ∷ []) end in
    let count : length (days_of w) - 1 ≡ b - w.front = omega (arith, length-days_of w b e) in
    let others : days_of (without_last 1 w) ≡ days_from w.front (b - w.front) =
    days_of-without_last 1 w ∙ ap (λ n. take n (days_of w)) count ∙ ap (take (b - w.front)) (days_of-back w b e)
    ∙ take-days_from (b - w.front) w.front (b + 1 - w.front) (omega arith) in
    all ∙ ap (λ l. l ++ b ∷ []) (sym others)

-- The days ascend.
is_lt-later : (x y : ℕ) → x ≤ y → is_lt (nat_cmp y x) ≡ false
is_lt-later x y h = grind (arith, nat_tests)

days_from-sorted : (n k : ℕ) → IsSorted nat_cmp (days_from n k)
days_from-sorted n k i d low h =
    let len = length-days_from n k in
    rw (get_or-days_from n k (i + 1) d (omega (arith, len)), get_or-days_from n k i d (omega (arith, len))) (is_lt-later (n + i) (n + (i + 1)) (omega arith))

days_between-sorted : (front : ℕ) (back : Option ℕ) → IsSorted nat_cmp (days_between front back)
days_between-sorted front None i d low h = absurd (omega arith)
days_between-sorted front (Some b) i d low h = days_from-sorted front (b + 1 - front) i d low h

pub days_of-sorted : (w : Walk) → IsSorted nat_cmp (days_of w)
days_of-sorted w = days_between-sorted w.front w.back

-- The front day and the back day.
pub record HasEnds (front back : ℕ) : Type 0 where
  pub in_order : front ≤ back
  pub in_range : IsDate back

pub ends : (w : Walk) (b : ℕ) → IsWalk w → w.back ≡ Some b → HasEnds w.front b
ends w b h e = let both = rw e at h in record { in_order = both.0; in_range = both.1 }

-- The first day and the last day, if there are any.
last_between : (front : ℕ) (back : Option ℕ) → IfSome back (λ b. (front ≤ b) × IsDate b) → back ≡ slice_get (reverse (days_between front back)) 0
last_between front None h = refl
last_between front (Some b) h = sym (slice_get-days_from_back front (b + 1 - front) 0 (omega arith) ∙ ap Some (omega arith))

pub slice_get-last : (w : Walk) → IsWalk w → w.back ≡ slice_get (reverse (days_of w)) 0
slice_get-last w h = last_between w.front w.back h

pub slice_get-first : (w : Walk) (b : ℕ) → IsWalk w → w.back ≡ Some b → Some w.front ≡ slice_get (days_of w) 0
slice_get-first w b h e =
    let within : w.front + 0 ≤ b = omega (arith, (ends w b h e).in_order) in
    sym (slice_get-days_of w b 0 e within ∙ ap Some (omega arith))

-- An iterator without the days up to one of them, and an iterator without the days from one of them
-- on.
pub without_first-upto : (v w : Walk) (b day next : ℕ) → v ≡ w → w.back ≡ Some b → w.front ≤ day → day < b → next ≡ day + 1
    → walk next v.back ≡ without_first (day + 1 - w.front) w
without_first-upto v w b day next same e h less is =
    let within : day + 1 - w.front < length (days_of w) = omega (arith, length-days_of w b e) in
    let front : next ≡ w.front + (day + 1 - w.front) = omega arith in
    ap (λ u. walk next u.back) same ∙ ap (λ n. walk n w.back) front ∙ sym (without_first-some (day + 1 - w.front) w within)

pub without_first-all : (w : Walk) (b day : ℕ) → w.back ≡ Some b → w.front ≤ day → b ≤ day → walk w.front None ≡ without_first (day + 1 - w.front) w
without_first-all w b day e h all = sym (without_first-none (day + 1 - w.front) w (omega (arith, length-days_of w b e)))

pub without_last-from : (w : Walk) (b day : ℕ) → w.back ≡ Some b → w.front < day → day ≤ b → walk w.front (Some (day - 1)) ≡ without_last (b + 1 - day) w
without_last-from w b day e less h =
    let within : b + 1 - day < length (days_of w) = omega (arith, length-days_of w b e) in
    let back : day - 1 ≡ b - (b + 1 - day) = omega arith in
    ap (λ n. walk w.front (Some n)) back ∙ sym (without_last-some (b + 1 - day) w b e within)

pub without_last-all : (w : Walk) (b day : ℕ) → w.back ≡ Some b → day ≤ w.front → day ≤ b → walk w.front None ≡ without_last (b + 1 - day) w
without_last-all w b day e all h = sym (without_last-none (b + 1 - day) w (omega (arith, length-days_of w b e)))

-- The days that are left after `advance_front_past` and `advance_back_past` if the iterator becomes
-- empty.
pub ruleset days_left_after = (without_first-all, nat_tests)

pub ruleset days_left_before = (without_last-from, without_last-all, nat_tests)

-- The iterator has a day at the index.
pub record IsPlace (front back n : ℕ) : Type 0 where
  pub within : front + n ≤ back
  pub in_range : IsDate back

index : (w : Walk) (b n : ℕ) → IsWalk w → w.back ≡ Some b → n < length (days_of w) → IsPlace w.front b n
index w b n h e less =
    let at = ends w b h e in
    record { within = omega (arith, at.in_order, length-days_of w b e); in_range = at.in_range }

-- The same, from the fields of the iterator.
pub index_in : (v w : Walk) (b n len : ℕ) → v ≡ w → IsWalk v → v.back ≡ Some b → len ≡ length (days_of w) → n < len → IsPlace v.front b n
index_in v w b n len same h e count less =
    let total : len ≡ length (days_of v) = count ∙ ap (λ u. length (days_of u)) (sym same) in
    index v b n h e (omega (arith, total))

-- Iterators within one year, by the ordinals of their front and back days.
pub length-one_year : (w : Walk) (back len : ℕ) → IsWalk w → IsInOneYear w back → len ≡ length (days_of w) → len + ordinal_at w.front ≡ ordinal_at back + 1
length-one_year w back len walk h is =
    let at = ends w back walk h.back_is in
    omega (arith, is, length-days_of w back h.back_is, same_year w.front back h.year_is, at.in_order)

pub item-one_year : (w : Walk) (back n : ℕ) (item : Option ℕ) → IsInOneYear w back → ordinal_at w.front + n ≤ ordinal_at back → item ≡ slice_get (days_of w) n
    → IsSomeAnd item (HasOrdinalDate (year_at back) (ordinal_at w.front + n))
item-one_year w back n item h low is =
    let far = same_year w.front back h.year_is in
    let some : item ≡ Some (w.front + n) = is ∙ slice_get-days_of w back n h.back_is (omega (arith, far)) in
    let first = (stands w.front).ordinal.0 in
    rw some (as_far back (w.front + n) (ordinal_at w.front + n) (omega (arith, first)) (omega (arith, (stands back).ordinal.1)) (omega (arith, far)))

pub item_back-one_year : (w : Walk) (back n : ℕ) (item : Option ℕ) → IsInOneYear w back → ordinal_at w.front + n ≤ ordinal_at back
    → item ≡ slice_get (reverse (days_of w)) n → IsSomeAnd item (HasOrdinalDate (year_at back) (ordinal_at back - n))
item_back-one_year w back n item h low is =
    let far = same_year w.front back h.year_is in
    let some : item ≡ Some (back - n) = is ∙ slice_get-days_of_back w back n h.back_is (omega (arith, far)) in
    let first = (stands w.front).ordinal.0 in
    rw some (as_far back (back - n) (ordinal_at back - n) (omega (arith, first)) (omega (arith, (stands back).ordinal.1)) (omega (arith, far)))

pub ruleset items = (days_of-sorted, slice_get-first, slice_get-last)

pub ruleset lengths = (ends, length-days_of, length-one_year, ints, nat_tests)
