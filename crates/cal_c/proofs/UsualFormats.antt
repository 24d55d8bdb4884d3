-- Values by the numbers of a string.
use Rattle.std.proofs.Common.{◌≡◌, ℕ, ◌+◌, ◌-◌, ◌<◌, ◌≤◌, List, [], ◌∷◌, ◌++◌, get_or, refl, sym, ap, ◌∙◌, arith, lit≤, append-nil}
use Rattle.std.specs.Prelude.{Bool, true, false, ◌==◌, IsTrue, pos, unsigned_abs, Result, Ok}
use borrow.Author.Tests.{eq-eqb}
use Rattle.cal_time.specs.Date.{IsDate, weekday_at}
use Rattle.cal_time.specs.DateText.{digits_at_least, sign_text}
use Rattle.cal_time.specs.IsoWeekDate.{HasIsoWeekDate, iso_year_at}
use Rattle.cal_time.specs.Time.{IsTime, hour_of, minute_of, second_of, nanosecond_of, time_of}
use Rattle.cal_text.specs.Shape.{ParsesDigits}
use Rattle.cal_text.proofs.ReadDigits.{one_digit, printed}
use Rattle.cal_format.specs.declared.item.Item.{Item}
use Rattle.cal_format.specs.declared.moment.Moment.{Moment}
use Rattle.cal_format.specs.Form.{HasNumbers, numbered_text, numbers_of}
use Rattle.cal_format.specs.Moment.{IsMoment, moment_of_date, moment_of_time}
use Rattle.cal_format.specs.Reading.{are_apart, holds_time, DeterminesDate, DeterminesTime}
use Rattle.cal_format.specs.Scanning.{AreHeld, IsOneDate, IsOneTime}
use Rattle.cal_format.specs.Text.{text_of}
use Rattle.cal_format.proofs.Apart.{both_tests, same_test}
use Rattle.cal_format.proofs.Holding.{plain-year}
use Rattle.cal_format.proofs.Moments as moments
use Rattle.cal_format.proofs.Own.{has-own}
use Rattle.cal_format.proofs.Times.{time-parts}
use Rattle.cal_format.proofs.Uniques.{one-numbers}
use Rattle.cal_c.proofs.IsoDates.{ok-one, plain}
use Rattle.cal_c.proofs.OnePass.{both-true}
use Rattle.cal_c.specs.OnePass.{week_items, clock_items, second_text}

-- ---- a moment and the numbers of a string
own-text : (items : List Item) (numbers text : List ℕ) (v : Moment) → IsMoment v → AreHeld v items → HasNumbers items numbers text → numbers_of items v ≡ numbers → text ≡ text_of items v
own-text items numbers text v is held has own =
    has.text_is ∙ ap (λ l. numbered_text items l) (sym own) ∙ sym (has-own items v (text_of items v) is held refl).text_is

own-numbers : (items : List Item) (numbers text : List ℕ) (v : Moment) → IsTrue (are_apart items) → IsMoment v → AreHeld v items → HasNumbers items numbers text → text ≡ text_of items v → numbers_of items v ≡ numbers
own-numbers items numbers text v apart is held has e = one-numbers items (numbers_of items v) numbers text apart (has-own items v text is held e) has

pub numbered-date : (items : List Item) (numbers text : List ℕ) (n : ℕ) → DeterminesDate items → HasNumbers items numbers text → IsDate n → AreHeld (moment_of_date n) items → numbers_of items (moment_of_date n) ≡ numbers
    → ((w : ℕ) → IsDate w → AreHeld (moment_of_date w) items → numbers_of items (moment_of_date w) ≡ numbers → w ≡ n) → IsOneDate items n text
numbered-date items numbers text n determines has date held own only = record {
  determines = determines;
  date = date;
  held = held;
  text_is = own-text items numbers text (moment_of_date n) (moments.date-holds items n determines date held).in_range held has own;
  every = λ w in_range holds e.
      only w in_range holds (own-numbers items numbers text (moment_of_date w) determines.0 (moments.date-holds items w determines in_range holds).in_range holds has e);
}

pub numbered-time : (items : List Item) (numbers text : List ℕ) (t : ℕ) → DeterminesTime items → HasNumbers items numbers text → IsTime t → IsTrue (holds_time items t) → numbers_of items (moment_of_time t) ≡ numbers
    → ((u : ℕ) → IsTime u → IsTrue (holds_time items u) → numbers_of items (moment_of_time u) ≡ numbers → u ≡ t) → IsOneTime items t text
numbered-time items numbers text t determines has time holds own only =
    let is = moments.time-holds items t determines time holds in
    record {
      determines = determines;
      time = time;
      holds = holds;
      text_is = own-text items numbers text (moment_of_time t) is.in_range is.numbers has own;
      every = λ u in_range same e.
          let other = moments.time-holds items u determines in_range same in
          only u in_range same (own-numbers items numbers text (moment_of_time u) determines.0 other.in_range other.numbers has e);
    }

-- ---- the strings that scanners read
pub week-text : (t a b c d e f : List ℕ) (y w g : ℕ) → ParsesDigits t a 4 y → a ≡ 45 ∷ b → b ≡ 87 ∷ c → ParsesDigits c d 2 w → d ≡ 45 ∷ e → e ≡ g ∷ f → f ≡ []
    → (y < 10_000) × (t ≡ digits_at_least 4 y ++ 45 ∷ 87 ∷ (digits_at_least 2 w ++ 45 ∷ g ∷ []))
week-text t a b c d e f y w g year p q week r s end =
    let x = printed t a 4 y (lit≤ tt) (lit≤ tt) year in
    let z = printed c d 2 w (lit≤ tt) (lit≤ tt) week in
    (x.0, x.1 ∙ ap (λ l. digits_at_least 4 y ++ l) (p ∙ ap (λ l. 45 ∷ l) (q ∙ ap (λ l. 87 ∷ l) (z.1 ∙ ap (λ l. digits_at_least 2 w ++ l) (r ∙ ap (λ l. 45 ∷ l) (s ∙ ap (λ l. g ∷ l) end))))))

pub second-shown : (b : Bool) (old mid new : List ℕ) (s : ℕ) → b ≡ true → old ≡ 58 ∷ mid → ParsesDigits mid new 2 s → old ≡ second_text b s ++ new
second-shown true old mid new s e p read = p ∙ ap (λ l. 58 ∷ l) (printed mid new 2 s (lit≤ tt) (lit≤ tt) read).1
second-shown false old mid new s e p read = cc

pub clock-text : (b : Bool) (t u v w x : List ℕ) (h m s : ℕ) → ParsesDigits t u 2 h → u ≡ 58 ∷ v → ParsesDigits v w 2 m → w ≡ second_text b s ++ x → x ≡ []
    → t ≡ digits_at_least 2 h ++ 58 ∷ (digits_at_least 2 m ++ second_text b s)
clock-text b t u v w x h m s hour p minute q end =
    (printed t u 2 h (lit≤ tt) (lit≤ tt) hour).1
    ∙ ap (λ l. digits_at_least 2 h ++ l) (p ∙ ap (λ l. 58 ∷ l) ((printed v w 2 m (lit≤ tt) (lit≤ tt) minute).1
    ∙ ap (λ l. digits_at_least 2 m ++ l) (q ∙ ap (λ l. second_text b s ++ l) end ∙ append-nil (second_text b s))))

-- ---- a week date
one : (g d : ℕ) → d < 10 → g ≡ 48 + d → digits_at_least 1 d ++ [] ≡ g ∷ []
one g d less e = sym (printed (g ∷ []) [] 1 d (lit≤ tt) (lit≤ tt) (one_digit d (g ∷ []) [] less (ap (λ b. b ∷ []) e))).1

pub week-read : {E : Type 0} (r : Result ℕ E) (text : List ℕ) (y w g d n : ℕ) → text ≡ digits_at_least 4 y ++ 45 ∷ 87 ∷ (digits_at_least 2 w ++ 45 ∷ g ∷ []) → y < 10_000 → w < 100 → g ≡ 48 + d → 1 ≤ d → d ≤ 7
    → ((m : ℕ) → IsDate m → HasIsoWeekDate (pos y) w (d - 1) m → r ≡ Ok m) → IsDate n → HasIsoWeekDate (pos y) w (d - 1) n → r ≡ Ok n → IsOneDate week_items n text
week-read r text y w g d n e few low byte some most each date has is =
    numbered-date week_items (y ∷ 0 ∷ 0 ∷ w ∷ 0 ∷ d ∷ []) text n (refl, refl, refl) read date held own only
  where
    read : HasNumbers week_items (y ∷ 0 ∷ 0 ∷ w ∷ 0 ∷ d ∷ []) text
    read = record {
      fit = (few, (refl, (refl, (low, (refl, (omega arith, tt))))));
      text_is = e ∙ ap (λ l. digits_at_least 4 y ++ 45 ∷ 87 ∷ (digits_at_least 2 w ++ 45 ∷ l)) (sym (one g d (omega arith) byte));
    }

    year : unsigned_abs (iso_year_at n) ≡ y
    year = ap unsigned_abs has.0

    weekday : weekday_at n + 1 ≡ d
    weekday = omega (arith, has.2)

    held : AreHeld (moment_of_date n) week_items
    held = ((omega (arith, year), ap sign_text has.0 ∙ plain y (omega (arith, few))), (tt, (tt, ((omega (arith, has.1), refl), (tt, ((omega (arith, weekday), refl), tt))))))

    own : numbers_of week_items (moment_of_date n) ≡ y ∷ 0 ∷ 0 ∷ w ∷ 0 ∷ d ∷ []
    own = λ j. year j ∷ 0 ∷ 0 ∷ has.1 j ∷ 0 ∷ weekday j ∷ []

    only : (m : ℕ) → IsDate m → AreHeld (moment_of_date m) week_items → numbers_of week_items (moment_of_date m) ≡ y ∷ 0 ∷ 0 ∷ w ∷ 0 ∷ d ∷ [] → m ≡ n
    only m in_range holds same =
        let last : weekday_at m + 1 ≡ d = ap (λ l. get_or l 5 0) same in
        ok-one r m n (each m in_range (sym (plain-year (iso_year_at m) holds.0.1) ∙ ap (λ l. pos (get_or l 0 0)) same, ap (λ l. get_or l 3 0) same, omega (arith, last))) is

-- ---- a time of day
zero-test : (n : ℕ) → n ≡ 0 → IsTrue (n == 0)
zero-test n e = eq-eqb n 0 e

second-read : (text : List ℕ) (h m s t : ℕ) → text ≡ digits_at_least 2 h ++ 58 ∷ (digits_at_least 2 m ++ 58 ∷ digits_at_least 2 s) → h ≤ 23 → m ≤ 59 → s ≤ 59 → t ≡ time_of h m s 0
    → IsOneTime (clock_items true) t text
second-read text h m s t e hours minutes seconds is =
    let hour : hour_of t ≡ h = omega (arith, is) in
    let minute : minute_of t ≡ m = omega (arith, is) in
    let second : second_of t ≡ s = omega (arith, is) in
    let none : nanosecond_of t ≡ 0 = omega (arith, is) in
    let below : IsTime t = record { below_day = omega (arith, is) } in
    numbered-time (clock_items true) (h ∷ 0 ∷ m ∷ 0 ∷ s ∷ []) text t (refl, refl, refl) (record {
      fit = (omega arith, (refl, (omega arith, (refl, (omega arith, tt)))));
      text_is = e ∙ ap (λ l. digits_at_least 2 h ++ 58 ∷ (digits_at_least 2 m ++ 58 ∷ l)) (sym (append-nil (digits_at_least 2 s)));
    }) below (zero-test (nanosecond_of t) none) (λ j. hour j ∷ 0 ∷ minute j ∷ 0 ∷ second j ∷ [])
    (λ u time holds same.
    let a : hour_of u ≡ h = ap (λ l. get_or l 0 0) same in
    let b : minute_of u ≡ m = ap (λ l. get_or l 2 0) same in
    let c : second_of u ≡ s = ap (λ l. get_or l 4 0) same in
    let d : nanosecond_of u ≡ 0 = same_test (nanosecond_of u) 0 holds in
    sym (time-parts u time) ∙ (λ j. time_of (a j) (b j) (c j) (d j)) ∙ sym is)

minute-read : (text : List ℕ) (h m t : ℕ) → text ≡ digits_at_least 2 h ++ 58 ∷ (digits_at_least 2 m ++ []) → h ≤ 23 → m ≤ 59 → t ≡ time_of h m 0 0 → IsOneTime (clock_items false) t text
minute-read text h m t e hours minutes is =
    let hour : hour_of t ≡ h = omega (arith, is) in
    let minute : minute_of t ≡ m = omega (arith, is) in
    let second : second_of t ≡ 0 = omega (arith, is) in
    let none : nanosecond_of t ≡ 0 = omega (arith, is) in
    let below : IsTime t = record { below_day = omega (arith, is) } in
    numbered-time (clock_items false) (h ∷ 0 ∷ m ∷ []) text t (refl, refl, refl) (record { fit = (omega arith, (refl, (omega arith, tt))); text_is = e }) below
    (both-true (second_of t == 0) (nanosecond_of t == 0) (zero-test (second_of t) second) (zero-test (nanosecond_of t) none)) (λ j. hour j ∷ 0 ∷ minute j ∷ [])
    (λ u time holds same.
    let zeros = both_tests (second_of u == 0) (nanosecond_of u == 0) holds in
    let a : hour_of u ≡ h = ap (λ l. get_or l 0 0) same in
    let b : minute_of u ≡ m = ap (λ l. get_or l 2 0) same in
    let c : second_of u ≡ 0 = same_test (second_of u) 0 zeros.0 in
    let d : nanosecond_of u ≡ 0 = same_test (nanosecond_of u) 0 zeros.1 in
    sym (time-parts u time) ∙ (λ j. time_of (a j) (b j) (c j) (d j)) ∙ sym is)

pub clock-read : (b : Bool) (text : List ℕ) (h m s t : ℕ) → text ≡ digits_at_least 2 h ++ 58 ∷ (digits_at_least 2 m ++ second_text b s) → (b ≡ false → s ≡ 0) → h ≤ 23 → m ≤ 59 → s ≤ 59 → t ≡ time_of h m s 0
    → IsOneTime (clock_items b) t text
clock-read true text h m s t e none hours minutes seconds is = second-read text h m s t e hours minutes seconds is
clock-read false text h m s t e none hours minutes seconds is = minute-read text h m t e hours minutes (is ∙ ap (λ k. time_of h m k 0) (none refl))
