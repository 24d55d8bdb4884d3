-- The text of a date is ASCII.
use Rattle.std.proofs.Common.{ℕ, ◌<◌, ◌^◌, ◌++◌, ℤ, pos, unsigned_abs, codes, arith, inl, inr}
use Rattle.std.specs.Prelude.{int_lt}
use Rattle.std.specs.Str.{IsAscii}
use Rattle.std.proofs.lemmas.Bool.{cases_Bool}
use Rattle.std.proofs.lemmas.Str.{IsAscii-append}
use Rattle.std.proofs.lemmas.Str.Ascii.{IsAscii-nil, IsAscii-cons}
use Rattle.cal_units.proofs.Digits.{digits_at_least-ascii}
use Rattle.cal_date.specs.Date.{year_at, month_at, day_of_month_at}
use Rattle.cal_date.specs.DateText.{digits_at_least, sign_text, text}

hyphen : IsAscii (codes "-")
hyphen = IsAscii-cons 45 (codes "") (omega arith) IsAscii-nil

plus : IsAscii (codes "+")
plus = IsAscii-cons 43 (codes "") (omega arith) IsAscii-nil

sign-ascii : (y : ℤ) → IsAscii (sign_text y)
sign-ascii y = elim (cases_Bool (int_lt y (pos 0))) as (λ _. IsAscii (sign_text y)) [
  | inl below ↦ rw below hyphen
  | inr not_below ↦ elim (cases_Bool (int_lt (pos 9999) y)) as (λ _. IsAscii (sign_text y)) [
    | inl long ↦ rw (not_below, long) plus
    | inr short ↦ rw (not_below, short) IsAscii-nil
  ]
]

pub text-ascii : (n : ℕ) → unsigned_abs (year_at n) < 2 ^ 64 → month_at n < 2 ^ 64 → day_of_month_at n < 2 ^ 64 → IsAscii (text n)
text-ascii n a b c =
    let y = digits_at_least 4 (unsigned_abs (year_at n)) in
    let m = digits_at_least 2 (month_at n) in
    let d = digits_at_least 2 (day_of_month_at n) in
    let year = IsAscii-append y (codes "-") (digits_at_least-ascii 4 (unsigned_abs (year_at n)) a) hyphen in
    let month = IsAscii-append (y ++ codes "-") m year (digits_at_least-ascii 2 (month_at n) b) in
    let month = IsAscii-append (y ++ codes "-" ++ m) (codes "-") month hyphen in
    let day = IsAscii-append (y ++ codes "-" ++ m ++ codes "-") d month (digits_at_least-ascii 2 (day_of_month_at n) c) in
    IsAscii-append (sign_text (year_at n)) (y ++ codes "-" ++ m ++ codes "-" ++ d) (sign-ascii (year_at n)) day
