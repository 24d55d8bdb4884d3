-- The text of a time: the length of its hour, and that it is ASCII.
use Rattle.std.proofs.Common.{ℕ, ◌/◌, ◌%◌, ◌<◌, ◌≤◌, ◌^◌, ◌++◌, codes, length, arith, append_assoc}
use Rattle.std.specs.Fmt.{decimal}
use Rattle.std.specs.Str.{IsAscii}
use Rattle.std.proofs.lemmas.Fmt.{IsAscii-decimal, length-decimal-le}
use Rattle.std.proofs.lemmas.Str.{IsAscii-append}
use Rattle.std.proofs.lemmas.Str.Ascii.{IsAscii-nil, IsAscii-cons}
use Rattle.cal_units.specs.Digits.{two_digits, decimals}
use Rattle.cal_units.proofs.Decimals.{decimals-few}
use Rattle.cal_units.proofs.Digits.{two_digits-ascii}
use Rattle.cal_span.specs.SignedDuration.{day}
use Rattle.cal_clock.specs.Time.{hour_of, minute_of, second_of, nanosecond_of, text}

pub length-hour : (n : ℕ) → n < 100 → length (decimal n) ≤ 2
length-hour n below = length-decimal-le 2 n (omega arith) (omega (arith, below)) (omega (arith, below))

colon : IsAscii (codes ":")
colon = IsAscii-cons 58 (codes "") (omega arith) IsAscii-nil

point : IsAscii (codes ".")
point = IsAscii-cons 46 (codes "") (omega arith) IsAscii-nil

pub text-ascii : (t : ℕ) → t < day → IsAscii (decimals (nanosecond_of t)) → IsAscii (text t)
text-ascii t below last =
    let h = decimal (hour_of t) in
    let m = two_digits (minute_of t) in
    let s = two_digits (second_of t) in
    let hour = IsAscii-append h (codes ":") (IsAscii-decimal (hour_of t) (omega arith)) colon in
    let minute = IsAscii-append (h ++ codes ":") m hour (two_digits-ascii (minute_of t) (omega arith)) in
    let minute = IsAscii-append (h ++ codes ":" ++ m) (codes ":") minute colon in
    let second = IsAscii-append (h ++ codes ":" ++ m ++ codes ":") s minute (two_digits-ascii (second_of t) (omega arith)) in
    let second = IsAscii-append (h ++ codes ":" ++ m ++ codes ":" ++ s) (codes ".") second point in
    IsAscii-append (h ++ codes ":" ++ m ++ codes ":" ++ s ++ codes ".") (decimals (nanosecond_of t)) second last

pub ruleset hours = (length-hour, decimals-few, append_assoc)
