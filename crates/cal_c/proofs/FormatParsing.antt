-- The result of parsing by a format, from what parsing returns.
use Rattle.std.proofs.Common.{◌≡◌, ℕ, ℤ, Result, Ok, Err, ap, subst, ◌∙◌, arith}
use Rattle.std.proofs.lemmas.Int.{ints}
use Rattle.std.specs.Prelude.{IfOk}
use Rattle.cal_format.specs.declared.error.ParseError.{ParseError}
use Rattle.cal_format.specs.declared.error.ParseError.TheVariants.{UnexpectedByte, UnexpectedEnd, OutOfRange, Contradiction}
use Rattle.cal_c.specs.Columns.{IsByte}
use Rattle.cal_c.specs.FormatParsing.{IsParsed, parse_status, parse_position}
use Rattle.cal_c.proofs.TextRows.{is_byte}

same_ok : {T : Type 0} (v w : T) (o : Result T ParseError) → o ≡ Ok v → o ≡ Ok w → v ≡ w
same_ok v w (Ok x) e f = cc
same_ok v w (Err x) e f = cc

err_ok : {T : Type 0} (e : ParseError) (w : T) (o : Result T ParseError) → o ≡ Err e → o ≡ Ok w → ⊥
err_ok e w (Ok x) f g = cc
err_ok e w (Err x) f g = cc

pub parsed_value : {T R : Type 0} (IsText : T → Type 0) (Rejects : ParseError → Type 0) (ok : T → R) (error_at : ℤ → ℕ → R) (o : Result T ParseError) (v : T) (r : R)
    → o ≡ Ok v → ((w : T) → IsText w → o ≡ Ok w) → IfOk o IsText → r ≡ ok v → IsParsed IsText Rejects ok error_at r
parsed_value IsText Rejects ok error_at o v r is every value e = record {
  value = λ w text. e ∙ ap ok (same_ok v w o is (every w text));
  error = λ no. absurd (no (v, subst (λ x. IfOk x IsText) is value));
}

pub parsed_error : {T R : Type 0} (IsText : T → Type 0) (Rejects : ParseError → Type 0) (ok : T → R) (error_at : ℤ → ℕ → R) (o : Result T ParseError) (why : ParseError) (r : R)
    → o ≡ Err why → ((w : T) → IsText w → o ≡ Ok w) → Rejects why → r ≡ error_at (parse_status why) (parse_position why) → IsParsed IsText Rejects ok error_at r
parsed_error IsText Rejects ok error_at o why r is every rejects e = record {
  value = λ w text. absurd (err_ok why w o is (every w text));
  error = λ _. (why, rejects, e);
}

pub parse_byte : (e : ParseError) → IsByte (parse_status e)
parse_byte (UnexpectedByte at) = (omega (arith, ints), omega (arith, ints))
parse_byte (UnexpectedEnd at) = (omega (arith, ints), omega (arith, ints))
parse_byte (OutOfRange why) = is_byte why.component
parse_byte (Contradiction c) = (omega (arith, ints), omega (arith, ints))
