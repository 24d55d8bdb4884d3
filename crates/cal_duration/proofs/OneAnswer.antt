-- The contract of a parser allows one result.
use Rattle.std.proofs.Common.{◌≡◌, ◌∙◌, List, refl, sym, ap, arith, ℕ, Result, Ok, Err}
use Rattle.std.proofs.lemmas.Option.{none-some, same_Some}
use Rattle.cal_text.specs.Position.{HasSome}
use Rattle.cal_text.proofs.Positions.{one_position}
use Rattle.cal_text.proofs.Results.{not_ok}
use Rattle.cal_duration.specs.declared.error.DurationComponent.{DurationComponent}
use Rattle.cal_duration.specs.declared.error.ParseDurationError.{ParseDurationError}
use Rattle.cal_duration.specs.declared.error.ParseDurationError.TheVariants.{UnexpectedByte, UnexpectedEnd, OutOfRange}
use Rattle.cal_duration.proofs.Parsed.{IsAnswer}

pub one_answer : {F V : Type 0} (Has : List ℕ → F → Type 0) (Of : F → V → Type 0) (IsError : F → DurationComponent → Type 0) (text : List ℕ) (r s : Result V ParseDurationError)
    → IsAnswer Has Of IsError text r → IsAnswer Has Of IsError text s → r ≡ s
one_answer Has Of IsError text (Ok v) s a b = sym (b.every v a.value)
one_answer Has Of IsError text (Err e) (Ok w) a b = absurd (not_ok e w (a.every w b.value))
one_answer Has Of IsError text (Err (UnexpectedByte p)) (Err (UnexpectedByte q)) a b = ap (λ n. Err (UnexpectedByte n)) (one_position (HasSome Has) text p q a.position.0 b.position.0)
one_answer Has Of IsError text (Err (UnexpectedByte p)) (Err (UnexpectedEnd q)) a b = absurd (omega (arith, one_position (HasSome Has) text p q a.position.0 b.position.0, a.position.1, b.position.1))
one_answer Has Of IsError text (Err (UnexpectedEnd p)) (Err (UnexpectedByte q)) a b = absurd (omega (arith, one_position (HasSome Has) text p q a.position.0 b.position.0, a.position.1, b.position.1))
one_answer Has Of IsError text (Err (UnexpectedEnd p)) (Err (UnexpectedEnd q)) a b = ap (λ n. Err (UnexpectedEnd n)) (a.position.1 ∙ sym b.position.1)
one_answer Has Of IsError text (Err (UnexpectedByte p)) (Err (OutOfRange why)) a b = absurd (none-some _ ((a.out_of_range why).1 ((b.out_of_range why).0 refl)))
one_answer Has Of IsError text (Err (UnexpectedEnd p)) (Err (OutOfRange why)) a b = absurd (none-some _ ((a.out_of_range why).1 ((b.out_of_range why).0 refl)))
one_answer Has Of IsError text (Err (OutOfRange why)) (Err (UnexpectedByte q)) a b = absurd (none-some _ ((b.out_of_range why).1 ((a.out_of_range why).0 refl)))
one_answer Has Of IsError text (Err (OutOfRange why)) (Err (UnexpectedEnd q)) a b = absurd (none-some _ ((b.out_of_range why).1 ((a.out_of_range why).0 refl)))
one_answer Has Of IsError text (Err (OutOfRange v)) (Err (OutOfRange w)) a b = ap (λ why. Err (OutOfRange why)) (sym (same_Some w v ((b.out_of_range v).1 ((a.out_of_range v).0 refl))))
