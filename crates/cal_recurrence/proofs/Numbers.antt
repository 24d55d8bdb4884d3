-- The results of std's `parse`, by the definition of a number.
use Rattle.std.proofs.Common.{◌≡◌, ◌≢◌, ℕ, ◌<◌, true, get_or, length, List, Some, None, Result, Ok, Err, refl, sym, ap, ◌∙◌, arith, inl, inr}
use Rattle.std.specs.Prelude.{IsUtf8, Decides, nat_lt}
use Rattle.std.specs.Result.{OkIff, result_ok}
use Rattle.std.specs.Str.{all_ascii_digits}
use Rattle.std.specs.Str.Parse.{ParsesUnsigned, digits_value}
use Rattle.std.proofs.lemmas.Bool.{and_from, and_parts, cases_Bool, cond-false, cond-true, false≢true}
use Rattle.std.proofs.lemmas.Bool.Decides.{nat_tests}
use Rattle.std.proofs.lemmas.Fmt.{IsAscii-from_digits}
use Rattle.std.proofs.lemmas.Str.{IsUtf8-from_ascii}
use Rattle.std.proofs.lemmas.Str.Parse.{IsNumeralModel, numerals_by_value, parse_plain, tells_all_ascii_digits}
use Rattle.cal_recurrence.specs.Words.{is_number, number_of}

pub digits : IsNumeralModel (λ ds. all_ascii_digits ds ≡ true) (digits_value 10)
digits = numerals_by_value _ tells_all_ascii_digits

-- the test of a number
abbrev Numeral : List ℕ → Type 0
Numeral bs = (all_ascii_digits bs ≡ true) × (0 < length bs) × (digits_value 10 bs < 4294967296)

less : (m n : ℕ) → Decides (nat_lt m n) (m < n)
less m n = (λ e. grind (arith, nat_tests), λ h. grind (arith, nat_tests))

pub is_numeral : (bs : List ℕ) → is_number bs ≡ true → Numeral bs
is_numeral bs e =
    let some = and_parts _ _ e in
    let all = and_parts _ _ some.1 in
    (all.0, (less _ _).0 some.0, (less _ _).0 all.1)

pub numeral_is : (bs : List ℕ) → Numeral bs → is_number bs ≡ true
numeral_is bs h = and_from _ _ ((less _ _).1 h.1) (and_from _ _ h.0 ((less _ _).1 h.2))

-- a result that is `Ok` if and only if a fact holds, as an option
pub ok_where : {V E : Type 0} (r : Result V E) (P : Type 0) (v : V) → OkIff r P v → P → result_ok r ≡ Some v
ok_where (Ok x) P v h p = ap Some h.1
ok_where (Err e) P v h p = absurd (h p)

pub none_where : {V E : Type 0} (r : Result V E) (P : Type 0) (v : V) → OkIff r P v → (P → ⊥) → result_ok r ≡ None
none_where (Ok x) P v h n = absurd (n h.0)
none_where (Err e) P v h n = refl

pub parsed : {E : Type 0} (bs : List ℕ) (r : Result ℕ E) → ParsesUnsigned 32 10 bs r → get_or bs 0 0 ≢ 43 → result_ok r ≡ number_of bs
parsed bs r h plain =
    let own = parse_plain digits 32 bs r h plain in
    elim (cases_Bool (is_number bs)) [
      | inl e ↦ ok_where r _ _ own (is_numeral bs e) ∙ sym (cond-true _ _ _ e)
      | inr e ↦ none_where r _ _ own (λ q. false≢true (sym e ∙ numeral_is bs q)) ∙ sym (cond-false _ _ _ e)
    ]

-- digits are text
no_digits : (bs : List ℕ) → (all_ascii_digits bs ≡ true → ⊥) → None ≡ number_of bs
no_digits bs n = elim (cases_Bool (is_number bs)) [
  | inl e ↦ absurd (n (is_numeral bs e).0)
  | inr e ↦ sym (cond-false _ _ _ e)
]

pub not_text : (bs : List ℕ) → (IsUtf8 bs → ⊥) → None ≡ number_of bs
not_text bs t = no_digits bs (λ e. t (IsUtf8-from_ascii bs (IsAscii-from_digits bs (digits.to bs e))))
