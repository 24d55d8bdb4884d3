-- A text has at most one error as a format, and a call that makes a format one answer.
use Rattle.std.proofs.Common.{◌≡◌, ℕ, ◌≤◌, List, [], ◌++◌, length, drop, refl, sym, ap, ◌∙◌, arith, append_assoc, length-append}
use Rattle.std.specs.Prelude.{Result, Ok, Err, IfErr, IfOk}
use Rattle.cal_format.specs.declared.item.Item.{Item}
use Rattle.cal_format.specs.declared.item.Syntax.{Syntax}
use Rattle.cal_format.specs.declared.format.FormatError.{FormatError}
use Rattle.cal_format.specs.declared.format.FormatError.TheVariants.{UnknownItem, TooLong}
use Rattle.cal_format.specs.Format.{Spells, nothing, more, IsFormatError, front}

-- The items xs are the items ys and then others, which are spelled from `q` to `r`.
abbrev GoesOn : Syntax → List ℕ → List ℕ → List Item → List Item → Type 0
GoesOn s q r xs ys = (others : List Item) × Spells s q others r × (xs ≡ ys ++ others)

goes_on_after : (s : Syntax) (q r : List ℕ) (first xs ys : List Item) → GoesOn s q r xs ys → GoesOn s q r (first ++ xs) (first ++ ys)
goes_on_after s q r first xs ys (others, spells, same) = (others, spells, ap (λ l. first ++ l) same ∙ sym (append_assoc first ys others))

-- If no item begins at `r`, the items up to `r` begin with those up to any other place.
goes_on : (s : Syntax) (text : List ℕ) (xs : List Item) (r : List ℕ) → Spells s text xs r → (front s r).items ≡ [] → (ys : List Item) (q : List ℕ) → Spells s text ys q → GoesOn s q r xs ys
goes_on s text xs r (nothing _) none ys q (nothing _) = ([], nothing text, refl)
goes_on s text xs r (nothing _) none ys q (more _ others _ some t) = absurd (some none)
goes_on s text xs r (more _ others _ some t) none ys q (nothing _) = ((front s text).items ++ others, more text others r some t, refl)
goes_on s text xs r (more _ others _ some t) none ys q (more _ others2 _ some2 t2) =
    goes_on_after s q r (front s text).items others others2 (goes_on s (drop (front s text).used text) others r t none others2 q t2)

ends_here : (s : Syntax) (q : List ℕ) (items : List Item) (r : List ℕ) → Spells s q items r → (front s q).items ≡ [] → q ≡ r
ends_here s q items r (nothing _) none = refl
ends_here s q items r (more _ others _ some t) none = absurd (some none)

same_place : (s : Syntax) (q r : List ℕ) (xs ys : List Item) → (front s q).items ≡ [] → GoesOn s q r xs ys → q ≡ r
same_place s q r xs ys none (others, spells, same) = ends_here s q others r spells none

no_fewer : (s : Syntax) (q r : List ℕ) (xs ys : List Item) → GoesOn s q r xs ys → length ys ≤ length xs
no_fewer s q r xs ys (others, spells, same) = omega (arith, ap length same, length-append ys others)

pub one-error : (s : Syntax) (at had : ℕ) (text : List ℕ) (e f : FormatError) → IsFormatError s at had text e → IsFormatError s at had text f → e ≡ f
one-error s at had text (UnknownItem p) (UnknownItem p2) (xs, r, spells, few, some, none, place) (ys, q, spells2, few2, some2, none2, place2) =
    ap UnknownItem (omega (arith, place, place2, ap length (same_place s q r xs ys none2 (goes_on s text xs r spells none ys q spells2))))
one-error s at had text (UnknownItem p) TooLong (xs, r, spells, few, some, none, place) (ys, q, spells2, many) =
    absurd (omega (arith, few, many, no_fewer s q r xs ys (goes_on s text xs r spells none ys q spells2)))
one-error s at had text TooLong (UnknownItem p) (ys, q, spells2, many) (xs, r, spells, few, some, none, place) =
    absurd (omega (arith, few, many, no_fewer s q r xs ys (goes_on s text xs r spells none ys q spells2)))
one-error s at had text TooLong TooLong h h2 = refl

pub one-format : (s : Syntax) (text : List ℕ) (first other : Result (List Item) FormatError)
    → ((items : List Item) → Spells s text items [] → length items ≤ 64 → first ≡ Ok items)
    → ((items : List Item) → Spells s text items [] → length items ≤ 64 → other ≡ Ok items)
    → IfOk first (λ items. Spells s text items [] × (length items ≤ 64)) → IfOk other (λ items. Spells s text items [] × (length items ≤ 64))
    → IfErr first (IsFormatError s 0 0 text) → IfErr other (IsFormatError s 0 0 text) → first ≡ other
one-format s text (Ok items) other every every2 value value2 error error2 = sym (every2 items value.0 value.1)
one-format s text (Err e) (Ok items) every every2 value value2 error error2 = every items value2.0 value2.1
one-format s text (Err e) (Err f) every every2 value value2 error error2 = ap Err (one-error s 0 0 text e f error error2)
