-- The parts that lines say, and their errors, line after line.
use Rattle.std.proofs.Common.{◌≡◌, ℕ, zero, suc, ◌<◌, Bool, true, false, cond, eqb, not, List, [], ◌∷◌, ◌++◌, append-nil, length, length-append, take, Option, Some, None, Ok, inl, inr, refl, sym, ap, ◌∙◌, arith}
use Rattle.std.specs.Prelude.{◌||◌, filter_map, is_some, slice_get, option_and_then, unwrap_or}
use Rattle.std.specs.List.{cons_option, flat_map, list_any}
use Rattle.std.specs.Option.{option_map_or, option_or}
use Rattle.std.specs.Result.{result_ok}
use Rattle.std.proofs.lemmas.Bool.{cases_lt, ne_eqb}
use Rattle.std.proofs.lemmas.Grind.{flat_map-append}
use Rattle.std.proofs.lemmas.List.{take_at, take-append-le}
use Rattle.std.proofs.lemmas.List.Elements.{filter_map-append}
use Rattle.std.proofs.lemmas.Option.{slice_get_past}
use Rattle.cal_recurrence.specs.SetText.{error_after, error_at, error_unless, is_local, is_named, kind_of, listed_on, parts_of, recurrence_on, rule_on, start_on, unless_error, value_error, value_on, values_on, with_line, with_value, with_zone, zone_error, zone_on, AreValid}
use Rattle.cal_recurrence.specs.declared.date_or_time.DateOrTime.{DateOrTime}
use Rattle.cal_recurrence.specs.declared.set_draft.SetDraft.{SetDraft}
use Rattle.cal_recurrence.specs.declared.set_fault.ParseSetErrorKind.{ParseSetErrorKind}
use Rattle.cal_recurrence.specs.declared.set_fault.ParseSetErrorKind.TheVariants.{Unknown}
use Rattle.cal_recurrence.specs.declared.set_fault.SetLine.{SetLine}
use Rattle.cal_recurrence.specs.declared.set_fault.SetLine.TheVariants as line

-- ---- errors
pub first-none : {X : Type 0} (o p : Option X) → option_or o p ≡ None → o ≡ None
first-none None p e = refl
first-none (Some x) p e = absurd (cc)

pub second-none : {X : Type 0} (o p : Option X) → option_or o p ≡ None → p ≡ None
second-none None p e = e
second-none (Some x) p e = absurd (cc)

pub passes : (b : Bool) (why : ParseSetErrorKind) → error_unless b why ≡ None → b ≡ true
passes true why e = refl
passes false why e = absurd (cc)

pub no-value : {X : Type 0} (o : Option X) (why : ParseSetErrorKind) → error_unless (not (is_some o)) why ≡ None → o ≡ None
no-value None why e = refl
no-value (Some x) why e = absurd (cc)

pub ok-from : {X : Type 0} (o : Option ParseSetErrorKind) (x y : X) → unless_error o x ≡ Ok y → (o ≡ None) × (x ≡ y)
ok-from None x y e = (refl, cc)
ok-from (Some why) x y e = absurd (cc)

same-zone : (said : SetDraft) (text : List ℕ) (its : SetLine) → (with_value said text its).zone ≡ said.zone
same-zone said text line.Start = refl
same-zone said text line.Rule = refl
same-zone said text line.Dates = refl
same-zone said text line.Exceptions = refl

-- a line whose value has no error
pub line-read : (said draft : SetDraft) (text : List ℕ) (its : SetLine) → eqb (length text) 0 ≡ false → kind_of text ≡ Some its
    → unless_error (value_error said text its) (with_value said text its) ≡ Ok draft
    → unless_error (zone_error draft text its) (with_zone draft text) ≡ unless_error (error_after said text) (with_line said text)
line-read said draft text its some kind e =
    let both = ok-from (value_error said text its) (with_value said text its) draft e in
    rw (some, kind, both.0, ← both.1, same-zone said text its) refl

-- ---- readings without `Z`
abbrev pub local_start : Option DateOrTime → Bool
local_start None = false
local_start (Some v) = is_local v

abbrev pub some_local : SetDraft → Bool
some_local d = local_start d.start || (list_any is_local d.dates || list_any is_local d.exceptions)

-- ---- one more line
first-more : {X : Type 0} (xs : List X) (o : Option X) → slice_get (xs ++ cons_option o []) 0 ≡ option_or (slice_get xs 0) o
first-more [] None = refl
first-more [] (Some x) = refl
first-more (x ∷ xs) o = refl

pub or-none : {X : Type 0} (o : Option X) → option_or o None ≡ o
or-none None = refl
or-none (Some x) = refl

first-said : {X : Type 0} (f : List ℕ → Option X) (before : List (List ℕ)) (text : List ℕ)
    → slice_get (filter_map f (before ++ text ∷ [])) 0 ≡ option_or (slice_get (filter_map f before) 0) (f text)
first-said f before text = ap (λ xs. slice_get xs 0) (filter_map-append f before (text ∷ [])) ∙ first-more (filter_map f before) (f text)

all-said : {X : Type 0} (f : List ℕ → List X) (before : List (List ℕ)) (text : List ℕ) → flat_map f (before ++ text ∷ []) ≡ flat_map f before ++ f text
all-said f before text = flat_map-append f before (text ∷ []) ∙ ap (λ xs. flat_map f before ++ xs) (append-nil (f text))

-- the parts with those of a line of this kind
abbrev after_by : SetDraft → List ℕ → Option SetLine → SetDraft
after_by said text o = record {
  start = option_or said.start (cond (is_named line.Start o) (value_on text) None);
  recurrence = option_or said.recurrence (cond (is_named line.Rule o) (result_ok (recurrence_on text)) None);
  dates = said.dates ++ cond (is_named line.Dates o) (unwrap_or (values_on text) []) [];
  exceptions = said.exceptions ++ cond (is_named line.Exceptions o) (unwrap_or (values_on text) []) [];
  zone = option_or said.zone (zone_on text);
}

parts-after : (before : List (List ℕ)) (text : List ℕ) → parts_of (before ++ text ∷ []) ≡ after_by (parts_of before) text (kind_of text)
parts-after before text =
    rw (first-said start_on before text, first-said rule_on before text, all-said (listed_on line.Dates) before text, all-said (listed_on line.Exceptions) before text, first-said zone_on before text) refl

after-kind : (said : SetDraft) (text : List ℕ) (its : SetLine) → value_error said text its ≡ None → after_by said text (Some its) ≡ with_zone (with_value said text its) text
after-kind said text line.Start e = simp (no-value said.start _ (first-none _ _ e), or-none, append-nil)
after-kind said text line.Rule e = simp (no-value said.recurrence _ (first-none _ _ e), or-none, append-nil)
after-kind said text line.Dates e = simp (or-none, append-nil)
after-kind said text line.Exceptions e = simp (or-none, append-nil)

after-line : (said : SetDraft) (text : List ℕ) → error_after said text ≡ None → after_by said text (kind_of text) ≡ with_line said text
after-line said [] e = simp (or-none, append-nil)
after-line said (b ∷ bs) e = by-kind (kind_of text) (sym (ap (λ t. cond t None (by (kind_of text))) some) ∙ e) ∙ sym (ap (λ t. cond t said (with (kind_of text))) some)
  where
    text : List ℕ
    text = b ∷ bs

    by : Option SetLine → Option ParseSetErrorKind
    by o = option_map_or (λ k. option_or (value_error said text k) (zone_error said text k)) o (Some Unknown)

    with : Option SetLine → SetDraft
    with o = option_map_or (λ k. with_zone (with_value said text k) text) o said

    some : eqb (length text) 0 ≡ false
    some = ne_eqb (length text) 0 (λ h. omega (arith, h))

    by-kind : (o : Option SetLine) → by o ≡ None → after_by said text o ≡ with o
    by-kind None h = absurd (cc)
    by-kind (Some its) h = after-kind said text its (first-none _ _ h)

pub parts-more : (before : List (List ℕ)) (text : List ℕ) → error_after (parts_of before) text ≡ None → parts_of (before ++ text ∷ []) ≡ with_line (parts_of before) text
parts-more before text e = parts-after before text ∙ after-line (parts_of before) text e

-- ---- the lines before and after one
get-before : {X : Type 0} (xs ys : List X) (k : ℕ) → k < length xs → slice_get (xs ++ ys) k ≡ slice_get xs k
get-before [] ys k h = absurd (omega (arith, h))
get-before (x ∷ xs) ys zero h = refl
get-before (x ∷ xs) ys (suc k) h = get-before xs ys k (omega (arith, h))

get-here : {X : Type 0} (xs : List X) (y : X) (ys : List X) → slice_get (xs ++ y ∷ ys) (length xs) ≡ Some y
get-here [] y ys = refl
get-here (x ∷ xs) y ys = get-here xs y ys

pub error-before : (done rest : List (List ℕ)) (k : ℕ) → k < length done → error_at (done ++ rest) k ≡ error_at done k
error-before done rest k less =
    rw (take-append-le k done rest (omega (arith, less)), get-before done rest k less) refl

pub error-here : (done : List (List ℕ)) (text : List ℕ) (rest : List (List ℕ)) → error_at (done ++ text ∷ rest) (length done) ≡ error_after (parts_of done) text
error-here done text rest =
    rw (take_at done (text ∷ rest) (length done) refl, get-here done text rest) refl

pub valid-more : (done : List (List ℕ)) (text : List ℕ) → AreValid done → error_after (parts_of done) text ≡ None → AreValid (done ++ text ∷ [])
valid-more done text h e k =
    elim (cases_lt k (length done)) [
      | inl less ↦ error-before done (text ∷ []) k less ∙ h k
      | inr past ↦ elim (cases_lt (length done) k) [
        | inl more ↦
            let lines = done ++ text ∷ [] in
            ap (option_and_then (error_after (parts_of (take k lines)))) (slice_get_past lines k (omega (arith, more, length-append done (text ∷ []))))
        | inr less ↦ let same : k ≡ length done = omega (arith, past, less) in ap (error_at (done ++ text ∷ [])) same ∙ error-here done text [] ∙ e
      ]
    ]
