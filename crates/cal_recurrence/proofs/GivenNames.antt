-- The zones that the parameters of a parsed line name.
use Rattle.std.proofs.Common.{◌≡◌, ℕ, suc, ◌+◌, Bool, true, false, cond, eqb, not, List, [], ◌∷◌, length, take, Some, None, Result, Ok, Err, inl, inr, refl, sym, ap, subst, ◌∙◌, arith}
use Rattle.std.specs.Prelude.{◌&&◌, ◌||◌, bytes_eq, codes}
use Rattle.std.specs.Char.{to_ascii_lowercase}
use Rattle.std.specs.List.{list_any, position_or_len}
use Rattle.std.specs.Str.{str_to_ascii_lowercase}
use Rattle.std.proofs.lemmas.Bool.{and_parts, cases_Bool, eqb-true, false≢true}
use Rattle.cal_recurrence.specs.SetText.{all_allow, all_ignored, allows, first_zone, has_value, is_date, is_ignored, is_local, is_token, is_zone_name, names_zone, parameters_on, recurrence_on, zone_in}
use Rattle.cal_recurrence.specs.Text.{fault, parts_say}
use Rattle.cal_recurrence.specs.Words.{front_at, front_outside, is_alike, parts_at, rest_outside}
use Rattle.cal_recurrence.specs.declared.date_or_time.DateOrTime.{DateOrTime}
use Rattle.cal_recurrence.specs.declared.fault.ParseRuleError.{ParseRuleError}
use Rattle.cal_recurrence.specs.declared.fault.ParseRuleErrorKind.TheVariants.{Unknown}
use Rattle.cal_recurrence.specs.declared.recurrence.Recurrence.{Recurrence}

one-more : (n x : ℕ) (xs : List ℕ) → take (1 + n) (x ∷ xs) ≡ x ∷ take n xs
one-more n x xs = let next : 1 + n ≡ suc n = omega arith in ap (λ k. take k (x ∷ xs)) next

-- a parameter with the name of a zone begins with a letter T
letter : (t : Bool) (n x : ℕ) (xs : List ℕ) → is_alike (take (cond (not t) (1 + n) 0) (x ∷ xs)) (codes "TZID") ≡ true → to_ascii_lowercase x ≡ 116
letter true n x xs h = absurd (false≢true h)
letter false n x xs h =
    let rest = bytes_eq (str_to_ascii_lowercase (take n xs)) (codes "zid") in
    let both : eqb (to_ascii_lowercase x) 116 && rest ≡ true = sym (ap (λ bs. is_alike bs (codes "TZID")) (one-more n x xs)) ∙ h in
    eqb-true (to_ascii_lowercase x) 116 (and_parts (eqb (to_ascii_lowercase x) 116) rest both).0

-- and so allows readings without `Z` only, if the name is one of a zone
zone-of : (p : List ℕ) (v : DateOrTime) → names_zone p ≡ true → allows p v ≡ true → is_zone_name (zone_in p) && is_local v ≡ true
zone-of [] v named h = absurd (false≢true named)
zone-of (x ∷ xs) v named h =
    let is = letter (eqb x 61) (position_or_len (λ b. eqb b 61) xs) x xs named in
    let rest = str_to_ascii_lowercase xs in
    let date : is_alike (x ∷ xs) (codes "VALUE=DATE") ≡ false = ap (λ c. bytes_eq (c ∷ rest) (str_to_ascii_lowercase (codes "VALUE=DATE"))) is in
    let time : is_alike (x ∷ xs) (codes "VALUE=DATE-TIME") ≡ false = ap (λ c. bytes_eq (c ∷ rest) (str_to_ascii_lowercase (codes "VALUE=DATE-TIME"))) is in
    let period : is_alike (x ∷ xs) (codes "VALUE=PERIOD") ≡ false = ap (λ c. bytes_eq (c ∷ rest) (str_to_ascii_lowercase (codes "VALUE=PERIOD"))) is in
    let either = is_alike (x ∷ xs) (codes "VALUE=DATE-TIME") || is_alike (x ∷ xs) (codes "VALUE=PERIOD") in
    let neither : either ≡ false = ap (λ t. t || is_alike (x ∷ xs) (codes "VALUE=PERIOD")) time ∙ period in
    let zone = is_zone_name (zone_in (x ∷ xs)) && is_local v in
    let last = λ (t : Bool). cond t zone (is_ignored (x ∷ xs)) in
    sym (ap (λ t. cond t (is_date v) (cond either (not (is_date v)) (last (names_zone (x ∷ xs))))) date
    ∙ ap (λ t. cond t (not (is_date v)) (last (names_zone (x ∷ xs)))) neither ∙ ap last named) ∙ h

pub zone-if : (ps : List (List ℕ)) (v : DateOrTime) (zone : List ℕ) → first_zone ps ≡ Some zone → all_allow ps v ≡ true → (is_zone_name zone ≡ true) × (is_local v ≡ true)
zone-if [] v zone e h = absurd (cc)
zone-if (p ∷ ps) v zone e h =
    let both = and_parts (allows p v) (all_allow ps v) h in
    elim (cases_Bool (names_zone p)) [
      | inl named ↦
          let is : Some (zone_in p) ≡ Some zone = sym (ap (λ t. cond t (Some (zone_in p)) (first_zone ps)) named) ∙ e in
          let same : zone_in p ≡ zone = cc in
          subst (λ name. (is_zone_name name ≡ true) × (is_local v ≡ true)) same (and_parts (is_zone_name (zone_in p)) (is_local v) (zone-of p v named both.0))
      | inr plain ↦ zone-if ps v zone (sym (ap (λ t. cond t (Some (zone_in p)) (first_zone ps)) plain) ∙ e) both.1
    ]

-- ---- the parameters that readers ignore name no zone
other-name : (a b c d : Bool) → a && (b && not (c || d)) ≡ true → d ≡ false
other-name true true false false h = refl
other-name true true false true h = absurd (false≢true h)
other-name true true true d h = absurd (false≢true h)
other-name true false c d h = absurd (false≢true h)
other-name false b c d h = absurd (false≢true h)

none-named : (ps : List (List ℕ)) → all_ignored ps ≡ true → first_zone ps ≡ None
none-named [] h = refl
none-named (p ∷ ps) h =
    let both = and_parts (is_ignored p) (all_ignored ps) h in
    let name = front_at 61 p in
    let plain : names_zone p ≡ false =
    other-name (list_any (λ b. eqb b 61) p) (is_token name) (is_alike name (codes "VALUE")) (names_zone p) both.0 in
    ap (λ t. cond t (Some (zone_in p)) (first_zone ps)) plain ∙ none-named ps both.1

pub no-zone : (text : List ℕ) (r : Recurrence) (zone : List ℕ) → recurrence_on text ≡ Ok r → first_zone (parameters_on text) ≡ Some zone → ⊥
no-zone text r zone e named = by-test (has_value text) (all_ignored (parameters_on text)) refl e
  where
    said : Result Recurrence ParseRuleError
    said = parts_say (length (front_outside 58 text) + 1) (parts_at 59 (rest_outside 58 text))

    by-test : (a b : Bool) → all_ignored (parameters_on text) ≡ b → cond (a && b) said (Err (fault 0 Unknown)) ≡ Ok r → ⊥
    by-test true true is e = let none : None ≡ Some zone = sym (none-named (parameters_on text) is) ∙ named in absurd (cc)
    by-test true false is e = absurd (cc)
    by-test false b is e = absurd (cc)
