-- A parsed set is spelled: each value is a value of its line, and some line names its zone.
use Rattle.std.proofs.Common.{◌≡◌, ℕ, ◌+◌, Bool, true, false, cond, eqb, List, [], ◌∷◌, ◌++◌, append-nil, append_assoc, length, Option, Some, None, Result, Ok, Err, refl, sym, ap, subst, ◌∙◌, arith}
use Rattle.std.specs.Prelude.{⊤, ◌&&◌, ◌||◌, codes, IfOk, IfSome, is_some, option_and_then, option_map, unwrap_or}
use Rattle.std.specs.List.{All, list_any}
use Rattle.std.specs.Option.{option_map_or, option_or, option_zip}
use Rattle.std.specs.Result.{result_err, result_ok}
use Rattle.std.proofs.lemmas.Bool.{and_parts, false≢true}
use Rattle.std.proofs.lemmas.List.Elements.{All-append, All-cons, All-nil}
use Rattle.std.proofs.lemmas.List.Folds.{list_any-append}
use Rattle.std.proofs.lemmas.Option.{IfSome_then}
use Rattle.cal_recurrence.specs.DateWords.{date_or_time_of}
use Rattle.cal_recurrence.specs.Days.{excluded, ranks_alone}
use Rattle.cal_recurrence.specs.SetText.{all_allow, all_ignored, error_after, first_zone, has_value, if_allowed, is_local, is_zone_name, kind_of, lines_of, once, parameters_on, parts_from, parts_of, read_part, recurrence_on, value_error, value_of, value_on, values_on, with_line, with_value, with_zone, zone_error, AreValid, SaysSet}
use Rattle.cal_recurrence.specs.SetWritten.{IsSpelledSet, IsZoneOf}
use Rattle.cal_recurrence.specs.Spelled.{IsByDay, IsDateOrTime, IsHour, IsMinute, IsMonthDay, IsPosition, IsSecond, IsSpelled, IsWeek}
use Rattle.cal_recurrence.specs.Text.{checked, each, fault, later_of, list_of, parts_say, place_of, valid_parts_say}
use Rattle.cal_recurrence.specs.Words.{front_outside, parts_at, rest_outside}
use Rattle.cal_recurrence.specs.declared.date_or_time.DateOrTime.{DateOrTime}
use Rattle.cal_recurrence.specs.declared.fault.ParseRuleError.{ParseRuleError}
use Rattle.cal_recurrence.specs.declared.fault.ParseRuleErrorKind.TheVariants.{Alone, Unknown as UnknownPart}
use Rattle.cal_recurrence.specs.declared.fault.RulePart.{RulePart}
use Rattle.cal_recurrence.specs.declared.fault.RulePart.TheVariants as part
use Rattle.cal_recurrence.specs.declared.recurrence.Recurrence.{Recurrence}
use Rattle.cal_recurrence.specs.declared.set_draft.SetDraft.{SetDraft}
use Rattle.cal_recurrence.specs.declared.set_fault.ParseSetErrorKind.{ParseSetErrorKind}
use Rattle.cal_recurrence.specs.declared.set_fault.ParseSetErrorKind.TheVariants.{Rule, Unknown}
use Rattle.cal_recurrence.specs.declared.set_fault.SetLine.{SetLine}
use Rattle.cal_recurrence.specs.declared.set_fault.SetLine.TheVariants as line
use Rattle.cal_recurrence.proofs.Avoided.{parts_at-some}
use Rattle.std.proofs.lemmas.Bool.{or_left, or_right}
use Rattle.cal_recurrence.proofs.GivenNames.{no-zone, zone-if}
use Rattle.cal_recurrence.specs.declared.set_parts.SetParts.{SetParts}
use Rattle.cal_recurrence.proofs.GivenParts.{dates, each-is, guarded, if_there, valid_is_spelled}
use Rattle.cal_recurrence.proofs.SaidLines.{error-here, first-none, local_start, no-value, parts-more, passes, second-none, some_local}

-- ---- recurrences
recurrence-at : (at : ℕ) (texts : List (List ℕ)) → IfOk (parts_say at texts) IsSpelled
recurrence-at at texts = by-result (valid_parts_say at texts) refl
  where
    by-rank : (r : Recurrence) (b : Bool) → Ok r ≡ valid_parts_say at texts → excluded r ≡ None → ranks_alone r ≡ b
        → IfOk (cond b (Err (fault (place_of (codes "BYSETPOS") at texts) (Alone part.Positions))) (Ok r)) IsSpelled
    by-rank r true e free rank = tt
    by-rank r false e free rank = valid_is_spelled at texts r e free rank

    by-pair : (r : Recurrence) (o : Option (RulePart × RulePart)) → Ok r ≡ valid_parts_say at texts → excluded r ≡ o
        → IfOk (option_map_or (λ both. Err (later_of at texts both)) o (cond (ranks_alone r) (Err (fault (place_of (codes "BYSETPOS") at texts) (Alone part.Positions))) (Ok r))) IsSpelled
    by-pair r (Some both) e pair = tt
    by-pair r None e pair = by-rank r (ranks_alone r) e pair refl

    by-result : (o : Result Recurrence ParseRuleError) → o ≡ valid_parts_say at texts → IfOk (checked at texts o) IsSpelled
    by-result (Err why) e = tt
    by-result (Ok r) e = by-pair r (excluded r) e refl

recurrence-is : (text : List ℕ) → IfOk (recurrence_on text) IsSpelled
recurrence-is text =
    either (has_value text && all_ignored (parameters_on text)) _ (recurrence-at (length (front_outside 58 text) + 1) (parts_at 59 (rest_outside 58 text)))
  where
    either : (b : Bool) (r : Result Recurrence ParseRuleError) → IfOk r IsSpelled → IfOk (cond b r (Err (fault 0 UnknownPart))) IsSpelled
    either true r h = h
    either false r h = tt

-- the recurrence of a set without one
once-spelled : IsSpelled once
once-spelled = record {
  period = tt;
  interval = (omega arith, omega arith);
  each_week = All-nil IsWeek;
  each_year_day = All-nil IsPosition;
  each_month_day = All-nil IsMonthDay;
  each_weekday = All-nil IsByDay;
  each_hour = All-nil IsHour;
  each_minute = All-nil IsMinute;
  each_second = All-nil IsSecond;
  each_position = All-nil IsPosition;
  allowed = refl;
  ranked = refl;
  end = (omega arith, omega arith);
}

-- ---- values
-- a value that each parameter allows
abbrev IsAllowed : List (List ℕ) → DateOrTime → Type 0
IsAllowed ps v = IsDateOrTime v × (all_allow ps v ≡ true)

part-dates : (part : Option (List ℕ)) → IfSome (option_and_then date_or_time_of part) IsDateOrTime
part-dates None = tt
part-dates (Some part) = dates part

value-is : (ps : List (List ℕ)) (word : List ℕ) → IfSome (value_of ps word) (IsAllowed ps)
value-is ps word =
    if_there IsDateOrTime (IsAllowed ps) (if_allowed ps) (option_and_then date_or_time_of (read_part ps word)) (λ v h. guarded (IsAllowed ps) (all_allow ps v) v (λ e. (h, e)))
    (part-dates (read_part ps word))

-- the values of a line, which are readings without `Z` if the line names a zone
record AreGiven (ps : List (List ℕ)) (vs : List DateOrTime) : Type 0 where
  all : All IsDateOrTime vs
  local : (zone : List ℕ) → first_zone ps ≡ Some zone → (is_zone_name zone ≡ true) × (list_any is_local vs ≡ true)

some-given : (ps : List (List ℕ)) (text : List ℕ) (texts : List (List ℕ)) → IfSome (each (value_of ps) (text ∷ texts)) (AreGiven ps)
some-given ps text texts =
    both (value_of ps text) (each (value_of ps) texts) (value-is ps text) (each-is IsDateOrTime (value_of ps) (λ word. IfSome_then (value_of ps word) (value-is ps word) (λ v h. h.0)) texts)
  where
    both : (o : Option DateOrTime) (p : Option (List DateOrTime)) → IfSome o (IsAllowed ps) → IfSome p (All IsDateOrTime)
        → IfSome (option_map (λ pair. pair.0 ∷ pair.1) (option_zip o p)) (AreGiven ps)
    both None p h k = tt
    both (Some v) None h k = tt
    both (Some v) (Some vs) h k = record {
      all = All-cons IsDateOrTime v vs h.0 k;
      local = λ zone e. let both = zone-if ps v zone e h.1 in (both.0, or_left (is_local v) (list_any is_local vs) both.1);
    }

values-given : (ps : List (List ℕ)) (value : List ℕ) → IfSome (list_of (value_of ps) value) (AreGiven ps)
values-given ps value =
    let parts = parts_at-some 44 value in
    subst (λ texts. IfSome (each (value_of ps) texts) (AreGiven ps)) (sym parts.2) (some-given ps parts.0 parts.1)

-- ---- the parts that lines say
abbrev IsZoneIn : SetDraft → Option (List ℕ) → Type 0
IsZoneIn d None = ⊤
IsZoneIn d (Some zone) = (is_zone_name zone ≡ true) × (some_local d ≡ true)

record IsDraft (d : SetDraft) : Type 0 where
  start : IfSome d.start IsDateOrTime
  recurrence : IfSome d.recurrence IsSpelled
  each_date : All IsDateOrTime d.dates
  each_exception : All IsDateOrTime d.exceptions
  zone : IsZoneIn d d.zone

-- the parts after the value of a line
record IsNamed (ps : List (List ℕ)) (d : SetDraft) : Type 0 where
  draft : IsDraft d
  local : (zone : List ℕ) → first_zone ps ≡ Some zone → (is_zone_name zone ≡ true) × (some_local d ≡ true)

more-local : (d e : SetDraft) (zone : Option (List ℕ)) → (some_local d ≡ true → some_local e ≡ true) → IsZoneIn d zone → IsZoneIn e zone
more-local d e None h k = tt
more-local d e (Some zone) h k = (k.0, h k.1)

start-is : (d : SetDraft) (ps : List (List ℕ)) (o : Option DateOrTime) → IsDraft d → d.start ≡ None → is_some o ≡ true → IfSome o (IsAllowed ps) → IsNamed ps (record d { start = o })
start-is d ps None h none e k = absurd (false≢true e)
start-is d ps (Some v) h none e k = record {
  draft = record {
    start = k.0;
    recurrence = h.recurrence;
    each_date = h.each_date;
    each_exception = h.each_exception;
    zone = more-local d (record d { start = Some v }) d.zone
        (λ e. or_right (is_local v) _ (sym (ap (λ s. local_start s || (list_any is_local d.dates || list_any is_local d.exceptions)) none) ∙ e)) h.zone;
  };
  local = λ zone e. let both = zone-if ps v zone e k.1 in (both.0, or_left (is_local v) _ both.1);
}

rule-is : (d : SetDraft) (ps : List (List ℕ)) (o : Result Recurrence ParseRuleError) → IsDraft d → option_map Rule (result_err o) ≡ None → IfOk o IsSpelled
    → ((r : Recurrence) (zone : List ℕ) → o ≡ Ok r → first_zone ps ≡ Some zone → ⊥)
    → IsNamed ps (record d { recurrence = result_ok o })
rule-is d ps (Err why) h e k none = absurd (cc)
rule-is d ps (Ok r) h e k none = record {
  draft = record {
    start = h.start;
    recurrence = k;
    each_date = h.each_date;
    each_exception = h.each_exception;
    zone = more-local d (record d { recurrence = Some r }) d.zone (λ some. some) h.zone;
  };
  local = λ zone named. absurd (none r zone refl named);
}

any-first : (ds vs : List DateOrTime) → list_any is_local ds ≡ true → list_any is_local (ds ++ vs) ≡ true
any-first ds vs h = list_any-append is_local ds vs ∙ or_left (list_any is_local ds) (list_any is_local vs) h

any-other : (ds vs : List DateOrTime) → list_any is_local vs ≡ true → list_any is_local (ds ++ vs) ≡ true
any-other ds vs h = list_any-append is_local ds vs ∙ or_right (list_any is_local ds) (list_any is_local vs) h

or-more : (a b c x y : Bool) → (b ≡ true → x ≡ true) → (c ≡ true → y ≡ true) → a || (b || c) ≡ true → a || (x || y) ≡ true
or-more true b c x y h k e = refl
or-more false true c x y h k e = or_left x y (h refl)
or-more false false c x y h k e = or_right x y (k e)

dates-is : (d : SetDraft) (ps : List (List ℕ)) (o : Option (List DateOrTime)) → IsDraft d → is_some o ≡ true → IfSome o (AreGiven ps)
    → IsNamed ps (record d { dates = d.dates ++ unwrap_or o [] })
dates-is d ps None h e k = absurd (false≢true e)
dates-is d ps (Some vs) h e k = record {
  draft = record {
    start = h.start;
    recurrence = h.recurrence;
    each_date = All-append IsDateOrTime d.dates vs h.each_date k.all;
    each_exception = h.each_exception;
    zone = more-local d (record d { dates = d.dates ++ vs }) d.zone
        (or-more (local_start d.start) (list_any is_local d.dates) (list_any is_local d.exceptions) _ _ (any-first d.dates vs) (λ e. e)) h.zone;
  };
  local = λ zone e.
      let both = k.local zone e in
      (both.0, or_right (local_start d.start) _ (or_left _ (list_any is_local d.exceptions) (any-other d.dates vs both.1)));
}

exceptions-is : (d : SetDraft) (ps : List (List ℕ)) (o : Option (List DateOrTime)) → IsDraft d → is_some o ≡ true → IfSome o (AreGiven ps)
    → IsNamed ps (record d { exceptions = d.exceptions ++ unwrap_or o [] })
exceptions-is d ps None h e k = absurd (false≢true e)
exceptions-is d ps (Some vs) h e k = record {
  draft = record {
    start = h.start;
    recurrence = h.recurrence;
    each_date = h.each_date;
    each_exception = All-append IsDateOrTime d.exceptions vs h.each_exception k.all;
    zone = more-local d (record d { exceptions = d.exceptions ++ vs }) d.zone
        (or-more (local_start d.start) (list_any is_local d.dates) (list_any is_local d.exceptions) _ _ (λ e. e) (any-first d.exceptions vs)) h.zone;
  };
  local = λ zone e.
      let both = k.local zone e in
      (both.0, or_right (local_start d.start) _ (or_right (list_any is_local d.dates) _ (any-other d.exceptions vs both.1)));
}

-- ---- lines
named-is : (its : SetLine) (d : SetDraft) (text : List ℕ) → IsDraft d → kind_of text ≡ Some its → value_error d text its ≡ None
    → IsNamed (parameters_on text) (with_value d text its)
named-is line.Start d text h e k =
    start-is d (parameters_on text) (value_on text) h (no-value d.start _ (first-none _ _ k)) (and_parts _ (is_some (value_on text)) (passes _ _ (second-none _ _ k))).1 (value-is (parameters_on text) (rest_outside 58 text))
named-is line.Rule d text h e k =
    rule-is d (parameters_on text) (recurrence_on text) h (second-none _ _ k) (recurrence-is text) (no-zone text)
named-is line.Dates d text h e k = dates-is d (parameters_on text) (values_on text) h (passes _ _ (second-none _ _ k)) (values-given (parameters_on text) (rest_outside 58 text))
named-is line.Exceptions d text h e k = exceptions-is d (parameters_on text) (values_on text) h (passes _ _ (second-none _ _ (second-none _ _ k))) (values-given (parameters_on text) (rest_outside 58 text))

zone-is : (d : SetDraft) (ps : List (List ℕ)) → IsNamed ps d → IsDraft (record d { zone = option_or d.zone (first_zone ps) })
zone-is d ps h = record {
  start = h.draft.start;
  recurrence = h.draft.recurrence;
  each_date = h.draft.each_date;
  each_exception = h.draft.each_exception;
  zone = by-zones d.zone (first_zone ps) refl h.draft.zone;
}
  where
    by-zones : (s f : Option (List ℕ)) → first_zone ps ≡ f → IsZoneIn d s → IsZoneIn d (option_or s f)
    by-zones None None g k = tt
    by-zones None (Some zone) g k = h.local zone g
    by-zones (Some zone) f g k = k

line-is : (d : SetDraft) (text : List ℕ) → IsDraft d → error_after d text ≡ None → IsDraft (with_line d text)
line-is d text h e = unless-empty (eqb (length text) 0) e (by-kind (kind_of text) refl)
  where
    with : Option SetLine → SetDraft
    with o = option_map_or (λ its. with_zone (with_value d text its) text) o d

    by : Option SetLine → Option ParseSetErrorKind
    by o = option_map_or (λ its. option_or (value_error d text its) (zone_error d text its)) o (Some Unknown)

    by-kind : (o : Option SetLine) → kind_of text ≡ o → by o ≡ None → IsDraft (with o)
    by-kind None k none = absurd (cc)
    by-kind (Some its) k none = zone-is (with_value d text its) (parameters_on text) (named-is its d text h k (first-none _ _ none))

    unless-empty : (b : Bool) → cond b None (by (kind_of text)) ≡ None → (by (kind_of text) ≡ None → IsDraft (with (kind_of text))) → IsDraft (cond b d (with (kind_of text)))
    unless-empty true none k = h
    unless-empty false none k = k none

lines-are : (before after : List (List ℕ)) → AreValid (before ++ after) → IsDraft (parts_of before) → IsDraft (parts_of (before ++ after))
lines-are before [] valid h = subst (λ lines. IsDraft (parts_of lines)) (sym (append-nil before)) h
lines-are before (text ∷ after) valid h =
    let none : error_after (parts_of before) text ≡ None = sym (error-here before text after) ∙ valid (length before) in
    let grown = append_assoc before (text ∷ []) after in
    subst (λ lines. IsDraft (parts_of lines)) grown
    (lines-are (before ++ text ∷ []) after (subst AreValid (sym grown) valid) (subst IsDraft (sym (parts-more before text none)) (line-is (parts_of before) text h none)))

-- ---- the whole
finished-is : (d : SetDraft) (v : DateOrTime) → d.start ≡ Some v → IsDraft d → IsSpelledSet (parts_from d v)
finished-is d v e h = record {
  start = subst (λ s. IfSome s IsDateOrTime) e h.start;
  recurrence = recurrence-or d.recurrence h.recurrence;
  each_date = h.each_date;
  each_exception = h.each_exception;
  zone = in-set d.zone h.zone;
}
  where
    recurrence-or : (o : Option Recurrence) → IfSome o IsSpelled → IsSpelled (unwrap_or o once)
    recurrence-or None k = once-spelled
    recurrence-or (Some r) k = k

    in-set : (zone : Option (List ℕ)) → IsZoneIn d zone → IsZoneOf (parts_from d v) zone
    in-set None k = tt
    in-set (Some zone) k = (k.0, sym (ap (λ s. local_start s || (list_any is_local d.dates || list_any is_local d.exceptions)) e) ∙ k.1)

pub set-is : (text : List ℕ) (p : SetParts) → SaysSet (lines_of text) p → IsSpelledSet p
set-is text p says =
    let none : IsDraft (parts_of []) = record { start = tt; recurrence = tt; each_date = All-nil IsDateOrTime; each_exception = All-nil IsDateOrTime; zone = tt } in
    subst IsSpelledSet (sym says.is) (finished-is (parts_of (lines_of text)) p.start says.start (lines-are [] (lines_of text) says.valid none))
