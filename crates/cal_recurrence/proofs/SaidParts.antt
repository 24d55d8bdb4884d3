-- The parts of a text, read one after another into a draft, say the recurrence of their values.
use Rattle.std.proofs.Common.{◌≡◌, ℕ, ◌+◌, ◌-◌, Bool, true, false, cond, eqb, not, List, [], ◌∷◌, ◌++◌, append-nil, append_assoc, length, Option, Some, None, Result, Ok, Err, refl, sym, ap, subst, ◌∙◌, arith}
use Rattle.std.specs.Prelude.{◌||◌, codes, is_some, option_and_then, option_map, unwrap_or, IfSome}
use Rattle.std.specs.List.{list_any}
use Rattle.std.specs.Option.{option_map_or, option_or, option_zip}
use Rattle.std.specs.Str.{str_to_ascii_lowercase}
use Rattle.std.proofs.lemmas.Bool.{false≢true, ne_eqb, or_parts, true≢false}
use Rattle.std.proofs.lemmas.Slice.Eq.{bytes_eq-Decides}
use Rattle.cal_recurrence.specs.Days.{has_end}
use Rattle.cal_recurrence.specs.DateWords.{date_or_time_of}
use Rattle.cal_recurrence.specs.Drafts.{and_on, is_given, nothing, put, put_part, put_value, read_on}
use Rattle.cal_recurrence.specs.FaultText.{part_name}
use Rattle.cal_recurrence.specs.Text.{each, end_said, fault, first_error, has_few_words, is_part, is_value, list_of, part_error, place_of, recurrence_said, repeats, said, valid_parts_say, value_error, value_in}
use Rattle.cal_recurrence.specs.Words.{front_at, is_alike, rest_at, part_of, frequency_of, weekday_of, count_of, month_of, month_day_of, week_of, by_day_of, by_hour_of, by_minute_of, by_second_of, position_of}
use Rattle.cal_recurrence.specs.declared.date_or_time.DateOrTime.{DateOrTime}
use Rattle.cal_recurrence.specs.declared.draft.Draft.{Draft}
use Rattle.cal_recurrence.specs.declared.fault.ParseRuleError.{ParseRuleError}
use Rattle.cal_recurrence.specs.declared.fault.ParseRuleErrorKind.{ParseRuleErrorKind}
use Rattle.cal_recurrence.specs.declared.fault.ParseRuleErrorKind.TheVariants.{Missing, TooMany, Twice, Unknown, Value}
use Rattle.cal_recurrence.specs.declared.fault.RulePart.{RulePart}
use Rattle.cal_recurrence.specs.declared.fault.RulePart.TheVariants as part
use Rattle.cal_recurrence.specs.declared.recurrence.Recurrence.{Recurrence}
use Rattle.cal_recurrence.specs.declared.recurrence.RuleEnd.TheVariants.{Never, Until, Count}
use Rattle.cal_recurrence.proofs.Avoided.{parts_at-some}
use Rattle.cal_recurrence.proofs.GivenParts.{either}
use Rattle.cal_recurrence.proofs.SaidLines.{or-none}

-- ---- names
lower : (word name : List ℕ) → is_alike word name ≡ true → str_to_ascii_lowercase word ≡ str_to_ascii_lowercase name
lower word name h = (bytes_eq-Decides (str_to_ascii_lowercase word) (str_to_ascii_lowercase name)).0 h

-- the part that a word names
pub of-name : (at : RulePart) (word : List ℕ) → is_alike word (part_name at) ≡ true → part_of word ≡ Some at
of-name part.Frequency word h = rw (lower word (codes "FREQ") h) refl
of-name part.Interval word h = rw (lower word (codes "INTERVAL") h) refl
of-name part.WeekStart word h = rw (lower word (codes "WKST") h) refl
of-name part.Months word h = rw (lower word (codes "BYMONTH") h) refl
of-name part.Weeks word h = rw (lower word (codes "BYWEEKNO") h) refl
of-name part.YearDays word h = rw (lower word (codes "BYYEARDAY") h) refl
of-name part.MonthDays word h = rw (lower word (codes "BYMONTHDAY") h) refl
of-name part.Weekdays word h = rw (lower word (codes "BYDAY") h) refl
of-name part.Hours word h = rw (lower word (codes "BYHOUR") h) refl
of-name part.Minutes word h = rw (lower word (codes "BYMINUTE") h) refl
of-name part.Seconds word h = rw (lower word (codes "BYSECOND") h) refl
of-name part.Positions word h = rw (lower word (codes "BYSETPOS") h) refl
of-name part.Until word h = rw (lower word (codes "UNTIL") h) refl
of-name part.Count word h = rw (lower word (codes "COUNT") h) refl

names : (word : List ℕ) → IfSome (part_of word) (λ at. is_alike word (part_name at) ≡ true)
names word =
    let P = λ (at : RulePart). is_alike word (part_name at) ≡ true in
    either P _ (Some part.Frequency) _ (λ e. e) (
    either P _ (Some part.Interval) _ (λ e. e) (
    either P _ (Some part.WeekStart) _ (λ e. e) (
    either P _ (Some part.Months) _ (λ e. e) (
    either P _ (Some part.Weeks) _ (λ e. e) (
    either P _ (Some part.YearDays) _ (λ e. e) (
    either P _ (Some part.MonthDays) _ (λ e. e) (
    either P _ (Some part.Weekdays) _ (λ e. e) (
    either P _ (Some part.Hours) _ (λ e. e) (
    either P _ (Some part.Minutes) _ (λ e. e) (
    either P _ (Some part.Seconds) _ (λ e. e) (
    either P _ (Some part.Positions) _ (λ e. e) (
    either P _ (Some part.Until) _ (λ e. e) (
    either P _ (Some part.Count) None (λ e. e) tt)))))))))))))

pub name-of : (at : RulePart) (word : List ℕ) → part_of word ≡ Some at → is_alike word (part_name at) ≡ true
name-of at word h = subst (λ o. IfSome o (λ at. is_alike word (part_name at) ≡ true)) h (names word)

-- two parts have the same name
abbrev same : RulePart → RulePart → Bool
same at p = is_alike (part_name at) (part_name p)

part-test : (at p : RulePart) (text : List ℕ) → part_of (front_at 61 text) ≡ Some at → is_part p text ≡ same at p
part-test at p text h =
    rw (lower (front_at 61 text) (part_name at) (name-of at (front_at 61 text) h)) refl

same-part : (at p : RulePart) → same at p ≡ true → p ≡ at
same-part at p h =
    let one = of-name p (part_name at) h in
    let other = of-name at (part_name at) ((bytes_eq-Decides (str_to_ascii_lowercase (part_name at)) (str_to_ascii_lowercase (part_name at))).1 refl) in
    let both : Some p ≡ Some at = sym one ∙ other in cc

-- ---- the values of one more part
-- the draft of some values
abbrev pub draft_of : (RulePart → Option (List ℕ)) → Draft
draft_of v = record {
  recurrence = recurrence_said v;
  has_frequency = is_some (v part.Frequency);
  has_interval = is_some (v part.Interval);
  has_week_start = is_some (v part.WeekStart);
}

-- the values with that of one more part
abbrev with_value : (RulePart → Option (List ℕ)) → RulePart → List ℕ → RulePart → Option (List ℕ)
with_value v at value p = cond (same at p) (Some value) (v p)

value_in-append : (texts : List (List ℕ)) (text : List ℕ) (p : RulePart)
    → value_in (texts ++ text ∷ []) p ≡ option_or (value_in texts p) (cond (is_part p text) (Some (rest_at 61 text)) None)
value_in-append [] text p = refl
value_in-append (first ∷ texts) text p = either-first (is_part p first) (Some (rest_at 61 first)) _ _ _ refl (value_in-append texts text p)
  where
    either-first : {X : Type 0} (b : Bool) (x whole front last : Option X) → option_or x last ≡ x → whole ≡ option_or front last → cond b x whole ≡ option_or (cond b x front) last
    either-first true x whole front last same e = sym same
    either-first false x whole front last same e = e

value_in-more : (before : List (List ℕ)) (text : List ℕ) (at p : RulePart) → part_of (front_at 61 text) ≡ Some at → value_in before at ≡ None
    → value_in (before ++ text ∷ []) p ≡ with_value (value_in before) at (rest_at 61 text) p
value_in-more before text at p named none =
    value_in-append before text p ∙ ap (λ b. option_or (value_in before p) (cond b (Some (rest_at 61 text)) None)) (part-test at p text named) ∙ by (same at p) refl
  where
    by : (b : Bool) → same at p ≡ b → option_or (value_in before p) (cond b (Some (rest_at 61 text)) None) ≡ cond b (Some (rest_at 61 text)) (value_in before p)
    by true e = ap (λ o. option_or o (Some (rest_at 61 text))) (ap (value_in before) (same-part at p e) ∙ none)
    by false e = or-none (value_in before p)

pub same-draft : (v w : RulePart → Option (List ℕ)) → ((p : RulePart) → v p ≡ w p) → draft_of v ≡ draft_of w
same-draft v w h =
    rw (h part.Frequency, h part.Interval, h part.WeekStart, h part.Months, h part.Weeks, h part.YearDays, h part.MonthDays, h part.Weekdays, h part.Hours, h part.Minutes, h part.Seconds, h part.Positions, h part.Until, h part.Count) refl

-- ---- parts that were given
-- a part has a value among these, or the other end has
abbrev has_value : (RulePart → Option (List ℕ)) → RulePart → Bool
has_value v part.Until = is_some (v part.Until) || is_some (v part.Count)
has_value v part.Count = is_some (v part.Until) || is_some (v part.Count)
has_value v at = is_some (v at)

any-part : (p : RulePart) (texts : List (List ℕ)) → list_any (is_part p) texts ≡ is_some (value_in texts p)
any-part p [] = refl
any-part p (text ∷ texts) = by (is_part p text) (any-part p texts)
  where
    by : (b : Bool) → list_any (is_part p) texts ≡ is_some (value_in texts p) → b || list_any (is_part p) texts ≡ is_some (cond b (Some (rest_at 61 text)) (value_in texts p))
    by true e = refl
    by false e = e

any-either : {X : Type 0} (f g : X → Bool) (xs : List X) → list_any (λ x. f x || g x) xs ≡ list_any f xs || list_any g xs
any-either f g [] = refl
any-either f g (x ∷ xs) = ap (λ b. (f x || g x) || b) (any-either f g xs) ∙ regrouped (f x) (g x) (list_any f xs) (list_any g xs)
  where
    regrouped : (a b c d : Bool) → (a || b) || (c || d) ≡ (a || c) || (b || d)
    regrouped true b c d = refl
    regrouped false true true d = refl
    regrouped false true false d = refl
    regrouped false false c d = refl

any-end : (texts : List (List ℕ)) → list_any (λ text. is_part part.Until text || is_part part.Count text) texts ≡ is_some (value_in texts part.Until) || is_some (value_in texts part.Count)
any-end texts =
    any-either (is_part part.Until) (is_part part.Count) texts
    ∙ ap (λ b. b || list_any (is_part part.Count) texts) (any-part part.Until texts) ∙ ap (λ b. is_some (value_in texts part.Until) || b) (any-part part.Count texts)

any-given : (at : RulePart) (texts : List (List ℕ)) → list_any (repeats at) texts ≡ has_value (value_in texts) at
any-given part.Frequency texts = any-part part.Frequency texts
any-given part.Interval texts = any-part part.Interval texts
any-given part.WeekStart texts = any-part part.WeekStart texts
any-given part.Months texts = any-part part.Months texts
any-given part.Weeks texts = any-part part.Weeks texts
any-given part.YearDays texts = any-part part.YearDays texts
any-given part.MonthDays texts = any-part part.MonthDays texts
any-given part.Weekdays texts = any-part part.Weekdays texts
any-given part.Hours texts = any-part part.Hours texts
any-given part.Minutes texts = any-part part.Minutes texts
any-given part.Seconds texts = any-part part.Seconds texts
any-given part.Positions texts = any-part part.Positions texts
any-given part.Until texts = any-end texts
any-given part.Count texts = any-end texts

-- each value is one of its part
abbrev AreValues : (RulePart → Option (List ℕ)) → Type 0
AreValues v = (p : RulePart) → IfSome (v p) (λ value. is_value p value ≡ true)

list-given : {X : Type 0} (meaning : List ℕ → Option X) (o : Option (List ℕ)) → IfSome o (λ value. is_some (list_of meaning value) ≡ true)
    → not (eqb (length (said (list_of meaning) [] o)) 0) ≡ is_some o
list-given meaning None h = refl
list-given {X} meaning (Some value) h =
    let parts = parts_at-some 44 value in
    by (list_of meaning value) (meaning parts.0) (each meaning parts.1) h (ap (each meaning) parts.2)
  where
    by : (o : Option (List X)) (first : Option X) (others : Option (List X)) → is_some o ≡ true → o ≡ option_map (λ both. both.0 ∷ both.1) (option_zip first others)
        → not (eqb (length (unwrap_or o [])) 0) ≡ true
    by None first others h e = absurd (false≢true h)
    by (Some xs) None others h e = absurd (cc)
    by (Some xs) (Some x) None h e = absurd (cc)
    by (Some xs) (Some x) (Some ys) h e = let is : xs ≡ x ∷ ys = cc in rw is (ap not (ne_eqb (length (x ∷ ys)) 0 (λ z. omega (arith, z))))

end-given : (u c : Option (List ℕ)) → IfSome u (λ value. is_some (date_or_time_of value) ≡ true) → IfSome c (λ value. is_some (count_of 4294967295 value) ≡ true)
    → has_end (end_said u c) ≡ is_some u || is_some c
end-given None None h k = refl
end-given None (Some count) h k = by (count_of 4294967295 count) k
  where
    by : (o : Option ℕ) → is_some o ≡ true → has_end (unwrap_or (option_map Count o) Never) ≡ true
    by None e = absurd (false≢true e)
    by (Some n) e = refl
end-given (Some until) c h k = by (date_or_time_of until) h
  where
    by : (o : Option DateOrTime) → is_some o ≡ true → has_end (unwrap_or (option_or (option_map Until o) (option_map Count (option_and_then (count_of 4294967295) c))) Never) ≡ true
    by None e = absurd (false≢true e)
    by (Some last) e = refl

draft-given : (v : RulePart → Option (List ℕ)) (at : RulePart) → AreValues v → is_given (draft_of v) at ≡ has_value v at
draft-given v part.Frequency h = refl
draft-given v part.Interval h = refl
draft-given v part.WeekStart h = refl
draft-given v part.Months h = list-given month_of (v part.Months) (h part.Months)
draft-given v part.Weeks h = list-given week_of (v part.Weeks) (h part.Weeks)
draft-given v part.YearDays h = list-given position_of (v part.YearDays) (h part.YearDays)
draft-given v part.MonthDays h = list-given month_day_of (v part.MonthDays) (h part.MonthDays)
draft-given v part.Weekdays h = list-given by_day_of (v part.Weekdays) (h part.Weekdays)
draft-given v part.Hours h = list-given by_hour_of (v part.Hours) (h part.Hours)
draft-given v part.Minutes h = list-given by_minute_of (v part.Minutes) (h part.Minutes)
draft-given v part.Seconds h = list-given by_second_of (v part.Seconds) (h part.Seconds)
draft-given v part.Positions h = list-given position_of (v part.Positions) (h part.Positions)
draft-given v part.Until h = end-given (v part.Until) (v part.Count) (h part.Until) (h part.Count)
draft-given v part.Count h = end-given (v part.Until) (v part.Count) (h part.Until) (h part.Count)

-- ---- a step
put-one : {X Y : Type 0} (to : X → Y) (o : Option X) (y : Y) → ((x : X) → o ≡ Some x → to x ≡ y) → option_map to o ≡ cond (is_some o) (Some y) None
put-one to None y h = refl
put-one to (Some x) y h = ap Some (h x refl)

is-none : (o : Option (List ℕ)) → is_some o ≡ false → o ≡ None
is-none None e = refl
is-none (Some x) e = absurd (true≢false e)

put-said : (v : RulePart → Option (List ℕ)) (at : RulePart) (value : List ℕ) → has_value v at ≡ false
    → put (draft_of v) at value ≡ cond (is_value at value) (Some (draft_of (with_value v at value))) None
put-said v part.Frequency value new = put-one _ (frequency_of value) _ (λ x e. rw e refl)
put-said v part.Interval value new = put-one _ (count_of 4294967295 value) _ (λ x e. rw e refl)
put-said v part.WeekStart value new = put-one _ (weekday_of value) _ (λ x e. rw e refl)
put-said v part.Months value new = put-one _ (list_of month_of value) _ (λ x e. rw e refl)
put-said v part.Weeks value new = put-one _ (list_of week_of value) _ (λ x e. rw e refl)
put-said v part.YearDays value new = put-one _ (list_of position_of value) _ (λ x e. rw e refl)
put-said v part.MonthDays value new = put-one _ (list_of month_day_of value) _ (λ x e. rw e refl)
put-said v part.Weekdays value new = put-one _ (list_of by_day_of value) _ (λ x e. rw e refl)
put-said v part.Hours value new = put-one _ (list_of by_hour_of value) _ (λ x e. rw e refl)
put-said v part.Minutes value new = put-one _ (list_of by_minute_of value) _ (λ x e. rw e refl)
put-said v part.Seconds value new = put-one _ (list_of by_second_of value) _ (λ x e. rw e refl)
put-said v part.Positions value new = put-one _ (list_of position_of value) _ (λ x e. rw e refl)
put-said v part.Until value new = put-one _ (date_or_time_of value) _ (λ x e. rw e refl)
put-said v part.Count value new =
    let until = is-none (v part.Until) (or_parts (is_some (v part.Until)) (is_some (v part.Count)) new).0 in
    put-one _ (count_of 4294967295 value) _ (λ x e. rw (e, until) refl)

no-value : (v : RulePart → Option (List ℕ)) (at : RulePart) → has_value v at ≡ false → v at ≡ None
no-value v part.Frequency new = is-none _ new
no-value v part.Interval new = is-none _ new
no-value v part.WeekStart new = is-none _ new
no-value v part.Months new = is-none _ new
no-value v part.Weeks new = is-none _ new
no-value v part.YearDays new = is-none _ new
no-value v part.MonthDays new = is-none _ new
no-value v part.Weekdays new = is-none _ new
no-value v part.Hours new = is-none _ new
no-value v part.Minutes new = is-none _ new
no-value v part.Seconds new = is-none _ new
no-value v part.Positions new = is-none _ new
no-value v part.Until new = is-none _ (or_parts _ _ new).0
no-value v part.Count new = is-none _ (or_parts _ _ new).1

-- a text is a part with a valid value that no text before it repeats
pub record IsNew (before : List (List ℕ)) (text : List ℕ) : Type 0 where
  pub part : RulePart
  pub named : part_of (front_at 61 text) ≡ Some part
  pub new : list_any (repeats part) before ≡ false
  pub few : has_few_words (rest_at 61 text) ≡ true
  pub value : is_value part (rest_at 61 text) ≡ true

pub new-part : (before : List (List ℕ)) (text : List ℕ) → part_error before text ≡ None → IsNew before text
new-part before text none = by-part (part_of (front_at 61 text)) refl none
  where
    by-tests : (at : RulePart) (few given valid : Bool) → cond (not few) (Some (TooMany at)) (cond given (Some (Twice at)) (cond valid None (Some (Value at)))) ≡ None → (given ≡ false) × (few ≡ true) × (valid ≡ true)
    by-tests at false given valid e = absurd (cc)
    by-tests at true true valid e = absurd (cc)
    by-tests at true false false e = absurd (cc)
    by-tests at true false true e = (refl, refl, refl)

    by-part : (o : Option RulePart) → part_of (front_at 61 text) ≡ o → option_map_or (value_error before (rest_at 61 text)) o (Some Unknown) ≡ None → IsNew before text
    by-part None named e = absurd (cc)
    by-part (Some at) named e =
        let tests = by-tests at (has_few_words (rest_at 61 text)) (list_any (repeats at) before) (is_value at (rest_at 61 text)) e in
        record { part = at; named = named; new = tests.0; few = tests.1; value = tests.2 }

more-values : (before : List (List ℕ)) (text : List ℕ) → AreValues (value_in before) → part_error before text ≡ None → AreValues (value_in (before ++ text ∷ []))
more-values before text h none p =
    let is = new-part before text none in
    let free = no-value (value_in before) is.part (sym (any-given is.part before) ∙ is.new) in
    rw (value_in-more before text is.part p is.named free) (by is.part (same is.part p) refl is.value (h p))
  where
    by : (at : RulePart) (b : Bool) → same at p ≡ b → is_value at (rest_at 61 text) ≡ true → IfSome (value_in before p) (λ value. is_value p value ≡ true)
        → IfSome (cond b (Some (rest_at 61 text)) (value_in before p)) (λ value. is_value p value ≡ true)
    by at true e valid h = ap (λ q. is_value q (rest_at 61 text)) (same-part at p e) ∙ valid
    by at false e valid h = h

-- an error, or else a value
abbrev outcome : {X E : Type 0} → Option E → X → Result X E
outcome why x = option_map_or Err why (Ok x)

step : (before : List (List ℕ)) (text : List ℕ) → AreValues (value_in before)
    → put_part (draft_of (value_in before)) text ≡ outcome (part_error before text) (draft_of (value_in (before ++ text ∷ [])))
step before text h = by-part (part_of (front_at 61 text)) refl
  where
    v : RulePart → Option (List ℕ)
    v = value_in before

    value : List ℕ
    value = rest_at 61 text

    more : Draft
    more = draft_of (value_in (before ++ text ∷ []))

    by-tests : (at : RulePart) (few given valid : Bool) (o : Option Draft) → (given ≡ false → o ≡ cond valid (Some more) None)
        → cond (not few) (Err (TooMany at)) (cond given (Err (Twice at)) (option_map_or Ok o (Err (Value at))))
        ≡ outcome (cond (not few) (Some (TooMany at)) (cond given (Some (Twice at)) (cond valid None (Some (Value at))))) more
    by-tests at false given valid o e = refl
    by-tests at true true valid o e = refl
    by-tests at true false true o e = ap (λ d. option_map_or Ok d (Err (Value at))) (e refl)
    by-tests at true false false o e = ap (λ d. option_map_or Ok d (Err (Value at))) (e refl)

    by-part : (o : Option RulePart) → part_of (front_at 61 text) ≡ o
        → option_map_or (put_value (draft_of v) value) o (Err Unknown) ≡ outcome (option_map_or (value_error before value) o (Some Unknown)) more
    by-part None named = refl
    by-part (Some at) named =
        let given = draft-given v at h ∙ sym (any-given at before) in
        ap (λ b. cond (not (has_few_words value)) (Err (TooMany at)) (cond b (Err (Twice at)) (option_map_or Ok (put (draft_of v) at value) (Err (Value at))))) given
        ∙ by-tests at (has_few_words value) (list_any (repeats at) before) (is_value at value) (put (draft_of v) at value)
        (λ free. let new = sym (any-given at before) ∙ free in
        put-said v at value new
        ∙ ap (λ d. cond (is_value at value) (Some d) None) (same-draft (with_value v at value) (value_in (before ++ text ∷ [])) (λ p. sym (value_in-more before text at p named (no-value v at new)))))

-- ---- all parts
has-frequency : (before texts : List (List ℕ)) (text : List ℕ) → is_part part.Frequency text ≡ true → is_some (value_in (before ++ text ∷ texts) part.Frequency) ≡ true
has-frequency [] texts text h = ap (λ b. is_some (cond b (Some (rest_at 61 text)) (value_in texts part.Frequency))) h
has-frequency (first ∷ before) texts text h = either-first (is_part part.Frequency first) (rest_at 61 first) _ (has-frequency before texts text h)
  where
    either-first : (b : Bool) (x : List ℕ) (o : Option (List ℕ)) → is_some o ≡ true → is_some (cond b (Some x) o) ≡ true
    either-first true x o e = refl
    either-first false x o e = e

-- the recurrence of all parts, or `Missing` at a position
abbrev all_say : List (List ℕ) → ℕ → Result Recurrence ParseRuleError
all_say texts at = cond (is_some (value_in texts part.Frequency)) (Ok (recurrence_said (value_in texts))) (Err (fault at Missing))

read-after : (at : ℕ) (before texts : List (List ℕ)) → AreValues (value_in before)
    → read_on at (draft_of (value_in before)) texts ≡ option_map_or Err (first_error at before texts) (all_say (before ++ texts) (place_of (codes "FREQ") at texts))
read-after at before [] h = ap (λ texts. all_say texts (at - 1)) (sym (append-nil before))
read-after at before (text ∷ texts) h =
    ap (and_on at (λ more. read_on (at + length text + 1) more texts)) (step before text h)
    ∙ by-error (part_error before text) refl (read-after (at + length text + 1) (before ++ text ∷ []) texts)
  where
    next : ℕ
    next = at + length text + 1

    others : Draft → Result Recurrence ParseRuleError
    others more = read_on next more texts

    more : Draft
    more = draft_of (value_in (before ++ text ∷ []))

    by-place : (b : Bool) → is_part part.Frequency text ≡ b
        → all_say (before ++ text ∷ texts) (place_of (codes "FREQ") next texts) ≡ all_say (before ++ text ∷ texts) (cond b at (place_of (codes "FREQ") next texts))
    by-place true e = rw (has-frequency before texts text e) refl
    by-place false e = refl

    by-error : (o : Option ParseRuleErrorKind) → part_error before text ≡ o
        → (AreValues (value_in (before ++ text ∷ [])) → others more ≡ option_map_or Err (first_error next (before ++ text ∷ []) texts) (all_say ((before ++ text ∷ []) ++ texts) (place_of (codes "FREQ") next texts)))
        → and_on at others (outcome o more)
        ≡ option_map_or Err (option_or (option_map (fault at) o) (first_error next (before ++ text ∷ []) texts)) (all_say (before ++ text ∷ texts) (place_of (codes "FREQ") at (text ∷ texts)))
    by-error (Some why) e k = refl
    by-error None e k =
        k (more-values before text h e)
        ∙ ap (λ whole. option_map_or Err (first_error next (before ++ text ∷ []) texts) (all_say whole (place_of (codes "FREQ") next texts))) (append_assoc before (text ∷ []) texts)
        ∙ ap (option_map_or Err (first_error next (before ++ text ∷ []) texts)) (by-place (is_part part.Frequency text) refl)

pub read_said : (at : ℕ) (texts : List (List ℕ)) → read_on at nothing texts ≡ valid_parts_say at texts
read_said at texts = read-after at [] texts (λ p. tt)
