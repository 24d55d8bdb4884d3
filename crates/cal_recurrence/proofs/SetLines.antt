-- The lines of a set that was written, read back one after another.
use Rattle.std.proofs.Common.{◌≡◌, ℕ, ◌+◌, ◌-◌, ◌<◌, ◌≤◌, Bool, true, false, cond, eqb, not, List, [], ◌∷◌, ◌++◌, append-nil, append_assoc, length, length-append, map, take, Option, Some, None, Result, Ok, Err, inl, inr, refl, sym, ap, subst, ◌∙◌, arith}
use Rattle.std.specs.Prelude.{◌⊎◌, ⊤, codes, bytes_eq, nat_le, nat_lt, slice_index, IfSome, ◌&&◌, ◌||◌}
use Rattle.std.specs.List.{All, list_any}
use Rattle.std.specs.Option.{option_map_or, option_or}
use Rattle.std.proofs.lemmas.Bool.{and_from, and_parts, and_right, cases_Bool, false≢true, ne_eqb}
use Rattle.std.proofs.lemmas.Bool.Decides.{nat_tests}
use Rattle.std.proofs.lemmas.List.{get_or_at, take_at}
use Rattle.std.proofs.lemmas.List.Folds.{list_any-append}
use Rattle.std.proofs.lemmas.List.Elements.{All-head, All-tail}
use Rattle.std.proofs.lemmas.Slice.Eq.{bytes_eq-Decides}
use Rattle.cal_recurrence.specs.Buffers.{IsPut}
use Rattle.cal_recurrence.specs.SetText.{after_first_part, all_allow, all_name, are_periods, error_after, error_unless, first_zone, has_periods, has_room, is_local, is_name_byte, is_zone_name, kind_of, line_of, lines_of, parameters_of, parameters_on, parts_from, parts_of, recurrence_on, unless_error, unquoted, value_error, value_of, value_on, values_on, with_line, with_value, without_return, AreValid, SaysSet}
use Rattle.cal_recurrence.specs.SetWritten.{head_text, is_same_kind, line_end, more_text, parameter_text, set_text, values_text, IsSpelledSet, IsZoneOf}
use Rattle.cal_recurrence.specs.Spelled.{IsDateOrTime, IsSpelled}
use Rattle.cal_recurrence.specs.Text.{fault, parts_say, ReadsBack}
use Rattle.cal_recurrence.specs.Words.{first_bytes, front_outside, parts_at, rest_outside}
use Rattle.cal_recurrence.specs.Written.{date_or_time_text, list_text, text_of}
use Rattle.cal_recurrence.specs.declared.date_or_time.DateOrTime.{DateOrTime}
use Rattle.cal_recurrence.specs.declared.date_or_time.DateOrTime.TheVariants.{Date, Local, Utc}
use Rattle.cal_recurrence.specs.declared.fault.ParseRuleErrorKind.TheVariants.{Unknown as UnknownPart}
use Rattle.cal_recurrence.specs.declared.recurrence.Recurrence.{Recurrence}
use Rattle.cal_recurrence.specs.declared.set_fault.ParseSetErrorKind.{ParseSetErrorKind}
use Rattle.cal_recurrence.specs.declared.set_fault.ParseSetErrorKind.TheVariants.{OtherZone}
use Rattle.cal_recurrence.specs.declared.set_fault.SetLine.{SetLine}
use Rattle.cal_recurrence.specs.declared.set_fault.SetLine.TheVariants as line
use Rattle.cal_recurrence.specs.declared.set_draft.SetDraft.{SetDraft}
use Rattle.cal_recurrence.specs.declared.set_parts.SetParts.{SetParts}
use Rattle.cal_recurrence.proofs.Avoided.{avoids, avoids-append, avoids-cons, cut-here, from-all}
use Rattle.cal_recurrence.proofs.Outside.{cut-outside, cut-plain, front-outside, front-plain, rest-outside}
use Rattle.cal_recurrence.proofs.ReadDates.{date-word}
use Rattle.cal_recurrence.proofs.ReadParts.{after-name}
use Rattle.cal_recurrence.proofs.SaidLines.{ok-from, parts-more, some_local, valid-more}
use Rattle.cal_recurrence.proofs.ReadValues.{IsWord, AreWords, cut, joined, length-map, list-value, no-feed}

-- ---- one line after another
-- after lines that say the parts of the draft, the rest of the text says p
abbrev Reads : SetDraft → List ℕ → SetParts → Type 0
Reads draft rest p = (before : List (List ℕ)) → AreValid before → parts_of before ≡ draft → SaysSet (before ++ lines_of rest) p

-- the parts with one more line
abbrev put_line : SetDraft → List ℕ → Result SetDraft ParseSetErrorKind
put_line draft text = unless_error (error_after draft text) (with_line draft text)

pub without-return : (text : List ℕ) → without_return (text ++ 13 ∷ []) ≡ text
unfolding first_bytes
without-return text =
    let whole = text ++ 13 ∷ [] in
    let size : length whole - 1 ≡ length text = omega (arith, length-append text (13 ∷ [])) in
    let last : slice_index whole (length whole - 1) ≡ 13 = ap (slice_index whole) size ∙ get_or_at text 13 [] 0 (length text) refl in
    rw (last, size) (take_at text (13 ∷ []) (length text) refl)

one-line : (draft more : SetDraft) (text rest : List ℕ) (p : SetParts) → avoids 10 text ≡ true → put_line draft text ≡ Ok more → Reads more rest p
    → Reads draft (text ++ 13 ∷ 10 ∷ rest) p
one-line draft more text rest p plain put h before valid is =
    let both = ok-from (error_after draft text) (with_line draft text) more put in
    let none : error_after (parts_of before) text ≡ None = ap (λ d. error_after d text) is ∙ both.0 in
    let lines : lines_of (text ++ 13 ∷ 10 ∷ rest) ≡ text ∷ lines_of rest =
    ap lines_of (sym (append_assoc text (13 ∷ []) (10 ∷ rest)))
    ∙ ap (map without_return) (cut-here 10 (text ++ 13 ∷ []) rest (avoids-append 10 text (13 ∷ []) plain refl))
    ∙ ap (λ line. line ∷ lines_of rest) (without-return text) in
    subst (λ texts. SaysSet texts p) (append_assoc before (text ∷ []) (lines_of rest) ∙ ap (λ texts. before ++ texts) (sym lines))
    (h (before ++ text ∷ []) (valid-more before text valid none) (parts-more before text none ∙ ap (λ d. with_line d text) is ∙ both.1))

-- ---- the head of a line
-- the bytes that end lines, heads and parameters are not in the text
abbrev IsName : List ℕ → Type 0
IsName text = (avoids 10 text ≡ true) × (avoids 34 text ≡ true) × (avoids 58 text ≡ true) × (avoids 59 text ≡ true)

abbrev IsZone : Option (List ℕ) → Type 0
IsZone None = ⊤
IsZone (Some tzid) = is_zone_name tzid ≡ true

avoided : (byte : ℕ) (text : List ℕ) → ((x : ℕ) → is_name_byte x ≡ true → eqb x byte ≡ false) → is_zone_name text ≡ true → avoids byte text ≡ true
avoided byte [] other h = refl
avoided byte (x ∷ xs) other h =
    let both = and_parts (is_name_byte x) (is_zone_name xs) h in
    avoids-cons byte x xs (other x both.0) (avoided byte xs other both.1)

zone-name : (tzid : List ℕ) → is_zone_name tzid ≡ true → IsName tzid
zone-name tzid h =
    let each = λ (x : ℕ). others (eqb x 10) (eqb x 34) (eqb x 58) (eqb x 59) in
    (avoided 10 tzid (λ x e. (each x e).0) h, avoided 34 tzid (λ x e. (each x e).1) h, avoided 58 tzid (λ x e. (each x e).2) h, avoided 59 tzid (λ x e. (each x e).3) h)
  where
    others : (a b c d : Bool) → not a && (not b && (not c && not d)) ≡ true → (a ≡ false) × (b ≡ false) × (c ≡ false) × (d ≡ false)
    others false false false false e = (refl, refl, refl, refl)
    others false false false true e = absurd (false≢true e)
    others false false true d e = absurd (false≢true e)
    others false true c d e = absurd (false≢true e)
    others true b c d e = absurd (false≢true e)

-- such a name is in no quotation marks
bare-zone : (tzid : List ℕ) → is_zone_name tzid ≡ true → unquoted tzid ≡ tzid
bare-zone [] h = refl
bare-zone (x ∷ xs) h =
    let whole = x ∷ xs in
    let first : eqb x 34 ≡ false = plain (eqb x 34) (avoids 34 xs) (zone-name whole h).1 in
    rw (first, and_right (nat_le 2 (length whole)) false refl) refl
  where
    plain : (a b : Bool) → cond a false b ≡ true → a ≡ false
    plain true b e = absurd (false≢true e)
    plain false b e = refl

-- the parameters of a line with such a value
abbrev parameters : Option (List ℕ) → DateOrTime → List (List ℕ)
parameters tzid (Date n) = codes "VALUE=DATE" ∷ []
parameters None (Local z) = []
parameters (Some tzid) (Local z) = (codes "TZID=" ++ tzid) ∷ []
parameters tzid (Utc z) = []

record IsHead (name head : List ℕ) (its : List (List ℕ)) : Type 0 where
  feed : avoids 10 head ≡ true
  mark : avoids 34 head ≡ true
  colon : avoids 58 head ≡ true
  named : front_outside 59 head ≡ name
  parameters : parameters_of head ≡ its

one-parameter : (name parameter : List ℕ) → IsName name → IsName parameter → IsHead name (name ++ 59 ∷ parameter) (parameter ∷ [])
one-parameter name parameter h p = record {
  feed = avoids-append 10 name (59 ∷ parameter) h.0 p.0;
  mark = avoids-append 34 name (59 ∷ parameter) h.1 p.1;
  colon = avoids-append 58 name (59 ∷ parameter) h.2 p.2;
  named = front-outside 59 name parameter h.3 h.1;
  parameters = ap after_first_part (cut-outside 59 name parameter h.3 h.1 ∙ ap (λ texts. name ∷ texts) (cut-plain 59 parameter p.3 p.1));
}

no-parameter : (name : List ℕ) → IsName name → IsHead name (name ++ []) []
no-parameter name h =
    rw append-nil (record { feed = h.0; mark = h.1; colon = h.2; named = front-plain 59 name h.3 h.1; parameters = ap after_first_part (cut-plain 59 name h.3 h.1) })

head-is : (name : List ℕ) (tzid : Option (List ℕ)) (v : DateOrTime) → IsName name → IsZone tzid
    → IsHead name (name ++ parameter_text tzid v) (parameters tzid v)
head-is name tzid (Date n) h z = one-parameter name (codes "VALUE=DATE") h (refl, refl, refl, refl)
head-is name None (Local y) h z = no-parameter name h
head-is name (Some tzid) (Local y) h z = one-parameter name (codes "TZID=" ++ tzid) h (zone-name tzid z)
head-is name tzid (Utc y) h z = no-parameter name h

-- a line by its head and its value
record IsLine (whole : List ℕ) (its : SetLine) (texts : List (List ℕ)) (value : List ℕ) : Type 0 where
  some : eqb (length whole) 0 ≡ false
  kind : kind_of whole ≡ Some its
  parameters : parameters_on whole ≡ texts
  rest : rest_outside 58 whole ≡ value

line-by : (name head value : List ℕ) (its : SetLine) (texts : List (List ℕ)) → IsHead name head texts → line_of name ≡ Some its → IsLine (head ++ 58 ∷ value) its texts value
line-by name head value its texts h is =
    let whole = head ++ 58 ∷ value in
    let front = front-outside 58 head value h.colon h.mark in
    record {
      some = ne_eqb (length whole) 0 (λ e. omega (arith, e, length-append head (58 ∷ value)));
      kind = rw (front, h.named) is;
      parameters = rw front h.parameters;
      rest = rest-outside 58 head value h.colon h.mark;
    }

abbrev zone_error_in : Option (List ℕ) → List (List ℕ) → SetLine → Option ParseSetErrorKind
zone_error_in s texts its = option_map_or (λ zone. error_unless (all_name texts zone) (OtherZone its)) (option_or s (first_zone texts)) None

line-done : (d e : SetDraft) (whole : List ℕ) (its : SetLine) (texts : List (List ℕ)) (value : List ℕ) (s t : Option (List ℕ)) → IsLine whole its texts value → d.zone ≡ s → e.zone ≡ s
    → value_error d whole its ≡ None → with_value d whole its ≡ e → (zone_error_in s texts its ≡ None) × (option_or s (first_zone texts) ≡ t)
    → put_line d whole ≡ Ok (record e { zone = t })
line-done d e whole its texts value s t is zone same none next zones =
    rw (is.some, is.kind, none, next, zone, is.parameters, zones.0, same, zones.1) refl

-- ---- the zone of the lines so far
-- no line named the zone, or one did
abbrev Known : Option (List ℕ) → Option (List ℕ) → Type 0
Known tzid s = (s ≡ None) ⊎ (s ≡ tzid)

-- the zone after a line with such a value
abbrev zone_after : Option (List ℕ) → Option (List ℕ) → DateOrTime → Option (List ℕ)
zone_after tzid s (Date n) = s
zone_after None s (Local z) = s
zone_after (Some tzid) s (Local z) = Some tzid
zone_after tzid s (Utc z) = s

-- the lines so far named the zone, or have no reading without `Z`
abbrev IsKnown : Option (List ℕ) → SetDraft → Type 0
IsKnown tzid d = (d.zone ≡ tzid) ⊎ (d.zone ≡ None) × (some_local d ≡ false)

known-zone : (tzid : Option (List ℕ)) (d : SetDraft) → IsKnown tzid d → Known tzid d.zone
known-zone tzid d (inl h) = inr h
known-zone tzid d (inr h) = inl h.0

abbrev draft_of : Option DateOrTime → Option Recurrence → List DateOrTime → List DateOrTime → Option (List ℕ) → SetDraft
draft_of start r dates exceptions s = record { start = start; recurrence = r; dates = dates; exceptions = exceptions; zone = s }

same-bytes : (tzid : List ℕ) → bytes_eq tzid tzid && true ≡ true
same-bytes tzid = and_from (bytes_eq tzid tzid) true ((bytes_eq-Decides tzid tzid).1 refl) refl

-- before a line named the zone, and after it
abbrev IsZoned : SetLine → Option (List ℕ) → Option (List ℕ) → DateOrTime → Type 0
IsZoned its tzid s v = (zone_error_in s (parameters tzid v) its ≡ None) × (option_or s (first_zone (parameters tzid v)) ≡ zone_after tzid s v)

first-zone : (its : SetLine) (tzid : Option (List ℕ)) (v : DateOrTime) → IsZone tzid → IsZoned its tzid None v
first-zone its tzid (Date n) h = (refl, refl)
first-zone its None (Local z) h = (refl, refl)
first-zone its (Some tzid) (Local z) h = (ap (λ b. error_unless b (OtherZone its)) (same-bytes (unquoted tzid)), ap Some (bare-zone tzid h))
first-zone its tzid (Utc z) h = (refl, refl)

same-zone : (its : SetLine) (tzid : Option (List ℕ)) (v : DateOrTime) → IsZone tzid → IsZoned its tzid tzid v
same-zone its None v h = first-zone its None v h
same-zone its (Some tzid) (Date n) h = (refl, refl)
same-zone its (Some tzid) (Local z) h =
    (ap (λ name. error_unless (bytes_eq name tzid && true) (OtherZone its)) (bare-zone tzid h) ∙ ap (λ b. error_unless b (OtherZone its)) (same-bytes tzid), refl)
same-zone its (Some tzid) (Utc z) h = (refl, refl)

zone-put : (its : SetLine) (tzid s : Option (List ℕ)) (v : DateOrTime) → IsZone tzid → Known tzid s → IsZoned its tzid s v
zone-put its tzid s v z (inl h) = subst (λ t. IsZoned its tzid t v) (sym h) (first-zone its tzid v z)
zone-put its tzid s v z (inr h) = subst (λ t. IsZoned its tzid t v) (sym h) (same-zone its tzid v z)

-- ---- the values of a line
allowed : (tzid : Option (List ℕ)) (v w : DateOrTime) → IsZone tzid → is_same_kind v w ≡ true → all_allow (parameters tzid v) w ≡ true
allowed tzid (Date n) (Date m) z h = refl
allowed tzid (Date n) (Local y) z h = absurd (false≢true h)
allowed tzid (Date n) (Utc y) z h = absurd (false≢true h)
allowed None (Local y) w z h = refl
allowed (Some tzid) (Local y) (Date m) z h = absurd (false≢true h)
allowed (Some tzid) (Local y) (Local x) z h = ap (λ name. (is_zone_name name && true) && true) (bare-zone tzid z) ∙ ap (λ b. (b && true) && true) z
allowed (Some tzid) (Local y) (Utc x) z h = absurd (false≢true h)
allowed tzid (Utc y) w z h = refl

same-kind : (v : DateOrTime) → is_same_kind v v ≡ true
same-kind (Date n) = refl
same-kind (Local z) = refl
same-kind (Utc z) = refl

no-periods : (tzid : Option (List ℕ)) (v : DateOrTime) → are_periods (parameters tzid v) ≡ false
no-periods tzid (Date n) = refl
no-periods None (Local z) = refl
no-periods (Some tzid) (Local z) = refl
no-periods tzid (Utc z) = refl

kind-word : (tzid : Option (List ℕ)) (v w : DateOrTime) → IsZone tzid → is_same_kind v w ≡ true → IsDateOrTime w
    → IsWord (value_of (parameters tzid v)) w (date_or_time_text w)
kind-word tzid v w z same is =
    let word = date-word w is in
    record { apart = word.apart; means = rw (no-periods tzid v, word.means, allowed tzid v w z same) refl }

-- the values of a line after the first, v
abbrev IsRun : Option (List ℕ) → DateOrTime → List DateOrTime → Type 0
IsRun tzid v ws = AreWords (value_of (parameters tzid v)) date_or_time_text (v ∷ ws)

words-and : {X : Type 0} (meaning : List ℕ → Option X) (text : X → List ℕ) (xs : List X) (x : X) → AreWords meaning text xs → IsWord meaning x (text x)
    → AreWords meaning text (xs ++ x ∷ [])
words-and meaning text [] x h w = (w, tt)
words-and meaning text (y ∷ ys) x h w = (h.0, words-and meaning text ys x h.1 w)

list-and : {X : Type 0} (text : X → List ℕ) (xs : List X) (x : X)
    → list_text (codes ",") text (xs ++ x ∷ []) ≡ list_text (codes ",") text xs ++ (codes "," ++ text x)
list-and text [] x = append-nil (44 ∷ text x)
list-and text (y ∷ ys) x =
    rw (list-and text ys x) (simp append_assoc)

joined-and : (v : DateOrTime) (ws : List DateOrTime) (w : DateOrTime)
    → joined date_or_time_text v (ws ++ w ∷ []) ≡ joined date_or_time_text v ws ++ (codes "," ++ date_or_time_text w)
joined-and v ws w =
    rw (list-and date_or_time_text ws w) (simp append_assoc)

-- ---- the lines of a list
-- the drafts with more values of a list
record IsList (name : List ℕ) (its : SetLine) (to : List DateOrTime → Option (List ℕ) → SetDraft) : Type 0 where
  plain : IsName name
  means : line_of name ≡ Some its
  puts : (ds ws : List DateOrTime) (s : Option (List ℕ)) (whole : List ℕ) → has_room (length ds) (rest_outside 58 whole) ≡ true → values_on whole ≡ Some ws → has_periods whole ≡ false
      → (value_error (to ds s) whole its ≡ None) × (with_value (to ds s) whole its ≡ to (ds ++ ws) s)
  zoned : (ds : List DateOrTime) (s t : Option (List ℕ)) → ((to ds s).zone ≡ s) × (record (to ds s) { zone = t } ≡ to ds t)
  locals : (ds ws : List DateOrTime) (s t : Option (List ℕ)) → some_local (to ds s) ≡ false → list_any is_local ws ≡ false → some_local (to (ds ++ ws) t) ≡ false

abbrev head_of : List ℕ → Option (List ℕ) → DateOrTime → List ℕ
head_of name tzid v = name ++ parameter_text tzid v

abbrev line_with : List ℕ → Option (List ℕ) → DateOrTime → List DateOrTime → List ℕ
line_with name tzid v ws = head_of name tzid v ++ 58 ∷ joined date_or_time_text v ws

room-for : (tzid : Option (List ℕ)) (v : DateOrTime) (ws : List DateOrTime) (n : ℕ) → IsRun tzid v ws → n + length (v ∷ ws) ≤ 62
    → has_room n (joined date_or_time_text v ws) ≡ true
room-for tzid v ws n run few =
    let parts : length (parts_at 44 (joined date_or_time_text v ws)) ≡ length (v ∷ ws) =
    ap length (cut (value_of (parameters tzid v)) date_or_time_text v ws run) ∙ length-map date_or_time_text (v ∷ ws) in
    let enough : n + length (parts_at 44 (joined date_or_time_text v ws)) ≤ 62 = omega (arith, few, parts) in
    grind (arith, nat_tests, enough)

line-put : (name : List ℕ) (its : SetLine) (to : List DateOrTime → Option (List ℕ) → SetDraft) → IsList name its to
    → (tzid s : Option (List ℕ)) (v : DateOrTime) (ws ds : List DateOrTime) → IsZone tzid → Known tzid s → IsRun tzid v ws → length ds + length (v ∷ ws) ≤ 62
    → put_line (to ds s) (line_with name tzid v ws) ≡ Ok (to (ds ++ v ∷ ws) (zone_after tzid s v))
line-put name its to h tzid s v ws ds z known run few =
    let value = joined date_or_time_text v ws in
    let whole = line_with name tzid v ws in
    let texts = parameters tzid v in
    let is = line-by name (head_of name tzid v) value its texts (head-is name tzid v h.plain z) h.means in
    let values : values_on whole ≡ Some (v ∷ ws) =
    rw (is.parameters, is.rest) (list-value (value_of texts) date_or_time_text v ws run (omega (arith, few))).means in
    let puts = h.puts ds (v ∷ ws) s whole (ap (has_room (length ds)) is.rest ∙ room-for tzid v ws (length ds) run few) values (ap are_periods is.parameters ∙ no-periods tzid v) in
    let zones = h.zoned (ds ++ v ∷ ws) s (zone_after tzid s v) in
    line-done (to ds s) (to (ds ++ v ∷ ws) s) whole its texts value s (zone_after tzid s v) is (h.zoned ds s s).0 zones.0 puts.0 puts.1 (zone-put its tzid s v z known)
    ∙ ap Ok zones.1

line-feed : (name : List ℕ) (tzid : Option (List ℕ)) (v : DateOrTime) (ws : List DateOrTime) → IsName name → IsZone tzid → IsRun tzid v ws
    → avoids 10 (line_with name tzid v ws) ≡ true
line-feed name tzid v ws h z run =
    avoids-append 10 (head_of name tzid v) (58 ∷ joined date_or_time_text v ws) (head-is name tzid v h z).feed
    (avoids-cons 10 58 (joined date_or_time_text v ws) refl (no-feed (value_of (parameters tzid v)) date_or_time_text v ws run))

known-zone-of : (name : List ℕ) (its : SetLine) (to : List DateOrTime → Option (List ℕ) → SetDraft) → IsList name its to
    → (tzid s : Option (List ℕ)) (ds : List DateOrTime) → IsKnown tzid (to ds s) → Known tzid s
known-zone-of name its to h tzid s ds known = subst (Known tzid) (h.zoned ds s s).0 (known-zone tzid (to ds s) known)

-- the zone after a line with values of one kind
known-more : (name : List ℕ) (its : SetLine) (to : List DateOrTime → Option (List ℕ) → SetDraft) → IsList name its to
    → (tzid s : Option (List ℕ)) (v : DateOrTime) (ws ds : List DateOrTime) → IsKnown tzid (to ds s) → (is_local v ≡ false → list_any is_local ws ≡ false)
    → IsKnown tzid (to (ds ++ v ∷ ws) (zone_after tzid s v))
known-more name its to h tzid s v ws ds known kinds = by-kind tzid v kinds known
  where
    stays : (tzid : Option (List ℕ)) (w : DateOrTime) → list_any is_local (w ∷ ws) ≡ false → IsKnown tzid (to ds s) → IsKnown tzid (to (ds ++ w ∷ ws) s)
    stays tzid w plain (inl e) = inl ((h.zoned (ds ++ w ∷ ws) s s).0 ∙ sym (h.zoned ds s s).0 ∙ e)
    stays tzid w plain (inr e) = inr ((h.zoned (ds ++ w ∷ ws) s s).0 ∙ sym (h.zoned ds s s).0 ∙ e.0, h.locals ds (w ∷ ws) s s e.1 plain)

    none : (w : DateOrTime) → IsKnown None (to ds s) → IsKnown None (to (ds ++ w ∷ ws) s)
    none w (inl e) = inl ((h.zoned (ds ++ w ∷ ws) s s).0 ∙ sym (h.zoned ds s s).0 ∙ e)
    none w (inr e) = inl ((h.zoned (ds ++ w ∷ ws) s s).0 ∙ sym (h.zoned ds s s).0 ∙ e.0)

    by-kind : (tzid : Option (List ℕ)) (w : DateOrTime) → (is_local w ≡ false → list_any is_local ws ≡ false) → IsKnown tzid (to ds s)
        → IsKnown tzid (to (ds ++ w ∷ ws) (zone_after tzid s w))
    by-kind tzid (Date n) plain k = stays tzid (Date n) (plain refl) k
    by-kind None (Local z) plain k = none (Local z) k
    by-kind (Some tzid) (Local z) plain k = inl (h.zoned (ds ++ Local z ∷ ws) (Some tzid) s).0
    by-kind tzid (Utc z) plain k = stays tzid (Utc z) (plain refl) k

same-local : (v w : DateOrTime) → is_same_kind v w ≡ true → is_local w ≡ is_local v
same-local (Date n) (Date m) h = refl
same-local (Date n) (Local z) h = absurd (false≢true h)
same-local (Date n) (Utc z) h = refl
same-local (Local y) w h = h
same-local (Utc y) (Date n) h = refl
same-local (Utc y) (Local z) h = absurd (false≢true h)
same-local (Utc y) (Utc z) h = refl

head-line : (name : List ℕ) (tzid : Option (List ℕ)) (v : DateOrTime) → head_text name tzid v ≡ line_with name tzid v []
head-line name tzid v =
    simp (append_assoc, append-nil)

lines-read : (name : List ℕ) (its : SetLine) (to : List DateOrTime → Option (List ℕ) → SetDraft) → IsList name its to
    → (tzid : Option (List ℕ)) → IsZone tzid → (rest : List ℕ) (p : SetParts) (all : List DateOrTime)
    → (vs : List DateOrTime) (s : Option (List ℕ)) (v : DateOrTime) (ws ds : List DateOrTime) → IsKnown tzid (to ds s) → IsRun tzid v ws → (is_local v ≡ false → list_any is_local ws ≡ false)
    → All IsDateOrTime vs → (ds ++ v ∷ ws) ++ vs ≡ all → length all ≤ 62
    → ((t : Option (List ℕ)) → IsKnown tzid (to all t) → Reads (to all t) rest p)
    → Reads (to ds s) ((line_with name tzid v ws ++ more_text name tzid v vs) ++ rest) p
lines-read name its to h tzid z rest p all [] s v ws ds known run kinds are same few reads =
    let line = line_with name tzid v ws in
    let same_all : ds ++ v ∷ ws ≡ all = sym (append-nil (ds ++ v ∷ ws)) ∙ same in
    let size : length ds + length (v ∷ ws) ≤ 62 = omega (arith, few, ap length same_all, length-append ds (v ∷ ws)) in
    subst (λ text. Reads (to ds s) text p) (sym (append_assoc line line_end rest))
    (one-line (to ds s) (to all (zone_after tzid s v)) line rest p (line-feed name tzid v ws h.plain z run)
    (line-put name its to h tzid s v ws ds z (known-zone-of name its to h tzid s ds known) run size ∙ ap (λ ds. Ok (to ds (zone_after tzid s v))) same_all)
    (reads (zone_after tzid s v) (subst (λ ds. IsKnown tzid (to ds (zone_after tzid s v))) same_all (known-more name its to h tzid s v ws ds known kinds))))
lines-read name its to h tzid z rest p all (w ∷ vs) s v ws ds known run kinds are same few reads =
    let line = line_with name tzid v ws in
    let is = All-head IsDateOrTime w vs are in
    let others = All-tail IsDateOrTime w vs are in
    let text : Bool → List ℕ = λ b. cond b (codes "," ++ date_or_time_text w ++ more_text name tzid v vs) (line_end ++ head_text name tzid w ++ more_text name tzid w vs) in
    elim (cases_Bool (is_same_kind v w)) as (λ _. Reads (to ds s) ((line ++ more_text name tzid v (w ∷ vs)) ++ rest) p) [
      | inl alike ↦
          let grown : line ++ (44 ∷ date_or_time_text w) ≡ line_with name tzid v (ws ++ w ∷ []) =
          rw (joined-and v ws w) (simp append_assoc) in
          let longer : line_with name tzid v (ws ++ w ∷ []) ++ more_text name tzid v vs ≡ line ++ more_text name tzid v (w ∷ vs) =
          ap (λ front. front ++ more_text name tzid v vs) (sym grown) ∙ rw alike (simp append_assoc) in
          let same_more : (ds ++ v ∷ (ws ++ w ∷ [])) ++ vs ≡ all =
          append_assoc ds (v ∷ (ws ++ w ∷ [])) vs ∙ ap (λ more. ds ++ v ∷ more) (append_assoc ws (w ∷ []) vs) ∙ sym (append_assoc ds (v ∷ ws) (w ∷ vs)) ∙ same in
          subst (λ front. Reads (to ds s) (front ++ rest) p) longer
          (lines-read name its to h tzid z rest p all vs s v (ws ++ w ∷ []) ds known
          (run.0, words-and (value_of (parameters tzid v)) date_or_time_text ws w run.1 (kind-word tzid v w z alike is))
          (λ e. list_any-append is_local ws (w ∷ []) ∙ ap (λ b. b || (is_local w || false)) (kinds e) ∙ ap (λ b. b || false) (same-local v w alike ∙ e)) others same_more few reads)
      | inr apart ↦
          let next = more_text name tzid w vs in
          let size : length ds + length (v ∷ ws) ≤ 62 = omega (arith, few, ap length same, length-append ds (v ∷ ws), length-append (ds ++ v ∷ ws) (w ∷ vs)) in
          let begun : line ++ 13 ∷ 10 ∷ ((line_with name tzid w [] ++ next) ++ rest) ≡ (line ++ more_text name tzid v (w ∷ vs)) ++ rest =
          ap (λ head. line ++ 13 ∷ 10 ∷ ((head ++ next) ++ rest)) (sym (head-line name tzid w))
          ∙ sym (append_assoc line (13 ∷ 10 ∷ (head_text name tzid w ++ next)) rest)
          ∙ ap (λ b. (line ++ text b) ++ rest) (sym apart) in
          subst (λ text. Reads (to ds s) text p) begun
          (one-line (to ds s) (to (ds ++ v ∷ ws) (zone_after tzid s v)) line ((line_with name tzid w [] ++ next) ++ rest) p (line-feed name tzid v ws h.plain z run)
          (line-put name its to h tzid s v ws ds z (known-zone-of name its to h tzid s ds known) run size)
          (lines-read name its to h tzid z rest p all vs (zone_after tzid s v) w [] (ds ++ v ∷ ws) (known-more name its to h tzid s v ws ds known kinds)
          (kind-word tzid w w z (same-kind w) is, tt) (λ e. refl) others (append_assoc (ds ++ v ∷ ws) (w ∷ []) vs ∙ same) few reads))
    ]

-- all values of a list
list-read : (name : List ℕ) (its : SetLine) (to : List DateOrTime → Option (List ℕ) → SetDraft) → IsList name its to
    → (tzid : Option (List ℕ)) → IsZone tzid → (rest : List ℕ) (p : SetParts) (vs : List DateOrTime) (s : Option (List ℕ)) → IsKnown tzid (to [] s) → All IsDateOrTime vs
    → length vs ≤ 62
    → ((t : Option (List ℕ)) → IsKnown tzid (to vs t) → Reads (to vs t) rest p)
    → Reads (to [] s) (values_text name tzid vs ++ rest) p
list-read name its to h tzid z rest p [] s known are few reads = reads s known
list-read name its to h tzid z rest p (v ∷ vs) s known are few reads =
    subst (λ head. Reads (to [] s) ((head ++ more_text name tzid v vs) ++ rest) p) (sym (head-line name tzid v))
    (lines-read name its to h tzid z rest p (v ∷ vs) vs s v [] [] known (kind-word tzid v v z (same-kind v) (All-head IsDateOrTime v vs are), tt) (λ e. refl)
    (All-tail IsDateOrTime v vs are) refl few reads)

-- ---- the whole
more-false : (a b c e : Bool) → a || (b || e) ≡ false → c ≡ false → a || ((b || c) || e) ≡ false
more-false true b c e h k = h
more-false false true c e h k = h
more-false false false c e h k = ap (λ x. x || e) k ∙ h

last-false : (a b c e : Bool) → a || (b || c) ≡ false → e ≡ false → a || (b || (c || e)) ≡ false
last-false true b c e h k = h
last-false false true c e h k = h
last-false false false true e h k = h
last-false false false false e h k = k

dates-list : (start : DateOrTime) (r : Recurrence) → IsList (codes "RDATE") line.Dates (λ ds s. draft_of (Some start) (Some r) ds [] s)
dates-list start r = record {
  plain = (refl, refl, refl, refl);
  means = refl;
  puts = λ ds ws s whole room values plain. (rw (room, values) refl, rw values refl);
  zoned = λ ds s t. (refl, refl);
  locals = λ ds ws s t none plain.
      ap (λ b. is_local start || (b || false)) (list_any-append is_local ds ws) ∙ more-false (is_local start) (list_any is_local ds) (list_any is_local ws) false none plain;
}

exceptions-list : (start : DateOrTime) (r : Recurrence) (dates : List DateOrTime)
    → IsList (codes "EXDATE") line.Exceptions (λ ds s. draft_of (Some start) (Some r) dates ds s)
exceptions-list start r dates = record {
  plain = (refl, refl, refl, refl);
  means = refl;
  puts = λ ds ws s whole room values plain. (rw (room, values, plain) refl, rw values refl);
  zoned = λ ds s t. (refl, refl);
  locals = λ ds ws s t none plain.
      ap (λ b. is_local start || (list_any is_local dates || b)) (list_any-append is_local ds ws)
      ∙ last-false (is_local start) (list_any is_local dates) (list_any is_local ds) (list_any is_local ws) none plain;
}

-- the start
start-put : (tzid : Option (List ℕ)) (start : DateOrTime) → IsZone tzid → IsDateOrTime start
    → put_line (parts_of []) (line_with (codes "DTSTART") tzid start []) ≡ Ok (draft_of (Some start) None [] [] (zone_after tzid None start))
start-put tzid start z is =
    let texts = parameters tzid start in
    let name = codes "DTSTART" in
    let value = joined date_or_time_text start [] in
    let whole = line_with name tzid start [] in
    let word = kind-word tzid start start z (same-kind start) is in
    let split = line-by name (head_of name tzid start) value line.Start texts (head-is name tzid start (refl, refl, refl, refl) z) refl in
    let means : value_on whole ≡ Some start = rw (split.parameters, split.rest, append-nil) word.means in
    let plain : has_periods whole ≡ false = ap are_periods split.parameters ∙ no-periods tzid start in
    line-done (parts_of []) (draft_of (Some start) None [] [] None) whole line.Start texts value None (zone_after tzid None start) split refl refl
    (rw (means, plain) refl) (rw means refl) (first-zone line.Start tzid start z)

-- the recurrence
rule-put : (start : DateOrTime) (s : Option (List ℕ)) (r : Recurrence) (text : List ℕ) → parts_say 6 (parts_at 59 text) ≡ Ok r
    → put_line (draft_of (Some start) None [] [] s) (codes "RRULE:" ++ text) ≡ Ok (draft_of (Some start) (Some r) [] [] s)
rule-put start s r text says =
    let whole : List ℕ = codes "RRULE:" ++ text in
    let name : List ℕ = codes "RRULE" in
    let is = line-by name name text line.Rule [] (record { feed = refl; mark = refl; colon = refl; named = refl; parameters = refl }) refl in
    let read : recurrence_on whole ≡ Ok r =
    ap (λ t. cond (t && true) (parts_say 6 (parts_at 59 text)) (Err (fault 0 UnknownPart))) (longer text) ∙ says in
    line-done (draft_of (Some start) None [] [] s) (draft_of (Some start) (Some r) [] [] s) whole line.Rule [] text s s is refl refl (rw read refl) (rw read refl) (no-zone s)
  where
    no-zone : (s : Option (List ℕ)) → (zone_error_in s [] line.Rule ≡ None) × (option_or s None ≡ s)
    no-zone None = (refl, refl)
    no-zone (Some tzid) = (refl, refl)

    longer : (text : List ℕ) → nat_lt 5 (length (codes "RRULE:" ++ text)) ≡ true
    longer text = let more : 5 < length (codes "RRULE:" ++ text) = omega arith in grind (arith, nat_tests, more)

-- ---- the zone at the end
first-known : (tzid : Option (List ℕ)) (v : DateOrTime) → IsKnown tzid (draft_of (Some v) None [] [] (zone_after tzid None v))
first-known tzid (Date n) = inr (refl, refl)
first-known None (Local z) = inl refl
first-known (Some tzid) (Local z) = inl refl
first-known tzid (Utc z) = inr (refl, refl)

zone-found : (p : SetParts) (tzid : Option (List ℕ)) (s : Option (List ℕ)) → IsZoneOf p tzid → IsKnown tzid (draft_of (Some p.start) (Some p.recurrence) p.dates p.exceptions s) → s ≡ tzid
zone-found p tzid s h (inl e) = e
zone-found p None s h (inr e) = e.0
zone-found p (Some name) s h (inr e) = absurd (false≢true (sym e.1 ∙ h.1))

zone-is : (p : SetParts) (tzid : Option (List ℕ)) → IsZoneOf p tzid → IsZone tzid
zone-is p None h = tt
zone-is p (Some name) h = h.0

-- ---- the set
all-read : (p : SetParts) (s : Option (List ℕ)) → s ≡ p.zone → Reads (draft_of (Some p.start) (Some p.recurrence) p.dates p.exceptions s) [] p
all-read p s e before valid is =
    let said = parts-more before [] refl ∙ is in
    record {
      valid = valid-more before [] valid refl;
      start = ap (λ d. d.start) said;
      is = ap (λ tzid. record p { zone = tzid }) (sym e) ∙ ap (λ d. parts_from d p.start) (sym said);
    }

in-lines : (head rule dates exceptions : List ℕ)
    → (head ++ line_end) ++ (rule ++ line_end) ++ dates ++ exceptions ≡ head ++ 13 ∷ 10 ∷ (rule ++ 13 ∷ 10 ∷ (dates ++ (exceptions ++ [])))
in-lines head rule dates exceptions = simp (append_assoc, append-nil)

set-reads : (p : SetParts) → IsSpelledSet p → ReadsBack p.recurrence (text_of p.recurrence) → length p.dates ≤ 62 → length p.exceptions ≤ 62
    → SaysSet (lines_of (set_text p)) p
set-reads p h back few less =
    let tzid = p.zone in
    let z = zone-is p tzid h.zone in
    let first = zone_after tzid None p.start in
    let start : List ℕ = codes "DTSTART" in
    let rule : List ℕ = codes "RRULE:" ++ text_of p.recurrence in
    let dates = values_text (codes "RDATE") tzid p.dates in
    let exceptions = values_text (codes "EXDATE") tzid p.exceptions in
    let run : IsRun tzid p.start [] = (kind-word tzid p.start p.start z (same-kind p.start) h.start, tt) in
    let name : IsName start = (refl, refl, refl, refl) in
    let excepted = λ (s : Option (List ℕ)) (known : IsKnown tzid (draft_of (Some p.start) (Some p.recurrence) p.dates [] s)). list-read (codes "EXDATE") line.Exceptions (λ ds s. draft_of (Some p.start) (Some p.recurrence) p.dates ds s) (exceptions-list p.start p.recurrence p.dates) tzid z [] p p.exceptions s
    known h.each_exception less (λ t last. all-read p t (zone-found p tzid t h.zone last)) in
    let dated = list-read (codes "RDATE") line.Dates (λ ds s. draft_of (Some p.start) (Some p.recurrence) ds [] s) (dates-list p.start p.recurrence) tzid z (exceptions ++ []) p p.dates first
    (first-known tzid p.start) h.each_date few excepted in
    let ruled = one-line (draft_of (Some p.start) None [] [] first) (draft_of (Some p.start) (Some p.recurrence) [] [] first) rule (dates ++ (exceptions ++ [])) p
    (avoids-append 10 (codes "RRULE:") (text_of p.recurrence) refl (from-all 10 (text_of p.recurrence) back.one_line))
    (rule-put p.start first p.recurrence (text_of p.recurrence) (sym (after-name (text_of p.recurrence)) ∙ back.named)) dated in
    let begun = one-line (parts_of []) (draft_of (Some p.start) None [] [] first) (line_with start tzid p.start []) (rule ++ 13 ∷ 10 ∷ (dates ++ (exceptions ++ []))) p
    (line-feed start tzid p.start [] name z run) (start-put tzid p.start z h.start) ruled in
    subst (λ text. SaysSet (lines_of text) p)
    (sym (in-lines (head_text start tzid p.start) rule dates exceptions ∙ ap (λ head. head ++ 13 ∷ 10 ∷ (rule ++ 13 ∷ 10 ∷ (dates ++ (exceptions ++ [])))) (head-line start tzid p.start)))
    (begun [] (λ k. refl) refl)

-- a buffer with the text
pub put_reads : (p : SetParts) (text old new : List ℕ) (r : Option ℕ) → IsPut 0 (set_text p) old new r → text ≡ text_of p.recurrence
    → (IsSpelled p.recurrence → ReadsBack p.recurrence text) → length p.dates ≤ 62 → length p.exceptions ≤ 62
    → IsSpelledSet p
    → IfSome r (λ end. SaysSet (lines_of (take end new)) p)
put_reads p text old new None put e back few less h = tt
put_reads p text old new (Some end) put e back few less h =
    subst (λ bytes. SaysSet (lines_of bytes) p) (sym put.2) (set-reads p h (subst (ReadsBack p.recurrence) e (back h.recurrence)) few less)
