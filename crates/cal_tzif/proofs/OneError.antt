-- A text has one error, and so has a file.
use Rattle.std.proofs.Common.{◌≡◌, ◌≢◌, ℕ, ◌+◌, ◌-◌, ◌≤◌, List, length, filter, sym, ap, ◌∙◌, subst, arith, inl, inr, Result, Ok, Err, if◌then◌else◌, nat_lt}
use Rattle.std.specs.Prelude.{◌⊎◌, IfOk, IfErr, Option, slice_index}
use Rattle.cal_zone.specs.declared.change.Change.{Change}
use Rattle.cal_zone.specs.declared.layout.Layout.{Layout}
use Rattle.cal_zone.specs.declared.local_type.LocalType.{LocalType}
use Rattle.cal_zone.specs.declared.rule.Rule.{Rule}
use Rattle.cal_zone.specs.declared.timeline_error.TimelineError.{TimelineError}
use Rattle.cal_zone.specs.declared.timeline_error.TimelineError.TheVariants as timeline
use Rattle.cal_zone.specs.ChangeError.{IsChangeError as IsChangesError}
use Rattle.cal_zone.specs.Table.{type_in, changes_in, HasNoType}
use Rattle.cal_zone.specs.Timeline.{Timeline, IsOrdered}
use Rattle.cal_zone.specs.Zone.{Joins, is_after, rule_changes, IsTimelineError}
use Rattle.cal_zone.proofs.OneError.{same, timeline_error-one}
use Rattle.cal_tzif.specs.declared.footer.Footer.{Footer}
use Rattle.cal_tzif.specs.declared.zone_error.ZoneError.{ZoneError}
use Rattle.cal_tzif.specs.declared.zone_error.ZoneErrorKind.TheVariants as kinds
use Rattle.cal_tzif.specs.File.{HasFooter, IsFooterError, without_last, HasIndexes, first_type, footer_rule, timeline_position, IsFileError}
use Rattle.cal_tzif.specs.Header.{IsHeader, IsHeaderError, HasHeaders, IsHeadersError, layout_of, second_at, second_header}
use Rattle.cal_tzif.specs.Posix.{standard_end, IsDaylight, daylight_end, IsChange, change_end, end_at}
use Rattle.cal_tzif.specs.PosixError.{error_at, IsStandardError, IsDaylightError, IsChangeError, IsRuleError, IsTextError}
use Rattle.cal_tzif.specs.Types.{IsTypeError, AreAscii, IsAsciiError, HasTypes, IsTypesError}
use Rattle.cal_tzif.proofs.Faults.{not_standard, not_daylight, not_change, not_header, not_headers, not_type, not_types, not_footer}
use Rattle.cal_tzif.proofs.Unique.{footer_text-one}

-- An error of a part, or, if the part is there, an error of what follows.
step : (F G : ZoneError → Type 0) (H : Type 0) (e f : ZoneError) → (F e → F f → e ≡ f) → (F e → H → ⊥) → (F f → H → ⊥) → (G e → G f → e ≡ f) → F e ⊎ (H × G e) → F f ⊎ (H × G f) → e ≡ f
step F G H e f same first other next (inl a) (inl b) = same a b
step F G H e f same first other next (inl a) (inr b) = absurd (first a b.0)
step F G H e f same first other next (inr a) (inl b) = absurd (other b a.0)
step F G H e f same first other next (inr a) (inr b) = next a.1 b.1

standard-one : (text : List ℕ) (at : ℕ) (e f : ZoneError) → IsStandardError text at e → IsStandardError text at f → e ≡ f
standard-one text at e f (IsStandardError.name _ a) (IsStandardError.name _ b) = a ∙ sym b
standard-one text at e f (IsStandardError.name none _) (IsStandardError.offset has _ _) = absurd (none has)
standard-one text at e f (IsStandardError.offset has _ _) (IsStandardError.name none _) = absurd (none has)
standard-one text at e f (IsStandardError.offset _ _ a) (IsStandardError.offset _ _ b) = a ∙ sym b

daylight-one : (text : List ℕ) (at : ℕ) (e f : ZoneError) → IsDaylightError text at e → IsDaylightError text at f → e ≡ f
daylight-one text at e f (IsDaylightError.name _ a) (IsDaylightError.name _ b) = a ∙ sym b
daylight-one text at e f (IsDaylightError.name none _) (IsDaylightError.offset has _ _ _) = absurd (none has)
daylight-one text at e f (IsDaylightError.offset has _ _ _) (IsDaylightError.name none _) = absurd (none has)
daylight-one text at e f (IsDaylightError.offset _ _ _ a) (IsDaylightError.offset _ _ _ b) = a ∙ sym b

change-one : (text : List ℕ) (at : ℕ) (e f : ZoneError) → IsChangeError text at e → IsChangeError text at f → e ≡ f
change-one text at e f (IsChangeError.comma _ a) (IsChangeError.comma _ b) = a ∙ sym b
change-one text at e f (IsChangeError.comma none _) (IsChangeError.date has _ _) = absurd (none has)
change-one text at e f (IsChangeError.comma none _) (IsChangeError.time has _ _ _) = absurd (none has)
change-one text at e f (IsChangeError.date has _ _) (IsChangeError.comma none _) = absurd (none has)
change-one text at e f (IsChangeError.date _ _ a) (IsChangeError.date _ _ b) = a ∙ sym b
change-one text at e f (IsChangeError.date _ none _) (IsChangeError.time _ has _ _) = absurd (none has)
change-one text at e f (IsChangeError.time has _ _ _) (IsChangeError.comma none _) = absurd (none has)
change-one text at e f (IsChangeError.time _ has _ _) (IsChangeError.date _ none _) = absurd (none has)
change-one text at e f (IsChangeError.time _ _ _ a) (IsChangeError.time _ _ _ b) = a ∙ sym b

-- The errors of a rule, one part after another.
abbrev Trailing : List ℕ → ℕ → ZoneError → Type 0
Trailing text end e = (end ≢ length text) × (e ≡ error_at kinds.Trailing end)

abbrev Last : List ℕ → ℕ → ZoneError → Type 0
Last text at e = Trailing text (change_end text (end_at text at)) e ⊎ ((change_end text (end_at text at) ≡ length text) × (e ≡ error_at kinds.Months at))

abbrev Ends : List ℕ → ℕ → ZoneError → Type 0
Ends text at e = IsChangeError text (end_at text at) e ⊎ (IsChange text (end_at text at) × Last text at e)

abbrev Begins : List ℕ → ℕ → ZoneError → Type 0
Begins text at e = IsChangeError text (daylight_end text at) e ⊎ (IsChange text (daylight_end text at) × Ends text at e)

in_order : (text : List ℕ) (at : ℕ) (e : ZoneError) → IsRuleError text at e → IsDaylightError text at e ⊎ (IsDaylight text at × Begins text at e)
in_order text at e (IsRuleError.daylight a) = inl a
in_order text at e (IsRuleError.begins d a) = inr (d, inl a)
in_order text at e (IsRuleError.ends d b a) = inr (d, inr (b, inl a))
in_order text at e (IsRuleError.trailing d b n more a) = inr (d, inr (b, inr (n, inl (more, a))))
in_order text at e (IsRuleError.months d b n whole _ a) = inr (d, inr (b, inr (n, inr (whole, a))))

last-one : (text : List ℕ) (at : ℕ) (e f : ZoneError) → Last text at e → Last text at f → e ≡ f
last-one text at e f = step (Trailing text (change_end text (end_at text at))) (λ g. g ≡ error_at kinds.Months at) (change_end text (end_at text at) ≡ length text) e f
    (λ a b. a.1 ∙ sym b.1) (λ a h. a.0 h) (λ a h. a.0 h) (λ a b. a ∙ sym b)

ends-one : (text : List ℕ) (at : ℕ) (e f : ZoneError) → Ends text at e → Ends text at f → e ≡ f
ends-one text at e f = step (IsChangeError text (end_at text at)) (Last text at) (IsChange text (end_at text at)) e f
    (change-one text (end_at text at) e f) (not_change text (end_at text at) e) (not_change text (end_at text at) f) (last-one text at e f)

begins-one : (text : List ℕ) (at : ℕ) (e f : ZoneError) → Begins text at e → Begins text at f → e ≡ f
begins-one text at e f = step (IsChangeError text (daylight_end text at)) (Ends text at) (IsChange text (daylight_end text at)) e f
    (change-one text (daylight_end text at) e f) (not_change text (daylight_end text at) e) (not_change text (daylight_end text at) f) (ends-one text at e f)

rule-one : (text : List ℕ) (at : ℕ) (e f : ZoneError) → IsRuleError text at e → IsRuleError text at f → e ≡ f
rule-one text at e f a b = step (IsDaylightError text at) (Begins text at) (IsDaylight text at) e f
    (daylight-one text at e f) (not_daylight text at e) (not_daylight text at f) (begins-one text at e f) (in_order text at e a) (in_order text at f b)

pub text-one : (text : List ℕ) (at : ℕ) (e f : ZoneError) → IsTextError text at e → IsTextError text at f → e ≡ f
text-one text at e f (IsTextError.standard a) (IsTextError.standard b) = standard-one text at e f a b
text-one text at e f (IsTextError.standard a) (IsTextError.rest has _ _) = absurd (not_standard text at e a has)
text-one text at e f (IsTextError.rest has _ _) (IsTextError.standard b) = absurd (not_standard text at f b has)
text-one text at e f (IsTextError.rest _ _ a) (IsTextError.rest _ _ b) = rule-one text (standard_end text at) e f a b

header-one : (bytes : List ℕ) (at size : ℕ) (e f : ZoneError) → IsHeaderError bytes at size e → IsHeaderError bytes at size f → e ≡ f
header-one bytes at size e f (IsHeaderError.short _ a) (IsHeaderError.short _ b) = a ∙ sym b
header-one bytes at size e f (IsHeaderError.short few _) (IsHeaderError.magic room _ _) = absurd (omega (arith, few, room))
header-one bytes at size e f (IsHeaderError.short few _) (IsHeaderError.version room _ _ _) = absurd (omega (arith, few, room))
header-one bytes at size e f (IsHeaderError.short few _) (IsHeaderError.cut room _ _ _ _) = absurd (omega (arith, few, room))
header-one bytes at size e f (IsHeaderError.magic room _ _) (IsHeaderError.short few _) = absurd (omega (arith, few, room))
header-one bytes at size e f (IsHeaderError.magic _ _ a) (IsHeaderError.magic _ _ b) = a ∙ sym b
header-one bytes at size e f (IsHeaderError.magic _ none _) (IsHeaderError.version _ has _ _) = absurd (none has)
header-one bytes at size e f (IsHeaderError.magic _ none _) (IsHeaderError.cut _ has _ _ _) = absurd (none has)
header-one bytes at size e f (IsHeaderError.version room _ _ _) (IsHeaderError.short few _) = absurd (omega (arith, few, room))
header-one bytes at size e f (IsHeaderError.version _ has _ _) (IsHeaderError.magic _ none _) = absurd (none has)
header-one bytes at size e f (IsHeaderError.version _ _ _ a) (IsHeaderError.version _ _ _ b) = a ∙ sym b
header-one bytes at size e f (IsHeaderError.version _ _ none _) (IsHeaderError.cut _ _ has _ _) = absurd (none has)
header-one bytes at size e f (IsHeaderError.cut room _ _ _ _) (IsHeaderError.short few _) = absurd (omega (arith, few, room))
header-one bytes at size e f (IsHeaderError.cut _ has _ _ _) (IsHeaderError.magic _ none _) = absurd (none has)
header-one bytes at size e f (IsHeaderError.cut _ _ has _ _) (IsHeaderError.version _ _ none _) = absurd (none has)
header-one bytes at size e f (IsHeaderError.cut _ _ _ _ a) (IsHeaderError.cut _ _ _ _ b) = a ∙ sym b

-- An error of one kind at one position.
abbrev Is : Type 0 → ZoneError → ZoneError → Type 0
Is P x e = P × (e ≡ x)

is-one : (P : Type 0) (x e f : ZoneError) → Is P x e → Is P x f → e ≡ f
is-one P x e f a b = a.1 ∙ sym b.1

-- The errors of both headers, one part after another.
abbrev OneVersion : List ℕ → Type 0
OneVersion bytes = (second_header bytes).version ≡ slice_index bytes 4

abbrev NoLeaps : List ℕ → Type 0
NoLeaps bytes = (second_header bytes).leaps ≡ 0

abbrev Counts : List ℕ → ZoneError → Type 0
Counts bytes e =
    Is (¬ (NoLeaps bytes)) (error_at kinds.LeapSeconds (second_at bytes + 28)) e ⊎ (NoLeaps bytes × Is ((second_header bytes).types ≡ 0) (error_at kinds.NoType (second_at bytes + 36)) e)

abbrev Versions : List ℕ → ZoneError → Type 0
Versions bytes e = Is (¬ (OneVersion bytes)) (error_at kinds.Version (second_at bytes + 4)) e ⊎ (OneVersion bytes × Counts bytes e)

abbrev Second : List ℕ → ZoneError → Type 0
Second bytes e = IsHeaderError bytes (second_at bytes) 8 e ⊎ (IsHeader bytes (second_at bytes) 8 × Versions bytes e)

in_headers : (bytes : List ℕ) (e : ZoneError) → IsHeadersError bytes e → IsHeaderError bytes 0 4 e ⊎ (IsHeader bytes 0 4 × Second bytes e)
in_headers bytes e (IsHeadersError.first a) = inl a
in_headers bytes e (IsHeadersError.second h a) = inr (h, inl a)
in_headers bytes e (IsHeadersError.version h i other a) = inr (h, inr (i, inl (other, a)))
in_headers bytes e (IsHeadersError.leaps h i v some a) = inr (h, inr (i, inr (v, inl (some, a))))
in_headers bytes e (IsHeadersError.no_type h i v none zero_types a) = inr (h, inr (i, inr (v, inr (none, (zero_types, a)))))

counts-one : (bytes : List ℕ) (e f : ZoneError) → Counts bytes e → Counts bytes f → e ≡ f
counts-one bytes e f = step (Is (¬ (NoLeaps bytes)) (error_at kinds.LeapSeconds (second_at bytes + 28))) (Is ((second_header bytes).types ≡ 0) (error_at kinds.NoType (second_at bytes + 36))) (NoLeaps bytes) e f
    (is-one _ _ e f) (λ a h. a.0 h) (λ a h. a.0 h) (is-one _ _ e f)

versions-one : (bytes : List ℕ) (e f : ZoneError) → Versions bytes e → Versions bytes f → e ≡ f
versions-one bytes e f = step (Is (¬ (OneVersion bytes)) (error_at kinds.Version (second_at bytes + 4))) (Counts bytes) (OneVersion bytes) e f
    (is-one _ _ e f) (λ a h. a.0 h) (λ a h. a.0 h) (counts-one bytes e f)

second-one : (bytes : List ℕ) (e f : ZoneError) → Second bytes e → Second bytes f → e ≡ f
second-one bytes e f = step (IsHeaderError bytes (second_at bytes) 8) (Versions bytes) (IsHeader bytes (second_at bytes) 8) e f
    (header-one bytes (second_at bytes) 8 e f) (not_header bytes (second_at bytes) 8 e) (not_header bytes (second_at bytes) 8 f) (versions-one bytes e f)

headers-one : (bytes : List ℕ) (e f : ZoneError) → IsHeadersError bytes e → IsHeadersError bytes f → e ≡ f
headers-one bytes e f a b = step (IsHeaderError bytes 0 4) (Second bytes) (IsHeader bytes 0 4) e f
    (header-one bytes 0 4 e f) (not_header bytes 0 4 e) (not_header bytes 0 4 f) (second-one bytes e f) (in_headers bytes e a) (in_headers bytes f b)

type-one : (bytes : List ℕ) (p : Layout) (k : ℕ) (e f : ZoneError) → IsTypeError bytes p k e → IsTypeError bytes p k f → e ≡ f
type-one bytes p k e f (IsTypeError.offset _ a) (IsTypeError.offset _ b) = a ∙ sym b
type-one bytes p k e f (IsTypeError.offset none _) (IsTypeError.flag has _ _) = absurd (none has)
type-one bytes p k e f (IsTypeError.offset none _) (IsTypeError.name has _ _ _) = absurd (none has)
type-one bytes p k e f (IsTypeError.flag has _ _) (IsTypeError.offset none _) = absurd (none has)
type-one bytes p k e f (IsTypeError.flag _ _ a) (IsTypeError.flag _ _ b) = a ∙ sym b
type-one bytes p k e f (IsTypeError.flag _ more _) (IsTypeError.name _ most _ _) = absurd (omega (arith, more, most))
type-one bytes p k e f (IsTypeError.name has _ _ _) (IsTypeError.offset none _) = absurd (none has)
type-one bytes p k e f (IsTypeError.name _ most _ _) (IsTypeError.flag _ more _) = absurd (omega (arith, more, most))
type-one bytes p k e f (IsTypeError.name _ _ _ a) (IsTypeError.name _ _ _ b) = a ∙ sym b

not_ascii : (bytes : List ℕ) (start n : ℕ) (e : ZoneError) → IsAsciiError bytes start n e → AreAscii bytes start n → ⊥
not_ascii bytes start n e (IsAsciiError.byte k inside _ more _) all = omega (arith, more, all k inside)

ascii-one : (bytes : List ℕ) (start n : ℕ) (e f : ZoneError) → IsAsciiError bytes start n e → IsAsciiError bytes start n f → e ≡ f
ascii-one bytes start n e f (IsAsciiError.byte j _ all more a) (IsAsciiError.byte k _ each most b) =
    a ∙ ap (λ (i : ℕ). error_at kinds.NotAscii (start + i)) (same j k (λ l. omega (arith, each j l, more)) (λ l. omega (arith, all k l, most))) ∙ sym b

types-one : (bytes : List ℕ) (p : Layout) (e f : ZoneError) → IsTypesError bytes p e → IsTypesError bytes p f → e ≡ f
types-one bytes p e f (IsTypesError.one j _ all a) (IsTypesError.one k _ each b) =
    let i : j ≡ k = same j k (λ l. not_type bytes p j e a (each j l)) (λ l. not_type bytes p k f b (all k l)) in
    type-one bytes p k e f (subst (λ (n : ℕ). IsTypeError bytes p n e) i a) b
types-one bytes p e f (IsTypesError.one j inside _ a) (IsTypesError.ascii all _) = absurd (not_type bytes p j e a (all j inside))
types-one bytes p e f (IsTypesError.ascii all _) (IsTypesError.one k inside _ b) = absurd (not_type bytes p k f b (all k inside))
types-one bytes p e f (IsTypesError.ascii _ a) (IsTypesError.ascii _ b) = ascii-one bytes p.names (p.names_end - p.names) e f a b
types-one bytes p e f (IsTypesError.one j inside _ a) (IsTypesError.end all _ _) = absurd (not_type bytes p j e a (all j inside))
types-one bytes p e f (IsTypesError.end all _ _) (IsTypesError.one k inside _ b) = absurd (not_type bytes p k f b (all k inside))
types-one bytes p e f (IsTypesError.ascii _ a) (IsTypesError.end _ all _) = absurd (not_ascii bytes p.names (p.names_end - p.names) e a all)
types-one bytes p e f (IsTypesError.end _ all _) (IsTypesError.ascii _ b) = absurd (not_ascii bytes p.names (p.names_end - p.names) f b all)
types-one bytes p e f (IsTypesError.end _ _ a) (IsTypesError.end _ _ b) = a.1 ∙ sym b.1

footer-one : (bytes : List ℕ) (at : ℕ) (e f : ZoneError) → IsFooterError bytes at e → IsFooterError bytes at f → e ≡ f
footer-one bytes at e f (IsFooterError.first _ a) (IsFooterError.first _ b) = a ∙ sym b
footer-one bytes at e f (IsFooterError.first other _) (IsFooterError.last is _ _) = absurd (other is)
footer-one bytes at e f (IsFooterError.first other _) (IsFooterError.text has _ _) = absurd (other has.first)
footer-one bytes at e f (IsFooterError.last is _ _) (IsFooterError.first other _) = absurd (other is)
footer-one bytes at e f (IsFooterError.last _ _ a) (IsFooterError.last _ _ b) = a ∙ sym b
footer-one bytes at e f (IsFooterError.last _ none _) (IsFooterError.text has _ _) = absurd (none has)
footer-one bytes at e f (IsFooterError.text has _ _) (IsFooterError.first other _) = absurd (other has.first)
footer-one bytes at e f (IsFooterError.text has _ _) (IsFooterError.last _ none _) = absurd (none has)
footer-one bytes at e f (IsFooterError.text _ _ a) (IsFooterError.text _ _ b) = text-one (without_last bytes) (at + 1) e f a b

-- The errors of a file, one part after another.
record IsIndexError (bytes : List ℕ) (p : Layout) (e : ZoneError) : Type 0 where
  position : ℕ
  fault : HasNoType bytes p position
  is : e ≡ error_at kinds.TypeIndex position

record IsOrderError (bytes : List ℕ) (p : Layout) (end : ℕ) (e : ZoneError) : Type 0 where
  footer : Option Footer
  text : HasFooter bytes end footer
  reason : TimelineError
  fault : IsTimelineError (first_type bytes p footer) (changes_in bytes p) (footer_rule footer) reason
  is : e ≡ error_at (kinds.Timeline reason) (timeline_position p end reason)

record SomeFooter (bytes : List ℕ) (end : ℕ) : Type 0 where
  footer : Option Footer
  text : HasFooter bytes end footer

index-one : (bytes : List ℕ) (p : Layout) (e f : ZoneError) → IsIndexError bytes p e → IsIndexError bytes p f → e ≡ f
index-one bytes p e f a b =
    let typeless : (position : ℕ) (fault : HasNoType bytes p position) → p.kinds ≤ slice_index bytes (p.indexes + fault.index) = λ position fault. subst (λ (n : ℕ). p.kinds ≤ slice_index bytes n) fault.place fault.no_type in
    let i : a.fault.index ≡ b.fault.index = same a.fault.index b.fault.index
    (λ l. omega (arith, b.fault.before a.fault.index l, typeless a.position a.fault)) (λ l. omega (arith, a.fault.before b.fault.index l, typeless b.position b.fault)) in
    a.is ∙ ap (λ (n : ℕ). error_at kinds.TypeIndex n) (a.fault.place ∙ ap (λ (n : ℕ). p.indexes + n) i ∙ sym b.fault.place) ∙ sym b.is

same_reason : (first first' : LocalType) (table : List Change) (rule rule' : Option Rule) → first ≡ first' → rule_changes rule ≡ rule_changes rule' → (t : TimelineError)
    → IsTimelineError first table rule t → IsTimelineError first' table rule' t
same_reason first first' table rule rule' e g (timeline.Change c) h = subst (λ (f : LocalType). IsChangesError f.offset table c) e h
same_reason first first' table rule rule' e g timeline.Junction h =
    (subst (λ (f : LocalType). IsOrdered f.offset table) e h.0, λ joins. h.1 (subst (λ (cs : List Change). Joins first.offset table (filter (is_after table) cs)) (sym g) (subst (λ (f : LocalType). Joins f.offset table (filter (is_after table) (rule_changes rule'))) (sym e) joins)))

order-one : (bytes : List ℕ) (p : Layout) (end : ℕ) (e f : ZoneError) → IsOrderError bytes p end e → IsOrderError bytes p end f → e ≡ f
order-one bytes p end e f a b =
    let alike = footer_text-one bytes (end + 1) (type_in bytes p 0) a.footer b.footer a.text.text b.text.text in
    let first : first_type bytes p a.footer ≡ first_type bytes p b.footer = ap (λ (t : LocalType). if nat_lt 0 p.changes then type_in bytes p 0 else t) alike.first in
    let reason : a.reason ≡ b.reason = timeline_error-one (first_type bytes p b.footer) (changes_in bytes p) (footer_rule b.footer) a.reason b.reason
    (same_reason _ _ _ (footer_rule a.footer) (footer_rule b.footer) first alike.changes a.reason a.fault) b.fault in
    a.is ∙ ap (λ (t : TimelineError). error_at (kinds.Timeline t) (timeline_position p end t)) reason ∙ sym b.is

abbrev Changes : List ℕ → ZoneError → Type 0
Changes bytes e = IsIndexError bytes (layout_of bytes) e ⊎ (HasIndexes bytes (layout_of bytes) × IsOrderError bytes (layout_of bytes) (second_header bytes).end e)

abbrev Footers : List ℕ → ZoneError → Type 0
Footers bytes e = IsFooterError bytes (second_header bytes).end e ⊎ (SomeFooter bytes (second_header bytes).end × Changes bytes e)

abbrev Types : List ℕ → ZoneError → Type 0
Types bytes e = IsTypesError bytes (layout_of bytes) e ⊎ (HasTypes bytes (layout_of bytes) × Footers bytes e)

in_file : (bytes : List ℕ) (e : ZoneError) → IsFileError bytes e → IsHeadersError bytes e ⊎ (HasHeaders bytes × Types bytes e)
in_file bytes e (IsFileError.headers a) = inl a
in_file bytes e (IsFileError.types h a) = inr (h, inl a)
in_file bytes e (IsFileError.footer h t a) = inr (h, inr (t, inl a))
in_file bytes e (IsFileError.index h t footer text position fault a) =
    inr (h, inr (t, inr (record { footer = footer; text = text }, inl (record { position = position; fault = fault; is = a }))))
in_file bytes e (IsFileError.order h t footer text i reason fault a) =
    inr (h, inr (t, inr (record { footer = footer; text = text }, inr (i, record { footer = footer; text = text; reason = reason; fault = fault; is = a }))))

no_index : (bytes : List ℕ) (p : Layout) (e : ZoneError) → IsIndexError bytes p e → HasIndexes bytes p → ⊥
no_index bytes p e a h =
    let no = subst (λ (n : ℕ). p.kinds ≤ slice_index bytes n) a.fault.place a.fault.no_type in omega (arith, h a.fault.index a.fault.inside, no)

changes-one : (bytes : List ℕ) (e f : ZoneError) → Changes bytes e → Changes bytes f → e ≡ f
changes-one bytes e f = step (IsIndexError bytes (layout_of bytes)) (IsOrderError bytes (layout_of bytes) (second_header bytes).end) (HasIndexes bytes (layout_of bytes)) e f
    (index-one bytes (layout_of bytes) e f) (no_index bytes (layout_of bytes) e) (no_index bytes (layout_of bytes) f) (order-one bytes (layout_of bytes) (second_header bytes).end e f)

footers-one : (bytes : List ℕ) (e f : ZoneError) → Footers bytes e → Footers bytes f → e ≡ f
footers-one bytes e f = step (IsFooterError bytes (second_header bytes).end) (Changes bytes) (SomeFooter bytes (second_header bytes).end) e f
    (footer-one bytes (second_header bytes).end e f) (λ a h. not_footer bytes (second_header bytes).end e h.footer a h.text) (λ a h. not_footer bytes (second_header bytes).end f h.footer a h.text) (changes-one bytes e f)

all_types-one : (bytes : List ℕ) (e f : ZoneError) → Types bytes e → Types bytes f → e ≡ f
all_types-one bytes e f = step (IsTypesError bytes (layout_of bytes)) (Footers bytes) (HasTypes bytes (layout_of bytes)) e f
    (types-one bytes (layout_of bytes) e f) (not_types bytes (layout_of bytes) e) (not_types bytes (layout_of bytes) f) (footers-one bytes e f)

pub file_error-one : (bytes : List ℕ) (e f : ZoneError) → IsFileError bytes e → IsFileError bytes f → e ≡ f
file_error-one bytes e f a b = step (IsHeadersError bytes) (Types bytes) (HasHeaders bytes) e f
    (headers-one bytes e f) (not_headers bytes e) (not_headers bytes f) (all_types-one bytes e f) (in_file bytes e a) (in_file bytes f b)

-- So a contract that says which zone is returned, and when, and which error, leaves one result.
pub result-one : (Says : Timeline → Type 0) (Fails : ZoneError → Type 0) → ((e f : ZoneError) → Fails e → Fails f → e ≡ f) → (r s : Result Timeline ZoneError)
    → IfOk r Says → ((zone : Timeline) → Says zone → r ≡ Ok zone) → IfErr r Fails → IfOk s Says → ((zone : Timeline) → Says zone → s ≡ Ok zone) → IfErr s Fails → r ≡ s
result-one Says Fails one (Ok y) s value every error other each fault = sym (each y value)
result-one Says Fails one (Err e) (Ok z) value every error other each fault = every z other
result-one Says Fails one (Err e) (Err f) value every error other each fault = ap (λ (x : ZoneError). Err x) (one e f error fault)
