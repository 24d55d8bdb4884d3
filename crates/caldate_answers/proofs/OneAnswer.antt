-- A text has one answer.
use Rattle.std.proofs.Common.{◌≡◌, ◌⊎◌, ℕ, Bool, true, false, List, ◌++◌, Option, Some, None, Result, Ok, Err, inl, inr, ap, refl, sym, subst, ◌∙◌}
use Rattle.std.specs.Option.{option_map_or}
use Rattle.std.specs.Prelude.{is_some, not}
use Rattle.std.specs.Fmt.{signed_decimal}
use Rattle.std.specs.Io.KnownBytes.{Appends}
use Rattle.std.proofs.lemmas.Bool.{false≢true}
use Rattle.cal_datetime.specs.OffsetDateTime.{LocalAndOffset}
use Rattle.cal_text.specs.declared.any.DateOrMoment.{DateOrMoment}
use Rattle.cal_text.specs.declared.any.DateOrMoment.TheVariants as read
use Rattle.cal_text.specs.declared.any.MomentForm.TheVariants.{Rfc3339, Unix}
use Rattle.cal_format.specs.Moment.{moment_of_offset_date_time}
use Rattle.cal_named_format.specs.Named.{text_in}
use Rattle.cal_duration.specs.DurationText.{period_text}
use Rattle.cal_schedule.specs.Workdays.{WorkWeek}
use Rattle.caldate_lines.specs.declared.no_answer.NoAnswer.{NoAnswer}
use Rattle.caldate_answers.specs.Answers.{Answer, HasNone, IsAnswer, IsAnswerBy, IsAnswerTo, IsBetween, IsBetweenBy, IsMeasured, IsMeasuredOn, IsMoved, clock_of, form_iso, IsMovedAt, IsMovedBy, IsNotRead, IsReadAs, IsWhyNotMoved, IsWhyUnanswered, IsWhyUnmoved, compares, day_of, floored, form_read, leaves_out, moment_of, on_day, own_clock, why_unmoved}
use Rattle.caldate_answers.specs.Bounds.{lies_in}
use Rattle.caldate_answers.specs.Forms.{IsInForm, format_text}
use Rattle.caldate_answers.specs.declared.request.Filter.{Filter}
use Rattle.caldate_answers.specs.declared.request.Form.{Form}
use Rattle.caldate_answers.specs.declared.request.Form.TheVariants.{Date, Weekday, Moment, ShortWeekday, Month, Quarter, Basic}
use Rattle.caldate_answers.specs.declared.request.Form.TheVariants as form
use Rattle.caldate_answers.specs.declared.request.Clock.{Clock}
use Rattle.caldate_answers.specs.declared.request.Move.{Move as AnyMove}
use Rattle.caldate_answers.specs.declared.request.Move.TheVariants as move
use Rattle.caldate_answers.specs.declared.request.Request.{Request}
use Rattle.caldate_answers.specs.declared.request.Request.TheVariants.{To, ToIso, Print, PrintInLanguage, Move, MoveAt, Until, Since, At, PrintAt, PrintInLanguageAt, Keep}
use Rattle.caldate_answers.specs.declared.request.Target.TheVariants as target
use Rattle.caldate_answers.specs.declared.request.Measure.{Measure}
use Rattle.caldate_answers.specs.declared.request.Measure.TheVariants as measure
use Rattle.caldate_answers.proofs.Laters.{one_later}
use Rattle.caldate_answers.proofs.Periods.{one_after, one_nearest, one_period_between, one_period_on}
use Rattle.caldate_answers.proofs.OneCount.{one_count}
use Rattle.caldate_answers.proofs.ClockMoves.{OneLocal, one_moved_on}
use Rattle.caldate_answers.proofs.ClockCounts.{one_count_on}
use Rattle.caldate_answers.proofs.Leads.{one_lead}

-- ---- the answer to a date or a moment
in_form : (form : Form) (m : LocalAndOffset) (a b : List ℕ) → IsInForm form m a → IsInForm form m b → a ≡ b
in_form (Date form) m a b h k = h ∙ sym k
in_form Weekday m a b h k = h ∙ sym k
in_form (Moment Rfc3339) m a b h k = h.1 ∙ sym k.1
in_form (Moment Unix) m a b h k = h ∙ sym k
in_form ShortWeekday m a b h k = h ∙ sym k
in_form Month m a b h k = h ∙ sym k
in_form Quarter m a b h k = h ∙ sym k
in_form Basic m a b h k = h.1 ∙ sym k.1
in_form (form.Unix unit) m a b h k = h ∙ sym k

in_form_at : (form : Form) (m n : LocalAndOffset) (a b : List ℕ) → m ≡ n → IsInForm form m a → IsInForm form n b → a ≡ b
in_form_at form m n a b e h k = in_form form n a b (subst (λ m. IsInForm form m a) e h) k

measured : (workdays : WorkWeek) (m : Measure) (from to : DateOrMoment) (a b : List ℕ) → IsMeasured workdays m from to a → IsMeasured workdays m from to b → a ≡ b
measured workdays (measure.Units unit) from to a b h k = h.2 ∙ ap signed_decimal (one_count workdays unit (moment_of from) (moment_of to) h.0 k.0 h.1 k.1) ∙ sym k.2
measured workdays measure.Period from to a b h k = h.2 ∙ ap period_text (one_period_between (moment_of from) (moment_of to) h.0 k.0 h.1 k.1) ∙ sym k.2
measured workdays measure.Duration from to a b h k = h ∙ sym k
measured workdays measure.Clock from to a b h k = h ∙ sym k

measured_on : (clock : Clock) (workdays : WorkWeek) (m : Measure) (from to : DateOrMoment) (a b : List ℕ) → OneLocal clock.zone
    → IsMeasuredOn clock workdays m from to a → IsMeasuredOn clock workdays m from to b → a ≡ b
measured_on clock workdays (measure.Units unit) from to a b one h k = h.2 ∙ ap signed_decimal (one_count_on clock.zone workdays unit from to h.0 k.0 h.1 k.1) ∙ sym k.2
measured_on clock workdays measure.Period from to a b one h k = h.2 ∙ ap period_text (one_period_on clock from to h.0 k.0 one h.1 k.1) ∙ sym k.2
measured_on clock workdays measure.Duration from to a b one h k = h ∙ sym k
measured_on clock workdays measure.Clock from to a b one h k = h ∙ sym k

between : (workdays : WorkWeek) (m : Option Measure) (from to : DateOrMoment) (a b : List ℕ) → IsBetween workdays m from to a → IsBetween workdays m from to b → a ≡ b
between workdays None from to a b h k = h ∙ sym k
between workdays (Some m) from to a b h k = measured workdays m from to a b h k

one_moved : (workdays : WorkWeek) (by : AnyMove) (found : DateOrMoment) (a b : List ℕ) → IsMoved workdays by found a → IsMoved workdays by found b → a ≡ b
one_moved workdays (move.Days d) found a b h k = in_form_at (form_read found) h.0 k.0 a b (one_later found d h.0 k.0 h.1 k.1) h.2 k.2
one_moved workdays (move.Add d) found a b h k = in_form_at (form_read found) h.0 k.0 a b (one_later found d h.0 k.0 h.1 k.1) h.2 k.2
one_moved workdays (move.Day by) found a b h k =
    in_form_at (form_read found) _ _ a b (ap (on_day (moment_of found)) (one_lead workdays by (day_of found) h.0 k.0 h.1 k.1)) h.2 k.2
one_moved workdays (move.Floor n) found a b h k = in_form (form_read found) (floored n (moment_of found)) a b h k
one_moved workdays (move.Period p) found a b h k = in_form_at (form_read found) h.0 k.0 a b (one_after found p h.0 k.0 h.1 k.1) h.2 k.2
one_moved workdays (move.Round n) found a b h k = in_form_at (form_read found) h.0 k.0 a b (one_nearest n (moment_of found) h.0 k.0 h.1 k.1) h.2 k.2

-- the zone of a clock, and of a request, in which a reading has one meaning
abbrev pub IsOneClock : Option Clock → Type 0
IsOneClock given = (clock : Clock) → given ≡ Some clock → OneLocal clock.zone

abbrev pub IsOneRequest : Request → Type 0
IsOneRequest request = IsOneClock (clock_of request)

abbrev pub IsOneFilter : Filter → Type 0
IsOneFilter filter = IsOneClock filter.clock × IsOneRequest filter.request

one_moved_at : (clock : Clock) (workdays : WorkWeek) (by : AnyMove) (form : Form) (m : LocalAndOffset) (a b : List ℕ) → OneLocal clock.zone → IsMovedAt clock workdays by form m a → IsMovedAt clock workdays by form m b → a ≡ b
one_moved_at clock workdays by form m a b one h k =
    let same = one_moved_on clock workdays by m (Ok h.0) (Ok k.0) one h.1 k.1 in
    let moment : h.0 ≡ k.0 = cc in
    in_form_at form h.0 k.0 a b moment h.2 k.2

one_moved_by : (clock : Option Clock) (workdays : WorkWeek) (by : AnyMove) (found : DateOrMoment) (a b : List ℕ) → IsOneClock clock → IsMovedBy clock workdays by found a → IsMovedBy clock workdays by found b → a ≡ b
one_moved_by None workdays by found a b one h k = one_moved workdays by found a b h k
one_moved_by (Some clock) workdays by (read.Date form n) a b one h k = one_moved workdays by (read.Date form n) a b h k
one_moved_by (Some clock) workdays by (read.Moment form m) a b one h k = one_moved_at clock workdays by (Moment form) m a b (one clock refl) h k

between_by : (clock : Option Clock) (workdays : WorkWeek) (m : Option Measure) (from to : DateOrMoment) (a b : List ℕ) → IsOneClock clock
    → IsBetweenBy clock workdays m from to a → IsBetweenBy clock workdays m from to b → a ≡ b
between_by None workdays m from to a b one h k = between workdays m from to a b h k
between_by (Some clock) workdays None from to a b one h k = between workdays None from to a b h k
between_by (Some clock) workdays (Some m) from to a b one h k = measured_on clock workdays m from to a b (one clock refl) h k

own_one : (own clock : Option Clock) → IsOneClock clock → IsOneClock own → IsOneClock (own_clock own clock)
own_one None clock one own = one
own_one (Some c) clock one own = own

one_answer_to : (clock : Option Clock) (workdays : WorkWeek) (q : Request) (text : List ℕ) (found : DateOrMoment) (a b : List ℕ)
    → IsOneClock clock → IsOneRequest q → IsAnswerTo clock workdays q text found a → IsAnswerTo clock workdays q text found b → a ≡ b
one_answer_to clock workdays (To form) text found a b one own h k = in_form form (moment_of found) a b h k
one_answer_to clock workdays ToIso text found a b one own h k = in_form (form_iso found) (moment_of found) a b h k
one_answer_to clock workdays (Print items) text found a b one own h k = h ∙ sym k
one_answer_to clock workdays (PrintInLanguage items names) text found a b one own h k = h.1 ∙ sym k.1
one_answer_to clock workdays (Move by) text found a b one own h k = one_moved_by clock workdays by found a b one h k
one_answer_to clock workdays (MoveAt other by) text found a b one own h k = one_moved_at other workdays by (Moment Rfc3339) (moment_of found) a b (own other refl) h k
one_answer_to clock workdays (Until before (target.Text to) m) text found a b one own h k = between_by (own_clock before clock) workdays m found to a b (own_one before clock one own) h k
one_answer_to clock workdays (Until before (target.Fields numbers) m) text found a b one own h k = absurd h
one_answer_to clock workdays (Until before (target.Name name) m) text found a b one own h k = absurd h
one_answer_to clock workdays (Since before (target.Text from) m) text found a b one own h k = between_by (own_clock before clock) workdays m from found a b (own_one before clock one own) h k
one_answer_to clock workdays (Since before (target.Fields numbers) m) text found a b one own h k = absurd h
one_answer_to clock workdays (Since before (target.Name name) m) text found a b one own h k = absurd h
one_answer_to clock workdays (At place form) text found a b one own h k = in_form_at form _ _ a b (h.1.value ∙ sym k.1.value) h.2 k.2
one_answer_to clock workdays (PrintAt place items) text found a b one own h k = h.2 ∙ ap (format_text items) (h.1.value ∙ sym k.1.value) ∙ sym k.2
one_answer_to clock workdays (PrintInLanguageAt place items names) text found a b one own h k = h.2.1 ∙ ap (λ m. text_in names.now items (moment_of_offset_date_time m)) (h.1.value ∙ sym k.1.value) ∙ sym k.2.1
one_answer_to clock workdays (Keep bounds) text found a b one own h k = h.1 ∙ sym k.1

-- a line with an answer is not left out
stays : (clock : Option Clock) (workdays : WorkWeek) (q : Request) (text : List ℕ) (found : DateOrMoment) (words : List ℕ) → IsAnswerTo clock workdays q text found words → leaves_out q found ≡ true → ⊥
stays clock workdays (Keep bounds) text found words h out = false≢true (sym (ap (λ lies. option_map_or not lies false) h.0) ∙ out)
stays clock workdays (To form) text found words h out = false≢true out
stays clock workdays ToIso text found words h out = false≢true out
stays clock workdays (Print items) text found words h out = false≢true out
stays clock workdays (PrintInLanguage items names) text found words h out = false≢true out
stays clock workdays (Move by) text found words h out = false≢true out
stays clock workdays (MoveAt other by) text found words h out = false≢true out
stays clock workdays (Until before target unit) text found words h out = false≢true out
stays clock workdays (Since before target unit) text found words h out = false≢true out
stays clock workdays (At place form) text found words h out = false≢true out
stays clock workdays (PrintAt place items) text found words h out = false≢true out
stays clock workdays (PrintInLanguageAt place items names) text found words h out = false≢true out

-- a line without an answer is left out if `keep` compares it
by_bounds : (lies : Option Bool) → (lies ≡ Some true → ⊥) → option_map_or not lies false ≡ is_some lies
by_bounds None lacks = refl
by_bounds (Some true) lacks = absurd (lacks refl)
by_bounds (Some false) lacks = refl

pub left_out : (clock : Option Clock) (workdays : WorkWeek) (q : Request) (text : List ℕ) (found : DateOrMoment) → ((words : List ℕ) → ¬ IsAnswerTo clock workdays q text found words) → leaves_out q found ≡ compares q found
left_out clock workdays (Keep bounds) text found lacks = by_bounds (lies_in bounds found) (λ lies. lacks text (lies, refl))
left_out clock workdays (To form) text found lacks = refl
left_out clock workdays ToIso text found lacks = refl
left_out clock workdays (Print items) text found lacks = refl
left_out clock workdays (PrintInLanguage items names) text found lacks = refl
left_out clock workdays (Move by) text found lacks = refl
left_out clock workdays (MoveAt other by) text found lacks = refl
left_out clock workdays (Until before target unit) text found lacks = refl
left_out clock workdays (Since before target unit) text found lacks = refl
left_out clock workdays (At place form) text found lacks = refl
left_out clock workdays (PrintAt place items) text found lacks = refl
left_out clock workdays (PrintInLanguageAt place items names) text found lacks = refl

-- ---- one reason
one_unmoved : (clock : Clock) (workdays : WorkWeek) (by : AnyMove) (m : LocalAndOffset) (a b : NoAnswer) → OneLocal clock.zone → IsWhyUnmoved clock workdays by m a → IsWhyUnmoved clock workdays by m b → a ≡ b
one_unmoved clock workdays by m a b one h k = h.2 ∙ ap why_unmoved (one_moved_on clock workdays by m h.0 k.0 one h.1 k.1) ∙ sym k.2

one_not_moved : (clock : Option Clock) (workdays : WorkWeek) (by : AnyMove) (found : DateOrMoment) (a b : NoAnswer) → IsOneClock clock → IsWhyNotMoved clock workdays by found a → IsWhyNotMoved clock workdays by found b → a ≡ b
one_not_moved None workdays by found a b one h k = h ∙ sym k
one_not_moved (Some clock) workdays by (read.Date form n) a b one h k = h ∙ sym k
one_not_moved (Some clock) workdays by (read.Moment form m) a b one h k = one_unmoved clock workdays by m a b (one clock refl) h k

one_why : (clock : Option Clock) (workdays : WorkWeek) (q : Request) (found : DateOrMoment) (a b : NoAnswer) → IsOneClock clock → IsOneRequest q
    → IsWhyUnanswered clock workdays q found a → IsWhyUnanswered clock workdays q found b → a ≡ b
one_why clock workdays (Move by) found a b one own h k = one_not_moved clock workdays by found a b one h k
one_why clock workdays (MoveAt other by) found a b one own h k = one_unmoved other workdays by (moment_of found) a b (own other refl) h k
one_why clock workdays (To form) found a b one own h k = h ∙ sym k
one_why clock workdays ToIso found a b one own h k = h ∙ sym k
one_why clock workdays (Print items) found a b one own h k = h ∙ sym k
one_why clock workdays (PrintInLanguage items names) found a b one own h k = h ∙ sym k
one_why clock workdays (Until before target unit) found a b one own h k = h ∙ sym k
one_why clock workdays (Since before target unit) found a b one own h k = h ∙ sym k
one_why clock workdays (At place form) found a b one own h k = h ∙ sym k
one_why clock workdays (PrintAt place items) found a b one own h k = h ∙ sym k
one_why clock workdays (PrintInLanguageAt place items names) found a b one own h k = h ∙ sym k
one_why clock workdays (Keep bounds) found a b one own h k = h ∙ sym k

-- ---- the answer for what a reader says of the text
abbrev ToldOf : Filter → List ℕ → DateOrMoment → Answer → Type 0
ToldOf filter text found answer =
    ((words : List ℕ) × (answer ≡ Ok (Some words)) × IsAnswerBy filter text found words)
    ⊎ (answer ≡ Ok None) × (leaves_out filter.request found ≡ true)
    ⊎ ((any : NoAnswer) × (answer ≡ Err any) × HasNone filter text found any)

abbrev Told : Filter → List ℕ → Result DateOrMoment NoAnswer → Answer → Type 0
Told filter text (Ok found) answer = ToldOf filter text found answer
Told filter text (Err any) answer = answer ≡ Err any

one_of : (filter : Filter) (text : List ℕ) (found : DateOrMoment) (a b : Answer) → IsOneFilter filter → ToldOf filter text found a → ToldOf filter text found b → a ≡ b
one_of filter text found a b one (inl h) (inl k) = h.1 ∙ ap (λ words. Ok (Some words)) (one_answer_to filter.clock filter.workdays filter.request text found h.0 k.0 one.0 one.1 h.2 k.2) ∙ sym k.1
one_of filter text found a b one (inl h) (inr (inl k)) = absurd (stays filter.clock filter.workdays filter.request text found h.0 h.2 k.1)
one_of filter text found a b one (inl h) (inr (inr k)) = absurd (k.2.1 h.0 h.2)
one_of filter text found a b one (inr (inl h)) (inl k) = absurd (stays filter.clock filter.workdays filter.request text found k.0 k.2 h.1)
one_of filter text found a b one (inr (inl h)) (inr (inl k)) = h.0 ∙ sym k.0
one_of filter text found a b one (inr (inl h)) (inr (inr k)) = absurd (false≢true (sym k.2.0 ∙ h.1))
one_of filter text found a b one (inr (inr h)) (inl k) = absurd (h.2.1 k.0 k.2)
one_of filter text found a b one (inr (inr h)) (inr (inl k)) = absurd (false≢true (sym h.2.0 ∙ k.1))
one_of filter text found a b one (inr (inr h)) (inr (inr k)) = h.1 ∙ ap Err (one_why filter.clock filter.workdays filter.request found h.0 k.0 one.0 one.1 h.2.2 k.2.2) ∙ sym k.1

one_told : (filter : Filter) (text : List ℕ) (r : Result DateOrMoment NoAnswer) (a b : Answer) → IsOneFilter filter → Told filter text r a → Told filter text r b → a ≡ b
one_told filter text (Ok found) a b one h k = one_of filter text found a b one h k
one_told filter text (Err any) a b one h k = h ∙ sym k

found_told : (filter : Filter) (text : List ℕ) (r : Result DateOrMoment NoAnswer) (found : DateOrMoment) (answer : Answer)
    → r ≡ Ok found → ToldOf filter text found answer → Told filter text r answer
found_told filter text r found answer e h = subst (λ r. Told filter text r answer) (sym e) h

unread_told : (filter : Filter) (text : List ℕ) (r : Result DateOrMoment NoAnswer) (any : NoAnswer) → r ≡ Err any → Told filter text r (Err any)
unread_told filter text r any e = subst (λ r. Told filter text r (Err any)) (sym e) refl

answer_told : (filter : Filter) (text : List ℕ) (r : Result DateOrMoment NoAnswer) (answer : Answer)
    → ((found : DateOrMoment) → IsReadAs filter text found → r ≡ Ok found)
    → ((any : NoAnswer) → IsNotRead filter text any → r ≡ Err any) → IsAnswer filter text answer → Told filter text r answer
answer_told filter text r (Ok (Some words)) every unread h = found_told filter text r h.0 _ (every h.0 h.1) (inl (words, refl, h.2))
answer_told filter text r (Ok None) every unread h = found_told filter text r h.0 _ (every h.0 h.1) (inr (inl (refl, h.2)))
answer_told filter text r (Err any) every unread (inl h) = unread_told filter text r any (unread any h)
answer_told filter text r (Err any) every unread (inr h) = found_told filter text r h.0 _ (every h.0 h.1) (inr (inr (any, refl, h.2)))

pub one_answer : (filter : Filter) (text : List ℕ) (r : Result DateOrMoment NoAnswer) (a b : Answer) → IsOneFilter filter
    → ((found : DateOrMoment) → IsReadAs filter text found → r ≡ Ok found)
    → ((any : NoAnswer) → IsNotRead filter text any → r ≡ Err any) → IsAnswer filter text a → IsAnswer filter text b → a ≡ b
one_answer filter text r a b one every unread h k = one_told filter text r a b one (answer_told filter text r a every unread h) (answer_told filter text r b every unread k)

-- two writers that took the same bytes
pub took-one : (held a b : List ℕ) (w v : Option (List ℕ)) → Appends (Some held) w a → Appends (Some held) v b → a ≡ b → w ≡ v
took-one held a b None v first second same = absurd first
took-one held a b (Some x) None first second same = absurd second
took-one held a b (Some x) (Some y) first second same = ap Some (first ∙ ap (λ more. held ++ more) same ∙ sym second)
