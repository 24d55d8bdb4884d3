-- The days or readings of a recurrence up to a last one.
use Rattle.std.proofs.Common.{◌≡◌, ℕ, zero, suc, ◌+◌, refl, ap, sym, subst, ◌∙◌, arith, inl, inr, Bool, true, false, ℤ, pos, List, [], ◌∷◌, map, take, filter}
use Rattle.std.specs.Prelude.{◌^◌, ◌-◌}
use Rattle.std.specs.List.{flat_map, take_while}
use Rattle.std.proofs.lemmas.Bool.{cases_Bool}
use Rattle.std.proofs.lemmas.Bool.Decides.{nat_tests}
use Rattle.std.proofs.lemmas.Int.{ints}
use Rattle.std.proofs.lemmas.List.{map-id}
use Rattle.std.proofs.lemmas.List.Sums.{take_while-cons}
use Rattle.cal_datetime.specs.DateTime.{last_date_time}
use Rattle.cal_datetime.specs.OffsetDateTime.{LocalAndOffset, instant}
use Rattle.cal_recurrence.specs.DateTimeRule.{DateTimeParts, date_time_rule}
use Rattle.cal_recurrence.specs.DateTimeRule as reading
use Rattle.cal_recurrence.specs.Days.{days_of, last_of, up_to_end}
use Rattle.cal_recurrence.specs.RecurrenceReadings.{last_reading_of, readings_of}
use Rattle.cal_recurrence.specs.declared.recurrence.Recurrence.{Recurrence}
use Rattle.cal_recurrence.specs.declared.recurrence.RuleEnd.{RuleEnd}
use Rattle.cal_recurrence.specs.declared.recurrence.RuleEnd.TheVariants.{Never, Until, Count}
use Rattle.cal_recurrence.proofs.RuleOccurrences as readings
use Rattle.cal_schedule.specs.Ranks.{from-no, from-yes}
use Rattle.cal_schedule.specs.Pattern.{rule_of}
use Rattle.cal_schedule.specs.Rule.{occurrences, is_occurrence}
use Rattle.cal_schedule.specs.declared.rule.rule.Rule.{Rule}
use Rattle.cal_schedule.proofs.Rules.{all_of_them}
use Rattle.cal_time.specs.Date.{last_day}
use Rattle.cal_time.specs.Occurrences.{days_from}
use Rattle.caldate_args.specs.Lists.{line_of}
use Rattle.caldate_run.specs.Recurring.{is_day_up_to, is_moment_up_to, lines_left, reading_line}
use Rattle.caldate_run.specs.declared.list.remaining.Remaining.TheVariants as left

-- ---- the items of a test in order: those within a bound are those before the first that isn't
abbrev Falls : {X : Type 0} → (ℕ → X) → (X → Bool) → Type 0
Falls item within = (n : ℕ) → within (item n) ≡ false → within (item (n + 1)) ≡ false

abbrev first_items : {X : Type 0} → (ℕ → X) → (ℕ → Bool) → ℕ → ℕ → ℕ → List X
first_items item test count n k = take count (map item (filter test (days_from n k)))

filter-none : (test : ℕ → Bool) (n : ℕ) → filter test (days_from n 0) ≡ []
unfolding days_from
filter-none test n = refl

front_is : {X : Type 0} (within : X → Bool) (x : X) (xs : List X) (b : Bool) → within x ≡ b → take_while within xs ≡ filter within xs
    → (b ≡ false → filter within xs ≡ []) → take_while within (x ∷ xs) ≡ filter within (x ∷ xs)
front_is within x xs true e same none = take_while-cons within x xs ∙ rw e (ap (λ l. x ∷ l) same)
front_is within x xs false e same none = take_while-cons within x xs ∙ rw e (sym (none refl))

take-none : {X : Type 0} (count : ℕ) (xs : List X) → xs ≡ [] → take count xs ≡ []
take-none zero xs e = refl
take-none (suc count) xs e = ap (take (suc count)) e

none_past : {X : Type 0} (item : ℕ → X) (within : X → Bool) (test : ℕ → Bool) → Falls item within → (k n count : ℕ) → within (item n) ≡ false
    → filter within (first_items item test count n k) ≡ []
none_past item within test falls zero n count h = ap (filter within) (take-none count _ (ap (map item) (filter-none test n)))
none_past item within test falls (suc k) n count h =
    elim (cases_Bool (test n)) as (λ _. filter within (first_items item test count n (suc k)) ≡ []) [
      | inl on ↦ ap (λ l. filter within (take count (map item l))) (from-yes test n k on)
          ∙ past (λ count. none_past item within test falls k (n + 1) count (falls n h)) count
      | inr off ↦ ap (λ l. filter within (take count (map item l))) (from-no test n k off) ∙ none_past item within test falls k (n + 1) count (falls n h)
    ]
  where
    past : ((count : ℕ) → filter within (first_items item test count (n + 1) k) ≡ []) → (count : ℕ)
        → filter within (take count (item n ∷ map item (filter test (days_from (n + 1) k)))) ≡ []
    past others zero = refl
    past others (suc count) = rw h (others count)

front_items : {X : Type 0} (item : ℕ → X) (within : X → Bool) (test : ℕ → Bool) → Falls item within → (k n count : ℕ)
    → take_while within (first_items item test count n k) ≡ filter within (first_items item test count n k)
front_items item within test falls zero n count =
    let none = take-none count _ (ap (map item) (filter-none test n)) in
    ap (take_while within) none ∙ sym (ap (filter within) none)
front_items item within test falls (suc k) n count =
    elim (cases_Bool (test n)) as (λ _. take_while within (first_items item test count n (suc k)) ≡ filter within (first_items item test count n (suc k))) [
      | inl on ↦
          let e = ap (λ l. take count (map item l)) (from-yes test n k on) in
          ap (take_while within) e ∙ from (λ count. front_items item within test falls k (n + 1) count) count ∙ sym (ap (filter within) e)
      | inr off ↦
          let e = ap (λ l. take count (map item l)) (from-no test n k off) in
          ap (take_while within) e ∙ front_items item within test falls k (n + 1) count ∙ sym (ap (filter within) e)
    ]
  where
    from : ((count : ℕ) → take_while within (first_items item test count (n + 1) k) ≡ filter within (first_items item test count (n + 1) k)) → (count : ℕ)
        → take_while within (take count (item n ∷ map item (filter test (days_from (n + 1) k))))
        ≡ filter within (take count (item n ∷ map item (filter test (days_from (n + 1) k))))
    from others zero = refl
    from others (suc count) =
        front_is within (item n) (first_items item test count (n + 1) k) (within (item n)) refl (others count) (λ e.
        none_past item within test falls k (n + 1) count (falls n e))

-- ---- the days of a recurrence
days_fall : (last : ℕ) → Falls (λ n. n) (is_day_up_to last)
days_fall last n h = grind (arith, nat_tests, h)

front_days : (last count : ℕ) (rule : Rule) → take_while (is_day_up_to last) (take count (occurrences rule)) ≡ filter (is_day_up_to last) (take count (occurrences rule))
front_days last count rule =
    subst (λ l. take_while (is_day_up_to last) (take count l) ≡ filter (is_day_up_to last) (take count l)) (map-id (occurrences rule))
    (front_items (λ n. n) (is_day_up_to last) (is_occurrence rule) (days_fall last) (last_day + 1) 0 count)

days_up_to : (last : ℕ) (end : RuleEnd) (rule : Rule) → take_while (is_day_up_to last) (up_to_end end (occurrences rule)) ≡ filter (is_day_up_to last) (up_to_end end (occurrences rule))
days_up_to last Never rule = subst (λ l. take_while (is_day_up_to last) l ≡ filter (is_day_up_to last) l) (all_of_them rule) (front_days last 4294967295 rule)
days_up_to last (Until day) rule = subst (λ l. take_while (is_day_up_to last) l ≡ filter (is_day_up_to last) l) (all_of_them rule) (front_days last 4294967295 rule)
days_up_to last (Count count) rule = front_days last count rule

pub all_days : (r : Recurrence) (first last : ℕ) (days : List ℕ) → days ≡ days_of r first
    → lines_left (left.Dates days last) ≡ flat_map line_of (filter (is_day_up_to last) (days_of r first))
all_days r first last days e =
    ap (λ l. lines_left (left.Dates l last)) e ∙ ap (flat_map _) (days_up_to last r.end (rule_of r.pattern first (last_of r.end)))

-- ---- the readings of a recurrence
readings_fall : (offset : ℤ) (last : LocalAndOffset) → Falls pos (is_moment_up_to offset last)
unfolding instant
readings_fall offset last n h = grind (arith, ints, h)

front_readings : (offset : ℤ) (last : LocalAndOffset) (count : ℕ) (rule : DateTimeParts)
    → take_while (is_moment_up_to offset last) (take count (reading.occurrences rule)) ≡ filter (is_moment_up_to offset last) (take count (reading.occurrences rule))
front_readings offset last count rule =
    front_items pos (is_moment_up_to offset last) (λ k. reading.is_occurrence rule (pos k)) (readings_fall offset last) (last_date_time + 1 - 0) 0 count

readings_up_to : (offset : ℤ) (last : LocalAndOffset) (end : RuleEnd) (rule : DateTimeParts)
    → take_while (is_moment_up_to offset last) (up_to_end end (reading.occurrences rule)) ≡ filter (is_moment_up_to offset last) (up_to_end end (reading.occurrences rule))
readings_up_to offset last Never rule =
    subst (λ l. take_while (is_moment_up_to offset last) l ≡ filter (is_moment_up_to offset last) l) (readings.all_of_them rule) (front_readings offset last (2 ^ 128 - 1) rule)
readings_up_to offset last (Until end) rule =
    subst (λ l. take_while (is_moment_up_to offset last) l ≡ filter (is_moment_up_to offset last) l) (readings.all_of_them rule) (front_readings offset last (2 ^ 128 - 1) rule)
readings_up_to offset last (Count count) rule = front_readings offset last count rule

pub all_readings : (r : Recurrence) (first last : LocalAndOffset) (items : List ℤ) → items ≡ readings_of r first.local
    → lines_left (left.Moments items first.offset last) ≡ flat_map (reading_line first.offset) (filter (is_moment_up_to first.offset last) (readings_of r first.local))
all_readings r first last items e =
    ap (λ l. lines_left (left.Moments l first.offset last)) e
    ∙ ap (flat_map _) (readings_up_to first.offset last r.end (date_time_rule first.local (last_reading_of r.end) r.pattern r.times))
