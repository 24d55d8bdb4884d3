-- A list of a recurrence has one answer.
use Rattle.std.proofs.Common.{◌≡◌, ◌∙◌, ap, inl, inr, refl, subst, sym, ℕ, Option, Some, Result, Ok, Err, ℤ, List, [], ◌∷◌, slice_get}
use Rattle.std.specs.Prelude.{◌&&◌, ◌||◌, not, IsOk, option_map}
use Rattle.std.specs.List.{flat_map, list_any}
use Rattle.std.specs.Ordering.{int_eq}
use Rattle.std.proofs.lemmas.Bool.{false≢true}
use Rattle.cal_datetime.specs.OffsetDateTime.{LocalAndOffset, instant}
use Rattle.cal_recurrence.specs.DateTimeRule.{is_not_after, is_occurrence}
use Rattle.cal_recurrence.specs.DateTimeSet.{is_in_set, is_listed}
use Rattle.cal_recurrence.specs.ZonedSet.{IsMeant, Means, Occurs, is_in_time, is_kept}
use Rattle.cal_recurrence.proofs.ZonedSearch.{first-one}
use Rattle.cal_recurrence.specs.declared.recurrence.Recurrence.{Recurrence}
use Rattle.cal_recurrence.specs.declared.zoned_set.ZonedSet.{ZonedSet}
use Rattle.cal_zone.specs.Local.{IsLocalOf}
use Rattle.cal_zone.specs.Timeline.{Timeline}
use Rattle.cal_zone.specs.declared.local.Local.{Local}
use Rattle.caldate_lines.specs.declared.run_error.RunError.{RunError}
use Rattle.caldate_answers.proofs.OneAnswer.{took-one}
use Rattle.caldate_args.specs.declared.command.Span.{Span}
use Rattle.caldate_args.specs.declared.command.Span.TheVariants.{Dates, InZone, Moments}
use Rattle.caldate_run.specs.Recurring.{AreNextIn, IsEndIn, IsNextIn, IsSetIn, ListsSet, ListsSpan, moment_line}
use Rattle.caldate_run.proofs.Listed.{pages-one}

-- A reading has one result in the zone.
abbrev OneLocal : Timeline → Type 0
OneLocal zone = (reading : ℤ) (a b : Local) → IsLocalOf zone reading a → IsLocalOf zone reading b → a ≡ b

-- ---- two sets of a recurrence in a zone have the same moments
same_on : (zone : Timeline) (r : Recurrence) (first : LocalAndOffset) (s t : ZonedSet) → IsSetIn zone r first s → IsSetIn zone r first t → (z : ℤ)
    → is_in_set s.readings z ≡ is_in_set t.readings z
unfolding is_in_set
same_on zone r first s t a b z =
    let rule = a.rule ∙ sym b.rule in
    let dates = a.dates ∙ sym b.dates in
    let exceptions = a.exceptions ∙ sym b.exceptions in
    λ i. (is_occurrence (rule i) z || is_listed (dates i) z) && not (is_listed (exceptions i) z)

same_kept : (zone : Timeline) (r : Recurrence) (first : LocalAndOffset) (s t : ZonedSet) → IsSetIn zone r first s → IsSetIn zone r first t → (x : ℤ)
    → is_kept s x ≡ is_kept t x
same_kept zone r first s t a b x =
    let left_out = a.left_out ∙ sym b.left_out in
    λ i. not (list_any (λ e. int_eq (instant e) x) (left_out i))

same_time : (zone : Timeline) (r : Recurrence) (first : LocalAndOffset) (s t : ZonedSet) → IsSetIn zone r first s → IsSetIn zone r first t → (z x : ℤ)
    → is_in_time s z x ≡ is_in_time t z x
same_time zone r first s t a b z x =
    let until = a.until ∙ sym b.until in
    let dates = a.dates ∙ sym b.dates in
    λ i. is_not_after (option_map instant (until i)) x || is_listed (dates i) z

same_means : (zone : Timeline) (r : Recurrence) (first : LocalAndOffset) (s t : ZonedSet) → IsSetIn zone r first s → IsSetIn zone r first t
    → (z : ℤ) (m : LocalAndOffset) → Means s z m → Means t z m
same_means zone r first s t a b z m h = record {
  range = h.range;
  on = sym (same_on zone r first s t a b z) ∙ h.on;
  meant = subst (λ y. IsMeant y z m) (a.zone_is ∙ sym b.zone_is) h.meant;
  in_time = sym (same_time zone r first s t a b z (instant m)) ∙ h.in_time;
  kept = sym (same_kept zone r first s t a b (instant m)) ∙ h.kept;
}

same_occurs : (zone : Timeline) (r : Recurrence) (first : LocalAndOffset) (s t : ZonedSet) → IsSetIn zone r first s → IsSetIn zone r first t
    → (z : ℤ) (m : LocalAndOffset) → Occurs s z m → Occurs t z m
same_occurs zone r first s t a b z m (inl h) = inl (same_means zone r first s t a b z m h)
same_occurs zone r first s t a b z m (inr h) = inr (record {
  index = h.index;
  after = h.after;
  listed = ap (λ l. slice_get l h.index) (b.instants ∙ sym a.instants) ∙ h.listed;
  range = h.range;
  kept = sym (same_kept zone r first s t a b (instant m)) ∙ h.kept;
})

-- ---- the first moment after an instant, and all of them
module _ (zone : Timeline) (r : Recurrence) (first last : LocalAndOffset) (one : OneLocal zone) where
  same_next : (s t : ZonedSet) → IsSetIn zone r first s → IsSetIn zone r first t → (x : ℤ) (m : LocalAndOffset) → IsNextIn s last x m → IsNextIn t last x m
  same_next s t a b x m h = record {
    first = record {
      place = h.first.place;
      is = same_occurs zone r first s t a b h.first.place m h.first.is;
      later = h.first.later;
      first = λ z k is later. h.first.first z k (same_occurs zone r first t s b a z k is) later;
    };
    not_past = h.not_past;
  }

  one_next : (s : ZonedSet) → IsSetIn zone r first s → (x : ℤ) (m k : LocalAndOffset) → IsNextIn s last x m → IsNextIn s last x k → m ≡ k
  one_next s a x m k h j = first-one s (subst OneLocal (sym a.zone_is) one) x m k h.first j.first

  one_list : (s t : ZonedSet) → IsSetIn zone r first s → IsSetIn zone r first t → (x : ℤ) (ms ks : List LocalAndOffset)
      → AreNextIn s last (IsEndIn s last) x ms → AreNextIn t last (IsEndIn t last) x ks → ms ≡ ks
  one_list s t a b x [] [] end stop = refl
  one_list s t a b x [] (k ∷ ks) end (here, others) = absurd (end k (same_next t s b a x k here))
  one_list s t a b x (m ∷ ms) [] (here, others) end = absurd (end m (same_next s t a b x m here))
  one_list s t a b x (m ∷ ms) (k ∷ ks) (here, others) (there, rest) =
      let same = one_next t b x m k (same_next s t a b x m here) there in
      let more = one_list s t a b (instant m) ms ks others (subst (λ y. AreNextIn t last (IsEndIn t last) (instant y) ks) (sym same) rest) in
      λ i. same i ∷ more i

  one_set : (s t : ZonedSet) → IsSetIn zone r first s → IsSetIn zone r first t → (held : List ℕ) (p q : Result Unit RunError) (w v : Option (List ℕ))
      → IsOk p → IsOk q → ListsSet s first last p (Some held) w → ListsSet t first last q (Some held) v → w ≡ v
  one_set s t a b held (Err e) q w v ok too lists others = absurd (false≢true ok)
  one_set s t a b held (Ok done) (Err e) w v ok too lists others = absurd (false≢true too)
  one_set s t a b held (Ok done) (Ok end) w v ok too (ms, all, took) (ks, every, taken) =
      took-one held _ _ w v took taken (ap (flat_map moment_line) (one_list s t a b _ ms ks all every))

-- The zone of a span has one result for a reading.
abbrev pub OneLocalIn : Span → Type 0
OneLocalIn (InZone zone first last) = OneLocal zone
OneLocalIn other = Unit {0}

pub spans-one : (span : Span) (r : Recurrence) (held : List ℕ) (p q : Result Unit RunError) (w v : Option (List ℕ)) → OneLocalIn span → IsOk p → IsOk q
    → ListsSpan span r p (Some held) w → ListsSpan span r q (Some held) v → w ≡ v
spans-one (Dates first last) r held p q w v one ok too lists others = pages-one _ held p q w v ok too lists others
spans-one (Moments first last) r held p q w v one ok too lists others = pages-one _ held p q w v ok too lists others
spans-one (InZone zone first last) r held p q w v one ok too (s, a, lists) (t, b, others) = one_set zone r first last one s t a b held p q w v ok too lists others
