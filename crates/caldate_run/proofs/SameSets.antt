-- Sets in a zone with the same parts have the same occurrences.
use Rattle.std.proofs.Common.{◌≡◌, ◌∙◌, ap, inl, inr, subst, sym, ℤ, slice_get}
use Rattle.std.specs.Prelude.{◌&&◌, ◌||◌, not, option_map}
use Rattle.std.specs.List.{list_any}
use Rattle.std.specs.Ordering.{int_eq}
use Rattle.cal_datetime.specs.OffsetDateTime.{LocalAndOffset, instant}
use Rattle.cal_recurrence.specs.DateTimeRule.{is_not_after, is_occurrence}
use Rattle.cal_recurrence.specs.DateTimeSet.{is_in_set, is_listed}
use Rattle.cal_recurrence.specs.ZonedSet.{HasInstant, IsMeant, Means, Occurs, is_in_time, is_kept}
use Rattle.cal_recurrence.specs.declared.zoned_set.ZonedSet.{ZonedSet}

-- The parts of two sets are the same.
pub record IsSame (s t : ZonedSet) : Type 0 where
  pub rule : s.readings.rule ≡ t.readings.rule
  pub dates : s.readings.dates.now ≡ t.readings.dates.now
  pub exceptions : s.readings.exceptions.now ≡ t.readings.exceptions.now
  pub zone_is : s.zone.now ≡ t.zone.now
  pub until : s.until ≡ t.until
  pub instants : s.instants.now ≡ t.instants.now
  pub left_out : s.exceptions.now ≡ t.exceptions.now

same_on : (s t : ZonedSet) → IsSame s t → (z : ℤ) → is_in_set s.readings z ≡ is_in_set t.readings z
unfolding is_in_set
same_on s t a z = λ i. (is_occurrence (a.rule i) z || is_listed (a.dates i) z) && not (is_listed (a.exceptions i) z)

same_kept : (s t : ZonedSet) → IsSame s t → (x : ℤ) → is_kept s x ≡ is_kept t x
same_kept s t a x = λ i. not (list_any (λ e. int_eq (instant e) x) (a.left_out i))

same_time : (s t : ZonedSet) → IsSame s t → (z x : ℤ) → is_in_time s z x ≡ is_in_time t z x
same_time s t a z x = λ i. is_not_after (option_map instant (a.until i)) x || is_listed (a.dates i) z

same_means : (s t : ZonedSet) → IsSame s t → (z : ℤ) (m : LocalAndOffset) → Means s z m → Means t z m
same_means s t a z m h = record {
  range = h.range;
  on = sym (same_on s t a z) ∙ h.on;
  meant = subst (λ y. IsMeant y z m) a.zone_is h.meant;
  in_time = sym (same_time s t a z (instant m)) ∙ h.in_time;
  kept = sym (same_kept s t a (instant m)) ∙ h.kept;
}

pub same_occurs : (s t : ZonedSet) → IsSame s t → (z : ℤ) (m : LocalAndOffset) → Occurs s z m → Occurs t z m
same_occurs s t a z m (inl h) = inl (same_means s t a z m h)
same_occurs s t a z m (inr h) = inr (record {
  index = h.index;
  after = h.after;
  listed = ap (λ l. slice_get l h.index) (sym a.instants) ∙ h.listed;
  range = h.range;
  kept = sym (same_kept s t a (instant m)) ∙ h.kept;
})

pub same_has : (s t : ZonedSet) → IsSame s t → (x : ℤ) → HasInstant s x → HasInstant t x
same_has s t a x h = record { place = h.place; moment = h.moment; occurs = same_occurs s t a h.place h.moment h.occurs; same = h.same }
