-- The search for the next occurrence of a set in a zone.
use Rattle.std.proofs.Common.{◌≡◌, refl, sym, ap, ◌∙◌, arith, ℕ, ◌+◌, ◌*◌, ◌<◌, ◌≤◌, ◌⊎◌, inl, inr, Bool, true, false, ◌&&◌, length, Option, Some, None, ℤ, pos, negsuc, neg_ℤ, ◌+ℤ◌, ◌-ℤ◌, ◌≤ℤ◌, ◌<ℤ◌, subst, to_z, of_z}
use Rattle.std.specs.Prelude.{◌||◌, int_lt, nat_le, not, slice_get, unsigned_abs, MatchOption, SomeIff, option_map}
use Rattle.std.specs.Ordering.{int_cmp}
use Rattle.std.proofs.lemmas.Bool.{and_parts, cases_Bool, false≢true, or_right}
use Rattle.std.proofs.lemmas.Option.{slice_get_within}
use mir.Syntax.{w128}
use Rattle.std.proofs.lemmas.Int.{ints, to_z-of_z}
use Rattle.cal_time.specs.SignedDuration.{second}
use Rattle.cal_time.specs.UtcOffset.{IsOffset}
use Rattle.cal_datetime.specs.DateTime.{last_date_time, IsDateTime}
use Rattle.cal_datetime.specs.OffsetDateTime.{LocalAndOffset, instant, IsInstant}
use Rattle.cal_datetime.proofs.Instants.{IsInstant-less}
use Rattle.cal_recurrence.specs.DateTimeRule.{is_not_after, is_occurrence, occurrences_after, readings_from}
use Rattle.cal_recurrence.specs.DateTimeSet.{candidates, is_in_set, is_listed}
use Rattle.cal_recurrence.specs.Nearest.{is_past, IsFirstPast, IsNearest}
use Rattle.cal_recurrence.proofs.DateTimeSets.{after_rule, found, not_found, number-is, rule_readings}
use Rattle.cal_recurrence.proofs.NearestValues.{is-later, later, within}
use Rattle.cal_zone.specs.Local.{moved_forward, IsCompatible, IsLocalOf}
use Rattle.cal_zone.specs.Timeline.{Timeline}
use Rattle.cal_zone.specs.declared.gap.Gap as gaps
use Rattle.cal_zone.specs.declared.local.Local.{Local}
use Rattle.cal_zone.specs.declared.local.Local.TheVariants.{Single, Gap, Fold}
use Rattle.cal_recurrence.specs.Occurrences.{nanoseconds_left}
use Rattle.cal_recurrence.specs.TimeSearch.{first_by}
use Rattle.cal_recurrence.specs.OffsetRange.{IsSettled, IsStart}
use Rattle.cal_recurrence.specs.ZonedSet.{is_earlier, is_in_time, is_kept, is_selected, reach, HasInstant, IsFirstAfter, IsListed, IsMeant, IsNextAfter, IsNextCandidate, IsPast, Means, MeansAt, NoReading, NoneAfter, Occurs}
use Rattle.cal_recurrence.specs.declared.date_time_set.DateTimeSet.{DateTimeSet}
use Rattle.cal_recurrence.specs.declared.zoned_set.ZonedSet.{ZonedSet}

-- ---- numbers
is_less : (a b : ℤ) → int_lt a b ≡ true → a <ℤ b
is_less a b e = grind (arith, ints)

is_most : (a b : ℤ) → int_lt a b ≡ false → b ≤ℤ a
is_most a b e = grind (arith, ints)

-- One integer is less than another, or it isn't.
pub compared : (a b : ℤ) → (a <ℤ b) ⊎ (b ≤ℤ a)
compared a b = elim (cases_Bool (int_lt a b)) as (λ _. (a <ℤ b) ⊎ (b ≤ℤ a)) [ inl e ↦ inl (is_less a b e) | inr e ↦ inr (is_most a b e) ]

pub in-range : (m : LocalAndOffset) → IsDateTime m.local → IsOffset m.offset → IsInstant (instant m)
unfolding instant
in-range m h k = IsInstant-less m.local m.offset h k

-- Nanoseconds from 1970 to an instant of the range, or one less, as an `i128`.
pub as-word : (n : ℤ) → neg_ℤ (pos 100_000_000_000_000_000_000_000) ≤ℤ n → n ≤ℤ pos 100_000_000_000_000_000_000_000 → to_z w128 (of_z w128 n) ≡ n
as-word (pos n) low high = to_z-of_z w128 (pos n) (record { sfits = omega (arith, ints, high) })
as-word (negsuc n) low high = to_z-of_z w128 (negsuc n) (record { sfits = omega (arith, ints, low) })

-- ---- the distance of a reading from the instant that it means
abbrev pub Near : ℤ → ℤ → Type 0
Near x z = (x ≤ℤ (z +ℤ reach)) × (z ≤ℤ (x +ℤ reach))

at-offset : (m : LocalAndOffset) → IsOffset m.offset → Near (instant m) m.local
unfolding instant
at-offset m h =
    let low : neg_ℤ (pos 93_599) ≤ℤ m.offset = omega (arith, ints, h.magnitude) in
    let high : m.offset ≤ℤ pos 93_599 = omega (arith, ints, h.magnitude) in
    (omega (arith, ints, low, high), omega (arith, ints, low, high))

in-gap : (g : gaps.Gap) → neg_ℤ (pos 93_599) ≤ℤ g.before → g.before ≤ℤ pos 93_599 → Near (instant (moved_forward g)) g.reading
unfolding instant
in-gap g low high = (omega (arith, ints, low, high), omega (arith, ints, low, high))

near-at : (zone : Timeline) (z : ℤ) (m : LocalAndOffset) (local : Local) → IsLocalOf zone z local → IsCompatible local (Some m) → IsOffset m.offset → Near (instant m) z
near-at zone z m (Single moment) shown selected offset =
    let e : m ≡ moment = cc in
    subst (Near (instant m)) ((shown.set m).0 e).same (at-offset m offset)
near-at zone z m (Gap gap) shown selected offset =
    let around = shown.explained.1.offsets.0 in
    subst (Near (instant m)) shown.explained.0 (subst (λ k. Near (instant k) gap.reading) (sym selected.1) (in-gap gap around.0 around.1))
near-at zone z m (Fold first second) shown selected offset =
    let e : m ≡ first = cc in
    subst (Near (instant m)) ((shown.set m).0 (inl e)).same (at-offset m offset)

pub near : (zone : Timeline) (z : ℤ) (m : LocalAndOffset) → IsMeant zone z m → Near (instant m) z
near zone z m h = near-at zone z m h.local h.shown h.selected h.offset

-- ---- a reading means one date-time
compatible-one : (local : Local) (m k : LocalAndOffset) → IsCompatible local (Some m) → IsCompatible local (Some k) → k ≡ m
compatible-one (Single x) m k a b = cc
compatible-one (Gap gap) m k a b = b.1 ∙ sym a.1
compatible-one (Fold x y) m k a b = cc

compatible-none : (local : Local) (k : LocalAndOffset) → IsCompatible local None → IsCompatible local (Some k) → ⊥
compatible-none (Single x) k a b = absurd (cc)
compatible-none (Gap gap) k a b = a b.0
compatible-none (Fold x y) k a b = absurd (cc)

-- A zone describes a reading in one way.
abbrev pub IsUnique : Timeline → Type 0
IsUnique zone = (z : ℤ) (a b : Local) → IsLocalOf zone z a → IsLocalOf zone z b → a ≡ b

pub means-one : (zone : Timeline) → IsUnique zone → (z : ℤ) (m k : LocalAndOffset) → IsMeant zone z m → IsMeant zone z k → k ≡ m
means-one zone one z m k h g = compatible-one h.local m k h.selected (subst (λ local. IsCompatible local (Some k)) (one z g.local h.local g.shown h.shown) g.selected)

pub means-none : (set : ZonedSet) → IsUnique set.zone.now → (y x : ℤ) (local : Local) → IsLocalOf set.zone.now y local → IsCompatible local None → NoneAfter (MeansAt set y) x
means-none set one y x local shown none z k h =
    let g : IsMeant set.zone.now y k = rw h.1 at h.0.meant in
    absurd (compatible-none local k none (rw (one y g.local local g.shown shown) at g.selected))

-- The date-time that a reading means is the first one of this reading.
same-moment : (set : ZonedSet) → IsUnique set.zone.now → (y : ℤ) (m : LocalAndOffset) → IsMeant set.zone.now y m → (z : ℤ) (k : LocalAndOffset) → MeansAt set y z k → instant k ≡ instant m
same-moment set one y m meant z k h = ap instant (means-one set.zone.now one y m k meant (subst (λ w. IsMeant set.zone.now w k) h.1 h.0.meant))

pub only : (set : ZonedSet) → IsUnique set.zone.now → (y x : ℤ) (m : LocalAndOffset) → Means set y m → x <ℤ instant m → IsFirstAfter (MeansAt set y) x m
only set one y x m means late = record {
  place = y;
  is = (means, refl);
  later = late;
  first = λ z k h after.
      (let e = same-moment set one y m means.meant z k h in omega (arith, ints, e), λ e. omega (arith, ints, h.1));
}

selected : (set : ZonedSet) (z : ℤ) (m : LocalAndOffset) → Means set z m → is_selected set z (instant m) ≡ true
selected set z m h = rw (h.on, h.in_time, h.kept) refl

pub means-it : (set : ZonedSet) (z : ℤ) (m : LocalAndOffset) → IsDateTime z → IsMeant set.zone.now z m → is_selected set z (instant m) ≡ true → Means set z m
means-it set z m range meant e =
    let on = and_parts (is_in_set set.readings z) (is_in_time set z (instant m) && is_kept set (instant m)) e in
    let kept = and_parts (is_in_time set z (instant m)) (is_kept set (instant m)) on.1 in
    record { range = range; on = on.0; meant = meant; in_time = kept.0; kept = kept.1 }

pub left-out : (set : ZonedSet) → IsUnique set.zone.now → (y x : ℤ) (m : LocalAndOffset) → IsMeant set.zone.now y m → (x <ℤ instant m → is_selected set y (instant m) ≡ false) → NoneAfter (MeansAt set y) x
left-out set one y x m meant out z k h =
    let e = same-moment set one y m meant z k h in
    elim (compared x (instant k)) as (λ _. instant k ≤ℤ x) [
      | inl late ↦ absurd (false≢true (sym (out (omega (arith, ints, late, e))) ∙ ap (is_selected set y) (sym e) ∙ ap (λ w. is_selected set w (instant k)) (sym h.1) ∙ selected set z k h.0))
      | inr most ↦ most
    ]

-- ---- the first date-time of two groups of readings, of which one is before the other
pub widen : (P R : ℤ → LocalAndOffset → Type 0) (x : ℤ) (r : Option LocalAndOffset) → ((z : ℤ) (k : LocalAndOffset) → R z k → P z k) → ((z : ℤ) (k : LocalAndOffset) → P z k → R z k)
    → IsNextAfter P x r → IsNextAfter R x r
widen P R x None down up none = λ z k h. none z k (down z k h)
widen P R x (Some m) down up h = record {
  place = h.place;
  is = up h.place m h.is;
  later = h.later;
  first = λ z k on late. h.first z k (down z k on) late;
}

record Splits (P Q R : ℤ → LocalAndOffset → Type 0) : Type 0 where
  down : (z : ℤ) (k : LocalAndOffset) → R z k → P z k ⊎ Q z k
  one : (z : ℤ) (k : LocalAndOffset) → P z k → R z k
  other : (z : ℤ) (k : LocalAndOffset) → Q z k → R z k
  order : (z w : ℤ) (k l : LocalAndOffset) → P z k → Q w l → z <ℤ w

-- the first of one group stays the first, if no date-time of the other is earlier
first-stays : (P Q R : ℤ → LocalAndOffset → Type 0) (x : ℤ) (m : LocalAndOffset) → Splits P Q R → (p : IsFirstAfter P x m)
    → ((z : ℤ) (k : LocalAndOffset) → Q z k → x <ℤ instant k → instant m ≤ℤ instant k) → IsFirstAfter R x m
first-stays P Q R x m s p others = record {
  place = p.place;
  is = s.one p.place m p.is;
  later = p.later;
  first = λ z k h late. elim (s.down z k h) as (λ _. (instant m ≤ℤ instant k) × (instant k ≡ instant m → p.place ≤ℤ z)) [
    | inl a ↦ p.first z k a late
    | inr b ↦ let before = s.order p.place z m k p.is b in (others z k b late, λ e. omega (arith, ints, before))
  ];
}

other-first : (P Q R : ℤ → LocalAndOffset → Type 0) (x : ℤ) (m : LocalAndOffset) → Splits P Q R → (q : IsFirstAfter Q x m)
    → ((z : ℤ) (k : LocalAndOffset) → P z k → x <ℤ instant k → instant m <ℤ instant k) → IsFirstAfter R x m
other-first P Q R x m s q others = record {
  place = q.place;
  is = s.other q.place m q.is;
  later = q.later;
  first = λ z k h late. elim (s.down z k h) as (λ _. (instant m ≤ℤ instant k) × (instant k ≡ instant m → q.place ≤ℤ z)) [
    | inl a ↦ let less = others z k a late in (omega (arith, ints, less), λ same. absurd (omega (arith, ints, less, same)))
    | inr b ↦ q.first z k b late
  ];
}

joined-at : (P Q R : ℤ → LocalAndOffset → Type 0) (x : ℤ) (m k : LocalAndOffset) (b : Bool) → int_lt (instant k) (instant m) ≡ b → Splits P Q R → IsFirstAfter P x m → IsFirstAfter Q x k
    → IsNextAfter R x (first_by is_earlier (Some m) (Some k))
joined-at P Q R x m k true e s p q = rw e (other-first P Q R x k s q (λ z j a late. let less = is_less (instant k) (instant m) e in let most = (p.first z j a late).0 in omega (arith, ints, less, most)))
joined-at P Q R x m k false e s p q = rw e (first-stays P Q R x m s p (λ z j b late. let most = is_most (instant k) (instant m) e in let above = (q.first z j b late).0 in omega (arith, ints, most, above)))

joined : (P Q R : ℤ → LocalAndOffset → Type 0) (x : ℤ) (p q : Option LocalAndOffset) → Splits P Q R → IsNextAfter P x p → IsNextAfter Q x q → IsNextAfter R x (first_by is_earlier p q)
joined P Q R x None None s p q = λ z k h. elim (s.down z k h) as (λ _. instant k ≤ℤ x) [ inl a ↦ p z k a | inr b ↦ q z k b ]
joined P Q R x None (Some m) s p q = other-first P Q R x m s q (λ z k a late. let most = p z k a in absurd (omega (arith, ints, late, most)))
joined P Q R x (Some m) None s p q = first-stays P Q R x m s p (λ z k b late. let most = q z k b in absurd (omega (arith, ints, late, most)))
joined P Q R x (Some m) (Some k) s p q = joined-at P Q R x m k (int_lt (instant k) (instant m)) refl s p q

-- ---- the readings up to one
-- A reading before the reading n, or up to it, means the date-time.
abbrev pub Before : ZonedSet → ℤ → ℤ → LocalAndOffset → Type 0
Before set n z k = Means set z k × (z <ℤ n)

abbrev pub Covered : ZonedSet → ℤ → ℤ → LocalAndOffset → Type 0
Covered set n z k = Means set z k × (z ≤ℤ n)

-- A candidate of a set is one of its readings, unless it is left out.
candidate : (set : DateTimeSet) (z : ℤ) → is_in_set set z ≡ true → candidates set z ≡ true
unfolding is_in_set
candidate set z on = (and_parts (candidates set z) (not (is_listed set.exceptions.now z)) on).0

-- The next reading of a set is the next candidate that can be an occurrence.
pub is-at : (set : ZonedSet) (n : ℕ) (y : ℤ) → Some y ≡ slice_get (readings_from (is_in_set set.readings) n) 0 → IsNextCandidate set n y
is-at set n y e =
    let test = is_in_set set.readings in
    let at = found test n y e in
    record {
      range = record { not_before = omega (arith, ints, at.is); not_after = omega (arith, ints, at.is, at.first.below) };
      on = candidate set.readings y (ap test at.is ∙ at.first.passes);
      from = at.first.not_before;
      first = λ z k g low. elim (compared z y) as (λ _. y ≤ℤ z) [
        | inl less ↦ absurd (false≢true (sym (at.first.none_before (unsigned_abs z) low (omega (arith, ints, g.range.not_before, less, at.is))) ∙ ap test (number-is z g.range) ∙ g.on))
        | inr most ↦ most
      ];
    }

pub none-left : (set : ZonedSet) (n : ℕ) → None ≡ slice_get (readings_from (is_in_set set.readings) n) 0 → NoReading set n
none-left set n e z k g low =
    let test = is_in_set set.readings in
    false≢true (sym (not_found test n e (unsigned_abs z) low (omega (arith, ints, g.range.not_before, g.range.not_after))) ∙ ap test (number-is z g.range) ∙ g.on)

-- ---- the readings past the end of the rule
late-at : (last : Option LocalAndOffset) (n z : ℤ) (k : LocalAndOffset) → MatchOption last ⊥ (λ m. (instant m +ℤ reach) <ℤ n) → n ≤ℤ z → z ≤ℤ (instant k +ℤ reach) → is_not_after (option_map instant last) (instant k) ≡ false
late-at None n z k past most far = absurd past
late-at (Some m) n z k past most far = let less : instant m <ℤ instant k = omega (arith, ints, past, most, far) in grind (arith, ints)

-- Past the end of the rule, a reading that counts is one of the others.
other-reading : (set : ZonedSet) (n z : ℤ) (k : LocalAndOffset) → MatchOption set.until ⊥ (λ m. (instant m +ℤ reach) <ℤ n) → Means set z k → n ≤ℤ z → is_listed set.readings.dates.now z ≡ true
other-reading set n z k past g most =
    sym (ap (λ b. b || is_listed set.readings.dates.now z) (late-at set.until n z k past most (near set.zone.now z k g.meant).1)) ∙ g.in_time

-- ---- the nearest of the rule and the other readings
-- A reading of the rule, or one of the other readings.
abbrev pub OneOf : DateTimeSet → (ℤ → Bool) → ℤ → Bool
OneOf set test z = test z || is_listed set.dates.now z

-- The test passes only readings of the rule, and each reading after one that counts if it isn't one of
-- the others.
record Covers (set : ZonedSet) (z : ℤ) (test : ℤ → Bool) : Type 0 where
  only : (y : ℤ) → test y ≡ true → is_occurrence set.readings.rule y ≡ true
  each : (y : ℤ) (k : LocalAndOffset) → Means set y k → z <ℤ y → OneOf set.readings test y ≡ true

offered : (set : ZonedSet) (z : ℤ) (test : ℤ → Bool) (y : ℤ) (b : Bool) → test y ≡ b → Covers set z test → OneOf set.readings test y ≡ true → candidates set.readings y ≡ true
offered set z test y true is h on = rw (h.only y is) refl
offered set z test y false is h on =
    or_right (is_occurrence set.readings.rule y) (is_listed set.readings.dates.now y) (ap (λ b. b || is_listed set.readings.dates.now y) (sym is) ∙ on)

-- The nearest reading is the next one, if it is in range.
nearest-next : (set : ZonedSet) (z : ℤ) (test : ℤ → Bool) (r : Option ℤ) → IsDateTime z → ((y : ℤ) → r ≡ Some y → IsDateTime y) → Covers set z test
    → IsNearest (is_past int_cmp true) (OneOf set.readings test) z r → MatchOption r (NoReading set (unsigned_abs z + 1)) (IsNextCandidate set (unsigned_abs z + 1))
nearest-next set z test None range within h none = λ y k g low.
    let after : z <ℤ y = omega (arith, ints, low, g.range.not_before, range.not_before) in
    false≢true (sym (none y (later z y after)) ∙ h.each y k g after)
nearest-next set z test (Some x) range within h nearest = let date = within x refl in record {
  range = date;
  on = offered set z test x (test x) refl h nearest.passes;
  from = omega (arith, ints, is-later z x nearest.beyond, range.not_before, date.not_before);
  first = λ y k g low. elim (compared y x) as (λ _. x ≤ℤ y) [
    | inl before ↦
        let after : z <ℤ y = omega (arith, ints, low, g.range.not_before, range.not_before) in
        absurd (false≢true (sym (nearest.none_between y (later z y after) (later y x before)) ∙ h.each y k g after))
    | inr most ↦ most
  ];
}

of-rule : (set : DateTimeSet) (y : ℤ) → IsDateTime y → is_in_set set y ≡ true → OneOf set (rule_readings set) y ≡ true
of-rule set y range on = rw (within (unsigned_abs y) last_date_time (omega (arith, ints, range.not_before, range.not_after))) (candidate set y on)

-- The readings of the rule before one.
abbrev pub rule_until : DateTimeSet → ℤ → ℤ → Bool
rule_until set x y = int_lt y x && rule_readings set y

rule-only : (set : DateTimeSet) (y : ℤ) → rule_readings set y ≡ true → is_occurrence set.rule y ≡ true
rule-only set y on = (and_parts (nat_le (unsigned_abs y) last_date_time) (is_occurrence set.rule y) on).1

whole-rule : (set : ZonedSet) (z : ℤ) → Covers set z (rule_readings set.readings)
whole-rule set z = record { only = λ y on. rule-only set.readings y on; each = λ y k g after. of-rule set.readings y g.range g.on }

ended-rule : (set : ZonedSet) (z x : ℤ) → MatchOption set.until ⊥ (λ m. (instant m +ℤ reach) <ℤ x) → Covers set z (rule_until set.readings x)
ended-rule set z x past = record {
  only = λ y on. rule-only set.readings y (and_parts (int_lt y x) (rule_readings set.readings y) on).1;
  each = λ y k g after. elim (cases_Bool (int_lt y x)) as (λ _. OneOf set.readings (rule_until set.readings x) y ≡ true) [
    | inl less ↦ rw less (of-rule set.readings y g.range g.on)
    | inr most ↦ or_right (rule_until set.readings x y) (is_listed set.readings.dates.now y) (other-reading set x y k past g (is_most y x most))
  ];
}

none-before : (set : ZonedSet) (z x : ℤ) → IsFirstPast (is_past int_cmp true) (rule_readings set.readings) z x → IsNearest (is_past int_cmp true) (rule_until set.readings x) z None
none-before set z x h = λ y beyond. elim (cases_Bool (int_lt y x)) as (λ _. rule_until set.readings x y ≡ false) [
  | inl less ↦ rw less (h.none_between y beyond (later y x (is_less y x less)))
  | inr most ↦ rw most refl
]

-- What `nearest` says of its result.
abbrev pub IsNearestOf : ZonedSet → ℤ → Option ℤ → Option ℤ → Type 0
IsNearestOf set z found r = (test : ℤ → Bool) → IsNearest (is_past int_cmp true) test z found → IsNearest (is_past int_cmp true) (OneOf set.readings test) z r

pub next-reading : (set : ZonedSet) (z : ℤ) (rule found r : Option ℤ) → IsDateTime z → ((y : ℤ) → r ≡ Some y → IsDateTime y) → rule ≡ slice_get (occurrences_after set.readings.rule z) 0
    → (found ≡ rule) ⊎ (IsPast set.until rule × (found ≡ None)) → IsNearestOf set z found r → MatchOption r (NoReading set (unsigned_abs z + 1)) (IsNextCandidate set (unsigned_abs z + 1))
next-reading set z rule found r range date is (inl same) nearest =
    nearest-next set z (rule_readings set.readings) r range date (whole-rule set z) (nearest (rule_readings set.readings) (after_rule set.readings z found range (same ∙ is)))
next-reading set z None found r range date is (inr past) nearest = absurd past.0
next-reading set z (Some x) found r range date is (inr past) nearest =
    let none : IsNearest (is_past int_cmp true) (rule_until set.readings x) z None = none-before set z x (after_rule set.readings z (Some x) range is) in
    nearest-next set z (rule_until set.readings x) r range date (ended-rule set z x past.0)
    (nearest (rule_until set.readings x) (subst (IsNearest (is_past int_cmp true) (rule_until set.readings x) z) (sym past.1) none))

-- ---- the readings up to one, and one more
splits : (set : ZonedSet) (n : ℤ) → Splits (Before set n) (MeansAt set n) (Covered set n)
splits set n = record {
  down = λ z k g. elim (compared z n) as (λ _. Before set n z k ⊎ MeansAt set n z k) [
    | inl less ↦ inl (g.0, less)
    | inr most ↦ let e : z ≡ n = omega (arith, ints, most, g.1) in inr (g.0, e)
  ];
  one = λ z k g. (g.0, omega (arith, ints, g.1));
  other = λ z k g. (g.0, omega (arith, ints, g.1));
  order = λ z w k l g f. omega (arith, ints, g.1, f.1);
}

-- The readings before the next one are the readings up to the last one.
pub up-to_next : (set : ZonedSet) (last n x : ℤ) (r : Option LocalAndOffset) → IsDateTime last → IsNextCandidate set (unsigned_abs last + 1) n → IsNextAfter (Covered set last) x r → IsNextAfter (Before set n) x r
up-to_next set last n x r range h covered = widen (Covered set last) (Before set n) x r (λ z k g. (
  g.0,
  elim (compared last z) as (λ _. z ≤ℤ last) [
    | inl later ↦ let most = h.first z k g.0 (omega (arith, ints, later, range.not_before)) in absurd (omega (arith, ints, most, g.1))
    | inr most ↦ most
  ],
)) (λ z k g. (g.0, omega (arith, ints, g.1, h.from, h.range.not_before, range.not_before))) covered

pub step : (set : ZonedSet) (last n x : ℤ) (p q : Option LocalAndOffset) → IsDateTime last → IsNextCandidate set (unsigned_abs last + 1) n
    → IsNextAfter (Covered set last) x p → IsNextAfter (MeansAt set n) x q → IsNextAfter (Covered set n) x (first_by is_earlier p q)
step set last n x p q range h covered at =
    joined (Before set n) (MeansAt set n) (Covered set n) x p q (splits set n) (up-to_next set last n x p range h covered) at

-- ---- the ends of the search
early : (set : ZonedSet) (s x z : ℤ) (k : LocalAndOffset) → IsStart set.zone.now x s → Means set z k → (s ≤ℤ z → ⊥) → instant k ≤ℤ x
early set s x z k starts means none = elim (compared x (instant k)) as (λ _. instant k ≤ℤ x) [
  | inl late ↦ absurd (none (starts z k means.range means.meant late))
  | inr most ↦ most
]

pub begins : (set : ZonedSet) (s x n : ℤ) (r : Option LocalAndOffset) → IsStart set.zone.now x s → IsDateTime s → IsNextCandidate set (unsigned_abs s) n → IsNextAfter (MeansAt set n) x r → IsNextAfter (Covered set n) x r
begins set s x n r starts range h at = joined (Before set n) (MeansAt set n) (Covered set n) x None r (splits set n) (λ z k g.
    early set s x z k starts g.0 (λ from. let most = h.first z k g.0 (omega (arith, ints, from, range.not_before)) in absurd (omega (arith, ints, most, g.1)))) at

pub empty : (set : ZonedSet) (s x : ℤ) → IsStart set.zone.now x s → IsDateTime s → NoReading set (unsigned_abs s) → NoneAfter (Means set) x
empty set s x starts range h z k g = early set s x z k starts g (λ from. h z k g (omega (arith, ints, from, range.not_before)))

pub ends : (set : ZonedSet) (last x : ℤ) (r : Option LocalAndOffset) → IsDateTime last → NoReading set (unsigned_abs last + 1) → IsNextAfter (Covered set last) x r
    → IsNextAfter (Means set) x r
ends set last x r range h covered = widen (Covered set last) (Means set) x r (λ z k g. (
  g,
  elim (compared last z) as (λ _. z ≤ℤ last) [
    | inl later ↦ absurd (h z k g (omega (arith, ints, later, range.not_before)))
    | inr most ↦ most
  ],
)) (λ z k g. g.0) covered

pub or-settled : (set : ZonedSet) (n : ℕ) (first : Option LocalAndOffset) (reading : ℤ) (r : Option ℤ) → MatchOption r (NoReading set n) (IsNextCandidate set n)
    → MatchOption r (NoReading set n ⊎ IsSettled set.zone.now first reading) (IsNextCandidate set n)
or-settled set n first reading None h = inl h
or-settled set n first reading (Some y) h = h

pub stops : (set : ZonedSet) (last x : ℤ) (r : Option LocalAndOffset) → IsNextAfter (Covered set last) x r → IsSettled set.zone.now r last → IsNextAfter (Means set) x r
stops set last x None h settled = absurd settled
stops set last x (Some m) h settled = record {
  place = h.place;
  is = h.is.0;
  later = h.later;
  first = λ z k g late. elim (compared last z) as (λ _. (instant m ≤ℤ instant k) × (instant k ≡ instant m → h.place ≤ℤ z)) [
    | inl after ↦ (settled z k g.meant (omega (arith, ints, after)), λ e. omega (arith, ints, after, h.is.1))
    | inr most ↦ h.first z k (g, most) late
  ];
}

-- ---- the other instants
-- The other instants with an index below n, and the one with the index n.
abbrev pub ListedBefore : ZonedSet → ℕ → ℤ → LocalAndOffset → Type 0
ListedBefore set n z m = IsListed set z m × (z <ℤ pos (last_date_time + 1 + n))

abbrev pub ListedAt : ZonedSet → ℕ → ℤ → LocalAndOffset → Type 0
ListedAt set n z m = IsListed set z m × (z ≡ pos (last_date_time + 1 + n))

pub no-listed : (set : ZonedSet) (x : ℤ) → NoneAfter (ListedBefore set 0) x
no-listed set x z k g = absurd (omega (arith, ints, g.0.after, g.1))

listed-splits : (set : ZonedSet) (n : ℕ) → Splits (ListedBefore set n) (ListedAt set n) (ListedBefore set (n + 1))
listed-splits set n = record {
  down = λ z k g. elim (compared z (pos (last_date_time + 1 + n))) as (λ _. ListedBefore set n z k ⊎ ListedAt set n z k) [
    | inl less ↦ inl (g.0, less)
    | inr most ↦ let e : z ≡ pos (last_date_time + 1 + n) = omega (arith, ints, most, g.1) in inr (g.0, e)
  ];
  one = λ z k g. (g.0, omega (arith, ints, g.1));
  other = λ z k g. (g.0, omega (arith, ints, g.1));
  order = λ z w k l g f. omega (arith, ints, g.1, f.1);
}

-- The date-time with an index is the only one there.
same-listed : (set : ZonedSet) (n : ℕ) (z : ℤ) (m k : LocalAndOffset) → slice_get set.instants.now n ≡ Some m → ListedAt set n z k → k ≡ m
same-listed set n z m k at g =
    let index : g.0.index ≡ n = omega (arith, ints, g.0.after, g.1) in
    let e : Some k ≡ Some m = sym g.0.listed ∙ ap (slice_get set.instants.now) index ∙ at in cc

one-listed : (set : ZonedSet) (n : ℕ) (x : ℤ) (m : LocalAndOffset) (r : Option LocalAndOffset) → slice_get set.instants.now n ≡ Some m → IsInstant (instant m)
    → SomeIff r ((x <ℤ instant m) × (is_kept set (instant m) ≡ true)) m → IsNextAfter (ListedAt set n) x r
one-listed set n x m None at range h = λ z k g.
    let same = same-listed set n z m k at g in
    elim (compared x (instant k)) as (λ _. instant k ≤ℤ x) [
      | inl late ↦ absurd (h (subst (λ y. (x <ℤ instant y) × (is_kept set (instant y) ≡ true)) same (late, g.0.kept)))
      | inr most ↦ most
    ]
one-listed set n x m (Some k) at range h =
    let same : k ≡ m = h.1 in record {
      place = pos (last_date_time + 1 + n);
      is = (
        record {
          index = n;
          after = refl;
          listed = at ∙ ap Some (sym same);
          range = subst (λ y. IsInstant (instant y)) (sym same) range;
          kept = subst (λ y. is_kept set (instant y) ≡ true) (sym same) h.0.1;
        },
        refl,
      );
      later = subst (λ y. x <ℤ instant y) (sym same) h.0.0;
      first = λ z j g late. (
        (let e = ap instant (same-listed set n z m j at g ∙ sym same) in omega (arith, ints, e)),
        λ e. omega (arith, ints, g.1),
      );
    }

pub listed-step : (set : ZonedSet) (n : ℕ) (x : ℤ) (m : LocalAndOffset) (p q : Option LocalAndOffset) → slice_get set.instants.now n ≡ Some m → IsInstant (instant m)
    → IsNextAfter (ListedBefore set n) x p → SomeIff q ((x <ℤ instant m) × (is_kept set (instant m) ≡ true)) m → IsNextAfter (ListedBefore set (n + 1)) x (first_by is_earlier p q)
listed-step set n x m p q at range before h = joined (ListedBefore set n) (ListedAt set n) (ListedBefore set (n + 1)) x p q (listed-splits set n) before (one-listed set n x m q at range h)

pub all-listed : (set : ZonedSet) (n : ℕ) (x : ℤ) (r : Option LocalAndOffset) → length set.instants.now ≤ n → IsNextAfter (ListedBefore set n) x r → IsNextAfter (IsListed set) x r
all-listed set n x r most h = widen (ListedBefore set n) (IsListed set) x r (λ z k g. (g, (let less = slice_get_within set.instants.now g.index k g.listed in omega (arith, ints, g.after, less, most)))) (λ z k g. g.0) h

-- ---- readings and other instants
occurs-splits : (set : ZonedSet) → Splits (Means set) (IsListed set) (Occurs set)
occurs-splits set = record {
  down = λ z k g. g;
  one = λ z k g. inl g;
  other = λ z k g. inr g;
  order = λ z w k l g f. omega (arith, ints, g.range.not_after, f.after);
}

pub first-of-both : (set : ZonedSet) (x : ℤ) (p q : Option LocalAndOffset) → IsNextAfter (Means set) x p → IsNextAfter (IsListed set) x q → IsNextAfter (Occurs set) x (first_by is_earlier p q)
first-of-both set x p q h g = joined (Means set) (IsListed set) (Occurs set) x p q (occurs-splits set) h g

-- There is one occurrence at a place.
pub occurs-one : (set : ZonedSet) → IsUnique set.zone.now → (z : ℤ) (m k : LocalAndOffset) → Occurs set z m → Occurs set z k → m ≡ k
occurs-one set one z m k (inl h) (inl g) = means-one set.zone.now one z k m g.meant h.meant
occurs-one set one z m k (inl h) (inr g) = absurd (omega (arith, ints, h.range.not_after, g.after))
occurs-one set one z m k (inr h) (inl g) = absurd (omega (arith, ints, g.range.not_after, h.after))
occurs-one set one z m k (inr h) (inr g) = same-listed set g.index z k m g.listed (h, g.after)

-- There is one first occurrence after an instant.
pub first-one : (set : ZonedSet) → IsUnique set.zone.now → (x : ℤ) (m k : LocalAndOffset) → IsFirstAfter (Occurs set) x m → IsFirstAfter (Occurs set) x k → m ≡ k
first-one set one x m k h g =
    let a = h.first g.place k g.is g.later in
    let b = g.first h.place m h.is h.later in
    let same : instant k ≡ instant m = omega (arith, ints, a.0, b.0) in
    let back : instant m ≡ instant k = omega (arith, ints, a.0, b.0) in
    let place : h.place ≡ g.place = omega (arith, ints, a.1 same, b.1 back) in
    occurs-one set one g.place m k (subst (λ z. Occurs set z m) place h.is) g.is

pub next-one : (set : ZonedSet) → IsUnique set.zone.now → (x : ℤ) (r s : Option LocalAndOffset) → IsNextAfter (Occurs set) x r → IsNextAfter (Occurs set) x s → r ≡ s
next-one set one x None None h g = refl
next-one set one x None (Some k) h g = let most = h g.place k g.is in absurd (omega (arith, ints, most, g.later))
next-one set one x (Some m) None h g = let most = g h.place m h.is in absurd (omega (arith, ints, most, h.later))
next-one set one x (Some m) (Some k) h g = ap Some (first-one set one x m k h g)

-- ---- an instant of the set
pub has : (set : ZonedSet) (x : ℤ) (m : LocalAndOffset) → IsFirstAfter (Occurs set) (x -ℤ pos 1) m → instant m ≡ x → HasInstant set x
has set x m h e = record { place = h.place; moment = m; occurs = h.is; same = e }

pub first-is : (set : ZonedSet) (x : ℤ) (m : LocalAndOffset) → IsFirstAfter (Occurs set) (x -ℤ pos 1) m → HasInstant set x → instant m ≡ x
first-is set x m h g =
    let late : (x -ℤ pos 1) <ℤ instant g.moment = omega (arith, ints, g.same) in
    let most = (h.first g.place g.moment g.occurs late).0 in
    omega (arith, ints, h.later, most, g.same)

pub has-none : (set : ZonedSet) (x : ℤ) → NoneAfter (Occurs set) (x -ℤ pos 1) → ¬ HasInstant set x
has-none set x none g = let most = none g.place g.moment g.occurs in omega (arith, ints, most, g.same)

-- ---- the occurrences that are left
not-late : (set : ZonedSet) (z : ℤ) (m : LocalAndOffset) → Occurs set z m → instant m ≤ℤ pos (last_date_time + 93_599 * second)
not-late set z m (inl h) = let far = (near set.zone.now z m h.meant).0 in omega (arith, ints, far, h.range.not_after)
not-late set z m (inr h) = omega (arith, ints, h.range.not_after)

pub fewer-left : (set : ZonedSet) (m : LocalAndOffset) (r : Option LocalAndOffset) → IsNextAfter (Occurs set) (instant m) r → nanoseconds_left r < nanoseconds_left (Some m)
fewer-left set m None h = omega arith
fewer-left set m (Some k) h =
    let most = not-late set h.place k h.is in
    omega (arith, ints, most, h.later)
