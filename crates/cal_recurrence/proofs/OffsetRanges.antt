-- How far readings are from the instants that they mean, by the offsets of a zone near an instant.
use Rattle.std.proofs.Common.{◌≡◌, refl, sym, ◌∙◌, arith, ℕ, zero, suc, ◌⊎◌, inl, inr, length, Some, ℤ, pos, negsuc, neg_ℤ, ◌+ℤ◌, ◌-ℤ◌, ◌*ℤ◌, ◌≤ℤ◌, ◌<ℤ◌, subst}
use Rattle.std.specs.Int.{int_rem_euclid}
use Rattle.std.proofs.lemmas.Bool.{cases_lt}
use Rattle.std.proofs.lemmas.Int.{ints}
use Rattle.cal_time.specs.SignedDuration.{second}
use Rattle.cal_datetime.specs.OffsetDateTime.{LocalAndOffset, instant, local_at, unix_epoch, unix_seconds, IsInstant}
use Rattle.cal_datetime.specs.UnixTimeLaws.{seconds-and_past}
use Rattle.cal_zone.proofs.Readings.{offset_in}
use Rattle.cal_zone.specs.Instants.{IsGap}
use Rattle.cal_zone.specs.Local.{moved_forward, IsCompatible, IsLocalOf}
use Rattle.cal_zone.specs.Span.{IsBetweenChanges, IsSpan}
use Rattle.cal_zone.specs.Timeline.{Timeline, offset_at, InOrder, IsOffset}
use Rattle.cal_zone.specs.declared.gap.Gap as gaps
use Rattle.cal_zone.specs.declared.local.Local.{Local}
use Rattle.cal_zone.specs.declared.local.Local.TheVariants.{Single, Gap, Fold}
use Rattle.cal_zone.specs.declared.span.Span.{Span}
use Rattle.cal_recurrence.specs.OffsetRange.{IsMax, IsMin, IsNear, IsRange, IsSecond, IsSettled, IsStart, IsStep}
use Rattle.cal_recurrence.specs.ZonedSet.{IsMeant}
use Rattle.cal_recurrence.specs.declared.offset_range.OffsetRange.{OffsetRange}
use Rattle.cal_recurrence.proofs.ZonedSearch.{compared, near}

-- ---- seconds
past_range : (z : ℤ) → (pos 0 ≤ℤ int_rem_euclid z (pos second)) × (int_rem_euclid z (pos second) <ℤ pos second)
past_range (pos a) = (omega (arith, ints), omega (arith, ints))
past_range (negsuc a) = (omega (arith, ints), omega (arith, ints))

-- An instant lies in the second s of Unix time.
record InSecond (z s : ℤ) : Type 0 where
  from : (unix_epoch +ℤ s *ℤ pos second) ≤ℤ z
  until : z <ℤ (unix_epoch +ℤ s *ℤ pos second +ℤ pos second)

in-second : (z : ℤ) → InSecond z (unix_seconds z)
in-second z =
    let e = seconds-and_past (z -ℤ unix_epoch) in
    let past = past_range (z -ℤ unix_epoch) in
    record { from = omega (arith, ints, e, past.0); until = omega (arith, ints, e, past.1) }

-- The seconds of an instant of the range are far from the ends of 64 bits.
pub in-time : (x : ℤ) → IsInstant x → IsSecond (unix_seconds x)
in-time x h = let xs = in-second x in (omega (arith, ints, xs.until, h.not_before), omega (arith, ints, xs.from, h.not_after))

-- ---- what a reading means
-- A reading that the clocks show at the instant k.
record IsShown (zone : Timeline) (z k o : ℤ) : Type 0 where
  at : z ≡ k +ℤ o *ℤ pos second
  offset : offset_at zone (unix_seconds k) ≡ o
  range : IsOffset o

-- A reading of a gap, at the offset before it.
record IsSkipped (zone : Timeline) (z k : ℤ) : Type 0 where
  change : ℤ
  before : ℤ
  after : ℤ
  at : z ≡ k +ℤ before *ℤ pos second
  gap : IsGap zone (unix_seconds z) change before after

shows : (zone : Timeline) (z : ℤ) (m : LocalAndOffset) → m.local ≡ z → m.offset ≡ offset_at zone (unix_seconds (instant m)) → neg_ℤ (pos 93_599) ≤ℤ m.offset → m.offset ≤ℤ pos 93_599 → IsShown zone z (instant m) m.offset
unfolding instant
shows zone z m same offset low high = record { at = omega (arith, ints, same); offset = sym offset; range = (low, high) }

skips : (z : ℤ) (g : gaps.Gap) (m : LocalAndOffset) → g.reading ≡ z → m ≡ moved_forward g → z ≡ instant m +ℤ g.before *ℤ pos second
unfolding instant
skips z g m same is = subst (λ k. z ≡ instant k +ℤ g.before *ℤ pos second) (sym is) (omega (arith, ints, same))

meant-at : (zone : Timeline) (z : ℤ) (m : LocalAndOffset) (local : Local) → IsLocalOf zone z local → IsCompatible local (Some m) → neg_ℤ (pos 93_599) ≤ℤ m.offset → m.offset ≤ℤ pos 93_599
    → IsShown zone z (instant m) m.offset ⊎ IsSkipped zone z (instant m)
meant-at zone z m (Single moment) shown selected low high =
    let e : m ≡ moment = cc in
    let at = (shown.set m).0 e in
    inl (shows zone z m at.same at.offset low high)
meant-at zone z m (Gap gap) shown selected low high =
    inr (record { change = gap.at; before = gap.before; after = gap.after; at = skips z gap m shown.explained.0 selected.1; gap = shown.explained.1 })
meant-at zone z m (Fold first later) shown selected low high =
    let e : m ≡ first = cc in
    let at = (shown.set m).0 (inl e) in
    inl (shows zone z m at.same at.offset low high)

meant : (zone : Timeline) (z : ℤ) (m : LocalAndOffset) → IsMeant zone z m → IsShown zone z (instant m) m.offset ⊎ IsSkipped zone z (instant m)
meant zone z m h = meant-at zone z m h.local h.shown h.selected (omega (arith, ints, h.offset.magnitude)) (omega (arith, ints, h.offset.magnitude))

-- ---- one change near an instant
-- The offset before a change if the reading of the Unix time s with it is before the first reading
-- after the change, and else the offset after the change.
abbrev pub IsLeast : ℤ → ℤ → ℤ → ℤ → ℤ → Type 0
IsLeast s change before after o = (((s +ℤ before) <ℤ (change +ℤ after)) × (o ≡ before)) ⊎ (((change +ℤ after) ≤ℤ (s +ℤ before)) × (o ≡ after))

-- The offset before a change if the reading of the Unix time s with the one after it is before the
-- end of the readings before the change, and else the offset after the change.
abbrev pub IsMost : ℤ → ℤ → ℤ → ℤ → ℤ → Type 0
IsMost s change before after o = (((s +ℤ after) <ℤ (change +ℤ before)) × (o ≡ before)) ⊎ (((change +ℤ before) ≤ℤ (s +ℤ after)) × (o ≡ after))

-- The offset at a second near the change.
abbrev Offset : ℤ → ℤ → ℤ → ℤ → ℤ → Type 0
Offset j change before after o = ((j <ℤ change) × (o ≡ before)) ⊎ ((change ≤ℤ j) × (o ≡ after))

offset-of : (zone : Timeline) (s change before after j o : ℤ) → IsStep zone s change before after → IsNear s j → offset_at zone j ≡ o → Offset j change before after o
offset-of zone s change before after j o step near is = elim (compared j change) as (λ _. Offset j change before after o) [
  | inl early ↦ inl (early, sym is ∙ step.early j near early)
  | inr late ↦ inr (late, sym is ∙ step.late j near late)
]

-- The change of a gap near the instant is the change.
gap-is : (zone : Timeline) (s change before after z : ℤ) (at o p : ℤ) → IsStep zone s change before after → IsNear s at → IsNear s (at -ℤ pos 1) → IsGap zone z at o p → (at ≡ change) × (o ≡ before) × (p ≡ after)
gap-is zone s change before after z at o p step near prior gap =
    let first = offset-of zone s change before after (at -ℤ pos 1) o step prior gap.before_is in
    let second = offset-of zone s change before after at p step near gap.after_is in
    (omega (arith, ints, first, second, gap.starts, gap.ends), omega (arith, ints, first, second, gap.starts, gap.ends), omega (arith, ints, first, second, gap.starts, gap.ends))

-- ---- readings
low-meant : (zone : Timeline) (x z k o s c a b min : ℤ) → InSecond x s → IsStep zone s c a b → IsOffset min → IsLeast s c a b min → IsShown zone z k o ⊎ IsSkipped zone z k → x ≤ℤ k → local_at x min ≤ℤ z
low-meant zone x z k o s c a b min xs step fits is (inl h) late =
    let j = unix_seconds k in
    let ks = in-second k in
    elim (compared (s +ℤ pos 187_200) j) as (λ _. local_at x min ≤ℤ z) [
      | inl far ↦ omega (arith, ints, h.at, h.range.0, fits.1, far, xs.until, ks.from)
      | inr near ↦
          let own = offset-of zone s c a b j o step (omega (arith, ints, late, xs.from, ks.until), near) h.offset in
          omega (arith, ints, h.at, own, is, late, xs.from, xs.until, ks.from, ks.until)
    ]
low-meant zone x z k o s c a b min xs step fits is (inr h) late =
    let zs = in-second z in
    elim (compared (s +ℤ pos 187_200) h.change) as (λ _. local_at x min ≤ℤ z) [
      | inl far ↦ omega (arith, ints, h.gap.offsets.0.0, h.gap.starts, fits.1, far, xs.until, zs.from)
      | inr near ↦
          let low : (s -ℤ pos 187_200) ≤ℤ (h.change -ℤ pos 1) = omega (arith, ints, late, h.at, h.gap.ends, h.gap.offsets.0.0, h.gap.offsets.1.1, xs.from, zs.until) in
          let same = gap-is zone s c a b _ h.change h.before h.after step (omega (arith, ints, low), near) (low, omega (arith, ints, near)) h.gap in
          omega (arith, ints, h.at, h.gap.starts, h.gap.ends, same.0, same.1, same.2, is, late, xs.from, xs.until, zs.from, zs.until)
    ]

high-meant : (zone : Timeline) (x z k o s c a b max : ℤ) → InSecond x s → IsStep zone s c a b → IsOffset max → IsMost s c a b max → IsShown zone z k o ⊎ IsSkipped zone z k → k <ℤ x → z <ℤ local_at x max
high-meant zone x z k o s c a b max xs step fits is (inl h) early =
    let j = unix_seconds k in
    let ks = in-second k in
    elim (compared j (s -ℤ pos 187_200)) as (λ _. z <ℤ local_at x max) [
      | inl far ↦ omega (arith, ints, h.at, h.range.1, fits.0, far, xs.from, ks.until)
      | inr near ↦
          let own = offset-of zone s c a b j o step (near, omega (arith, ints, early, xs.until, ks.from)) h.offset in
          omega (arith, ints, h.at, own, is, early, xs.from, xs.until, ks.from, ks.until)
    ]
high-meant zone x z k o s c a b max xs step fits is (inr h) early =
    let zs = in-second z in
    elim (compared (h.change -ℤ pos 1) (s -ℤ pos 187_200)) as (λ _. z <ℤ local_at x max) [
      | inl far ↦ omega (arith, ints, h.gap.offsets.1.1, h.gap.ends, fits.0, far, xs.from, zs.until)
      | inr low ↦
          let near : h.change ≤ℤ (s +ℤ pos 187_200) = omega (arith, ints, early, h.at, h.gap.starts, xs.until, zs.from) in
          let same = gap-is zone s c a b _ h.change h.before h.after step (omega (arith, ints, low), near) (low, omega (arith, ints, near)) h.gap in
          omega (arith, ints, h.at, h.gap.starts, h.gap.ends, same.0, same.1, same.2, is, early, xs.from, xs.until, zs.from, zs.until)
    ]

-- One of two offsets is in range.
of-two : (a b o : ℤ) (P Q : Type 0) → IsOffset a → IsOffset b → (P × (o ≡ a)) ⊎ (Q × (o ≡ b)) → IsOffset o
of-two a b o P Q h g (inl e) = subst IsOffset (sym e.1) h
of-two a b o P Q h g (inr e) = subst IsOffset (sym e.1) g

pub min-beside : (zone : Timeline) (x s c a b o : ℤ) → unix_seconds x ≡ s → IsStep zone s c a b → IsLeast s c a b o → IsMin zone x o
min-beside zone x s c a b o e step is =
    let range = of-two a b o _ _ step.offsets.0 step.offsets.1 is in
    record { range = range; least = λ z m h late. low-meant zone x z (instant m) m.offset s c a b o (subst (InSecond x) e (in-second x)) step range is (meant zone z m h) late }

pub max-beside : (zone : Timeline) (x s c a b o : ℤ) → unix_seconds x ≡ s → IsStep zone s c a b → IsMost s c a b o → IsMax zone x o
max-beside zone x s c a b o e step is =
    let range = of-two a b o _ _ step.offsets.0 step.offsets.1 is in
    record { range = range; most = λ z m h early. high-meant zone x z (instant m) m.offset s c a b o (subst (InSecond x) e (in-second x)) step range is (meant zone z m h) early }

-- The range of all offsets.
pub all-offsets : (zone : Timeline) (x : ℤ) (r : OffsetRange) → r.min ≡ neg_ℤ (pos 93_599) → r.max ≡ pos 93_599 → IsRange zone x r
all-offsets zone x r min max = record {
  min = record {
    range = (omega (arith, ints, min), omega (arith, ints, min));
    least = λ z m h late. let far = (near zone z m h).0 in omega (arith, ints, far, late, min);
  };
  max = record {
    range = (omega (arith, ints, max), omega (arith, ints, max));
    most = λ z m h early. let far = (near zone z m h).1 in omega (arith, ints, far, early, max);
  };
}

-- ---- where a search begins and ends
-- A search for later instants can begin at the same reading.
pub later-start : (zone : Timeline) (x y s : ℤ) → x ≤ℤ y → IsStart zone x s → IsStart zone y s
later-start zone x y s most h z m range meant late = h z m range meant (omega (arith, ints, most, late))

pub begins-at : (zone : Timeline) (x : ℤ) (r : OffsetRange) → IsRange zone x r → IsStart zone (x -ℤ pos 1) (local_at x r.min)
begins-at zone x r h z m range is late = h.min.least z m is (omega (arith, ints, late))

pub settled-at : (zone : Timeline) (k : LocalAndOffset) (z : ℤ) (r : OffsetRange) → IsRange zone (instant k) r → local_at (instant k) r.max ≤ℤ z → IsSettled zone (Some k) z
settled-at zone k z r h past y m is most = elim (compared (instant m) (instant k)) as (λ _. instant k ≤ℤ instant m) [
  | inl early ↦ let less = h.max.most y m is early in absurd (omega (arith, ints, less, past, most))
  | inr late ↦ late
]

-- ---- spans
-- A span of the zone with the instant i.
pub record SpanAt (zone : Timeline) (i : ℤ) (s : Span) : Type 0 where
  least : neg_ℤ (pos 9_223_372_036_854_775_808) ≤ℤ i
  same : IsSpan zone s
  offset : s.offset ≡ offset_at zone i
  ends : IsBetweenChanges zone i s

pub span-at : (zone there : Timeline) (i : ℤ) (s : Span) → there ≡ zone → InOrder zone → neg_ℤ (pos 9_223_372_036_854_775_808) ≤ℤ i
    → (InOrder there → IsSpan there s) → (InOrder there → s.offset ≡ offset_at there i) → (InOrder there → IsBetweenChanges there i s) → SpanAt zone i s
span-at zone there i s e order least same offset ends =
    let same-order = subst InOrder (sym e) order in
    record {
      least = least;
      same = subst (λ z. IsSpan z s) e (same same-order);
      offset = subst (λ z. s.offset ≡ offset_at z i) e (offset same-order);
      ends = subst (λ z. IsBetweenChanges z i s) e (ends same-order);
    }

starts-at : (zone : Timeline) (i : ℤ) (s : Span) (n : ℕ) → neg_ℤ (pos 9_223_372_036_854_775_808) ≤ℤ i → (h : IsBetweenChanges zone i s) → h.count ≡ n → s.first ≤ℤ i
starts-at zone i s zero least h e = let is = h.after.unbounded_first e in omega (arith, ints, is, least)
starts-at zone i s (suc k) least h e = let is = h.after.first k (sym e) in let past = h.split.below k (omega (arith, e)) in omega (arith, ints, is, past)

-- It begins at the instant, or before it.
starts : (zone : Timeline) (i : ℤ) (s : Span) → SpanAt zone i s → s.first ≤ℤ i
starts zone i s h = starts-at zone i s h.ends.count h.least h.ends refl

-- It ends at the instant, or after it.
reaches : (zone : Timeline) (i : ℤ) (s : Span) → SpanAt zone i s → i ≤ℤ pos 9_223_372_036_854_775_807 → i ≤ℤ s.last
reaches zone i s h most = elim (cases_lt h.ends.count (length zone.changes)) as (λ _. i ≤ℤ s.last) [
  | inl less ↦ let is = h.ends.after.last less in let ahead = h.ends.split.above h.ends.count (omega arith) less in omega (arith, ints, is, ahead)
  | inr past ↦ let is = h.ends.after.unbounded_last past in omega (arith, ints, is, most)
]

-- The instant after its end is near s, if it has the first instant that is near s and not the last one.
pub next-near : (zone : Timeline) (s i : ℤ) (span : Span) → SpanAt zone i span → IsSecond s → i ≡ (s -ℤ pos 187_200) → span.last <ℤ (s +ℤ pos 187_200) → IsNear s (span.last +ℤ pos 1)
next-near zone s i span h range e past = let last = reaches zone i span h (omega (arith, ints, e, range.1)) in (omega (arith, ints, last, e), omega (arith, ints, past))

-- Its offset is in range.
pub fits : (zone : Timeline) (i : ℤ) (s : Span) → InOrder zone → SpanAt zone i s → IsOffset s.offset
fits zone i s order h = subst IsOffset (sym h.offset) (offset_in zone order i)

-- One span with all instants near s has no change there.
pub one-span : (zone : Timeline) (x s i : ℤ) (span : Span) (r : OffsetRange) → unix_seconds x ≡ s → InOrder zone → SpanAt zone i span → i ≡ (s -ℤ pos 187_200) → (s +ℤ pos 187_200) ≤ℤ span.last
    → r.min ≡ span.offset → r.max ≡ span.offset → IsRange zone x r
one-span zone x s i span r is order h e last min max =
    let first = starts zone i span h in
    let own = fits zone i span order h in
    let same : (j : ℤ) → IsNear s j → offset_at zone j ≡ span.offset = λ j near. h.same j (omega (arith, ints, first, e, near.0)) (omega (arith, ints, last, near.1)) in
    let step : IsStep zone s s span.offset span.offset = record { early = λ j near less. same j near; late = λ j near most. same j near; offsets = (own, own) } in
    record { min = min-beside zone x s s span.offset span.offset r.min is step (inr (omega (arith, ints), min)); max = max-beside zone x s s span.offset span.offset r.max is step (inr (omega (arith, ints), max)) }

-- Two spans, one after the other, have one change.
pub two-spans : (zone : Timeline) (s i k a b : ℤ) (early late : Span) → SpanAt zone i early → SpanAt zone k late → i ≡ (s -ℤ pos 187_200) → k ≡ (early.last +ℤ pos 1) → (s +ℤ pos 187_200) ≤ℤ late.last
    → early.offset ≡ a → late.offset ≡ b → IsOffset a → IsOffset b → IsStep zone s k a b
two-spans zone s i k a b early late h g e next last before after own other =
    let first = starts zone i early h in
    let second = starts zone k late g in
    record {
      early = λ j near less. h.same j (omega (arith, ints, first, e, near.0)) (omega (arith, ints, less, next)) ∙ before;
      late = λ j near most. g.same j (omega (arith, ints, second, most)) (omega (arith, ints, last, near.1)) ∙ after;
      offsets = (own, other);
    }
