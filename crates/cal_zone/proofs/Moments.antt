-- A moment of a reading and its instant in whole seconds, there and back.
use Rattle.std.proofs.Common.{◌≡◌, refl, sym, ap, ◌∙◌, subst, arith, inl, inr}
use Rattle.std.proofs.lemmas.Int.{ints}
use Rattle.std.specs.Prelude.{ℤ, pos, negsuc, ◌<ℤ◌, ◌≤ℤ◌, ◌+ℤ◌, ◌-ℤ◌, ◌*ℤ◌, ◌⊎◌, ◌↔◌}
use Rattle.std.specs.Int.{int_div_euclid, int_rem_euclid}
use Rattle.cal_time.specs.SignedDuration.{second}
use Rattle.cal_datetime.specs.OffsetDateTime.{LocalAndOffset, instant, unix_seconds, unix_epoch}
use Rattle.cal_datetime.specs.UnixTimeLaws.{div_euclid-one, seconds-and_past}
use Rattle.cal_zone.specs.Timeline.{Timeline, offset_at, local_at, InOrder, IsOffset}
use Rattle.cal_zone.specs.Instants.{IsGap}
use Rattle.cal_zone.specs.Local.{Shows}
use Rattle.cal_zone.proofs.Readings.{back, forth, offset_in}

past_range : (z : ℤ) → (pos 0 ≤ℤ int_rem_euclid z (pos second)) × (int_rem_euclid z (pos second) <ℤ pos second)
past_range (pos a) = (omega (arith, ints), omega (arith, ints))
past_range (negsuc a) = (omega (arith, ints), omega (arith, ints))

shift : (z o q r : ℤ) → z ≡ q *ℤ pos second +ℤ r → pos 0 ≤ℤ r → r <ℤ pos second → int_div_euclid (z -ℤ o *ℤ pos second) (pos second) ≡ q -ℤ o
shift z o q r e low high = div_euclid-one (z -ℤ o *ℤ pos second) (q -ℤ o) (omega (arith, ints, e)) (omega (arith, ints, e))

pub seconds-at : (L o : ℤ) → unix_seconds (instant (record { local = L; offset = o })) ≡ unix_seconds L -ℤ o
unfolding instant
seconds-at L o =
    let z = L -ℤ unix_epoch in
    let p = past_range z in
    let e : (L -ℤ o *ℤ pos second) -ℤ unix_epoch ≡ z -ℤ o *ℤ pos second = omega (arith, ints) in
    ap (λ x. int_div_euclid x (pos second)) e ∙ shift z o (int_div_euclid z (pos second)) (int_rem_euclid z (pos second)) (seconds-and_past z) p.0 p.1

-- of an instant that shows the reading
pub moment_shows : (zone : Timeline) (L i : ℤ) → local_at zone i ≡ unix_seconds L → Shows zone L (record { local = L; offset = offset_at zone i })
moment_shows zone L i e = record {
  same = refl;
  offset = ap (offset_at zone) (back (unix_seconds L) i (offset_at zone i) e ∙ sym (seconds-at L (offset_at zone i)));
}

-- and each moment that shows it is of one
pub shown_instant : (zone : Timeline) (L : ℤ) (m : LocalAndOffset) → Shows zone L m
    → (i : ℤ) × (local_at zone i ≡ unix_seconds L) × (m ≡ record { local = L; offset = offset_at zone i })
shown_instant zone L m h =
    let i = unix_seconds L -ℤ m.offset in
    let e : unix_seconds (instant m) ≡ i = ap (λ x. unix_seconds (instant (record { local = x; offset = m.offset }))) h.same ∙ seconds-at L m.offset in
    let o : m.offset ≡ offset_at zone i = h.offset ∙ ap (offset_at zone) e in
    (i, ap (λ x. i +ℤ x) (sym o) ∙ forth (unix_seconds L) i m.offset refl, λ k. record { local = h.same k; offset = o k })

pub later_instant : (L i j o p : ℤ) → i +ℤ o ≡ j +ℤ p → i <ℤ j → instant (record { local = L; offset = o }) <ℤ instant (record { local = L; offset = p })
unfolding instant
later_instant L i j o p e h = omega (arith, ints, e, h)

-- ---- from the instants that show a reading to the moments; s and t are instants as the code passes them on
abbrev pub moment_of : Timeline → ℤ → ℤ → LocalAndOffset
moment_of zone L i = record { local = L; offset = offset_at zone i }

-- what the code makes of a reading R and an instant that shows it
pub shown : (zone : Timeline) (L R s i : ℤ) (m : LocalAndOffset) → local_at zone i ≡ R → s ≡ i → m ≡ record { local = L; offset = R -ℤ s } → m ≡ moment_of zone L s
shown zone L R s i m shows f e =
    let own : R -ℤ i ≡ offset_at zone i = difference R (offset_at zone i) i shows in
    e ∙ ap (λ x. record { local = L; offset = R -ℤ x }) f
    ∙ ap (λ x. record { local = L; offset = x }) (own ∙ ap (offset_at zone) (sym f))
  where
    difference : (r o x : ℤ) → x +ℤ o ≡ r → r -ℤ x ≡ o
    difference r o x h = omega (arith, ints)

pub in_range : (zone : Timeline) → InOrder zone → (R s i : ℤ) → local_at zone i ≡ R → s ≡ i → IsOffset (R -ℤ s)
in_range zone order R s i shows f =
    let own = shown zone R R s i _ shows f refl in
    subst IsOffset (sym (ap (λ (m : LocalAndOffset). m.offset) own)) (offset_in zone order s)

pub found : (zone : Timeline) (L R s i : ℤ) (moment m : LocalAndOffset) → R ≡ unix_seconds L → local_at zone i ≡ R → moment ≡ moment_of zone L s → s ≡ i → m ≡ moment → Shows zone L m
found zone L R s i moment m r shows e f g =
    subst (Shows zone L) (sym (g ∙ e ∙ ap (moment_of zone L) f)) (moment_shows zone L i (shows ∙ r))

pub same_moment : (zone : Timeline) (L s i j : ℤ) (moment m : LocalAndOffset) → moment ≡ moment_of zone L s → s ≡ i → m ≡ moment_of zone L j → j ≡ i → m ≡ moment
same_moment zone L s i j moment m e f g h = g ∙ ap (moment_of zone L) (h ∙ sym f) ∙ sym e

pub single : (zone : Timeline) (L R s i : ℤ) (moment : LocalAndOffset) → R ≡ unix_seconds L → ((k : ℤ) → (k ≡ i) ↔ (local_at zone k ≡ R)) → moment ≡ moment_of zone L s → s ≡ i
    → (m : LocalAndOffset) → (m ≡ moment) ↔ Shows zone L m
single zone L R s i moment r set e f m = (
  (λ g. found zone L R s i moment m r ((set i).0 refl) e f g),
  (λ h. let w = shown_instant zone L m h in same_moment zone L s i w.0 moment m e f w.2 ((set w.0).1 (w.1 ∙ sym r))),
)

pub gap : (zone : Timeline) (L R : ℤ) → R ≡ unix_seconds L → ((k : ℤ) → ⊥ ↔ (local_at zone k ≡ R)) → (m : LocalAndOffset) → ⊥ ↔ Shows zone L m
gap zone L R r set m = (
  (λ no. absurd no),
  (λ h. let w = shown_instant zone L m h in (set w.0).1 (w.1 ∙ sym r)),
)

pub fold : (zone : Timeline) (L R s t i j : ℤ) (moment moment' : LocalAndOffset) → R ≡ unix_seconds L → ((k : ℤ) → ((k ≡ i) ⊎ (k ≡ j)) ↔ (local_at zone k ≡ R))
    → moment ≡ moment_of zone L s → s ≡ i → moment' ≡ moment_of zone L t → t ≡ j
    → (m : LocalAndOffset) → ((m ≡ moment) ⊎ (m ≡ moment')) ↔ Shows zone L m
fold zone L R s t i j moment moment' r set e f g h m = (
  (λ one. elim one [
    | inl a ↦ found zone L R s i moment m r ((set i).0 (inl refl)) e f a
    | inr b ↦ found zone L R t j moment' m r ((set j).0 (inr refl)) g h b
  ]),
  (λ shows. let w = shown_instant zone L m shows in
      elim ((set w.0).1 (w.1 ∙ sym r)) [
        | inl a ↦ inl (same_moment zone L s i w.0 moment m e f w.2 a)
        | inr b ↦ inr (same_moment zone L t j w.0 moment' m g h w.2 b)
      ]),
)

pub in_order : (zone : Timeline) (L R s t i j : ℤ) (moment moment' : LocalAndOffset) → ((k : ℤ) → ((k ≡ i) ⊎ (k ≡ j)) ↔ (local_at zone k ≡ R)) → i <ℤ j
    → moment ≡ moment_of zone L s → s ≡ i → moment' ≡ moment_of zone L t → t ≡ j → instant moment <ℤ instant moment'
in_order zone L R s t i j moment moment' set less e f g h =
    let first : instant moment ≡ instant (moment_of zone L i) = ap instant (e ∙ ap (moment_of zone L) f) in
    let second : instant moment' ≡ instant (moment_of zone L j) = ap instant (g ∙ ap (moment_of zone L) h) in
    let both : i +ℤ offset_at zone i ≡ j +ℤ offset_at zone j = (set i).0 (inl refl) ∙ sym ((set j).0 (inr refl)) in
    subst (λ (x : ℤ). x <ℤ instant moment') (sym first) (subst (λ (x : ℤ). instant (moment_of zone L i) <ℤ x) (sym second)
    (later_instant L i j (offset_at zone i) (offset_at zone j) both less))

-- A gap, with the numbers as the code shows them.
pub gap_is : (zone : Timeline) (L R a a' b b' f f' : ℤ) → R ≡ L → a' ≡ a → b' ≡ b → f' ≡ f → IsGap zone R a b f → IsGap zone L a' b' f'
gap_is zone L R a a' b b' f f' r e g h is =
    subst (λ (x : ℤ). IsGap zone L x b' f') (sym e) (subst (λ (x : ℤ). IsGap zone L a x f') (sym g)
    (subst (λ (x : ℤ). IsGap zone L a b x) (sym h) (subst (λ (x : ℤ). IsGap zone x a b f) r is)))
