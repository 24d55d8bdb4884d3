-- A number is rounded to one result.
use Rattle.std.proofs.Common.{◌≡◌, ◌≢◌, ℕ, ◌<◌, ◌≤◌, refl, sym, subst, ap, ◌∙◌, arith, unsigned_abs, Option, Some, None, SomeIff}
use Rattle.std.proofs.lemmas.Int.{ints, by_lt_z}
use Rattle.std.specs.Prelude.{ℤ, pos, ◌<ℤ◌, ◌≤ℤ◌, ◌+ℤ◌}
use Rattle.cal_rounding.specs.declared.rounding_mode.RoundingMode.{RoundingMode}
use Rattle.cal_rounding.specs.declared.rounding_mode.RoundingMode.TheVariants.{Floor, Ceil, Trunc, HalfCeil, HalfEven}
use Rattle.cal_time.specs.Time.{modulo_day}
use Rattle.cal_datetime.specs.DateTime.{IsDateTime, time_at}
use Rattle.cal_rounding.specs.Rounding.{IsAllowed, IsEven, IsPreferred, IsRounded, IsRoundedTime, RoundsTimeOf, RoundsWithin, distance, multiple, since_midnight}
use Rattle.cal_rounding.proofs.Multiples.{apart_below}

near : (mode : RoundingMode) (z a b : ℤ) (u : ℕ) → IsRounded mode u z a → IsRounded mode u z b → distance z a ≤ distance z b
near mode z a b u p q = subst (λ (x : ℤ). distance z a ≤ distance z x) (sym q.is_multiple) (p.nearest q.number (subst (IsAllowed mode z) q.is_multiple q.allowed))

tied : (mode : RoundingMode) (z a b : ℤ) (u : ℕ) → IsRounded mode u z a → IsRounded mode u z b → distance z a ≡ distance z b
tied mode z a b u p q = omega (arith, near mode z a b u p q, near mode z b a u q p)

preferred :
    (mode : RoundingMode) (z a b : ℤ) (u : ℕ) (p : IsRounded mode u z a) (q : IsRounded mode u z b)
    → q.number ≢ p.number → IsPreferred mode p.number q.number
preferred mode z a b u p q other =
    p.tie q.number (subst (IsAllowed mode z) q.is_multiple q.allowed) other (subst (λ (x : ℤ). distance z a ≡ distance z x) q.is_multiple (tied mode z a b u p q))

-- between two even numbers there is a nearer multiple
between :
    (z a b m n : ℤ) (u : ℕ) → 0 < u → a ≡ multiple u m → b ≡ multiple u n → distance z a ≡ distance z b → m <ℤ n
    → IsEven m → IsEven n → distance z a ≤ distance z (multiple u (m +ℤ pos 1)) → ⊥
between z a b m n u some e f same less even even' near =
    let step : (m +ℤ pos 1) <ℤ n = omega (arith, ints, less, even, even') in
    let low = apart_below m (m +ℤ pos 1) u (omega (arith, ints)) in
    let high = apart_below (m +ℤ pos 1) n u step in
    omega (arith, ints, some, e, f, same, low, high, near)

other : (m n : ℤ) → m <ℤ n → n ≢ m
other m n less e = absurd (omega (arith, ints, less, e))

apart :
    (mode : RoundingMode) (z a b : ℤ) (u : ℕ) → 0 < u → (p : IsRounded mode u z a) (q : IsRounded mode u z b)
    → p.number <ℤ q.number → ⊥
apart Floor z a b u some p q less = let h = preferred Floor z a b u p q (other _ _ less) in omega (arith, ints, less, h)
apart Ceil z a b u some p q less = let h = preferred Ceil z a b u p q (other _ _ less) in omega (arith, ints, less, h)
apart Trunc z a b u some p q less = let h = preferred Trunc z a b u p q (other _ _ less) in omega (arith, ints, less, h)
apart HalfCeil z a b u some p q less = let h = preferred HalfCeil z a b u p q (other _ _ less) in omega (arith, ints, less, h)
apart HalfEven z a b u some p q less =
    between z a b p.number q.number u some p.is_multiple q.is_multiple (tied HalfEven z a b u p q) less
    (preferred HalfEven z a b u p q (other _ _ less)) (preferred HalfEven z b a u q p (λ e. other _ _ less (sym e)))
    (p.nearest (p.number +ℤ pos 1) tt)

pub rounded-one : (mode : RoundingMode) (u : ℕ) (z a b : ℤ) → 0 < u → IsRounded mode u z a → IsRounded mode u z b → a ≡ b
rounded-one mode u z a b some p q =
    by_lt_z p.number q.number (λ less. absurd (apart mode z a b u some p q less))
    (λ most. by_lt_z q.number p.number (λ less. absurd (apart mode z b a u some q p less))
    (λ least. let e : p.number ≡ q.number = omega (arith, ints, most, least) in p.is_multiple ∙ ap (multiple u) e ∙ sym q.is_multiple))

allows : (mode : RoundingMode) (z : ℤ) → IsAllowed mode z z
allows Floor z = omega (arith, ints)
allows Ceil z = omega (arith, ints)
allows Trunc z = omega arith
allows HalfCeil z = tt
allows HalfEven z = tt

-- a multiple stays
pub rounded-multiple : (mode : RoundingMode) (u : ℕ) (z r k : ℤ) → z ≡ multiple u k → IsRounded mode u z r → r ≡ z
rounded-multiple mode u z r k e p =
    let h : distance z r ≤ distance z z = subst (λ (x : ℤ). distance z r ≤ distance z x) (sym e) (p.nearest k (subst (IsAllowed mode z) e (allows mode z))) in
    omega (arith, ints, h)

pub some-one : {T : Type 0} (P : Type 0) (x : T) (a b : Option T) → SomeIff a P x → SomeIff b P x → a ≡ b
some-one P x None None p q = refl
some-one P x (Some a) None p q = absurd (q p.0)
some-one P x None (Some b) p q = absurd (p q.0)
some-one P x (Some a) (Some b) p q = ap Some (p.1 ∙ sym q.1)

pub time-one : (mode : RoundingMode) (u t a b : ℕ) → 0 < u → IsRoundedTime mode u t a → IsRoundedTime mode u t b → a ≡ b
time-one mode u t a b some p q = p.value ∙ ap modulo_day (rounded-one mode u (pos t) p.to q.to some p.rounded q.rounded) ∙ sym q.value

pub date_time-one :
    {T : Type 0} (mode : RoundingMode) (u : ℕ) (z : ℤ) (make : ℤ → T) (a b : Option T) → 0 < u
    → RoundsTimeOf mode u z make a → RoundsTimeOf mode u z make b → a ≡ b
date_time-one mode u z make a b some p q =
    let e = rounded-one mode u (pos (time_at z)) p.to q.to some p.rounded q.rounded in
    some-one _ _ a b (subst (λ (x : ℤ). SomeIff a (IsDateTime (since_midnight z x)) (make (since_midnight z x))) e p.value) q.value

pub within-one :
    (InRange : ℤ → Type 0) (mode : RoundingMode) (u : ℕ) (z : ℤ) (a b : Option ℤ) → 0 < u
    → RoundsWithin InRange mode u z a → RoundsWithin InRange mode u z b → a ≡ b
within-one InRange mode u z a b some p q =
    let e = rounded-one mode u z p.to q.to some p.rounded q.rounded in
    some-one _ _ a b (subst (λ (x : ℤ). SomeIff a (InRange x) x) e p.value) q.value

-- durations, also where the unit isn't positive
pub duration-one :
    (InRange : ℤ → Type 0) (mode : RoundingMode) (unit z : ℤ) (a b : Option ℤ)
    → (pos 0 <ℤ unit → RoundsWithin InRange mode (unsigned_abs unit) z a) → (unit ≤ℤ pos 0 → a ≡ None)
    → (pos 0 <ℤ unit → RoundsWithin InRange mode (unsigned_abs unit) z b) → (unit ≤ℤ pos 0 → b ≡ None) → a ≡ b
duration-one InRange mode unit z a b p none q none' =
    by_lt_z (pos 0) unit (λ positive. within-one InRange mode (unsigned_abs unit) z a b (omega (arith, ints, positive)) (p positive) (q positive))
    (λ most. none most ∙ sym (none' most))
