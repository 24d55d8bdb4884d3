-- Facts about each index below a number, proved by testing each index.
use Rattle.std.specs.Prelude.{◌≡◌, ◌<◌, ◌==◌, ◌&&◌, ℕ, zero, suc, Bool, true, refl}
use Rattle.std.proofs.lemmas.Bool.Decides.{Decides-below_and, Decides-eqb}

-- The test that a round trip, such as from an index to a month and back, returns each index below n
-- unchanged.
abbrev pub all_round_trip : (ℕ → ℕ) → ℕ → Bool
all_round_trip round_trip zero = true
all_round_trip round_trip (suc n) = (round_trip n == n) && all_round_trip round_trip n

-- If the test passes, the round trip returns each index below n unchanged.
pub each_index_below : (round_trip : ℕ → ℕ) (n : ℕ) → all_round_trip round_trip n ≡ true → (i : ℕ) → i < n → round_trip i ≡ i
each_index_below round_trip n test =
    (Decides-below_and (λ i. round_trip i == i) (λ i. round_trip i ≡ i) (all_round_trip round_trip) (λ i. Decides-eqb (round_trip i) i) refl (λ _. refl) n).0 test
