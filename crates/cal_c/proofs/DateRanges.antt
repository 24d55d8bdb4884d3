-- Ranges of days for C: an answer of yes or no, and a share.
use Rattle.std.proofs.Common.{◌≡◌, ◌∙◌, ap, refl, sym, ℕ, pos, Bool, true, false, IsTrue}
use Rattle.std.proofs.lemmas.Bool.{false≢true}
use Rattle.std.specs.Prelude.{◌↔◌, if◌then◌else◌}
use Rattle.cal_c.specs.DateRanges.{share_ok, IsYesNo}
use Rattle.cal_c.proofs.Stable.{either, of_field, stable_z, Stable}
use Rattle.cal_c.specs.Results.{number_ok}
use Rattle.cal_c.specs.declared.results.NumberResult.{NumberResult}

pub yes_no : {P : Type 0} (b : Bool) (r : NumberResult) → (IsTrue b ↔ P) → r ≡ number_ok (if b then pos 1 else pos 0) → IsYesNo P r
yes_no true r h e = record { yes = λ _. e; no = λ no. absurd (no (h.0 refl)) }
yes_no false r h e = record { yes = λ yes. absurd (false≢true (h.1 yes)); no = λ _. e }

pub share_is : {a b c d : ℕ} → a ≡ c → b ≡ d → share_ok a b ≡ share_ok c d
share_is {b = b} {c = c} common whole = ap (λ n. share_ok n b) common ∙ ap (share_ok c) whole

-- ---- one answer
pub stable_number : (r s : NumberResult) → Stable (r ≡ s)
stable_number r s never =
    let status = stable_z r.status s.status (of_field (λ (x : NumberResult). x.status) r s never) in
    let number = stable_z r.number s.number (of_field (λ (x : NumberResult). x.number) r s never) in
    λ i. record { status = status i; number = number i }

pub yes_no-one : {P : Type 0} (r s : NumberResult) → IsYesNo P r → IsYesNo P s → r ≡ s
yes_no-one {P = P} r s h k = either P (stable_number r s) (λ yes. h.yes yes ∙ sym (k.yes yes)) (λ no. h.no no ∙ sym (k.no no))
