-- A page of days has one result.
use Rattle.std.proofs.Common.{◌≡◌, refl, ℕ, ℤ, ap, ◌∙◌, sym, subst, drop, filter, length, nat_le, List, Option, Some, None, SomeIff}
use Rattle.cal_recurrence.specs.Cursors.{days_left}
use Rattle.cal_recurrence.specs.declared.day_cursor.DayCursor.{DayCursor}
use Rattle.cal_schedule.specs.declared.rule.rule.Rule.{Rule}
use Rattle.cal_c.proofs.OneAnswer.{written-one}
use Rattle.cal_c.specs.RecurrenceCursors.{IsDayCursor, IsPage}
use Rattle.cal_c.specs.Recurrences.{AreDatesWritten}
use Rattle.cal_c.specs.declared.schedule.recurrences.cursor.RecurrenceCursor.{RecurrenceCursor}

one-last : (P : Type 0) (x y : Option ℕ) (v : ℕ) → SomeIff x P v → SomeIff y P v → x ≡ y
one-last P None None v g h = refl
one-last P None (Some b) v g h = absurd (g h.0)
one-last P (Some a) None v g h = absurd (h g.0)
one-last P (Some a) (Some b) v g h = ap Some (g.1 ∙ sym h.1)

-- The numbers of a cursor mean one cursor of days.
one-cursor : (c : RecurrenceCursor) (a b : DayCursor) → IsDayCursor c a → IsDayCursor c b → a ≡ b
one-cursor c a b g h =
    let last : a.last ≡ b.last = one-last _ a.last b.last _ g.last h.last in
    let left : a.left ≡ b.left = g.left ∙ sym h.left in
    let made : Option ℕ → ℕ → DayCursor = λ l n. record { last = l; left = n } in
    ap (λ l. made l a.left) last ∙ ap (made b.last) left

pub page-one : (rule : Rule) (from : ℕ) (c d e : RecurrenceCursor) (old a b : List ℤ) (n m : ℕ) → length a ≡ length b
    → IsPage rule from c d old a n → IsPage rule from c e old b m
    → (n ≡ m) × (a ≡ b) × ((p q : DayCursor) → IsDayCursor d p → IsDayCursor e q → days_left rule p ≡ days_left rule q)
page-one rule from c d e old a b n m lengths g h =
    let same = one-cursor c g.counted h.counted g.is_counted h.is_counted in
    let days : DayCursor → List ℕ = λ k. filter (nat_le from) (days_left rule k) in
    let both = written-one (days g.counted) old a b n m lengths g.written
    (subst (λ k. AreDatesWritten (filter (nat_le from) (days_left rule k)) old b m) (sym same) h.written) in (
      both.0,
      both.1,
      λ p q is_p is_q.
          ap (days_left rule) (one-cursor d p g.rest is_p g.is_rest) ∙ g.others
          ∙ ap (λ k. drop k (days g.counted)) both.0 ∙ ap (λ k. drop m (days k)) same
          ∙ sym h.others ∙ ap (days_left rule) (one-cursor e h.rest q h.is_rest is_q),
    )
