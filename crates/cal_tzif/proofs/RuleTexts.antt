-- The rule of a text from its parts.
use Rattle.std.proofs.Common.{◌≡◌, ℕ, ◌+◌, List, length, sym, ap, ◌∙◌, subst, inl, inr}
use Rattle.std.specs.Prelude.{◌⊎◌}
use Rattle.cal_time.specs.Month.{number}
use Rattle.cal_zone.specs.declared.local_type.LocalType.{LocalType}
use Rattle.cal_zone.specs.declared.rule.Rule.{Rule}
use Rattle.cal_zone.specs.declared.yearly.Yearly.{Yearly}
use Rattle.cal_tzif.specs.Posix.{IsDaylight, IsChange, IsYearlyAt, daylight, daylight_end, change_end, end_at, month, IsApart, AreApart, IsRule, IsBegin, IsEnd}

-- The parts of a rule, as they are found one after another.
pub record IsParsed (text : List ℕ) (at : ℕ) (before kind : LocalType) (begin end : Yearly) (p q r : ℕ) : Type 0 where
  pub has : IsDaylight text at
  pub kind_is : kind ≡ daylight text at before.offset
  pub p_is : p ≡ daylight_end text at
  pub begins : IsChange text p
  pub begin_is : IsYearlyAt text p kind begin
  pub q_is : q ≡ change_end text p
  pub ends : IsChange text q
  pub end_is : IsYearlyAt text q before end
  pub r_is : r ≡ change_end text q
  pub whole : r ≡ length text

pub apart_is : (text : List ℕ) (at : ℕ) (kind before : LocalType) (begin end : Yearly) → IsYearlyAt text (daylight_end text at) kind begin → IsYearlyAt text (end_at text at) before end
    → IsApart (number begin.month) (number end.month) ⊎ IsApart (number end.month) (number begin.month) → AreApart text at
apart_is text at kind before begin end b e apart =
    subst (λ (m : ℕ). IsApart m (month text (end_at text at + 1)).0 ⊎ IsApart (month text (end_at text at + 1)).0 m) b.month_is
    (subst (λ (n : ℕ). IsApart (number begin.month) n ⊎ IsApart n (number begin.month)) e.month_is apart)

pub rule_is : (text : List ℕ) (at : ℕ) (before kind : LocalType) (begin end : Yearly) (p q r : ℕ) (rule : Rule) → IsParsed text at before kind begin end p q r
    → ((rule.one ≡ begin) × (rule.other ≡ end)) ⊎ ((rule.one ≡ end) × (rule.other ≡ begin))
    → IsApart (number begin.month) (number end.month) ⊎ IsApart (number end.month) (number begin.month) → IsRule text at before rule
rule_is text at before kind begin end p q r rule h some apart =
    let q_end : q ≡ end_at text at = h.q_is ∙ ap (change_end text) h.p_is in
    let begin_is : IsBegin text at before begin =
    subst (λ (n : ℕ). IsYearlyAt text n (daylight text at before.offset) begin) h.p_is (subst (λ (k : LocalType). IsYearlyAt text p k begin) h.kind_is h.begin_is) in
    let end_is : IsEnd text at before end = subst (λ (n : ℕ). IsYearlyAt text n before end) q_end h.end_is in
    record {
      has = record {
        daylight = h.has;
        begins = subst (IsChange text) h.p_is h.begins;
        ends = subst (IsChange text) q_end h.ends;
        whole = ap (change_end text) (sym q_end) ∙ sym h.r_is ∙ h.whole;
        apart = apart_is text at (daylight text at before.offset) before begin end begin_is end_is apart;
      };
      changes = elim some as (λ _. (IsBegin text at before rule.one × IsEnd text at before rule.other) ⊎ (IsEnd text at before rule.one × IsBegin text at before rule.other)) [
        | inl e ↦ inl (subst (IsBegin text at before) (sym e.0) begin_is, subst (IsEnd text at before) (sym e.1) end_is)
        | inr e ↦ inr (subst (IsEnd text at before) (sym e.0) end_is, subst (IsBegin text at before) (sym e.1) begin_is)
      ];
    }
