-- A text spells one footer, and so a file says one zone.
use Rattle.std.proofs.Common.{◌≡◌, ℕ, ◌+◌, List, sym, ap, ◌∙◌, arith, refl, inl, inr}
use Rattle.std.specs.Prelude.{Option, Some, None, Result, Ok, Err, OnErr, ◌⊎◌, ℤ}
use Rattle.cal_time.specs.Components.{number-one, index-one}
use Rattle.cal_time.specs.declared.Month.{Month}
use Rattle.cal_time.specs.declared.Weekday.{Weekday}
use Rattle.cal_time.specs.Month.{number}
use Rattle.cal_zone.specs.declared.layout.Layout.{Layout}
use Rattle.cal_zone.specs.declared.local_type.LocalType.{LocalType}
use Rattle.cal_zone.specs.declared.rule.Rule.{Rule}
use Rattle.cal_zone.specs.declared.yearly.Yearly.{Yearly}
use Rattle.cal_zone.specs.Rule.{changes_from}
use Rattle.cal_zone.specs.Timeline.{Timeline}
use Rattle.cal_zone.specs.Table.{type_in}
use Rattle.cal_zone.specs.Zone.{rule_changes}
use Rattle.cal_tzif.specs.declared.footer.Footer.{Footer}
use Rattle.cal_tzif.specs.declared.zone_error.ZoneError.{ZoneError}
use Rattle.cal_tzif.specs.File.{HasFooter, IsFooterText, rule_type, footer_type, footer_rule, zone_in, IsFile, IsPosix}
use Rattle.cal_tzif.specs.Header.{layout_of, second_header}
use Rattle.cal_tzif.specs.Posix.{IsYearlyAt, IsBegin, IsEnd, IsRest, standard, standard_end, Spells}

yearly-one : (text : List ℕ) (at : ℕ) (kind : LocalType) (r s : Yearly) → IsYearlyAt text at kind r → IsYearlyAt text at kind s → r ≡ s
yearly-one text at kind r s h k =
    ap (λ (m : Month). record { month = m; week = r.week; weekday = r.weekday; time = r.time; kind = r.kind }) (number-one r.month s.month (h.month_is ∙ sym k.month_is))
    ∙ ap (λ (n : ℕ). record { month = s.month; week = n; weekday = r.weekday; time = r.time; kind = r.kind }) (h.week_is ∙ sym k.week_is)
    ∙ ap (λ (d : Weekday). record { month = s.month; week = s.week; weekday = d; time = r.time; kind = r.kind }) (index-one r.weekday s.weekday (h.weekday_is ∙ sym k.weekday_is))
    ∙ ap (λ (t : ℤ). record { month = s.month; week = s.week; weekday = s.weekday; time = t; kind = r.kind }) (h.time_is ∙ sym k.time_is)
    ∙ ap (λ (l : LocalType). record { month = s.month; week = s.week; weekday = s.weekday; time = s.time; kind = l }) (h.kind_is ∙ sym k.kind_is)

-- The two changes of a rule.
pub record AreSame (r s : Rule) : Type 0 where
  pub one : r.one ≡ s.one
  pub other : r.other ≡ s.other

abbrev InOrder : List ℕ → ℕ → LocalType → Rule → Type 0
InOrder text at before r = IsBegin text at before r.one × IsEnd text at before r.other

abbrev Turned : List ℕ → ℕ → LocalType → Rule → Type 0
Turned text at before r = IsEnd text at before r.one × IsBegin text at before r.other

not_turned : (text : List ℕ) (at : ℕ) (before : LocalType) (r s : Rule) → InOrder text at before r → Turned text at before s → ⊥
not_turned text at before r s h k =
    let first : number r.one.month ≡ number s.other.month = h.0.month_is ∙ sym k.1.month_is in
    let second : number r.other.month ≡ number s.one.month = h.1.month_is ∙ sym k.0.month_is in
    omega (arith, r.calm.apart, s.calm.apart)

rule-one : (text : List ℕ) (at : ℕ) (before : LocalType) (r s : Rule) → InOrder text at before r ⊎ Turned text at before r → InOrder text at before s ⊎ Turned text at before s → AreSame r s
rule-one text at before r s (inl h) (inl k) = record { one = yearly-one _ _ _ _ _ h.0 k.0; other = yearly-one _ _ _ _ _ h.1 k.1 }
rule-one text at before r s (inl h) (inr k) = absurd (not_turned text at before r s h k)
rule-one text at before r s (inr h) (inl k) = absurd (not_turned text at before s r k h)
rule-one text at before r s (inr h) (inr k) = record { one = yearly-one _ _ _ _ _ h.0 k.0; other = yearly-one _ _ _ _ _ h.1 k.1 }

-- What a zone takes of a rule.
pub record ActAlike (standard : LocalType) (r s : Option Rule) : Type 0 where
  pub first : rule_type standard r ≡ rule_type standard s
  pub changes : rule_changes r ≡ rule_changes s

rest-one : (text : List ℕ) (at : ℕ) (before : LocalType) (r s : Option Rule) → IsRest text at before r → IsRest text at before s → ActAlike before r s
rest-one text at before None None h k = record { first = refl; changes = refl }
rest-one text at before None (Some s) h k = absurd (k.0 h)
rest-one text at before (Some r) None h k = absurd (h.0 k)
rest-one text at before (Some r) (Some s) h k =
    let same = rule-one text at before r s h.1.changes k.1.changes in
    record {
      first = ap (λ (y : Yearly). y.kind) same.other;
      changes = ap (λ (y : Yearly). changes_from y r.other 0) same.one ∙ ap (λ (y : Yearly). changes_from s.one y 0) same.other;
    }

-- What a zone takes of a footer.
pub record SayAlike (kind : LocalType) (f g : Option Footer) : Type 0 where
  pub first : footer_type kind f ≡ footer_type kind g
  pub changes : rule_changes (footer_rule f) ≡ rule_changes (footer_rule g)

spelled-one : (text : List ℕ) (at : ℕ) (kind : LocalType) (f g : Footer) → Spells text at f → Spells text at g → SayAlike kind (Some f) (Some g)
spelled-one text at kind f g h k =
    let rest = rest-one text (standard_end text at) (standard text at) f.rule g.rule h.rest k.rest in
    record {
      first = ap (λ (t : LocalType). rule_type t f.rule) h.first ∙ rest.first ∙ ap (λ (t : LocalType). rule_type t g.rule) (sym k.first);
      changes = rest.changes;
    }

pub footer_text-one : (bytes : List ℕ) (at : ℕ) (kind : LocalType) (f g : Option Footer) → IsFooterText bytes at f → IsFooterText bytes at g → SayAlike kind f g
footer_text-one bytes at kind None None h k = record { first = refl; changes = refl }
footer_text-one bytes at kind None (Some g) h k = absurd (k.0 h)
footer_text-one bytes at kind (Some f) None h k = absurd (h.0 k)
footer_text-one bytes at kind (Some f) (Some g) h k = spelled-one _ at kind f g h.1 k.1

pub zone_in-one : (bytes : List ℕ) (p : Layout) (end : ℕ) (f g : Option Footer) → HasFooter bytes end f → HasFooter bytes end g → zone_in bytes p f ≡ zone_in bytes p g
zone_in-one bytes p end f g h k =
    let same = footer_text-one bytes (end + 1) (type_in bytes p 0) f g h.text k.text in cc

pub file-one : (bytes : List ℕ) (y z : Timeline) → IsFile bytes y → IsFile bytes z → y ≡ z
file-one bytes y z h k = h.zone_is ∙ zone_in-one bytes (layout_of bytes) (second_header bytes).end h.footer k.footer h.text k.text ∙ sym k.zone_is

pub posix-one : (text : List ℕ) (y z : Timeline) → IsPosix text y → IsPosix text z → y ≡ z
posix-one text y z h k =
    let same = spelled-one text 0 h.footer.standard h.footer k.footer h.spelled k.spelled in
    h.zone_is ∙ (cc) ∙ sym k.zone_is

pub ok_same : (y z : Timeline) → y ≡ z → ◌≡◌ {A = Result Timeline ZoneError} (Ok y) (Ok z)
ok_same y z e = ap (λ (t : Timeline). Ok t) e

pub on_err : {T E : Type 0} (r : Result T E) (P : Type 0) → P → OnErr r P
on_err (Ok t) P h = tt
on_err (Err e) P h = h
