-- A file from its parts, and the position of an error in its changes.
use Rattle.std.proofs.Common.{◌≡◌, ℕ, ◌+◌, ◌<◌, List, [], length, sym, ap, subst, ◌∙◌, arith}
use Rattle.std.proofs.lemmas.List.FromFn.{length-map-range_with_len}
use Rattle.std.specs.Prelude.{Option}
use Rattle.cal_zone.specs.declared.change.Change.{Change}
use Rattle.cal_zone.specs.declared.change_error.ChangeError.TheVariants.{FirstOffset, Offset, Instant, NotRising, Overlap}
use Rattle.cal_zone.specs.declared.layout.Layout.{Layout}
use Rattle.cal_zone.specs.declared.local_type.LocalType.{LocalType}
use Rattle.cal_zone.specs.declared.rule.Rule.{Rule}
use Rattle.cal_zone.specs.declared.timeline_error.TimelineError.{TimelineError}
use Rattle.cal_zone.specs.declared.timeline_error.TimelineError.TheVariants as timeline
use Rattle.cal_zone.specs.Table.{change_in, changes_in, IsInside, IsTable}
use Rattle.cal_zone.specs.Timeline.{Timeline, IsOrdered}
use Rattle.cal_zone.specs.Zone.{zone_of, IsTimelineError}
use Rattle.cal_tzif.specs.declared.footer.Footer.{Footer}
use Rattle.cal_tzif.specs.declared.zone_error.ZoneError.{ZoneError}
use Rattle.cal_tzif.specs.declared.zone_error.ZoneErrorKind.TheVariants as kinds
use Rattle.cal_tzif.specs.File.{HasFooter, HasIndexes, first_type, footer_rule, zone_in, rule_type, IsFile, IsFileError, IsPosix, timeline_position}
use Rattle.cal_tzif.specs.Header.{HasHeaders, layout_of, second_header}
use Rattle.cal_tzif.specs.Posix.{Spells}
use Rattle.cal_tzif.specs.PosixError.{error_at}
use Rattle.cal_tzif.specs.Types.{HasTypes}
use Rattle.cal_tzif.proofs.Unique.{zone_in-one}

-- The number of changes.
size : (bytes : List ℕ) (p : Layout) (table : List Change) → table ≡ changes_in bytes p → length table ≡ p.changes
size bytes p table e = ap (λ (cs : List Change). length cs) e ∙ length-map-range_with_len (change_in bytes p) 0 p.changes

pub position_in : (bytes : List ℕ) (p : Layout) (end n : ℕ) (first : LocalType) (table : List Change) (rule : Option Rule) → IsInside bytes p → table ≡ changes_in bytes p
    → length bytes < n → end + 1 < n → (t : TimelineError) → IsTimelineError first table rule t → timeline_position p end t < n
position_in bytes p end n first table rule inside is room last (timeline.Change FirstOffset) h = omega (arith, inside.types)
position_in bytes p end n first table rule inside is room last (timeline.Change (Offset k)) h =
    omega (arith, size bytes p table is, inside.indexes, h.1)
position_in bytes p end n first table rule inside is room last (timeline.Change (Instant k)) h =
    omega (arith, size bytes p table is, inside.times, h.1)
position_in bytes p end n first table rule inside is room last (timeline.Change (NotRising k)) h =
    omega (arith, size bytes p table is, inside.times, h.2)
position_in bytes p end n first table rule inside is room last (timeline.Change (Overlap k)) h =
    omega (arith, size bytes p table is, inside.times, h.2)
position_in bytes p end n first table rule inside is room last timeline.Junction h = omega arith

-- The parts of a file, as they are found one after another.
pub record IsRead (bytes : List ℕ) (p : Layout) (end : ℕ) (footer : Option Footer) (first : LocalType) (table : List Change) (rule : Option Rule) : Type 0 where
  pub headers : HasHeaders bytes
  pub p_is : p ≡ layout_of bytes
  pub end_is : end ≡ (second_header bytes).end
  pub types : HasTypes bytes p
  pub text : HasFooter bytes end footer
  pub typed : IsTable bytes p
  pub first_is : first ≡ first_type bytes p footer
  pub table_is : table ≡ changes_in bytes p
  pub rule_is : rule ≡ footer_rule footer

zone_is : {bytes : List ℕ} {p : Layout} {end : ℕ} {footer : Option Footer} {first : LocalType} {table : List Change} {rule : Option Rule}
    → IsRead bytes p end footer first table rule → zone_of first table rule ≡ zone_in bytes p footer
zone_is h = same_parts _ _ _ _ _ _ h.first_is h.table_is h.rule_is
  where
    same_parts : (f f' : LocalType) (t t' : List Change) (r r' : Option Rule) → f ≡ f' → t ≡ t' → r ≡ r' → zone_of f t r ≡ zone_of f' t' r'
    same_parts f f' t t' r r' a b c = cc

pub file_is : (bytes : List ℕ) (p : Layout) (end : ℕ) (footer : Option Footer) (first : LocalType) (table : List Change) (rule : Option Rule) (zone : Timeline)
    → IsRead bytes p end footer first table rule → zone ≡ zone_of first table rule → IsOrdered first.offset (zone_of first table rule).changes → IsFile bytes zone
file_is bytes p end footer first table rule zone h e order = record {
  headers = h.headers;
  types = subst (HasTypes bytes) h.p_is h.types;
  footer = footer;
  text = subst (λ (n : ℕ). HasFooter bytes n footer) h.end_is h.text;
  indexes = subst (HasIndexes bytes) h.p_is h.typed.typed;
  zone_is = subst (λ (q : Layout). zone ≡ zone_in bytes q footer) h.p_is (e ∙ zone_is h);
  ordered = subst (λ (z : Timeline). IsOrdered z.first.offset z.changes) (sym e) order;
}

-- If the changes are not in order, the bytes say no zone.
pub not_file : (bytes : List ℕ) (p : Layout) (end : ℕ) (footer : Option Footer) (first : LocalType) (table : List Change) (rule : Option Rule) (zone : Timeline)
    → IsRead bytes p end footer first table rule → ¬ (IsOrdered first.offset (zone_of first table rule).changes) → IsFile bytes zone → ⊥
not_file bytes p end footer first table rule zone h none file =
    let text : HasFooter bytes (second_header bytes).end footer = subst (λ (n : ℕ). HasFooter bytes n footer) h.end_is h.text in
    let found : zone_of first table rule ≡ zone_in bytes (layout_of bytes) footer = subst (λ (q : Layout). zone_of first table rule ≡ zone_in bytes q footer) h.p_is (zone_is h) in
    let same : zone ≡ zone_of first table rule = file.zone_is ∙ zone_in-one bytes (layout_of bytes) (second_header bytes).end file.footer footer file.text text ∙ sym found in
    none (subst (λ (z : Timeline). IsOrdered z.first.offset z.changes) same file.ordered)

pub order_error : (bytes : List ℕ) (p : Layout) (end : ℕ) (footer : Option Footer) (first : LocalType) (table : List Change) (rule : Option Rule) (t : TimelineError) (e : ZoneError)
    → IsRead bytes p end footer first table rule → IsTimelineError first table rule t → e ≡ error_at (kinds.Timeline t) (timeline_position p end t) → IsFileError bytes e
order_error bytes p end footer first table rule t e h fault is =
    let file : IsTimelineError (first_type bytes p footer) (changes_in bytes p) (footer_rule footer) t =
    subst (λ (f : LocalType). IsTimelineError f (changes_in bytes p) (footer_rule footer) t) h.first_is
    (subst (λ (cs : List Change). IsTimelineError first cs (footer_rule footer) t) h.table_is
    (subst (λ (r : Option Rule). IsTimelineError first table r t) h.rule_is fault)) in
    IsFileError.order h.headers (subst (HasTypes bytes) h.p_is h.types) footer (subst (λ (n : ℕ). HasFooter bytes n footer) h.end_is h.text) (subst (HasIndexes bytes) h.p_is h.typed.typed) t
    (subst (λ (q : Layout). IsTimelineError (first_type bytes q footer) (changes_in bytes q) (footer_rule footer) t) h.p_is file)
    (subst (λ (q : Layout). e ≡ error_at (kinds.Timeline t) (timeline_position q (second_header bytes).end t)) h.p_is
    (subst (λ (n : ℕ). e ≡ error_at (kinds.Timeline t) (timeline_position p n t)) h.end_is is))

pub posix_is : (text : List ℕ) (f : Footer) (first : LocalType) (table : List Change) (zone : Timeline) → Spells text 0 f → first ≡ rule_type f.standard f.rule → table ≡ []
    → zone ≡ zone_of first table f.rule → IsPosix text zone
posix_is text f first table zone h first_is table_is e = record {
  footer = f;
  spelled = h;
  zone_is = e ∙ ap (λ (t : LocalType). zone_of t table f.rule) first_is ∙ ap (λ (cs : List Change). zone_of (rule_type f.standard f.rule) cs f.rule) table_is;
}
