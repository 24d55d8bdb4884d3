-- The changes of a file by their indexes.
use Rattle.std.proofs.Common.{◌≡◌, ℕ, ◌+◌, ◌*◌, ◌^◌, ◌<◌, ◌≤◌, List, length, sym, ap, ◌∙◌, arith}
use Rattle.std.proofs.lemmas.List.FromFn.{get_or-map-range_with_len, length-map-range_with_len}
use Rattle.std.specs.Prelude.{slice_index, ℤ}
use Rattle.std.specs.List.{slice_index_or}
use Rattle.cal_zone.specs.declared.change.Change.{Change}
use Rattle.cal_zone.specs.declared.layout.Layout.{Layout}
use Rattle.cal_zone.specs.declared.local_type.LocalType.{LocalType}
use Rattle.cal_zone.specs.Bytes.{big_endian, two_complement}
use Rattle.cal_zone.specs.Table.{type_in, change_in, changes_in, IsReadable}
use Rattle.cal_zone.specs.Timeline.{no_change}

pub length-view : (bytes : List ℕ) (p : Layout) (value : List Change) → changes_in bytes p ≡ value → length value ≡ p.changes
length-view bytes p value e = ap length (sym e) ∙ length-map-range_with_len (change_in bytes p) 0 p.changes

pub item-view : (bytes : List ℕ) (p : Layout) (value : List Change) (k : ℕ) → changes_in bytes p ≡ value → k < p.changes → slice_index_or value k no_change ≡ change_in bytes p k
item-view bytes p value k e h =
    let z : 0 + k ≡ k = omega arith in
    ap (λ (cs : List Change). slice_index_or cs k no_change) (sym e) ∙ get_or-map-range_with_len (change_in bytes p) 0 p.changes k k no_change h z

-- An index in range, and the places that are read for it.
pub record IsRead (bytes : List ℕ) (p : Layout) (k : ℕ) : Type 0 where
  pub inside : k < p.changes
  pub room : k < 2 ^ 60
  pub time : p.times + 8 * k + 8 ≤ length bytes
  pub index : p.indexes + k < length bytes
  pub types : p.types ≤ length bytes
  pub names : p.names ≤ length bytes

pub read : (bytes : List ℕ) (p : Layout) (value : List Change) (k : ℕ) → IsReadable bytes p → changes_in bytes p ≡ value → k < length value → IsRead bytes p k
read bytes p value k h e less =
    let n = length-view bytes p value e in
    let inside : k < p.changes = omega arith in
    let t = h.inside.times in
    let d = h.inside.indexes in
    let y = h.inside.types in
    record { inside = inside; room = (let few = h.few in omega arith); time = omega arith; index = omega arith; types = omega arith; names = h.inside.names }

pub same_time : (bytes : List ℕ) (p : Layout) (value : List Change) (k : ℕ) (a : ℤ) → changes_in bytes p ≡ value → k < p.changes
    → a ≡ two_complement 63 (big_endian bytes (p.times + 8 * k) 8) → a ≡ (slice_index_or value k no_change).at
same_time bytes p value k a e h at_is = at_is ∙ ap (λ (c : Change). c.at) (sym (item-view bytes p value k e h))

pub same_kind : (bytes : List ℕ) (p : Layout) (value : List Change) (k : ℕ) (o : LocalType) (index : ℕ) → changes_in bytes p ≡ value → k < p.changes
    → o ≡ type_in bytes p index → index ≡ slice_index bytes (p.indexes + k) → o ≡ (slice_index_or value k no_change).kind
same_kind bytes p value k o index e h kind_is index_is =
    kind_is ∙ ap (type_in bytes p) index_is ∙ ap (λ (c : Change). c.kind) (sym (item-view bytes p value k e h))
