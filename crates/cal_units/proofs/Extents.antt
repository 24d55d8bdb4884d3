-- The first minimum and the first maximum of a list that grows item by item.
use Rattle.std.proofs.Common.{◌∙◌, List, [], ◌∷◌, ◌++◌, append_assoc, ap, sym, subst, refl}
use Rattle.std.specs.List.{All}
use Rattle.std.proofs.lemmas.List.Elements.{All-nil, All-cons, All-append}
use Rattle.cal_units.specs.Counted.{IsItemBetween}

-- A list of one item.
pub between-one : {T : Type 0} (P Q : T → Type 0) (x : T) → IsItemBetween P Q (x ∷ []) x
between-one P Q x = record { before = []; after = []; place = refl; earlier = All-nil P; later = All-nil Q }

-- A new item comes after x, and x stays.
pub between-keeps : {T : Type 0} (P Q : T → Type 0) (items : List T) (x y : T) → IsItemBetween P Q items x → Q y → IsItemBetween P Q (items ++ y ∷ []) x
between-keeps P Q items x y m q = record {
  before = m.before;
  after = m.after ++ y ∷ [];
  place = ap (λ l. l ++ y ∷ []) m.place ∙ append_assoc m.before (x ∷ m.after) (y ∷ []);
  earlier = m.earlier;
  later = All-append Q m.after (y ∷ []) m.later (All-cons Q y [] q (All-nil Q));
}

-- A new item replaces x.
pub between-takes : {T : Type 0} (P Q P' Q' : T → Type 0) (items : List T) (x y : T) → IsItemBetween P Q items x
    → ((z : T) → P z → P' z) → P' x → ((z : T) → Q z → P' z) → IsItemBetween P' Q' (items ++ y ∷ []) y
between-takes P Q P' Q' items x y m before here after = record {
  before = items;
  after = [];
  place = refl;
  earlier = subst (All P') (sym m.place)
      (All-append P' m.before (x ∷ m.after) (λ k d lt. before _ (m.earlier k d lt)) (All-cons P' x m.after here (λ k d lt. after _ (m.later k d lt))));
  later = All-nil Q';
}
