-- A text is cut at its fields.
use Rattle.std.proofs.Common.{◌≡◌, ℕ, ◌+◌, ◌-◌, ◌<◌, ◌≤◌, Bool, true, false, cond, eqb, List, [], ◌∷◌, ◌++◌, length, take, drop, Option, Some, None, refl, sym, ap, ◌∙◌, arith, append_assoc, length-append, length-take, take-append-drop}
use Rattle.std.specs.Prelude.{not, nat_le, ◌&&◌, MatchOption}
use Rattle.std.specs.List.{join_with_byte, onto_first}
use Rattle.std.proofs.Math.Seq.{drop-append_seam, take-append_seam, take-append-add}
use Rattle.std.proofs.lemmas.Bool.{eqb-true}
use Rattle.std.proofs.lemmas.Bool.Decides.{nat_tests}
use Rattle.std.proofs.lemmas.List.{append-nil, take_rest}
use Rattle.caldate_lines.specs.Fields.{Cut, HasFirst, IsAfter, cut_of, each_begun, each_ended, fields_of, has_too_few, is_open, joined_fields, quotes_of, quoting_after, split_fields, split_outside_quotes}
use Rattle.caldate_lines.specs.declared.quoting.Quoting.{Quoting}
use Rattle.caldate_lines.specs.declared.field.Field.{Field}
use Rattle.caldate_lines.proofs.Quotes.{onto_some}

-- ---- fields with their separators
each_append : (c : ℕ) (xs ys : List (List ℕ)) → each_ended c (xs ++ ys) ≡ each_ended c xs ++ each_ended c ys
each_append c [] ys = refl
each_append c (x ∷ xs) ys = ap (λ l. x ++ c ∷ l) (each_append c xs ys) ∙ sym (append_assoc x (c ∷ each_ended c xs) (each_ended c ys))

pub join_first : (c : ℕ) (words : List ℕ) (more : List (List ℕ)) → 0 < length more → join_with_byte c (words ∷ more) ≡ words ++ c ∷ join_with_byte c more
join_first c words [] h = absurd (omega (arith, h))
join_first c words (part ∷ more) h = refl

join_each : (c : ℕ) (xs more : List (List ℕ)) → 0 < length more → join_with_byte c (xs ++ more) ≡ each_ended c xs ++ join_with_byte c more
join_each c [] more h = refl
join_each c (x ∷ xs) more h =
    join_first c x (xs ++ more) (omega (arith, h, length-append xs more)) ∙ ap (λ l. x ++ c ∷ l) (join_each c xs more h)
    ∙ sym (append_assoc x (c ∷ each_ended c xs) (join_with_byte c more))

-- ---- the fields of a text
some_either : (b : Bool) (xs ys : List (List ℕ)) → 0 < length xs → 0 < length ys → 0 < length (cond b xs ys)
some_either true xs ys h k = h
some_either false xs ys h k = k

pub record_some : (e c : ℕ) (s q : Quoting) (text : List ℕ) → 0 < length (split_outside_quotes e c s q text)
record_some e c s q [] = omega arith
record_some e c s q (x ∷ xs) =
    let more = split_outside_quotes e c s (quoting_after c q x) xs in
    some_either (eqb x e && not (is_open q)) ([] ∷ split_outside_quotes e c s s xs) (onto_first x more) (omega arith) (onto_some x more)

join_onto : (c x : ℕ) (parts : List (List ℕ)) → 0 < length parts → join_with_byte c (onto_first x parts) ≡ x ∷ join_with_byte c parts
join_onto c x [] h = absurd (omega (arith, h))
join_onto c x (part ∷ []) h = refl
join_onto c x (part ∷ next ∷ parts) h = refl

both_true : (a b : Bool) → (a && b) ≡ true → a ≡ true
both_true true b e = refl
both_true false b e = e

join_either : (b : Bool) (c : ℕ) (xs ys : List (List ℕ)) (text : List ℕ) → (b ≡ true → join_with_byte c xs ≡ text) → join_with_byte c ys ≡ text
    → join_with_byte c (cond b xs ys) ≡ text
join_either true c xs ys text h k = h refl
join_either false c xs ys text h k = k

join_record : (e c : ℕ) (s q : Quoting) (text : List ℕ) → join_with_byte e (split_outside_quotes e c s q text) ≡ text
join_record e c s q [] = refl
join_record e c s q (x ∷ xs) =
    let after = split_outside_quotes e c s (quoting_after c q x) xs in
    let fresh = split_outside_quotes e c s s xs in
    join_either (eqb x e && not (is_open q)) e ([] ∷ fresh) (onto_first x after) (x ∷ xs)
    (λ is. join_first e [] fresh (record_some e c s s xs) ∙ ap (λ l. e ∷ l) (join_record e c s s xs)
    ∙ ap (λ b. b ∷ xs) (sym (eqb-true x e (both_true (eqb x e) (not (is_open q)) is))))
    (join_onto e x after (record_some e c s (quoting_after c q x) xs) ∙ ap (λ l. x ∷ l) (join_record e c s (quoting_after c q x) xs))

pub some_fields : (field : Field) (text : List ℕ) → 0 < length (fields_of field text)
some_fields field text = record_some field.separator field.separator (quotes_of field) (quotes_of field) text

join_fields : (field : Field) (text : List ℕ) → join_with_byte field.separator (fields_of field text) ≡ text
join_fields field text = join_record field.separator field.separator (quotes_of field) (quotes_of field) text

-- ---- one field further on
pub further : (field : Field) (count : ℕ) (text rest first after : List ℕ) → fields_of field rest ≡ first ∷ fields_of field after
    → rest ≡ first ++ field.separator ∷ after → IsAfter field count text rest → IsAfter field (count + 1) text after
further field count text rest first after cut whole h = record {
  passed = h.passed ++ first ∷ [];
  many = omega (arith, h.many, length-append h.passed (first ∷ []));
  fields = h.fields ∙ ap (λ l. h.passed ++ l) cut ∙ sym (append_assoc h.passed (first ∷ []) (fields_of field after));
  whole = h.whole ∙ ap (λ l. each_ended field.separator h.passed ++ l) (whole ∙ sym (append_assoc first (field.separator ∷ []) after))
      ∙ sym (append_assoc (each_ended field.separator h.passed) (first ++ field.separator ∷ []) after)
      ∙ ap (λ l. l ++ after) (sym (each_append field.separator h.passed (first ∷ [])));
}

-- ---- the first field
begun_join : (c : ℕ) (parts : List (List ℕ)) → 0 < length parts → each_begun c parts ≡ c ∷ join_with_byte c parts
begun_join c [] h = absurd (omega (arith, h))
begun_join c (part ∷ []) h = ap (λ l. c ∷ l) (append-nil part)
begun_join c (part ∷ next ∷ parts) h = ap (λ l. c ∷ (part ++ l)) (begun_join c (next ∷ parts) (omega arith))

pub first_of : (field : Field) (text : List ℕ) (n : ℕ)
    → (n < length text) × (fields_of field text ≡ take n text ∷ fields_of field (drop (n + 1) text)) × (text ≡ take n text ++ field.separator ∷ drop (n + 1) text)
    → HasFirst field text n
first_of field text n (within, cut, whole) =
    let more = fields_of field (drop (n + 1) text) in
    let k : length (take n text) ≡ n = omega (arith, within, length-take n text) in
    record {
      others = more;
      fields = cut;
      after = ap (λ j. drop j text) (sym k) ∙ ap (drop (length (take n text))) whole ∙ drop-append_seam (take n text) (field.separator ∷ drop (n + 1) text)
          ∙ ap (λ l. field.separator ∷ l) (sym (join_fields field (drop (n + 1) text))) ∙ sym (begun_join field.separator more (some_fields field (drop (n + 1) text)));
    }

-- ---- the fields that are asked for
-- They stand after the first fields, with these bytes around them.
pub record Found (field : Field) (text before part after : List ℕ) : Type 0 where
  pub has : has_too_few field text ≡ false
  pub asked : joined_fields field text ≡ part
  pub front : each_ended field.separator (take (field.first - 1) (fields_of field text)) ≡ before
  pub rest : each_begun field.separator (drop (field.first - 1 + field.joined + 1) (fields_of field text)) ≡ after
  pub whole : text ≡ before ++ part ++ after

not_le : (n m : ℕ) → m < n → nat_le n m ≡ false
not_le n m h = grind (arith, nat_tests)

take_one : (xs ys : List (List ℕ)) (x : List ℕ) (n : ℕ) → n ≡ length xs → take (n + 1) (xs ++ x ∷ ys) ≡ xs ++ x ∷ []
take_one xs ys x n e = ap (λ k. take (k + 1) (xs ++ x ∷ ys)) e ∙ take-append-add xs (x ∷ ys) 1

drop_front : (xs ys : List (List ℕ)) (n : ℕ) → n ≡ length xs → drop n (xs ++ ys) ≡ ys
drop_front xs ys n e = ap (λ k. drop k (xs ++ ys)) e ∙ drop-append_seam xs ys

take_front : (xs ys : List (List ℕ)) (n : ℕ) → n ≡ length xs → take n (xs ++ ys) ≡ xs
take_front xs ys n e = ap (λ k. take k (xs ++ ys)) e ∙ take-append_seam xs ys

pub found : (field : Field) (text rest last : List ℕ) (n : ℕ) → (a : IsAfter field (field.first - 1) text rest) → (b : IsAfter field field.joined rest last)
    → HasFirst field last n
    → Found field text (each_ended field.separator a.passed) (each_ended field.separator b.passed ++ take n last) (drop n last)
found field text rest last n a b first =
    let c = field.separator in
    let x = take n last in
    let parts = fields_of field text in
    let cut : fields_of field rest ≡ b.passed ++ x ∷ first.others = b.fields ∙ ap (λ l. b.passed ++ l) first.fields in
    let all : parts ≡ a.passed ++ (b.passed ++ x ∷ first.others) = a.fields ∙ ap (λ l. a.passed ++ l) cut in
    let ends : parts ≡ (a.passed ++ (b.passed ++ x ∷ [])) ++ first.others =
    all ∙ ap (λ l. a.passed ++ l) (sym (append_assoc b.passed (x ∷ []) first.others)) ∙ sym (append_assoc a.passed (b.passed ++ x ∷ []) first.others) in
    let rest_is : drop (field.first - 1) parts ≡ b.passed ++ x ∷ first.others =
    ap (drop (field.first - 1)) all ∙ drop_front a.passed (b.passed ++ x ∷ first.others) (field.first - 1) (sym a.many) in
    let others_are : drop (field.first - 1 + field.joined + 1) parts ≡ first.others =
    ap (drop (field.first - 1 + field.joined + 1)) ends
    ∙ drop_front (a.passed ++ (b.passed ++ x ∷ [])) first.others (field.first - 1 + field.joined + 1)
    (omega (arith, a.many, b.many, length-append a.passed (b.passed ++ x ∷ []), length-append b.passed (x ∷ []))) in
    record {
      has = not_le (length parts) (field.first - 1 + field.joined)
          (omega (arith, ap length all, a.many, b.many, length-append a.passed (b.passed ++ x ∷ first.others), length-append b.passed (x ∷ first.others)));
      asked = ap (λ l. join_with_byte c (take (field.joined + 1) l)) rest_is ∙ ap (join_with_byte c) (take_one b.passed first.others x field.joined (sym b.many))
          ∙ join_each c b.passed (x ∷ []) (omega arith);
      front = ap (λ l. each_ended c l) (ap (take (field.first - 1)) all ∙ take_front a.passed (b.passed ++ x ∷ first.others) (field.first - 1) (sym a.many));
      rest = ap (λ l. each_begun c l) others_are ∙ sym first.after;
      whole = a.whole ∙ ap (λ l. each_ended c a.passed ++ l)
          (b.whole ∙ ap (λ l. each_ended c b.passed ++ l) (sym (take-append-drop n last)) ∙ sym (append_assoc (each_ended c b.passed) x (drop n last)))
          ∙ sym (append_assoc (each_ended c a.passed) (each_ended c b.passed ++ x) (drop n last));
    }

-- ---- the text around them, as slices
pub record Slices (text before part after : List ℕ) (start end : ℕ) : Type 0 where
  pub front : take start text ≡ before
  pub middle : take (end - start) (drop start text) ≡ part
  pub back : drop end text ≡ after

slices : (text before part after : List ℕ) (start end : ℕ) → text ≡ before ++ part ++ after → start ≡ length before → end ≡ length before + length part
    → Slices text before part after start end
slices text before part after start end whole e f =
    let at : text ≡ before ++ (part ++ after) = whole ∙ append_assoc before part after in
    record {
      front = ap (take start) at ∙ ap (λ k. take k (before ++ (part ++ after))) e ∙ take-append_seam before (part ++ after);
      middle = ap (take (end - start)) (ap (drop start) at ∙ ap (λ k. drop k (before ++ (part ++ after))) e ∙ drop-append_seam before (part ++ after))
          ∙ ap (λ k. take k (part ++ after)) (omega (arith, e, f)) ∙ take-append_seam part after;
      back = ap (drop end) whole ∙ ap (λ k. drop k (before ++ part ++ after)) (omega (arith, f, length-append before part)) ∙ drop-append_seam (before ++ part) after;
    }

places : (field : Field) (text rest last : List ℕ) (n start end : ℕ) → (a : IsAfter field (field.first - 1) text rest) → (b : IsAfter field field.joined rest last)
    → n ≤ length last → start ≡ length text - length rest → end ≡ length text - length last + n
    → (start ≡ length (each_ended field.separator a.passed)) × (end ≡ length (each_ended field.separator a.passed) + length (each_ended field.separator b.passed ++ take n last))
places field text rest last n start end a b within e f =
    let front = each_ended field.separator a.passed in
    let middle = each_ended field.separator b.passed in (
      omega (arith, e, ap length a.whole, length-append front rest),
      omega (arith, f, within, ap length a.whole, length-append front rest, ap length b.whole, length-append middle last, length-append middle (take n last), length-take n last),
    )

-- ---- the cut
pub record IsCut (field : Field) (text before part after : List ℕ) : Type 0 where
  pub cut_is : cut_of field text ≡ Some (record { front = before; part = part; rest = after })
  pub whole : text ≡ before ++ part ++ after

abbrev made : List ℕ → List ℕ → List ℕ → Cut
made before part after = record { front = before; part = part; rest = after }

cut : (field : Field) (text b p a before part after : List ℕ) → b ≡ before → p ≡ part → a ≡ after → Found field text before part after → IsCut field text b p a
cut field text b p a before part after e f g h =
    let parts = fields_of field text in
    let c = field.separator in
    let fronts = each_ended c (take (field.first - 1) parts) in
    let rests = each_begun c (drop (field.first - 1 + field.joined + 1) parts) in
    record {
      cut_is = ap (λ (t : Bool). cond t None (Some (made fronts (joined_fields field text) rests))) h.has
          ∙ ap (λ l. Some (made l (joined_fields field text) rests)) (h.front ∙ sym e) ∙ ap (λ l. Some (made b l rests)) (h.asked ∙ sym f)
          ∙ ap (λ l. Some (made b p l)) (h.rest ∙ sym g);
      whole = h.whole ∙ ap (λ l. l ++ part ++ after) (sym e) ∙ ap (λ l. b ++ l ++ after) (sym f) ∙ ap (λ l. b ++ p ++ l) (sym g);
    }

pub cut_at : (field : Field) (text rest last : List ℕ) (n start end : ℕ) → IsAfter field (field.first - 1) text rest → IsAfter field field.joined rest last
    → HasFirst field last n → n ≤ length last → start ≡ length text - length rest → end ≡ length text - length last + n
    → IsCut field text (take start text) (take (end - start) (drop start text)) (take (length text - end) (drop end text))
cut_at field text rest last n start end a b first within e f =
    let h = found field text rest last n a b first in
    let at = places field text rest last n start end a b within e f in
    let before = each_ended field.separator a.passed in
    let part = each_ended field.separator b.passed ++ take n last in
    let s = slices text before part (drop n last) start end h.whole at.0 at.1 in
    cut field text _ _ _ before part (drop n last) s.front s.middle (take_rest text end ∙ s.back) h

-- ---- the separator after the first field
pub separator_at : (field : Field) (start : Quoting) (text : List ℕ) (r : Option ℕ) → start ≡ quotes_of field
    → MatchOption r (split_fields field.separator start text ≡ text ∷ [])
    (λ at. (at < length text) × ((more : List ℕ) → split_fields field.separator start (text ++ more) ≡ take at text ∷ split_fields field.separator start (drop (at + 1) text ++ more))
    × (text ≡ take at text ++ field.separator ∷ drop (at + 1) text))
    → MatchOption r (fields_of field text ≡ text ∷ []) (λ at. (at < length text) × (fields_of field text ≡ take at text ∷ fields_of field (drop (at + 1) text))
    × (text ≡ take at text ++ field.separator ∷ drop (at + 1) text))
separator_at field start text None e h = ap (λ q. split_fields field.separator q text) (sym e) ∙ h
separator_at field start text (Some k) e h = (
  h.0,
  ap (λ q. split_fields field.separator q text) (sym e) ∙ ap (split_fields field.separator start) (sym (append-nil text)) ∙ h.1 []
      ∙ ap (λ t. take k text ∷ split_fields field.separator start t) (append-nil (drop (k + 1) text))
      ∙ ap (λ q. take k text ∷ split_fields field.separator q (drop (k + 1) text)) e,
  h.2,
)
