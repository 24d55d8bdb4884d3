-- A text in the first of some forms, by what the parser of the first form says and what those of the
-- others say.
use Rattle.std.proofs.Common.{◌≡◌, ℕ, ◌-◌, ◌≤◌, List, [], ◌∷◌, Result, Ok, Err, inl, inr, refl, sym, ap, arith, length, take, drop, get_or}
use Rattle.std.proofs.lemmas.List.{take_all}
use Rattle.cal_text.specs.declared.any.DateOrMoment.{DateOrMoment}
use Rattle.caldate_answers.specs.Readers.{IsFoundBy, IsReason, IsTextBy, IsUnread, IsUnreadBy, first_reason}
use Rattle.caldate_lines.specs.declared.no_answer.NoAnswer.{NoAnswer}
use Rattle.caldate_answers.specs.declared.reading.reader.Assumptions.{Assumptions}
use Rattle.caldate_answers.specs.declared.reading.reader.Reader.{Reader}

abbrev pub others_of : List Reader → List Reader
others_of readers = take (length readers - 1) (drop 1 readers)

pub parts : (readers : List Reader) (d : Reader) → 1 ≤ length readers → readers ≡ get_or readers 0 d ∷ others_of readers
parts [] d some = absurd (omega (arith, some))
parts (r ∷ rs) d some = ap (λ l. r ∷ l) (sym (take_all (length (r ∷ rs) - 1) rs (omega arith)))

abbrev failed : NoAnswer → Result DateOrMoment NoAnswer
failed any = Err any

not_ok : (w : NoAnswer) (f : DateOrMoment) → failed w ≡ Ok f → ⊥
not_ok w f e = cc

-- ---- the first form doesn't have it
abbrev pub Lacks : Assumptions → Reader → List ℕ → NoAnswer → Type 0
Lacks a r text w = (g : DateOrMoment) → IsTextBy a r text g → failed w ≡ Ok g

lacks_by : (a : Assumptions) (r : Reader) (text : List ℕ) (w : NoAnswer) → Lacks a r text w → (g : DateOrMoment) → ¬ IsTextBy a r text g
lacks_by a r text w lack g h = not_ok w g (lack g h)

pub other_has : (a : Assumptions) (r : Reader) (rs : List Reader) (text : List ℕ) (w : NoAnswer) (f : DateOrMoment) → Lacks a r text w → IsFoundBy a rs text f → IsFoundBy a (r ∷ rs) text f
other_has a r rs text w f lack h = inr (lacks_by a r text w lack, h)

-- ---- no form has it
abbrev pub AllLack : Assumptions → List Reader → List ℕ → NoAnswer → Type 0
AllLack a rs text w = (g : DateOrMoment) → IsFoundBy a rs text g → failed w ≡ Ok g

pub none_found : (a : Assumptions) (r : Reader) (rs : List Reader) (text : List ℕ) (own later : NoAnswer) → Lacks a r text own → AllLack a rs text later
    → (found : DateOrMoment) → ¬ IsFoundBy a (r ∷ rs) text found
none_found a r rs text own later lack every found (inl h) = lacks_by a r text own lack found h
none_found a r rs text own later lack every found (inr (no_text, h)) = not_ok later found (every found h)

pub none_unread : (a : Assumptions) (r : Reader) (rs : List Reader) (text : List ℕ) (own later : NoAnswer) → Lacks a r text own → AllLack a rs text later
    → IsUnreadBy a r text own → IsUnread a rs text later → IsUnread a (r ∷ rs) text (first_reason own later)
none_unread a r rs text own later lack every is other = record {
  none = none_found a r rs text own later lack every;
  why_is = (own, later, is, other.why_is, refl);
}

-- the others don't have it either
pub unread_rest : (a : Assumptions) (r : Reader) (rs : List Reader) (text : List ℕ) (any later : NoAnswer) → IsUnread a (r ∷ rs) text any → IsReason a rs text later
    → IsUnread a rs text later
unread_rest a r rs text any later h is = record { none = λ g found. h.none g (inr ((λ f own. h.none f (inl own)), found)); why_is = is }
