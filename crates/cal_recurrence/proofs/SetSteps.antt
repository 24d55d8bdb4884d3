-- The lines of a text, parsed one after another, and the one set that they say.
use denote.Ref.{Bor}
use Rattle.std.proofs.Common.{◌≡◌, ℕ, ◌+◌, List, [], ◌∷◌, ◌++◌, append-nil, append_assoc, length, map, take, Option, Some, None, Result, Ok, Err, inl, inr, refl, sym, ap, subst, ◌∙◌, arith}
use Rattle.std.specs.Prelude.{◌⊎◌, option_map, MatchOption}
use Rattle.std.proofs.lemmas.Bool.{cases_lt}
use Rattle.std.proofs.lemmas.List.{map-append, take_at}
use Rattle.cal_recurrence.specs.SetText.{error_after, error_at, lines_of, parts_from, parts_of, size_of, unless_error, with_line, without_return, AreValid, IsLineError, IsSetOf, LacksStart, SaysSet}
use Rattle.cal_recurrence.specs.Words.{parts_at, parts_left}
use Rattle.cal_recurrence.specs.declared.date_or_time.DateOrTime.{DateOrTime}
use Rattle.cal_recurrence.specs.declared.set_draft.SetDraft.{SetDraft}
use Rattle.cal_recurrence.specs.declared.set_fault.ParseSetError.{ParseSetError}
use Rattle.cal_recurrence.specs.declared.set_fault.ParseSetErrorKind.{ParseSetErrorKind}
use Rattle.cal_recurrence.specs.declared.set_parts.SetParts.{SetParts}
use Rattle.cal_recurrence.proofs.ReadValues.{length-map}
use Rattle.cal_recurrence.proofs.SaidLines.{ok-from, error-before, error-here, parts-more, valid-more}

-- the lines before those that are left were parsed
pub record IsProgress (text : List ℕ) (d : SetDraft) (at : ℕ) (left : Option (Bor (List ℕ))) : Type 0 where
  pub done : List (List ℕ)
  pub lines : parts_at 10 text ≡ done ++ parts_left 10 left
  pub valid : AreValid (map without_return done)
  pub draft : d ≡ parts_of (map without_return done)
  pub position : at ≡ size_of done
  pub size : MatchOption left (at ≡ length text + 1) (λ rest. at + length rest.now ≡ length text)

-- the parts so far, and the line that comes next
pub record IsStep (text : List ℕ) (d : SetDraft) (at : ℕ) (left : List ℕ) (part : List ℕ) (more : Option (Bor (List ℕ))) : Type 0 where
  pub rest : Bor (List ℕ)
  pub now : left ≡ rest.now
  pub before : IsProgress text d at (Some rest)
  pub split : parts_at 10 left ≡ part ∷ parts_left 10 more
  pub size : MatchOption more (length part ≡ length left) (λ last. length part + 1 + length last.now ≡ length left)

err-from : {X : Type 0} (o : Option ParseSetErrorKind) (x : X) (why : ParseSetErrorKind) → unless_error o x ≡ Err why → o ≡ Some why
err-from None x why e = absurd (cc)
err-from (Some it) x why e = cc

all-parts : (text : List ℕ) (d : SetDraft) (at : ℕ) (left part : List ℕ) (more : Option (Bor (List ℕ))) → (s : IsStep text d at left part more)
    → parts_at 10 text ≡ s.before.done ++ part ∷ parts_left 10 more
all-parts text d at left part more s = s.before.lines ∙ ap (λ bytes. s.before.done ++ parts_at 10 bytes) (sym s.now) ∙ ap (λ texts. s.before.done ++ texts) s.split

-- the line has an error
pub step-error : (text : List ℕ) (d : SetDraft) (at : ℕ) (left part : List ℕ) (more : Option (Bor (List ℕ))) (why : ParseSetErrorKind) → IsStep text d at left part more
    → unless_error (error_after d (without_return part)) (with_line d (without_return part)) ≡ Err why
    → IsLineError text (record { position = at; reason = why })
step-error text d at left part more why s e =
    let done = s.before.done in
    let before = map without_return done in
    let others = map without_return (parts_left 10 more) in
    let parts = all-parts text d at left part more s in
    let lines : lines_of text ≡ before ++ without_return part ∷ others = ap (map without_return) parts ∙ map-append without_return done (part ∷ parts_left 10 more) in
    let size : length before ≡ length done = length-map without_return done in
    record {
      line = length done;
      first = λ k less. ap (λ texts. error_at texts k) lines ∙ error-before before (without_return part ∷ others) k (omega (arith, less, size)) ∙ s.before.valid k;
      reason =
          ap (λ texts. error_at texts (length done)) lines ∙ ap (error_at (before ++ without_return part ∷ others)) (sym size) ∙ error-here before (without_return part) others
          ∙ ap (λ said. error_after said (without_return part)) (sym s.before.draft) ∙ err-from (error_after d (without_return part)) _ why e;
      position = s.before.position ∙ ap size_of (sym (ap (take (length done)) parts ∙ take_at done (part ∷ parts_left 10 more) (length done) refl));
    }

size-more : (texts : List (List ℕ)) (text : List ℕ) → size_of (texts ++ text ∷ []) ≡ size_of texts + (length text + 1)
size-more [] text = omega arith
size-more (t ∷ ts) text = omega (arith, size-more ts text)

-- the line has none
pub step-on : (text : List ℕ) (d : SetDraft) (at : ℕ) (left part : List ℕ) (more : Option (Bor (List ℕ))) (next : SetDraft) → IsStep text d at left part more
    → unless_error (error_after d (without_return part)) (with_line d (without_return part)) ≡ Ok next
    → IsProgress text next (at + (length part + 1)) more
step-on text d at left part more next s e =
    let done = s.before.done in
    let before = map without_return done in
    let line = without_return part in
    let both = ok-from (error_after d line) (with_line d line) next e in
    let none : error_after (parts_of before) line ≡ None = ap (λ said. error_after said line) (sym s.before.draft) ∙ both.0 in
    let grown : map without_return (done ++ part ∷ []) ≡ before ++ line ∷ [] = map-append without_return done (part ∷ []) in
    let rest : at + length left ≡ length text = ap (λ bytes. at + length bytes) s.now ∙ s.before.size in
    record {
      done = done ++ part ∷ [];
      lines = all-parts text d at left part more s ∙ sym (append_assoc done (part ∷ []) (parts_left 10 more));
      valid = subst AreValid (sym grown) (valid-more before line s.before.valid none);
      draft = sym both.1 ∙ ap (λ said. with_line said line) s.before.draft ∙ sym (parts-more before line none) ∙ ap parts_of (sym grown);
      position = ap (λ n. n + (length part + 1)) s.before.position ∙ sym (size-more done part);
      size = left-over more s.size rest;
    }
  where
    left-over : (o : Option (Bor (List ℕ))) → MatchOption o (length part ≡ length left) (λ last. length part + 1 + length last.now ≡ length left) → at + length left ≡ length text
        → MatchOption o (at + (length part + 1) ≡ length text + 1) (λ last. at + (length part + 1) + length last.now ≡ length text)
    left-over None h k = omega (arith, h, k)
    left-over (Some last) h k = omega (arith, h, k)

-- no line is left
pub all-said : (text : List ℕ) (d : SetDraft) (at : ℕ) (p : SetParts) → IsProgress text d at None → option_map (parts_from d) d.start ≡ Some p → SaysSet (lines_of text) p
all-said text d at p h e = by-start d.start refl e
  where
    by-start : (o : Option DateOrTime) → d.start ≡ o → option_map (parts_from d) o ≡ Some p → SaysSet (lines_of text) p
    by-start None s k = absurd (cc)
    by-start (Some v) s k =
        let lines : parts_at 10 text ≡ h.done = h.lines ∙ append-nil h.done in
        let same : map without_return h.done ≡ lines_of text = ap (map without_return) (sym lines) in
        let said : d ≡ parts_of (lines_of text) = h.draft ∙ ap parts_of same in
        let is : parts_from d v ≡ p = cc in
        let start : v ≡ p.start = ap (λ x. x.start) is in
        record {
          valid = subst AreValid same h.valid;
          start = sym (ap (λ x. x.start) said) ∙ s ∙ ap Some start;
          is = sym is ∙ ap (λ x. parts_from x v) said ∙ ap (parts_from (parts_of (lines_of text))) start;
        }

-- ---- a text says one set, or has one error
never : {X : Type 0} (o : Option X) (x : X) → o ≡ None → o ≡ Some x → ⊥
never o x h g = let e : None ≡ Some x = sym h ∙ g in absurd (cc)

one-some : {X : Type 0} (o : Option X) (x y : X) → o ≡ Some x → o ≡ Some y → x ≡ y
one-some o x y h g = let e : Some x ≡ Some y = sym h ∙ g in cc

one-value : (lines : List (List ℕ)) (p q : SetParts) → SaysSet lines p → SaysSet lines q → p ≡ q
one-value lines p q h g = h.is ∙ ap (parts_from (parts_of lines)) (one-some (parts_of lines).start p.start q.start h.start g.start) ∙ sym g.is

no-error : (text : List ℕ) (p : SetParts) (e : ParseSetError) → SaysSet (lines_of text) p → IsLineError text e ⊎ LacksStart text e → ⊥
no-error text p e h (inl g) = never (error_at (lines_of text) g.line) e.reason (h.valid g.line) g.reason
no-error text p e h (inr g) = never (parts_of (lines_of text)).start p.start g.start h.start

one-line : (text : List ℕ) (e f : ParseSetError) → IsLineError text e → IsLineError text f → e ≡ f
one-line text e f h g =
    elim (cases_lt h.line g.line) [
      | inl less ↦ absurd (never (error_at (lines_of text) h.line) e.reason (g.first h.line less) h.reason)
      | inr past ↦ elim (cases_lt g.line h.line) [
        | inl more ↦ absurd (never (error_at (lines_of text) g.line) f.reason (h.first g.line more) g.reason)
        | inr less ↦
            let same : h.line ≡ g.line = omega (arith, past, less) in
            let reason = one-some (error_at (lines_of text) g.line) e.reason f.reason (ap (error_at (lines_of text)) (sym same) ∙ h.reason) g.reason in
            let position : e.position ≡ f.position = h.position ∙ ap (λ k. size_of (take k (parts_at 10 text))) same ∙ sym g.position in
            ap (λ n. record e { position = n }) position ∙ ap (λ why. record f { reason = why }) reason
      ]
    ]

one-error : (text : List ℕ) (e f : ParseSetError) → IsLineError text e ⊎ LacksStart text e → IsLineError text f ⊎ LacksStart text f → e ≡ f
one-error text e f (inl h) (inl g) = one-line text e f h g
one-error text e f (inl h) (inr g) = absurd (never (error_at (lines_of text) h.line) e.reason (g.valid h.line) h.reason)
one-error text e f (inr h) (inl g) = absurd (never (error_at (lines_of text) g.line) f.reason (h.valid g.line) g.reason)
one-error text e f (inr h) (inr g) = h.is ∙ sym g.is

pub one-set : (text : List ℕ) (r s : Result SetParts ParseSetError) → IsSetOf text r → IsSetOf text s → r ≡ s
one-set text (Ok p) (Ok q) h g = ap Ok (one-value (lines_of text) p q h g)
one-set text (Ok p) (Err e) h g = absurd (no-error text p e h g)
one-set text (Err e) (Ok p) h g = absurd (no-error text p e g h)
one-set text (Err e) (Err f) h g = ap Err (one-error text e f h g)
