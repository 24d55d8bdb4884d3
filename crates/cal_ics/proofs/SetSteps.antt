-- The lines of an event, parsed one after another, and the one set that they say.
use denote.Ref.{Bor}
use Rattle.std.proofs.Common.{◌≡◌, ℕ, ◌+◌, ◌≤◌, List, [], ◌∷◌, ◌++◌, append-nil, length, map, Option, Some, None, Ok, Err, refl, sym, ap, subst, ◌∙◌, arith}
use Rattle.std.specs.Prelude.{option_map}
use Rattle.std.proofs.lemmas.List.{map-append}
use Rattle.cal_recurrence.specs.SetText.{error_after, error_at, parts_from, parts_of, unless_error, with_line, without_return, AreValid, SaysSet}
use Rattle.cal_recurrence.specs.Words.{parts_left}
use Rattle.cal_recurrence.specs.declared.date_or_time.DateOrTime.{DateOrTime}
use Rattle.cal_recurrence.specs.declared.set_draft.SetDraft.{SetDraft}
use Rattle.cal_recurrence.specs.declared.set_fault.ParseSetErrorKind.{ParseSetErrorKind}
use Rattle.cal_recurrence.specs.declared.set_fault.ParseSetErrorKind.TheVariants.{Missing}
use Rattle.cal_recurrence.specs.declared.set_parts.SetParts.{SetParts}
use Rattle.cal_recurrence.proofs.ReadValues.{length-map}
use Rattle.cal_recurrence.proofs.SaidLines.{ok-from, error-before, error-here, parts-more, valid-more}
use Rattle.cal_ics.specs.EventSet.{set_line, set_lines, set_lines_of, HasNoStart, IsSetLineError}
use Rattle.cal_ics.specs.Events.{depth_after}
use Rattle.cal_ics.proofs.Depths.{depth_past, depth-more, length-set, set-append}
use Rattle.cal_ics.proofs.Walks.{all-lines, start-here, walked, IsCut, IsWalk}

-- the lines of the event before those that are left were parsed
pub record IsProgress (text : List ℕ) (d : SetDraft) (depth at : ℕ) (left : Option (Bor (List ℕ))) : Type 0 where
  pub walk : IsWalk text at left
  pub nested : depth ≡ depth_past 1 (map without_return walk.done)
  pub few : depth ≤ at + 1
  pub valid : AreValid (set_lines 1 (map without_return walk.done))
  pub draft : d ≡ parts_of (set_lines 1 (map without_return walk.done))

-- the parts so far, and the line that comes next
pub record IsStep (text : List ℕ) (d : SetDraft) (depth at : ℕ) (left part : List ℕ) (more : Option (Bor (List ℕ))) : Type 0 where
  pub cut : IsCut text at left part more
  pub nested : depth ≡ depth_past 1 (map without_return cut.before.done)
  pub few : depth ≤ at + 1
  pub valid : AreValid (set_lines 1 (map without_return cut.before.done))
  pub draft : d ≡ parts_of (set_lines 1 (map without_return cut.before.done))

err-from : {X : Type 0} (o : Option ParseSetErrorKind) (x : X) (why : ParseSetErrorKind) → unless_error o x ≡ Err why → o ≡ Some why
err-from None x why e = absurd (cc)
err-from (Some it) x why e = cc

-- the line of the set that comes next, and the lines before and after it
next-line : (text : List ℕ) (d : SetDraft) (depth at : ℕ) (left part : List ℕ) (more : Option (Bor (List ℕ))) → (s : IsStep text d depth at left part more)
    → (after : List (List ℕ)) × (set_lines_of text ≡ set_lines 1 (map without_return s.cut.before.done) ++ set_line depth (without_return part) ∷ after)
next-line text d depth at left part more s =
    let before = map without_return s.cut.before.done in
    let line = without_return part in
    let others = map without_return (parts_left 10 more) in (
      set_lines (depth_after depth line) others,
      ap (set_lines 1) (all-lines text at left part more s.cut) ∙ set-append 1 before (line ∷ others)
          ∙ ap (λ (n : ℕ). set_lines 1 before ++ set_lines n (line ∷ others)) (sym s.nested),
    )

-- the line has an error
pub step-error : (text : List ℕ) (d : SetDraft) (depth at : ℕ) (left part : List ℕ) (more : Option (Bor (List ℕ))) (why : ParseSetErrorKind) → IsStep text d depth at left part more
    → unless_error (error_after d (set_line depth (without_return part))) (with_line d (set_line depth (without_return part))) ≡ Err why
    → IsSetLineError text (record { position = at; reason = why })
step-error text d depth at left part more why s e =
    let done = s.cut.before.done in
    let before = set_lines 1 (map without_return done) in
    let line = set_line depth (without_return part) in
    let next = next-line text d depth at left part more s in
    let size : length before ≡ length done = length-set 1 (map without_return done) ∙ length-map without_return done in
    record {
      line = length done;
      first = λ k less. ap (λ texts. error_at texts k) next.1 ∙ error-before before (line ∷ next.0) k (omega (arith, less, size)) ∙ s.valid k;
      reason =
          ap (λ texts. error_at texts (length done)) next.1 ∙ ap (error_at (before ++ line ∷ next.0)) (sym size) ∙ error-here before line next.0
          ∙ ap (λ said. error_after said line) (sym s.draft) ∙ err-from (error_after d line) _ why e;
      position = start-here text at left part more s.cut;
    }

-- the line has none
pub step-on : (text : List ℕ) (d : SetDraft) (depth at : ℕ) (left part : List ℕ) (more : Option (Bor (List ℕ))) (next : SetDraft) → IsStep text d depth at left part more
    → unless_error (error_after d (set_line depth (without_return part))) (with_line d (set_line depth (without_return part))) ≡ Ok next
    → (then : ℕ) → then ≡ depth_after depth (without_return part) → then ≤ depth + 1
    → IsProgress text next then (at + (length part + 1)) more
step-on text d depth at left part more next s e then is small =
    let done = s.cut.before.done in
    let lines = map without_return done in
    let before = set_lines 1 lines in
    let line = set_line depth (without_return part) in
    let both = ok-from (error_after d line) (with_line d line) next e in
    let none : error_after (parts_of before) line ≡ None = ap (λ said. error_after said line) (sym s.draft) ∙ both.0 in
    let all : map without_return (done ++ part ∷ []) ≡ lines ++ without_return part ∷ [] = map-append without_return done (part ∷ []) in
    let grown : set_lines 1 (map without_return (done ++ part ∷ [])) ≡ before ++ line ∷ [] =
    ap (set_lines 1) all ∙ set-append 1 lines (without_return part ∷ []) ∙ ap (λ (n : ℕ). before ++ set_line n (without_return part) ∷ []) (sym s.nested) in
    record {
      walk = walked text at left part more s.cut;
      nested = is ∙ ap (λ (n : ℕ). depth_after n (without_return part)) s.nested ∙ sym (depth-more 1 lines (without_return part)) ∙ ap (depth_past 1) (sym all);
      few = omega (arith, small, s.few);
      valid = subst AreValid (sym grown) (valid-more before line s.valid none);
      draft = sym both.1 ∙ ap (λ said. with_line said line) s.draft ∙ sym (parts-more before line none) ∙ ap parts_of (sym grown);
    }

-- no line is left
pub all-done : (text : List ℕ) (d : SetDraft) (depth at : ℕ) → (h : IsProgress text d depth at None) → set_lines 1 (map without_return h.walk.done) ≡ set_lines_of text
all-done text d depth at h = ap (λ parts. set_lines 1 (map without_return parts)) (sym (h.walk.lines ∙ append-nil h.walk.done))

pub all-said : (text : List ℕ) (d : SetDraft) (depth at : ℕ) (p : SetParts) → IsProgress text d depth at None → option_map (parts_from d) d.start ≡ Some p → SaysSet (set_lines_of text) p
all-said text d depth at p h e = by-start d.start refl e
  where
    by-start : (o : Option DateOrTime) → d.start ≡ o → option_map (parts_from d) o ≡ Some p → SaysSet (set_lines_of text) p
    by-start None s k = absurd (cc)
    by-start (Some v) s k =
        let same = all-done text d depth at h in
        let said : d ≡ parts_of (set_lines_of text) = h.draft ∙ ap parts_of same in
        let is : parts_from d v ≡ p = cc in
        let start : v ≡ p.start = ap (λ x. x.start) is in
        record {
          valid = subst AreValid same h.valid;
          start = sym (ap (λ x. x.start) said) ∙ s ∙ ap Some start;
          is = sym is ∙ ap (λ x. parts_from x v) said ∙ ap (parts_from (parts_of (set_lines_of text))) start;
        }

pub no-start : (text : List ℕ) (d : SetDraft) (depth at : ℕ) → IsProgress text d depth at None → option_map (parts_from d) d.start ≡ None
    → HasNoStart text (record { position = length text; reason = Missing })
no-start text d depth at h e =
    let same = all-done text d depth at h in
    let said : d ≡ parts_of (set_lines_of text) = h.draft ∙ ap parts_of same in
    record {
      valid = subst AreValid same h.valid;
      start = sym (ap (λ x. x.start) said) ∙ none d.start e;
      is = refl;
    }
  where
    none : (o : Option DateOrTime) → option_map (parts_from d) o ≡ None → o ≡ None
    none None k = refl
    none (Some v) k = absurd (cc)
