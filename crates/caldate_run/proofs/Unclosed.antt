-- The end of an input, of which a last line has no line feed, and perhaps open quotes.
use Rattle.std.proofs.Common.{◌≡◌, ℕ, ◌+◌, ◌-◌, ◌<◌, Bool, true, false, cond, List, [], ◌∷◌, ◌++◌, length, take, drop, Option, Result, Ok, Err, IfErr, OnOk, refl, sym, ap, ◌∙◌, subst, arith, append_assoc, length-append}
use Rattle.std.specs.Prelude.{not, ◌&&◌, nat_eq}
use Rattle.std.specs.declared.io.Error.{Error}
use Rattle.std.proofs.Math.ListN.{replicate}
use Rattle.std.proofs.Math.Seq.{take-append-add}
use Rattle.std.proofs.lemmas.List.{append-nil, drop-replicate, take-replicate}
use Rattle.std.proofs.lemmas.Bool.Decides.{nat_tests}
use Rattle.caldate_lines.specs.Fields.{is_open}
use Rattle.caldate_lines.specs.Lines.{all_lines, has_return, last_part, quotes_in, split_from, split_input, unended}
use Rattle.caldate_lines.specs.RunStates.{NoEnd, RunState, onto, quoting_in, quoting_of}
use Rattle.caldate_lines.specs.declared.field.Field.{Field}
use Rattle.caldate_lines.specs.declared.output.Output.{Output}
use Rattle.caldate_lines.specs.declared.progress.Progress.{Progress}
use Rattle.caldate_lines.specs.declared.quoting.Quoting.{Quoting}
use Rattle.caldate_lines.specs.declared.run_error.RunError.{RunError}
use Rattle.caldate_lines.proofs.Quotes.{onto_one}
use Rattle.caldate_lines.proofs.Splits.{onto_onto, passes_front}
use Rattle.caldate_answers.specs.declared.request.Filter.{Filter}
use Rattle.caldate_run.specs.Inputs.{ends_in_quotes, whole_lines, with_return}
use Rattle.caldate_run.specs.Replies.{IsReplyTo}
use Rattle.caldate_run.specs.Runs.{HasRun}
use Rattle.caldate_run.proofs.Replied.{same_return}
use Rattle.caldate_run.proofs.Steps.{kept_none, last_is, reads_more, whole_parts}

-- ---- a byte after bytes in which no line ends
after : (field : Option Field) (q : Quoting) (line more : List ℕ) → NoEnd field q line → split_from field q (line ++ more) ≡ onto line (split_from field (quoting_in field q line) more)
after field q line more n = (passes_front field q line [] (subst (NoEnd field q) (sym (append-nil line)) n)).0 more

pub return_stays : (field : Option Field) (q : Quoting) (line : List ℕ) → NoEnd field q line → NoEnd field q (line ++ 13 ∷ [])
return_stays field q line n = after field q line (13 ∷ []) n ∙ onto_one line (13 ∷ []) []

abbrev feed_parts : Bool → List (List ℕ)
feed_parts true = (10 ∷ []) ∷ []
feed_parts false = [] ∷ [] ∷ []

feed : (field : Option Field) (q : Quoting) → split_from field q (10 ∷ []) ≡ feed_parts (is_open (quotes_in field q))
feed field q = either (is_open (quotes_in field q))
  where
    either : (b : Bool) → cond {A = List (List ℕ)} (not b) ([] ∷ [] ∷ []) ((10 ∷ []) ∷ []) ≡ feed_parts b
    either true = refl
    either false = refl

-- the bytes of a line, and carriage returns after them
pub with_returns : (line copied : List ℕ) (n : ℕ) → copied ≡ line → length line < n
    → take (length line + 1) (copied ++ drop (length line) (replicate n 13)) ≡ line ++ 13 ∷ []
with_returns line copied n same fits =
    ap (λ l. take (length line + 1) (l ++ drop (length line) (replicate n 13))) same ∙ take-append-add line (drop (length line) (replicate n 13)) 1
    ∙ ap (λ rest. line ++ take 1 rest) (drop-replicate (length line) n 13) ∙ ap (λ rest. line ++ rest) (take-replicate 1 (n - length line) 13 (omega (arith, fits)))

-- ---- the quotes at the end of the input
some_is_not_none : (n : ℕ) → 0 < n → nat_eq n 0 ≡ false
some_is_not_none n some = grind (arith, nat_tests, some)

some_left : (is_in : Bool) (lines : List (List ℕ)) (line : List ℕ) → not (nat_eq (length (last_part (lines ++ onto line (feed_parts is_in)))) 0) ≡ is_in
some_left true lines line =
    let some : length (line ++ 10 ∷ []) ≡ length line + 1 = length-append line (10 ∷ []) in
    ap (λ parts. not (nat_eq (length (last_part (lines ++ parts))) 0)) (onto_one line (10 ∷ []) []) ∙ ap (λ part. not (nat_eq (length part) 0)) (last_is lines (line ++ 10 ∷ []))
    ∙ ap not (some_is_not_none (length (line ++ 10 ∷ [])) (omega (arith, some)))
some_left false lines line =
    ap (λ parts. not (nat_eq (length (last_part (lines ++ parts))) 0)) (onto_one line [] ([] ∷ []))
    ∙ ap (λ parts. not (nat_eq (length (last_part parts)) 0)) (sym (append_assoc lines ((line ++ []) ∷ []) ([] ∷ [])))
    ∙ ap (λ part. not (nat_eq (length part) 0)) (last_is (lines ++ (line ++ []) ∷ []) [])

pub quotes_at_end : (filter : Filter) (input given line : List ℕ) (progress : Progress) → NoEnd filter.field (quoting_of progress) line
    → RunState (IsReplyTo filter) filter.on_invalid filter.field input given line progress
    → ends_in_quotes filter.field input ≡ is_open (quotes_in filter.field (quoting_in filter.field (quoting_of progress) line))
quotes_at_end filter input given line progress n s =
    let q = quoting_in filter.field (quoting_of progress) line in
    let parts : split_input filter.field (input ++ 10 ∷ []) ≡ s.lines ++ onto (s.kept ++ line) (feed_parts (is_open (quotes_in filter.field q))) =
    s.cut (10 ∷ []) ∙ ap (λ ps. s.lines ++ onto s.kept ps) (after filter.field (quoting_of progress) line (10 ∷ []) n ∙ ap (onto line) (feed filter.field q))
    ∙ ap (λ ps. s.lines ++ ps) (onto_onto s.kept line _) in
    ap (λ ps. not (nat_eq (length (last_part ps)) 0)) parts ∙ some_left (is_open (quotes_in filter.field q)) s.lines (s.kept ++ line)

-- ---- the whole input
pub whole_input : (filter : Filter) (input given line : List ℕ) (progress : Progress) (closes : Bool) → NoEnd filter.field (quoting_of progress) line → 0 < length line
    → closes ≡ (has_return line && is_open (quotes_in filter.field (quoting_in filter.field (quoting_of progress) line)))
    → RunState (IsReplyTo filter) filter.on_invalid filter.field input given line progress
    → with_return filter.field input ≡ cond closes (input ++ 13 ∷ []) input
whole_input filter input given line progress closes n some is s =
    let last : unended filter.field input ≡ s.kept ++ line = ap last_part (whole_parts filter input given line progress n s) ∙ last_is s.lines (s.kept ++ line) in
    let return : has_return (unended filter.field input) ≡ has_return line = ap has_return last ∙ same_return s.kept line some in
    ap (λ b. cond (b && ends_in_quotes filter.field input) (input ++ 13 ∷ []) input) return
    ∙ ap (λ b. cond (has_return line && b) (input ++ 13 ∷ []) input) (quotes_at_end filter input given line progress n s)
    ∙ ap (λ b. cond b (input ++ 13 ∷ []) input) (sym is)

pub whole_input_none : (filter : Filter) (input given : List ℕ) (progress : Progress) → RunState (IsReplyTo filter) filter.on_invalid filter.field input given [] progress
    → with_return filter.field input ≡ input
whole_input_none filter input given progress s =
    let last : unended filter.field input ≡ [] =
    ap last_part (whole_parts filter input given [] progress refl s) ∙ last_is s.lines (s.kept ++ []) ∙ append-nil s.kept ∙ kept_none progress.is_long s.kept s.held in
    ap (λ part. cond (has_return part && ends_in_quotes filter.field input) (input ++ 13 ∷ []) input) last

-- ---- what holds over all lines of an input
module _ {S : Type 0} (contents : S → Option (List ℕ)) (write : S → List ℕ → Result ℕ Error → S → Type 0) (filter : Filter) (Holds : List (List ℕ) → S → Type 0) (output : Output) (now : S) (progress : Progress) where
  abbrev pub Over : (List ℕ → List (List ℕ)) → List ℕ → Type 0
  Over lines_in pending = (input : List ℕ) (start : S) → HasRun contents write filter input start output now pending progress → Holds (lines_in input) start

  pub over_none : (line : List ℕ) → line ≡ [] → Over (all_lines filter.field) line → Over (whole_lines filter.field) line
  over_none line none over = λ input start run.
      let empty = subst (λ (p : List ℕ). HasRun contents write filter input start output now p progress) none run in
      subst (λ (whole : List ℕ). Holds (all_lines filter.field whole) start) (sym (whole_input_none filter input empty.0 progress empty.2)) (over input start run)

  pub over_closed : (line : List ℕ) (closes : Bool) → closes ≡ false → NoEnd filter.field (quoting_of progress) line → 0 < length line
      → closes ≡ (has_return line && is_open (quotes_in filter.field (quoting_in filter.field (quoting_of progress) line)))
      → Over (all_lines filter.field) line → Over (whole_lines filter.field) line
  over_closed line closes not_open n some is over = λ input start run.
      let whole = whole_input filter input run.0 line progress closes n some is run.2 ∙ ap (λ b. cond b (input ++ 13 ∷ []) input) not_open in
      subst (λ (whole : List ℕ). Holds (all_lines filter.field whole) start) (sym whole) (over input start run)

  pub over_open : (line longer : List ℕ) (closes : Bool) → longer ≡ line ++ 13 ∷ [] → closes ≡ true → NoEnd filter.field (quoting_of progress) line → 0 < length line
      → closes ≡ (has_return line && is_open (quotes_in filter.field (quoting_in filter.field (quoting_of progress) line)))
      → Over (all_lines filter.field) longer → Over (whole_lines filter.field) line
  over_open line longer closes same opened n some is over = λ input start run.
      let whole = whole_input filter input run.0 line progress closes n some is run.2 ∙ ap (λ b. cond b (input ++ 13 ∷ []) input) opened in
      let more = reads_more (IsReplyTo filter) filter.on_invalid filter.field input (13 ∷ []) run.0 line progress run.2 in
      let last = subst (λ (p : List ℕ). RunState (IsReplyTo filter) filter.on_invalid filter.field (input ++ 13 ∷ []) run.0 p progress) (sym same) more in
      subst (λ (whole : List ℕ). Holds (all_lines filter.field whole) start) (sym whole) (over (input ++ 13 ∷ []) start (run.0, run.1, last))

-- ---- results
pub ok_map : {P Q : Type 0} (r : Result Unit RunError) → (P → Q) → OnOk r P → OnOk r Q
ok_map (Ok done) f h = f h
ok_map (Err error) f h = h

pub err_map : {P Q : RunError → Type 0} (r : Result Unit RunError) → ((error : RunError) → P error → Q error) → IfErr r P → IfErr r Q
err_map (Ok done) f h = h
err_map (Err error) f h = f error h
