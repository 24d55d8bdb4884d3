-- How far a run is after each of its steps.
use Rattle.std.proofs.Common.{◌≡◌, ℕ, inl, inr, ◌+◌, ◌-◌, ◌<◌, Bool, true, false, cond, List, [], ◌∷◌, ◌++◌, length, take, drop, Option, Some, refl, sym, ap, ◌∙◌, subst, arith, append_assoc, length-append, length-take, length-drop, take-append-drop}
use Rattle.std.specs.Io.KnownBytes.{Appends}
use Rattle.std.proofs.Math.Nat.{min-eq_left}
use Rattle.std.proofs.lemmas.List.{append-nil, take-append-le, take_all}
use Rattle.std.proofs.lemmas.Bool.{false≢true}
use Rattle.caldate_lines.specs.Lines.{all_lines, ended_lines, last_part, split_from, split_input, text_of, unended, without_empty_last, without_last}
use Rattle.caldate_lines.specs.Outputs.{AppendsFront}
use Rattle.caldate_lines.specs.RunStates.{AreReplies, AtLine, FirstEnds, IsDroppedFront, NoEnd, Replies, RunState, counted, no_lines, onto, passed, quoting_in, quoting_of}
use Rattle.caldate_lines.specs.declared.no_answer.NoAnswer.{NoAnswer}
use Rattle.caldate_lines.specs.declared.on_invalid.OnInvalid.{OnInvalid}
use Rattle.caldate_lines.specs.declared.on_invalid.OnInvalid.TheVariants as invalid
use Rattle.caldate_lines.specs.declared.progress.Progress.{Progress}
use Rattle.caldate_lines.specs.declared.field.Field.{Field}
use Rattle.caldate_lines.specs.declared.quoting.Quoting.{Quoting}
use Rattle.caldate_lines.specs.declared.quoting.Quoting.TheVariants.{Ready}
use Rattle.caldate_lines.specs.declared.tally.Tally.{Tally}
use Rattle.caldate_lines.specs.declared.unanswered.UnansweredLine.{UnansweredLine}
use Rattle.caldate_lines.proofs.Quotes.{onto_one}
use Rattle.caldate_lines.proofs.Splits.{line_some, of_none, onto_onto, onto_parts, part_counts, parts_some, passes_front}
use Rattle.caldate_answers.specs.declared.request.Filter.{Filter}
use Rattle.caldate_run.specs.Replies.{Describes, EndsAt, IsOutcome, IsReplyTo, stops}
use Rattle.caldate_run.specs.Runs.{AnswersEnded, AnswersFront, IsPassedOn, EndsUnanswered, StopsAt}

-- ---- replies
one_reply : (IsReply : Replies) (before n : ℕ) (lines : List (List ℕ)) (line out reply : List ℕ) (t u v : Tally) → n ≡ before + length lines
    → AreReplies IsReply before lines out t u → IsReply n line reply u v → AreReplies IsReply before (lines ++ line ∷ []) (out ++ reply) t v
one_reply IsReply before n [] line out reply t u v e h r = (
  reply,
  [],
  v,
  subst (λ k. IsReply k line reply t v) (omega (arith, e)) (subst (λ w. IsReply n line reply w v) h.1 r),
  ap (λ l. l ++ reply) h.0 ∙ sym (append-nil reply),
  (refl, refl),
)
one_reply IsReply before n (l ∷ lines) line out reply t u v e h r = (
  h.0,
  h.1 ++ reply,
  h.2,
  h.3,
  ap (λ o. o ++ reply) h.4 ∙ append_assoc h.0 h.1 reply,
  one_reply IsReply (before + 1) n lines line h.1 reply h.2 u v (omega (arith, e)) h.5 r,
)

-- ---- the line that was held
pub held_line : (field : Option Field) (b : Bool) (q : Quoting) (kept pending line after : List ℕ) → IsDroppedFront b kept pending
    → (b ≡ true → NoEnd field q (take 1 pending)) → FirstEnds field (cond b q Ready) pending line after → IsDroppedFront b kept line
held_line field false q kept pending line after h goes first = h
held_line field true q kept pending line after h goes first = (h.0, line_some field q pending line after h.1 (goes refl) first)

-- ---- the front that was passed on
pub passed_none : (mode : OnInvalid) → passed mode [] ≡ []
passed_none invalid.Keep = refl
passed_none invalid.Answer = refl
passed_none invalid.Drop = refl
passed_none invalid.Stop = refl

passed_append : (mode : OnInvalid) (xs ys : List ℕ) → passed mode (xs ++ ys) ≡ passed mode xs ++ passed mode ys
passed_append invalid.Keep xs ys = refl
passed_append invalid.Answer xs ys = refl
passed_append invalid.Drop xs ys = refl
passed_append invalid.Stop xs ys = refl

stops_passed : (mode : OnInvalid) (kept : List ℕ) → stops mode ≡ true → passed mode kept ≡ []
stops_passed invalid.Keep kept e = absurd (false≢true e)
stops_passed invalid.Answer kept e = refl
stops_passed invalid.Drop kept e = refl
stops_passed invalid.Stop kept e = refl

passes_none : (mode : OnInvalid) (line : List ℕ) → IsPassedOn mode line []
passes_none invalid.Keep line = inl refl
passes_none invalid.Answer line = refl
passes_none invalid.Drop line = refl
passes_none invalid.Stop line = refl

passes : (mode : OnInvalid) (b : Bool) (kept pending rest : List ℕ) → IsDroppedFront b kept pending → IsPassedOn mode (kept ++ rest) (passed mode kept)
passes invalid.Keep false kept pending rest h = inl h
passes invalid.Keep true kept pending rest h = inr (h.0, (rest, refl))
passes invalid.Answer b kept pending rest h = refl
passes invalid.Drop b kept pending rest h = refl
passes invalid.Stop b kept pending rest h = refl

-- ---- one line
counted_more : (n m : ℕ) → m ≡ counted n → counted (m + 1) ≡ counted (n + 1)
counted_more n m e = omega (arith, e)

-- the front was passed on, and the words come after it
passed_more : (out passed words given : List ℕ) → given ≡ out ++ passed → given ++ words ≡ out ++ (passed ++ words)
passed_more out passed words given e = ap (λ l. l ++ words) e ∙ append_assoc out passed words

-- a line that the run is at gets a reply
pub answered : (IsReply : Replies) (mode : OnInvalid) (field : Option Field) (input given words pending line after : List ℕ) (progress progress_now : Progress)
    → FirstEnds field (quoting_of progress) pending line after → (s : RunState IsReply mode field input given pending progress)
    → IsReply (length s.lines) (s.kept ++ line) (passed mode s.kept ++ words) progress.tally progress_now.tally
    → progress_now.is_long ≡ false → progress_now.tally.lines ≡ counted (progress.tally.lines + 1)
    → RunState IsReply mode field input (given ++ words) after progress_now
answered IsReply mode field input given words pending line after progress progress_now first s reply short number = record {
  lines = s.lines ++ (s.kept ++ line) ∷ [];
  kept = [];
  out = s.out ++ (passed mode s.kept ++ words);
  cut = λ more. s.cut more ∙ ap (λ parts. s.lines ++ onto s.kept parts) (first more) ∙ ap (λ parts. s.lines ++ parts) (onto_one s.kept line (split_input field (after ++ more)))
      ∙ sym (append_assoc s.lines ((s.kept ++ line) ∷ []) (split_input field (after ++ more)))
      ∙ ap (λ b. (s.lines ++ (s.kept ++ line) ∷ []) ++ split_from field (cond b progress_now.quoting Ready) (after ++ more)) (sym short);
  replies = one_reply IsReply 0 _ s.lines (s.kept ++ line) s.out (passed mode s.kept ++ words) _ _ _ (omega arith) s.replies reply;
  whole = passed_more s.out (passed mode s.kept) words given s.whole ∙ sym (append-nil (s.out ++ (passed mode s.kept ++ words)))
      ∙ ap (λ p. s.out ++ (passed mode s.kept ++ words) ++ p) (sym (passed_none mode));
  held = subst (λ b. IsDroppedFront b [] after) (sym short) refl;
  goes_on = λ long. absurd (false≢true (sym short ∙ long));
  number = number ∙ counted_more (length s.lines) progress.tally.lines s.number ∙ ap counted (sym (length-append s.lines ((s.kept ++ line) ∷ [])));
}

-- ---- the lines of the input
some_parts : (lines : List (List ℕ)) (parts : List (List ℕ)) → 0 < length parts → 0 < length (lines ++ parts)
some_parts lines parts h = omega (arith, h, length-append lines parts)

lines_begin : (lines : List (List ℕ)) (parts : List (List ℕ)) → 0 < length parts
    → without_empty_last (lines ++ parts) ≡ lines ++ without_empty_last parts
lines_begin [] parts h = refl
lines_begin (l ∷ lines) parts h = part_counts l (lines ++ parts) (some_parts lines parts h) ∙ ap (λ ls. l ∷ ls) (lines_begin lines parts h)

-- those that are answered, and those that are pending
abbrev Cut : Option Field → List ℕ → List (List ℕ) → List ℕ → Quoting → List ℕ → Type 0
Cut field input lines kept q pending = (more : List ℕ) → split_input field (input ++ more) ≡ lines ++ onto kept (split_from field q (pending ++ more))

lines_are : (field : Option Field) (input kept pending : List ℕ) (lines : List (List ℕ)) (q : Quoting) → Cut field input lines kept q pending
    → split_input field input ≡ lines ++ onto kept (split_from field q pending)
lines_are field input kept pending lines q cut =
    ap (split_input field) (sym (append-nil input)) ∙ cut [] ∙ ap (λ p. lines ++ onto kept (split_from field q p)) (append-nil pending)

-- those that have ended
part_ended : (part : List ℕ) (parts : List (List ℕ)) → 0 < length parts → without_last (part ∷ parts) ≡ part ∷ without_last parts
part_ended part [] h = absurd (omega arith)
part_ended part (p ∷ parts) h = refl

ended_begin : (lines : List (List ℕ)) (parts : List (List ℕ)) → 0 < length parts → without_last (lines ++ parts) ≡ lines ++ without_last parts
ended_begin [] parts h = refl
ended_begin (l ∷ lines) parts h = part_ended l (lines ++ parts) (some_parts lines parts h) ∙ ap (λ ls. l ∷ ls) (ended_begin lines parts h)

parts_are : (parts : List (List ℕ)) → 0 < length parts → without_last parts ++ last_part parts ∷ [] ≡ parts
parts_are [] h = absurd (omega (arith, h))
parts_are (part ∷ []) h = refl
parts_are (part ∷ next ∷ parts) h = ap (λ ps. part ∷ ps) (parts_are (next ∷ parts) (omega arith))

pub last_is : (lines : List (List ℕ)) (part : List ℕ) → last_part (lines ++ part ∷ []) ≡ part
last_is [] part = refl
last_is (line ∷ []) part = refl
last_is (line ∷ next ∷ lines) part = last_is (next ∷ lines) part

-- the lines that have ended, and the bytes after them
rest_is : (field : Option Field) (input kept pending : List ℕ) (lines : List (List ℕ)) (q : Quoting) → Cut field input lines kept q pending
    → ended_lines field input ++ unended field input ∷ [] ≡ lines ++ onto kept (split_from field q pending)
rest_is field input kept pending lines q cut = parts_are (split_input field input) (parts_some field Ready input) ∙ lines_are field input kept pending lines q cut

some_line : (line : List ℕ) → 0 < length line → without_empty_last (line ∷ []) ≡ line ∷ []
some_line [] h = absurd (omega (arith, h))
some_line (b ∷ bs) h = refl

-- ---- a write that failed
pub failed : (filter : Filter) (input given pending : List ℕ) (old new : Option (List ℕ)) (progress : Progress) → AppendsFront old new given
    → RunState (IsReplyTo filter) filter.on_invalid filter.field input given pending progress → AnswersFront filter (ended_lines filter.field input) (unended filter.field input) old new
failed filter input given pending old new progress f s =
    let parts = onto_parts s.kept (split_from filter.field (quoting_of progress) pending) (parts_some filter.field (quoting_of progress) pending) in
    record {
      lines = s.lines;
      next = s.kept ++ parts.0;
      more = parts.1;
      out = s.out;
      front = passed filter.on_invalid s.kept;
      tally = progress.tally;
      cut = rest_is filter.field input s.kept pending s.lines (quoting_of progress) s.cut ∙ ap (λ ps. s.lines ++ ps) parts.2;
      replies = s.replies;
      passed = passes filter.on_invalid progress.is_long s.kept pending parts.0 s.held;
      taken = subst (AppendsFront old new) s.whole f;
    }

-- ---- a line without an answer
abbrev pub Ends : Filter → Progress → List ℕ → UnansweredLine → Type 0
Ends filter progress line reported = AtLine progress line (λ before whole. EndsAt filter before whole reported)

none_passed : (filter : Filter) (out kept given : List ℕ) → passed filter.on_invalid kept ≡ [] → given ≡ out ++ passed filter.on_invalid kept → given ≡ out
none_passed filter out kept given none whole = whole ∙ ap (λ p. out ++ p) none ∙ append-nil out

-- a line at which the run ends, and its description
pub ends_at : (filter : Filter) (old now : Progress) (line : List ℕ) (any : NoAnswer) (reported : UnansweredLine) → now ≡ old → EndsUnanswered filter old line any
    → ((before : ℕ) → now.tally.lines ≡ counted before → Describes before any reported) → Ends filter old line reported
ends_at filter old now line any reported same ends described = λ kept before held number.
    let end = ends kept before held number in
    let told = described before (ap (λ (p : Progress). p.tally.lines) same ∙ number) in
    record {
      out = end.1.0;
      is = subst (λ w. IsOutcome filter before (text_of (kept ++ line)) (Some w) end.1.0) (sym told.why_is) end.1.1;
      ends = end.0;
      reported_is = record { number_is = told.number_is; why_is = refl };
    }

pub stopped : (filter : Filter) (input given pending line after : List ℕ) (old new : Option (List ℕ)) (progress : Progress) (reported : UnansweredLine)
    → FirstEnds filter.field (quoting_of progress) pending line after → Ends filter progress line reported → Appends old new given
    → RunState (IsReplyTo filter) filter.on_invalid filter.field input given pending progress → StopsAt filter reported (ended_lines filter.field input) old new
stopped filter input given pending line after old new progress reported first ends f s =
    let at = ends s.kept (length s.lines) (held_line filter.field progress.is_long progress.quoting s.kept pending line after s.held s.goes_on first) s.number in
    let rest = split_input filter.field (after ++ []) in
    let parts : split_input filter.field input ≡ s.lines ++ (s.kept ++ line) ∷ rest =
    ap (split_input filter.field) (sym (append-nil input)) ∙ s.cut [] ∙ ap (λ ps. s.lines ++ onto s.kept ps) (first []) ∙ ap (λ ps. s.lines ++ ps) (onto_one s.kept line rest) in
    record {
      lines = s.lines;
      line = s.kept ++ line;
      more = without_last rest;
      out = s.out;
      tally = progress.tally;
      cut = ap without_last parts ∙ ended_begin s.lines ((s.kept ++ line) ∷ rest) (omega arith) ∙ ap (λ l. s.lines ++ l) (part_ended (s.kept ++ line) rest (parts_some filter.field Ready (after ++ [])));
      ends = at;
      replies = s.replies;
      taken = subst (Appends old new) (none_passed filter s.out s.kept given (stops_passed filter.on_invalid s.kept at.ends) s.whole) f;
    }

-- ---- the end of the input
pub kept_none : (b : Bool) (kept : List ℕ) → IsDroppedFront b kept [] → kept ≡ []
kept_none false kept h = h
kept_none true kept h = absurd (omega (arith, h.1))

-- the lines of the input got these replies
abbrev pub RepliesToAll : Filter → List ℕ → List ℕ → Tally → Type 0
RepliesToAll filter input given tally = AreReplies (IsReplyTo filter) 0 (all_lines filter.field input) given no_lines tally

pub all_answered : (filter : Filter) (input given : List ℕ) (progress : Progress) → RunState (IsReplyTo filter) filter.on_invalid filter.field input given [] progress
    → RepliesToAll filter input given progress.tally
all_answered filter input given progress s =
    let none = kept_none progress.is_long s.kept s.held in
    let lines : all_lines filter.field input ≡ s.lines =
    ap without_empty_last (lines_are filter.field input s.kept [] s.lines (quoting_of progress) s.cut ∙ ap (λ k. s.lines ++ onto k (split_from filter.field (quoting_of progress) [])) none
    ∙ ap (λ ps. s.lines ++ ps) (of_none filter.field (quoting_of progress))) ∙ lines_begin s.lines ([] ∷ []) (omega arith) ∙ append-nil s.lines in
    subst (λ out. RepliesToAll filter input out progress.tally) (sym (none_passed filter s.out s.kept given (ap (passed filter.on_invalid) none ∙ passed_none filter.on_invalid) s.whole))
    (subst (λ ls. AreReplies (IsReplyTo filter) 0 ls s.out no_lines progress.tally) (sym lines) s.replies)

-- the parts of the input, of which the last one is pending
pub whole_parts : (filter : Filter) (input given pending : List ℕ) (progress : Progress) → NoEnd filter.field (quoting_of progress) pending
    → (s : RunState (IsReplyTo filter) filter.on_invalid filter.field input given pending progress) → split_input filter.field input ≡ s.lines ++ (s.kept ++ pending) ∷ []
whole_parts filter input given pending progress n s =
    lines_are filter.field input s.kept pending s.lines (quoting_of progress) s.cut ∙ ap (λ ps. s.lines ++ onto s.kept ps) n ∙ ap (λ ps. s.lines ++ ps) (onto_one s.kept pending [])

-- the lines, and the last one, which has no end
with_last : (filter : Filter) (input given line : List ℕ) (progress : Progress)
    → NoEnd filter.field (quoting_of progress) line → 0 < length line → (s : RunState (IsReplyTo filter) filter.on_invalid filter.field input given line progress)
    → all_lines filter.field input ≡ s.lines ++ (s.kept ++ line) ∷ []
with_last filter input given line progress n l s =
    ap without_empty_last (whole_parts filter input given line progress n s) ∙ lines_begin s.lines ((s.kept ++ line) ∷ []) (omega arith)
    ∙ ap (λ ls. s.lines ++ ls) (some_line (s.kept ++ line) (omega (arith, l, length-append s.kept line)))

pub last_answered : (filter : Filter) (input given words line : List ℕ) (progress : Progress) (tally : Tally)
    → NoEnd filter.field (quoting_of progress) line → 0 < length line → (s : RunState (IsReplyTo filter) filter.on_invalid filter.field input given line progress)
    → IsReplyTo filter (length s.lines) (s.kept ++ line) (passed filter.on_invalid s.kept ++ words) progress.tally tally → RepliesToAll filter input (given ++ words) tally
last_answered filter input given words line progress tally n l s reply =
    let out = passed filter.on_invalid s.kept ++ words in
    subst (λ given. RepliesToAll filter input given tally) (sym (passed_more s.out (passed filter.on_invalid s.kept) words given s.whole))
    (subst (λ ls. AreReplies (IsReplyTo filter) 0 ls (s.out ++ out) no_lines tally) (sym (with_last filter input given line progress n l s))
    (one_reply (IsReplyTo filter) 0 _ s.lines (s.kept ++ line) s.out out _ _ _ (omega arith) s.replies reply))

pub last_failed : (filter : Filter) (input given : List ℕ) (old new : Option (List ℕ)) (tally : Tally) → RepliesToAll filter input given tally → AppendsFront old new given
    → AnswersFront filter (all_lines filter.field input) [] old new
last_failed filter input given old new tally replies f = record {
  lines = all_lines filter.field input;
  next = [];
  more = [];
  out = given;
  front = [];
  tally = tally;
  cut = refl;
  replies = replies;
  passed = passes_none filter.on_invalid [];
  taken = subst (AppendsFront old new) (sym (append-nil given)) f;
}

pub last_stopped : (filter : Filter) (input given line : List ℕ) (old new : Option (List ℕ)) (progress : Progress) (reported : UnansweredLine)
    → NoEnd filter.field (quoting_of progress) line → 0 < length line → Ends filter progress line reported → Appends old new given
    → RunState (IsReplyTo filter) filter.on_invalid filter.field input given line progress → StopsAt filter reported (all_lines filter.field input) old new
last_stopped filter input given line old new progress reported n l ends f s =
    let at = ends s.kept (length s.lines) s.held s.number in
    record {
      lines = s.lines;
      line = s.kept ++ line;
      more = [];
      out = s.out;
      tally = progress.tally;
      cut = with_last filter input given line progress n l s;
      ends = at;
      replies = s.replies;
      taken = subst (Appends old new) (none_passed filter s.out s.kept given (stops_passed filter.on_invalid s.kept at.ends) s.whole) f;
    }

-- ---- reads
pub begun : (IsReply : Replies) (mode : OnInvalid) (field : Option Field) (progress : Progress) → progress.is_long ≡ false → progress.tally ≡ no_lines
    → RunState IsReply mode field [] [] [] progress
begun IsReply mode field progress short none = record {
  lines = [];
  kept = [];
  out = [];
  cut = λ more. ap (λ b. split_from field (cond b progress.quoting Ready) more) (sym short);
  replies = (refl, none);
  whole = sym (passed_none mode);
  held = subst (λ b. IsDroppedFront b [] []) (sym short) refl;
  goes_on = λ long. absurd (false≢true (sym short ∙ long));
  number = ap (λ (t : Tally). t.lines) none;
}

held_more : (b : Bool) (kept pending given : List ℕ) → IsDroppedFront b kept pending → IsDroppedFront b kept (pending ++ given)
held_more false kept pending given h = h
held_more true kept pending given h = (h.0, omega (arith, h.1, length-append pending given))

goes_more : (field : Option Field) (b : Bool) (q : Quoting) (kept pending given : List ℕ) → IsDroppedFront b kept pending → (b ≡ true → NoEnd field q (take 1 pending))
    → b ≡ true → NoEnd field q (take 1 (pending ++ given))
goes_more field false q kept pending given h n e = absurd (false≢true e)
goes_more field true q kept pending given h n e = subst (NoEnd field q) (sym (take-append-le 1 pending given (omega (arith, h.1)))) (n e)

pub reads_more : (IsReply : Replies) (mode : OnInvalid) (field : Option Field) (input more given pending : List ℕ) (progress : Progress)
    → RunState IsReply mode field input given pending progress → RunState IsReply mode field (input ++ more) given (pending ++ more) progress
reads_more IsReply mode field input more given pending progress s = record {
  lines = s.lines;
  kept = s.kept;
  out = s.out;
  cut = λ others. ap (split_input field) (append_assoc input more others) ∙ s.cut (more ++ others)
      ∙ ap (λ p. s.lines ++ onto s.kept (split_from field (quoting_of progress) p)) (sym (append_assoc pending more others));
  replies = s.replies;
  whole = s.whole;
  held = held_more progress.is_long s.kept pending more s.held;
  goes_on = goes_more field progress.is_long progress.quoting s.kept pending more s.held s.goes_on;
  number = s.number;
}

pub ended_answered : (filter : Filter) (input given pending : List ℕ) (old new : Option (List ℕ)) (progress : Progress) → NoEnd filter.field (quoting_of progress) pending
    → Appends old new given → RunState (IsReplyTo filter) filter.on_invalid filter.field input given pending progress → AnswersEnded filter input old new
ended_answered filter input given pending old new progress n f s =
    let parts = whole_parts filter input given pending progress n s in
    let lines : ended_lines filter.field input ≡ s.lines = ap without_last parts ∙ ended_begin s.lines ((s.kept ++ pending) ∷ []) (omega arith) ∙ append-nil s.lines in
    record {
      out = s.out;
      front = passed filter.on_invalid s.kept;
      tally = progress.tally;
      replies = subst (λ ls. AreReplies (IsReplyTo filter) 0 ls s.out no_lines progress.tally) (sym lines) s.replies;
      passed = subst (λ line. IsPassedOn filter.on_invalid line (passed filter.on_invalid s.kept)) (sym (ap last_part parts ∙ last_is s.lines (s.kept ++ pending)))
          (passes filter.on_invalid progress.is_long s.kept pending pending s.held);
      taken = subst (Appends old new) s.whole f;
    }

-- ---- a long line is dropped except for its last byte
pub discard_long_line : (IsReply : Replies) (mode : OnInvalid) (field : Option Field) (input given pending pending_now : List ℕ) (progress progress_now : Progress)
    → NoEnd field (quoting_of progress) pending → 4097 < length pending → pending_now ≡ drop (length pending - 1) pending
    → progress_now.quoting ≡ quoting_in field (quoting_of progress) (take (length pending - 1) pending) → progress_now.is_long ≡ true → progress_now.tally ≡ progress.tally
    → RunState IsReply mode field input given pending progress → RunState IsReply mode field input (given ++ passed mode (take (length pending - 1) pending)) pending_now progress_now
discard_long_line IsReply mode field input given pending pending_now progress progress_now n long last_byte state is_long same s =
    let k = length pending - 1 in
    let front : length (take k pending) ≡ k = length-take k pending ∙ min-eq_left (omega arith) in
    let last : length (drop k pending) ≡ 1 = omega (arith, length-drop k pending) in
    let parts = passes_front field (quoting_of progress) (take k pending) (drop k pending) (subst (NoEnd field (quoting_of progress)) (sym (take-append-drop k pending)) n) in
    let whole : (more : List ℕ) → split_from field (quoting_of progress) (pending ++ more) ≡ onto (take k pending) (split_from field (quoting_of progress_now) (drop k pending ++ more)) = λ more.
    ap (λ p. split_from field (quoting_of progress) (p ++ more)) (sym (take-append-drop k pending)) ∙ ap (split_from field (quoting_of progress)) (append_assoc (take k pending) (drop k pending) more)
    ∙ parts.0 (drop k pending ++ more) ∙ ap (λ q. onto (take k pending) (split_from field q (drop k pending ++ more))) (sym state ∙ ap (λ b. cond b progress_now.quoting Ready) (sym is_long)) in
    let held : IsDroppedFront true (s.kept ++ take k pending) (drop k pending) = (omega (arith, front, length-append s.kept (take k pending)), omega (arith, last)) in
    subst (λ (p : List ℕ). RunState IsReply mode field input (given ++ passed mode (take k pending)) p progress_now) (sym last_byte) (record {
      lines = s.lines;
      kept = s.kept ++ take k pending;
      out = s.out;
      cut = λ more. s.cut more ∙ ap (λ ps. s.lines ++ onto s.kept ps) (whole more) ∙ ap (λ ps. s.lines ++ ps) (onto_onto s.kept (take k pending) (split_from field (quoting_of progress_now) (drop k pending ++ more)));
      replies = subst (AreReplies IsReply 0 s.lines s.out no_lines) (sym same) s.replies;
      whole = passed_more s.out (passed mode s.kept) (passed mode (take k pending)) given s.whole ∙ ap (λ p. s.out ++ p) (sym (passed_append mode s.kept (take k pending)));
      held = subst (λ b. IsDroppedFront b (s.kept ++ take k pending) (drop k pending)) (sym is_long) held;
      goes_on = λ long. subst (λ q. NoEnd field q (take 1 (drop k pending))) (sym state)
          (subst (NoEnd field (quoting_in field (quoting_of progress) (take k pending))) (sym (take_all 1 (drop k pending) (omega (arith, last)))) parts.1);
      number = ap (λ (t : Tally). t.lines) same ∙ s.number;
    })
