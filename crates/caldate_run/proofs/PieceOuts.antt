-- What goes out for the pieces of a line.
use Rattle.std.proofs.Common.{◌≡◌, ◌∙◌, ℕ, ◌+◌, ◌-◌, ◌<◌, ◌≤◌, Bool, true, false, cond, List, [], ◌∷◌, ◌++◌, length, take, drop, get_or, Option, Some, None, Ok, refl, sym, ap, arith, subst, append_assoc, length-append}
use Rattle.std.specs.Prelude.{◌&&◌, is_some, nat_le, option_map, unwrap_or}
use Rattle.std.specs.Result.{result_err}
use Rattle.std.proofs.Math.Seq.{drop-append_seam, take-append_seam}
use Rattle.std.proofs.lemmas.Bool.{false≢true}
use Rattle.std.proofs.lemmas.Bool.Decides.{nat_tests}
use Rattle.std.proofs.lemmas.List.{append-nil, take_all, take_rest}
use Rattle.cal_schedule.specs.Workdays.{WorkWeek}
use Rattle.cal_text.specs.declared.any.DateOrMoment.{DateOrMoment}
use Rattle.caldate_lines.specs.Fields.{Cut, cut_of, end_of_field, in_quotes, as_field, field_text, is_quote, unquoted, with_numbers}
use Rattle.caldate_lines.proofs.NewFields.{plain_words}
use Rattle.caldate_lines.specs.declared.field.Field.{Field}
use Rattle.caldate_lines.specs.declared.no_answer.NoAnswer.{NoAnswer}
use Rattle.caldate_lines.specs.declared.several_fields.RankedField.{RankedField}
use Rattle.caldate_answers.specs.Answers.{Answer, IsAnswer, IsAnswerTo, keeps}
use Rattle.caldate_answers.specs.Appends.{AppendsAnswer}
use Rattle.caldate_answers.specs.Targets.{other_field}
use Rattle.caldate_answers.specs.declared.request.Filter.{Filter}
use Rattle.caldate_answers.specs.declared.request.Clock.{Clock}
use Rattle.caldate_answers.specs.declared.request.Request.{Request}
use Rattle.caldate_answers.specs.declared.request.Request.TheVariants.{To, ToIso, Print, Move, MoveAt, Until, Since, At, PrintAt, PrintInLanguage, PrintInLanguageAt, Keep}
use Rattle.caldate_run.specs.Pieces.{IsAnswered, IsOutOf, IsPieceOut, Piece, Pieces, closed_words, earlier, field_end, field_piece, fields_from, fields_in, is_quoted_in, joined, later_cut, new_field, own_field, pieces_in, pieces_of, placed, replaced, single, whole}
use Rattle.caldate_run.specs.Runs.{AppendsOut}
use Rattle.caldate_run.proofs.Others.{by_itself}
use Rattle.caldate_run.proofs.Replied.{weaker}

-- ---- one piece
joined_nil : (out : Option (List ℕ)) → out ≡ joined out (Some [])
joined_nil None = refl
joined_nil (Some words) = ap Some (sym (append-nil words))

reason_is : (rank : ℕ) (any : Option NoAnswer) → any ≡ option_map (λ one. one.1) (earlier rank any None)
reason_is rank None = refl
reason_is rank (Some any) = refl

pub single_out : (filter : Filter) (text : List ℕ) (piece : Piece) (any : Option NoAnswer) (out : Option (List ℕ)) → IsPieceOut filter text piece any out → IsAnswered filter text (single piece) any out
single_out filter text piece any out h =
    (earlier piece.rank any None, (any, out, None, Some [], h, (refl, refl), refl, joined_nil out), reason_is piece.rank any)

-- the words that replace a text
placed_is : (field : Option Field) (quoted : Bool) (source words : List ℕ) → quoted ≡ is_quoted_in field source
    → cond quoted (34 ∷ []) [] ++ closed_words field quoted words ≡ placed field source words
placed_is None quoted source words e = ap (λ b. cond b (34 ∷ []) [] ++ words) e
placed_is (Some field) quoted source words e = either quoted ∙ ap (λ b. cond b (in_quotes words) (as_field field words)) e
  where
    either : (b : Bool) → cond b (34 ∷ []) [] ++ end_of_field field b words ≡ cond b (in_quotes words) (as_field field words)
    either true = refl
    either false = refl

pub words_placed : (field : Option Field) (quoted : Bool) (source words old begun given ended : List ℕ) (start : ℕ) → quoted ≡ is_quoted_in field source
    → begun ≡ old ++ cond quoted (34 ∷ []) [] → start ≡ length begun → given ≡ begun ++ words → ended ≡ take start given ++ closed_words field quoted (drop start given)
    → ended ≡ old ++ placed field source words
words_placed field quoted source words old begun given ended start is e at g h =
    let before : take start given ≡ begun = ap (λ n. take n given) at ∙ ap (take (length begun)) g ∙ take-append_seam begun words in
    let after : drop start given ≡ words = ap (λ n. drop n given) at ∙ ap (drop (length begun)) g ∙ drop-append_seam begun words in
    h ∙ ap (λ l. l ++ closed_words field quoted (drop start given)) before ∙ ap (λ l. begun ++ closed_words field quoted l) after
    ∙ ap (λ l. l ++ closed_words field quoted words) e ∙ append_assoc old (cond quoted (34 ∷ []) []) (closed_words field quoted words)
    ∙ ap (λ l. old ++ l) (placed_is field quoted source words is)

pub taken_off : (old begun given rest new : List ℕ) (quote : List ℕ) (start : ℕ) → start ≡ length old → begun ≡ old ++ quote → given ≡ begun ++ rest → new ≡ take start given → new ≡ old
taken_off old begun given rest new quote start at e f g =
    g ∙ ap (λ n. take n given) at ∙ ap (take (length old)) (f ∙ ap (λ l. l ++ rest) e ∙ append_assoc old quote rest) ∙ take-append_seam old (quote ++ rest)

-- the bytes that stay come before them
pub piece_out : (kept old begun mid new : List ℕ) (out : Option (List ℕ)) (goes : Bool) (start : ℕ) → start ≡ length old → begun ≡ old ++ kept → mid ≡ begun ++ unwrap_or out []
    → goes ≡ is_some out → new ≡ cond goes mid (take start mid)
    → (new ≡ old ++ unwrap_or (option_map (λ words. kept ++ words) out) []) × (goes ≡ is_some (option_map (λ words. kept ++ words) out))
piece_out kept old begun mid new (Some words) goes start at e f is g =
    (g ∙ ap (λ b. cond b mid (take start mid)) is ∙ f ∙ ap (λ l. l ++ words) e ∙ append_assoc old kept words, is)
piece_out kept old begun mid new None goes start at e f is g =
    (taken_off old begun mid [] new kept start at e f (g ∙ ap (λ b. cond b mid (take start mid)) is) ∙ sym (append-nil old), is)

-- ---- fields
both_out : (old mid after new : List ℕ) (words more : Option (List ℕ)) (goes goes_on both : Bool) (start : ℕ) → start ≡ length old → mid ≡ old ++ unwrap_or words [] → goes ≡ is_some words
    → after ≡ mid ++ unwrap_or more [] → goes_on ≡ is_some more → both ≡ (goes && goes_on) → new ≡ cond both after (take start after)
    → (new ≡ old ++ unwrap_or (joined words more) []) × (both ≡ is_some (joined words more))
both_out old mid after new words more goes goes_on both start at e is f on b g =
    by_parts words more e f (b ∙ ap (λ b. b && goes_on) is ∙ ap (λ b. is_some words && b) on)
  where
    back : (words : Option (List ℕ)) (more : Option (List ℕ)) → mid ≡ old ++ unwrap_or words [] → after ≡ mid ++ unwrap_or more [] → both ≡ false → new ≡ old ++ []
    back words more e f none =
        taken_off old mid after (unwrap_or more []) new (unwrap_or words []) start at e f (g ∙ ap (λ b. cond b after (take start after)) none) ∙ sym (append-nil old)

    by_parts : (words more : Option (List ℕ)) → mid ≡ old ++ unwrap_or words [] → after ≡ mid ++ unwrap_or more [] → both ≡ (is_some words && is_some more)
        → (new ≡ old ++ unwrap_or (joined words more) []) × (both ≡ is_some (joined words more))
    by_parts (Some words) (Some more) e f some =
        (g ∙ ap (λ b. cond b after (take start after)) some ∙ f ∙ ap (λ l. l ++ more) e ∙ append_assoc old words more, some)
    by_parts (Some words) None e f none = (back (Some words) None e f none, none)
    by_parts None more e f none = (back None more e f none, none)

more_parts : (fields : List RankedField) (d : RankedField) → 1 ≤ length fields → fields ≡ get_or fields 0 d ∷ take (length fields - 1) (drop 1 fields)
more_parts [] d some = absurd (omega (arith, some))
more_parts (f ∷ fs) d some = ap (λ l. f ∷ l) (sym (take_all (length (f ∷ fs) - 1) fs (omega arith)))

pub no_fields_out : (filter : Filter) (field : Field) (fields : List RankedField) (text : List ℕ) (at : ℕ) (old new : List ℕ) → length fields < 1
    → new ≡ old ++ take (length text - at) (drop at text)
    → AppendsOut (IsOutOf filter text (fields_from field text at fields).texts (fields_from field text at fields).rest None) true old new
no_fields_out filter field [] text at old new none put = (Some (drop at text), put ∙ ap (λ l. old ++ l) (take_rest text at), refl, (refl, refl))
no_fields_out filter field (next ∷ fields) text at old new none put = absurd (omega (arith, none))

pub fields_out : (filter : Filter) (field own : Field) (fields : List RankedField) (d : RankedField) (text : List ℕ) (at end : ℕ) (piece : Piece) (any : Option NoAnswer) (later : Option (ℕ × NoAnswer))
    (goes goes_on both : Bool) (old mid after new : List ℕ) (start : ℕ) → 1 ≤ length fields → own ≡ with_numbers field (get_or fields 0 d).numbers
    → piece ≡ field_piece own text (get_or fields 0 d).rank at (later_cut at (cut_of own text)) → end ≡ field_end at (later_cut at (cut_of own text)) → start ≡ length old
    → AppendsOut (IsPieceOut filter text piece any) goes old mid
    → AppendsOut (IsOutOf filter text (fields_from field text end (take (length fields - 1) (drop 1 fields))).texts (fields_from field text end (take (length fields - 1) (drop 1 fields))).rest later) goes_on mid after
    → both ≡ (goes && goes_on) → new ≡ cond both after (take start after)
    → AppendsOut (IsOutOf filter text (fields_from field text at fields).texts (fields_from field text at fields).rest (earlier (get_or fields 0 d).rank any later)) both old new
fields_out filter field own fields d text at end piece any later goes goes_on both old mid after new start some is_own is_piece is_end is_start h k is_both put =
    let next = get_or fields 0 d in
    let others = take (length fields - 1) (drop 1 fields) in
    let parts = both_out old mid after new h.0 k.0 goes goes_on both start is_start h.1 h.2 k.1 k.2 is_both put in
    let first = with_numbers field next.numbers in
    let end_of : Field → ℕ = λ f. field_end at (later_cut at (cut_of f text)) in
    let piece_of : Field → Piece = λ f. field_piece f text next.rank at (later_cut at (cut_of f text)) in
    let piece_out = subst (λ (p : Piece). IsPieceOut filter text p any h.0) (is_piece ∙ ap piece_of is_own) h.3 in
    let more_out = subst (λ e. IsOutOf filter text (fields_from field text e others).texts (fields_from field text e others).rest later k.0) (is_end ∙ ap end_of is_own) k.3 in (
      joined h.0 k.0,
      parts.0,
      parts.1,
      subst (λ fs. IsOutOf filter text (fields_from field text at fs).texts (fields_from field text at fs).rest (earlier next.rank any later) (joined h.0 k.0)) (sym (more_parts fields d some))
          (any, h.0, later, k.0, piece_out, more_out, rank_is first text next.rank at (later_cut at (cut_of first text)) any later, refl),
    )
  where
    rank_is : (field : Field) (text : List ℕ) (rank at : ℕ) (cut : Option Cut) (any : Option NoAnswer) (later : Option (ℕ × NoAnswer)) → earlier rank any later ≡ earlier (field_piece field text rank at cut).rank any later
    rank_is field text rank at None any later = refl
    rank_is field text rank at (Some cut) any later = refl

-- ---- the pieces of a line
pub whole_pieces : (filter : Filter) (text : List ℕ) → filter.field ≡ None → pieces_of filter text ≡ single (whole text)
whole_pieces filter text e = ap (λ f. pieces_in f filter.several text) e

pub new_pieces : (filter : Filter) (field : Field) (text : List ℕ) → filter.field ≡ Some field → field.appends ≡ true → pieces_of filter text ≡ single (new_field field text)
new_pieces filter field text e h =
    ap (λ f. pieces_in f filter.several text) e ∙ ap (λ b. cond b (single (new_field field text)) (fields_from field text 0 (fields_in field filter.several))) h

pub field_pieces : (filter : Filter) (field : Field) (fields : List RankedField) (text : List ℕ) → filter.field ≡ Some field → field.appends ≡ false → fields ≡ fields_in field filter.several
    → pieces_of filter text ≡ fields_from field text 0 fields
field_pieces filter field fields text e h is =
    ap (λ f. pieces_in f filter.several text) e ∙ ap (λ b. cond b (single (new_field field text)) (fields_from field text 0 (fields_in field filter.several))) h
    ∙ ap (fields_from field text 0) (sym is)

pub several_in : (field : Field) (fields : List RankedField) → 0 < length fields → fields ≡ fields_in field fields
several_in field [] some = absurd (omega (arith, some))
several_in field (next ∷ fields) some = refl

pub single_answered : (filter : Filter) (text : List ℕ) (piece own : Piece) (any : Option NoAnswer) (goes : Bool) (old new : List ℕ) → pieces_of filter text ≡ single piece → own ≡ piece
    → AppendsOut (IsPieceOut filter text own any) goes old new → AppendsOut (IsAnswered filter text (pieces_of filter text) any) goes old new
single_answered filter text piece own any goes old new e f h =
    weaker _ _ goes old new (λ out o. subst (λ (ps : Pieces). IsAnswered filter text ps any out) (sym e) (single_out filter text piece any out (subst (λ (p : Piece). IsPieceOut filter text p any out) f o))) h

pub fields_answered : (filter : Filter) (text : List ℕ) (field : Field) (fields : List RankedField) (any : Option NoAnswer) (goes : Bool) (old new : List ℕ)
    → filter.field ≡ Some field → field.appends ≡ false → fields ≡ fields_in field filter.several
    → AppendsOut (IsAnswered filter text (fields_from field text 0 fields) any) goes old new → AppendsOut (IsAnswered filter text (pieces_of filter text) any) goes old new
fields_answered filter text field fields any goes old new e h is put =
    subst (λ (ps : Pieces). AppendsOut (IsAnswered filter text ps any) goes old new) (sym (field_pieces filter field fields text e h is)) put

-- ---- a text that is answered by itself
cond_of : (b : Bool) (part words all : List ℕ) → (b ≡ true → all ≡ part) → words ≡ all → cond b part words ≡ all
cond_of true part words all h e = sym (h refl)
cond_of false part words all h e = e

-- `keep` answers with the text itself
kept_words : (clock : Option Clock) (workdays : WorkWeek) (q : Request) (text : List ℕ) (found : DateOrMoment) (words : List ℕ) → IsAnswerTo clock workdays q text found words → keeps q ≡ true → words ≡ text
kept_words clock workdays (Keep bounds) text found words h e = h.1
kept_words clock workdays (To form) text found words h e = absurd (false≢true e)
kept_words clock workdays ToIso text found words h e = absurd (false≢true e)
kept_words clock workdays (Print items) text found words h e = absurd (false≢true e)
kept_words clock workdays (PrintInLanguage items names) text found words h e = absurd (false≢true e)
kept_words clock workdays (Move by) text found words h e = absurd (false≢true e)
kept_words clock workdays (MoveAt other by) text found words h e = absurd (false≢true e)
kept_words clock workdays (Until own target unit) text found words h e = absurd (false≢true e)
kept_words clock workdays (Since own target unit) text found words h e = absurd (false≢true e)
kept_words clock workdays (At place form) text found words h e = absurd (false≢true e)
kept_words clock workdays (PrintAt place items) text found words h e = absurd (false≢true e)
kept_words clock workdays (PrintInLanguageAt place items names) text found words h e = absurd (false≢true e)

own_words : (filter : Filter) (text words : List ℕ) → IsAnswer filter text (Ok (Some words)) → placed filter.field text words ≡ words
    → replaced filter text true (Ok (Some words)) ≡ Some words
own_words filter text words h e =
    ap Some (cond_of (keeps filter.request) text (placed filter.field text words) words (λ k. kept_words filter.clock filter.workdays filter.request text h.0 words h.2 k) e)

-- a whole line
whole_out : (filter : Filter) (text : List ℕ) (goes : Bool) (old new : List ℕ) → filter.field ≡ None → other_field filter ≡ None → AppendsAnswer (IsAnswer filter text) (Ok goes) old new
    → AppendsOut (IsPieceOut filter text (whole text) None) goes old new
whole_out filter text true old new none other (words, e, h) = (
  Some words,
  e,
  refl,
  (Ok (Some words), by_itself filter text text (Ok (Some words)) other h, refl, sym (ap (option_map (λ w. [] ++ w)) (own_words filter text words h (ap (λ f. placed f text words) none)))),
)
whole_out filter text false old new none other (e, h) = (None, e ∙ sym (append-nil old), refl, (Ok None, by_itself filter text text (Ok None) other h, refl, refl))

pub whole_answered : (filter : Filter) (text : List ℕ) (goes : Bool) (old new : List ℕ) → filter.field ≡ None → other_field filter ≡ None → AppendsAnswer (IsAnswer filter text) (Ok goes) old new
    → AppendsOut (IsAnswered filter text (pieces_of filter text) None) goes old new
whole_answered filter text goes old new none other h =
    single_answered filter text (whole text) (whole text) None goes old new (whole_pieces filter text none) refl (whole_out filter text goes old new none other h)

-- a field that isn't one of a CSV record
plain_field : (csv : Bool) (part : List ℕ) → csv ≡ false → field_text csv part ≡ part
plain_field csv [] e = refl
plain_field csv (x ∷ xs) e = ap (λ b. cond (b && is_quote x) (unwrap_or (unquoted xs) (x ∷ xs)) (x ∷ xs)) e

from_start : (n : ℕ) → nat_le 0 n ≡ true
from_start n = grind (arith, nat_tests)

abbrev pub Parts : List ℕ → List ℕ → List ℕ → Cut
Parts front part rest = record { front = front; part = part; rest = rest }

field_piece_is : (field : Field) (text front part rest : List ℕ) → field.csv ≡ false → cut_of field text ≡ Some (Parts front part rest)
    → (later_cut 0 (cut_of field text) ≡ Some (Parts front part rest)) × (field_piece field text 0 0 (later_cut 0 (cut_of field text)) ≡ record { kept = front; source = part; asked = Ok part; rank = 0 })
field_piece_is field text front part rest csv cut =
    let later = ap (later_cut 0) cut ∙ ap (λ b. cond b (Some (Parts front part rest)) None) (from_start (length front)) in
    (later, ap (field_piece field text 0 0) later ∙ ap (λ t. record { kept = front; source = part; asked = Ok t; rank = 0 }) (plain_field field.csv part csv))

pub field_answered : (filter : Filter) (field : Field) (text front part rest old new : List ℕ) (answer : Answer) (out : Option (List ℕ)) (goes : Bool) → filter.field ≡ Some field → filter.several ≡ []
    → field.csv ≡ false → field.appends ≡ false → other_field filter ≡ None → cut_of field text ≡ Some (Parts front part rest) → text ≡ front ++ part ++ rest → IsAnswer filter part answer
    → result_err answer ≡ None → joined (option_map (λ words. front ++ words) (replaced filter part true answer)) (Some rest) ≡ out → new ≡ old ++ unwrap_or out [] → goes ≡ is_some out
    → AppendsOut (IsAnswered filter text (pieces_of filter text) None) goes old new
field_answered filter field text front part rest old new answer out goes own single csv in_place other cut whole is none outs put some =
    let one = own_field field ∷ [] in
    let at = field_piece_is field text front part rest csv cut in
    let last : drop (field_end 0 (later_cut 0 (cut_of field text))) text ≡ rest =
    ap (λ c. drop (field_end 0 c) text) at.0 ∙ ap (drop (length front + length part)) whole ∙ ap (λ n. drop n (front ++ part ++ rest)) (sym (length-append front part)) ∙ drop-append_seam (front ++ part) rest in
    let piece : IsPieceOut filter text (record { kept = front; source = part; asked = Ok part; rank = 0 }) None (option_map (λ words. front ++ words) (replaced filter part true answer)) =
    (answer, by_itself filter text part answer other is, sym none, refl) in
    fields_answered filter text field one None goes old new own in_place (ap (fields_in field) (sym single)) (
      out,
      put,
      some,
      (
        None,
        (
          None,
          option_map (λ words. front ++ words) (replaced filter part true answer),
          None,
          Some rest,
          subst (λ (p : Piece). IsPieceOut filter text p None (option_map (λ words. front ++ words) (replaced filter part true answer))) (sym at.1) piece,
          (refl, ap Some (sym last)),
          refl,
          sym outs,
        ),
        refl,
      ),
    )

pub field_words : (filter : Filter) (field : Field) (front part rest words : List ℕ) → filter.field ≡ Some field → field.csv ≡ false → IsAnswer filter part (Ok (Some words))
    → joined (option_map (λ words. front ++ words) (replaced filter part true (Ok (Some words)))) (Some rest) ≡ Some (front ++ words ++ rest)
field_words filter field front part rest words own csv h =
    ap (λ o. joined (option_map (λ words. front ++ words) o) (Some rest)) (own_words filter part words h (ap (λ f. placed f part words) own ∙ plain_words field part words csv))
