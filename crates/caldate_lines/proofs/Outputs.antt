-- What an output was given after each of its calls.
use Rattle.std.proofs.Common.{◌≡◌, ℕ, ◌∙◌, List, [], ◌++◌, Option, None, Result, Ok, Err, sym, ap, subst, arith, append_assoc, length-append}
use Rattle.std.specs.Io.KnownBytes.{Appends}
use Rattle.std.specs.declared.io.Error.{Error}
use Rattle.std.proofs.KnownBytes.{Appends-nil, Appends-trans}
use Rattle.std.proofs.lemmas.List.{append-nil}
use Rattle.std.specs.Prelude.{is_ok}
use Rattle.caldate_lines.specs.Calls.{Sends, Writes, most_retries, write_failure}
use Rattle.caldate_lines.specs.Calls.Writes.{no_more}
use Rattle.caldate_lines.specs.Outputs.{IfAll, AppendsFront, HasTaken, Outputs, WritesPage}
use Rattle.caldate_lines.specs.declared.output.Output.{Output}
use Rattle.caldate_lines.specs.declared.run_error.RunError.{RunError}
use Rattle.caldate_lines.proofs.Calls.{sent_all, writes_then}

-- ---- bytes
front_longer : (old new : Option (List ℕ)) (bytes more : List ℕ) → AppendsFront old new bytes → AppendsFront old new (bytes ++ more)
front_longer old new bytes more f = record {
  front = f.front;
  rest = f.rest ++ more;
  whole = ap (λ l. l ++ more) f.whole ∙ append_assoc f.front f.rest more;
  left = omega (arith, f.left, length-append f.rest more);
  taken = f.taken;
}

front_more : (start now new : Option (List ℕ)) (written buffered given : List ℕ) → given ≡ written ++ buffered → Appends start now written
    → AppendsFront now new buffered → AppendsFront start new given
front_more start now new written buffered given e a f = record {
  front = written ++ f.front;
  rest = f.rest;
  whole = e ∙ ap (λ l. written ++ l) f.whole ∙ sym (append_assoc written f.front f.rest);
  left = f.left;
  taken = Appends-trans start now new _ _ a f.taken;
}

-- a page of which these bytes are the beginning
pub page_longer : (bytes more page : List ℕ) (r : Result Unit RunError) (old new : Option (List ℕ)) → page ≡ bytes ++ more → IfAll (is_ok r) (more ≡ []) → WritesPage bytes r old new
    → WritesPage page r old new
page_longer bytes more page (Ok done) old new e whole took = subst (Appends old new) (sym (e ∙ ap (λ l. bytes ++ l) whole ∙ append-nil bytes)) took
page_longer bytes more page (Err error) old new e whole (is, front) = (is, subst (AppendsFront old new) (sym e) (front_longer old new bytes more front))

taken_more : (outcome : Result Unit RunError) (given words buffered buffered_now : List ℕ) (old new : Option (List ℕ)) → buffered_now ≡ buffered ++ words
    → HasTaken outcome given buffered old new → HasTaken outcome (given ++ words) buffered_now old new
taken_more (Ok done) given words buffered buffered_now old new e (written, whole, took) =
    (written, ap (λ l. l ++ words) whole ∙ append_assoc written buffered words ∙ ap (λ l. written ++ l) (sym e), took)
taken_more (Err error) given words buffered buffered_now old new e (is, front) = (is, front_longer old new given words front)

-- the buffer is empty
pub taken_all : (outcome : Result Unit RunError) (given buffered : List ℕ) (old new : Option (List ℕ)) → buffered ≡ [] → HasTaken outcome given buffered old new
    → WritesPage given outcome old new
taken_all (Ok done) given buffered old new none (written, whole, took) = subst (Appends old new) (sym (whole ∙ ap (λ l. written ++ l) none ∙ append-nil written)) took
taken_all (Err error) given buffered old new none taken = taken

-- the buffer is written
taken_page : (r : Result Unit RunError) (given buffered : List ℕ) (start now new : Option (List ℕ)) → HasTaken (Ok tt) given buffered start now → WritesPage buffered r now new
    → HasTaken r given [] start new
taken_page (Ok done) given buffered start now new (written, whole, took) page = (given, sym (append-nil given), subst (Appends start new) (sym whole) (Appends-trans start now new _ _ took page))
taken_page (Err error) given buffered start now new (written, whole, took) (is, front) = (is, front_more start now new written buffered given whole took front)

-- ---- calls
module _ {S : Type 0} (contents : S → Option (List ℕ)) (write : S → List ℕ → Result ℕ Error → S → Type 0) where
  pub new_output : (start : S) (output : Output) → output.buffer ≡ [] → output.outcome ≡ Ok tt → Outputs contents write [] start output start
  new_output start output none done = record {
    taken = subst (λ outcome. HasTaken outcome [] output.buffer (contents start) (contents start)) (sym done) ([], sym none, Appends-nil (contents start));
    writes = subst (λ outcome. Writes write start (write_failure outcome) start) (sym done) (no_more start);
  }

  -- the words are appended to the buffer
  pub appended : (given words : List ℕ) (start now : S) (output : Output) (buffer : List ℕ) → buffer ≡ output.buffer ++ words → Outputs contents write given start output now
      → Outputs contents write (given ++ words) start (record { buffer = buffer; outcome = output.outcome }) now
  appended given words start now output buffer e o = record {
    taken = taken_more output.outcome given words output.buffer buffer (contents start) (contents now) e o.taken;
    writes = o.writes;
  }

  pub same_buffer : (given : List ℕ) (start now : S) (output : Output) (buffer : List ℕ) → buffer ≡ output.buffer → Outputs contents write given start output now
      → Outputs contents write given start (record { buffer = buffer; outcome = output.outcome }) now
  same_buffer given start now output buffer same o = record {
    taken = subst (λ (b : List ℕ). HasTaken output.outcome given b (contents start) (contents now)) (sym same) o.taken;
    writes = o.writes;
  }

  -- the buffer is written and cleared
  pub written : (given bytes buffer : List ℕ) (start now new : S) (output : Output) (r : Result Unit RunError) → output.outcome ≡ Ok tt → bytes ≡ output.buffer → buffer ≡ []
      → WritesPage bytes r (contents now) (contents new) → Sends write most_retries now bytes (write_failure r) new → Outputs contents write given start output now
      → Outputs contents write given start (record { buffer = buffer; outcome = r }) new
  written given bytes buffer start now new output r done same none page sends o = record {
    taken = subst (λ b. HasTaken r given b (contents start) (contents new)) (sym none)
        (taken_page r given output.buffer (contents start) (contents now) (contents new) (subst (λ outcome. HasTaken outcome given output.buffer (contents start) (contents now)) done o.taken)
        (subst (λ b. WritesPage b r (contents now) (contents new)) same page));
    writes = writes_then write start now new (write_failure r) (subst (λ outcome. Writes write start (write_failure outcome) now) done o.writes)
        (sent_all write now new bytes (write_failure r) sends);
  }

  -- a write failed before
  pub cleared : (given buffer : List ℕ) (start now : S) (output : Output) (error : RunError) → output.outcome ≡ Err error → Outputs contents write given start output now
      → Outputs contents write given start (record { buffer = buffer; outcome = output.outcome }) now
  cleared given buffer start now output error failed o = record {
    taken = subst (λ outcome. HasTaken outcome given buffer (contents start) (contents now)) (sym failed)
        (subst (λ outcome. HasTaken outcome given output.buffer (contents start) (contents now)) failed o.taken);
    writes = o.writes;
  }

  -- no write failed
  pub all_taken : (given : List ℕ) (start now : S) (output : Output) → output.buffer ≡ [] → output.outcome ≡ Ok tt → Outputs contents write given start output now
      → Appends (contents start) (contents now) given
  all_taken given start now output none done o =
      subst (λ outcome. WritesPage given outcome (contents start) (contents now)) done (taken_all output.outcome given output.buffer (contents start) (contents now) none o.taken)

  pub none_failed : (given : List ℕ) (start now : S) (output : Output) → output.outcome ≡ Ok tt → Outputs contents write given start output now → Writes write start None now
  none_failed given start now output done o = subst (λ outcome. Writes write start (write_failure outcome) now) done o.writes
