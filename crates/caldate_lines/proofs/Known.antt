-- The bytes of several reads, and of several writes.
use Rattle.std.proofs.Common.{◌-◌, ◌≡◌, ℕ, ◌+◌, ◌<◌, ◌≤◌, List, ◌++◌, length, take, drop, Option, sym, ap, ◌∙◌, append_assoc, take-append-drop, length-take, subst}
use borrow.Rule.Slice.PartMut.{put_mid, post_of}
use Rattle.std.specs.Io.KnownBytes.{Appends, Consumes, Keeps}
use Rattle.std.proofs.KnownBytes.{Appends-kept, Appends-trans}
use Rattle.std.proofs.Math.Nat.{min-eq_left}
use Rattle.std.proofs.Math.Seq.{take-append-add}
use Rattle.std.proofs.lemmas.List.{append-nil, take-append-le, take_rest}
use Rattle.caldate_lines.specs.Outputs.{AppendsFront, HasRead}
use Rattle.caldate_lines.proofs.Ends.{empty}

-- a read into the free end of a buffer
pub given_more : (old new : Option (List ℕ)) (a k n : ℕ) (xs ys : List ℕ) → a ≤ length xs → n ≤ length ys
    → Consumes old new (take n ys) → HasRead old new (take a xs) (take (a + n) (put_mid a k xs ys))
given_more old new a k n xs ys h e p =
    let front : length (take a xs) ≡ a = length-take a xs ∙ min-eq_left h in (
      take n ys,
      p,
      subst (λ m. take (m + n) (put_mid a k xs ys) ≡ take a xs ++ take n (ys ++ post_of a k xs)) front (take-append-add (take a xs) (ys ++ post_of a k xs) n)
          ∙ ap (λ l. take a xs ++ l) (take-append-le n ys (post_of a k xs) e),
    )

-- the writer took all of the bytes except the rest
pub record HasSent (old new : Option (List ℕ)) (bytes rest : List ℕ) : Type 0 where
  pub taken : List ℕ
  pub whole : bytes ≡ taken ++ rest
  pub appended : Appends old new taken

-- a write that takes n bytes leaves a slice of the rest
pub sent_more : (old mid new : Option (List ℕ)) (bytes rest : List ℕ) (n : ℕ) → HasSent old mid bytes rest
    → Appends mid new (take n rest)
    → HasSent old new bytes (take (length rest - n) (drop n rest))
sent_more old mid new bytes rest n p q = record {
  taken = p.taken ++ take n rest;
  whole = rw take_rest (p.whole ∙ ap (λ l. p.taken ++ l) (sym (take-append-drop n rest)) ∙ sym (append_assoc p.taken (take n rest) (drop n rest)));
  appended = Appends-trans old mid new _ _ p.appended q;
}

-- a write that was interrupted
pub sent_kept : (old mid new : Option (List ℕ)) (bytes rest : List ℕ) → HasSent old mid bytes rest → Keeps mid new → HasSent old new bytes rest
sent_kept old mid new bytes rest p kept = record { taken = p.taken; whole = p.whole; appended = Appends-kept old mid new _ p.appended kept }

-- a write that failed or took nothing, and the end of the writes
pub sent_front : (old mid new : Option (List ℕ)) (bytes rest : List ℕ) → 0 < length rest → HasSent old mid bytes rest → Keeps mid new → AppendsFront old new bytes
sent_front old mid new bytes rest some p kept = record {
  front = p.taken;
  rest = rest;
  whole = p.whole;
  left = some;
  taken = Appends-kept old mid new _ p.appended kept;
}

pub sent_whole : (old new : Option (List ℕ)) (bytes rest : List ℕ) → length rest ≡ 0 → HasSent old new bytes rest → Appends old new bytes
sent_whole old new bytes rest none p =
    subst (Appends old new) (sym (p.whole ∙ ap (λ l. p.taken ++ l) (empty rest none) ∙ append-nil p.taken)) p.appended
