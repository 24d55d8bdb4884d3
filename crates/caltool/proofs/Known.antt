-- The bytes of several reads, and of several writes.
use Rattle.std.proofs.Common.{arith, length-append, ◌<◌, ◌-◌, ◌≡◌, ℕ, ◌+◌, ◌≤◌, List, ◌++◌, length, take, drop, Option, sym, ap, ◌∙◌, append_assoc, take-append-drop, length-take, subst}
use borrow.Rule.Slice.PartMut.{put_mid, post_of}
use Rattle.std.specs.Io.KnownBytes.{Appends, Consumes, Keeps}
use Rattle.std.proofs.KnownBytes.{Appends-kept, Appends-trans, Consumes-trans}
use Rattle.std.proofs.Math.Nat.{min-eq_left}
use Rattle.std.proofs.Math.Seq.{take-append-add}
use Rattle.std.proofs.lemmas.List.{take-append-le, take_rest}
use Rattle.caltool.specs.Runs.{AppendsPrefix, ReadsTooMany, max_input_bytes}

-- the front of a buffer whose part from a on was read into
pub take-read : (a k n : ℕ) (xs ys : List ℕ) → a ≤ length xs → n ≤ length ys
    → take (a + n) (put_mid a k xs ys) ≡ take a xs ++ take n ys
take-read a k n xs ys h e =
    let front : length (take a xs) ≡ a = length-take a xs ∙ min-eq_left h in
    subst (λ m. take (m + n) (put_mid a k xs ys) ≡ take a xs ++ take n (ys ++ post_of a k xs)) front (take-append-add (take a xs) (ys ++ post_of a k xs) n)
    ∙ ap (λ l. take a xs ++ l) (take-append-le n ys (post_of a k xs) e)

-- The bytes read before, and n more.
pub given_more : (old mid new : Option (List ℕ)) (a k n : ℕ) (xs ys : List ℕ) → a ≤ length xs → n ≤ length ys
    → Consumes old mid (take a xs) → Consumes mid new (take n ys)
    → Consumes old new (take (a + n) (put_mid a k xs ys))
given_more old mid new a k n xs ys h e p q = rw (take-read a k n xs ys h e) (Consumes-trans old mid new _ _ p q)

-- as many bytes as are allowed, and n bytes more
pub given_too_many : (old mid new : Option (List ℕ)) (a n : ℕ) (xs ys : List ℕ) → Consumes old mid (take a xs)
    → Consumes mid new (take n ys) → max_input_bytes ≤ a → a ≤ length xs → n ≤ length ys → 0 < n
    → ReadsTooMany old new
given_too_many old mid new a n xs ys p q f h e s = record {
  bytes = take a xs ++ take n ys;
  more = simp (length-append, length-take) (omega arith);
  given = Consumes-trans old mid new _ _ p q;
}

-- The writer took all bytes except the rest.
pub record HasTaken (old new : Option (List ℕ)) (bytes rest : List ℕ) : Type 0 where
  pub taken : List ℕ
  pub whole : bytes ≡ taken ++ rest
  pub appended : Appends old new taken

-- A write of n bytes. The new rest is a slice of the old rest.
pub taken_more : (old mid new : Option (List ℕ)) (bytes rest : List ℕ) (n : ℕ) → HasTaken old mid bytes rest
    → Appends mid new (take n rest)
    → HasTaken old new bytes (take (length rest - n) (drop n rest))
taken_more old mid new bytes rest n p q = record {
  taken = p.taken ++ take n rest;
  whole = rw take_rest (p.whole ∙ ap (λ l. p.taken ++ l) (sym (take-append-drop n rest)) ∙ sym (append_assoc p.taken (take n rest) (drop n rest)));
  appended = Appends-trans old mid new _ _ p.appended q;
}

-- a write that was interrupted
pub taken_kept : (old mid new : Option (List ℕ)) (bytes rest : List ℕ) → HasTaken old mid bytes rest → Keeps mid new → HasTaken old new bytes rest
taken_kept old mid new bytes rest p kept = record { taken = p.taken; whole = p.whole; appended = Appends-kept old mid new _ p.appended kept }

-- A prefix of the rest.
pub taken_front : (old mid new : Option (List ℕ)) (bytes rest : List ℕ) → HasTaken old mid bytes rest
    → AppendsPrefix mid new rest → AppendsPrefix old new bytes
taken_front old mid new bytes rest p q = record {
  front = p.taken ++ q.front;
  rest = q.rest;
  whole = p.whole ∙ ap (λ l. p.taken ++ l) q.whole ∙ sym (append_assoc p.taken q.front q.rest);
  left = q.left;
  taken = Appends-trans old mid new _ _ p.appended q.taken;
}

-- A prefix of the bytes that isn't all, if more were to follow.
pub front_of_longer : (old new : Option (List ℕ)) (bytes more : List ℕ) → AppendsPrefix old new bytes
    → AppendsPrefix old new (bytes ++ more)
front_of_longer old new bytes more q = record {
  front = q.front;
  rest = q.rest ++ more;
  whole = ap (λ l. l ++ more) q.whole ∙ append_assoc q.front q.rest more;
  left = omega (arith, q.left, length-append q.rest more);
  taken = q.taken;
}
