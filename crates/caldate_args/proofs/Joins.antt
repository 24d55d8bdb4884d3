-- Reads of several texts as one input.
use Rattle.std.proofs.Common.{◌≡◌, ℕ, zero, suc, ◌-◌, ◌<◌, ◌≤◌, Bool, true, false, not, List, [], ◌∷◌, ◌++◌, length, take, slice_index_or, slice_set, Option, Some, None, refl, sym, ap, ◌∙◌, subst, arith, append_assoc}
use Rattle.std.specs.Io.KnownBytes.{Consumes, IsAtEnd, Keeps}
use Rattle.caldate_lines.specs.Lines.{is_end}
use Rattle.caldate_args.specs.Files.{IsLast, IsNext, finished, is_unfinished, joined, joined_rest}

-- ---- the bytes of one read
after_last : (before : Bool) (bytes : List ℕ) (k : ℕ) → k < length bytes → is_unfinished before (take (suc k) bytes) ≡ not (is_end (slice_index_or bytes k 0))
after_last before [] k h = absurd (omega (arith, h))
after_last before (byte ∷ bytes) zero h = refl
after_last before (byte ∷ bytes) (suc k) h = after_last (not (is_end byte)) bytes k (omega (arith, h))

pub unfinished_after : (before : Bool) (bytes : List ℕ) (n : ℕ) → 0 < n → n ≤ length bytes → is_unfinished before (take n bytes) ≡ not (is_end (slice_index_or bytes (n - 1) 0))
unfinished_after before bytes n h k =
    let e : n ≡ suc (n - 1) = omega arith in
    ap (λ m. is_unfinished before (take m bytes)) e ∙ after_last before bytes (n - 1) (omega arith)

finished-append : (before : Bool) (bytes rest : List ℕ) → finished before (bytes ++ rest) ≡ bytes ++ finished (is_unfinished before bytes) rest
finished-append before [] rest = refl
finished-append before (byte ∷ bytes) rest = ap (λ l. byte ∷ l) (finished-append (not (is_end byte)) bytes rest)

-- ---- known bytes
pub kept_then : (a b c : Option (List ℕ)) (bytes : List ℕ) → Keeps a b → Consumes b c bytes → Consumes a c bytes
kept_then None b c bytes k p = tt
kept_then (Some x) None c bytes k p = absurd k
kept_then (Some x) (Some y) None bytes k p = absurd p
kept_then (Some x) (Some y) (Some z) bytes k p = sym k ∙ p

-- a read gave these bytes of the current text
gives_of : (before : Bool) (old new : Option (List ℕ)) (later : Option (List (List ℕ))) (bytes : List ℕ) → Consumes old new bytes
    → Consumes (joined_rest before old later) (joined_rest (is_unfinished before bytes) new later) bytes
gives_of before None new later bytes p = tt
gives_of before (Some x) None later bytes p = absurd p
gives_of before (Some x) (Some y) None bytes p = tt
gives_of before (Some x) (Some y) (Some texts) bytes p =
    ap (λ l. finished before l ++ joined texts) p ∙ ap (λ l. l ++ joined texts) (finished-append before bytes y)
    ∙ append_assoc bytes (finished (is_unfinished before bytes) y) (joined texts)

pub gives : (before : Bool) (old new : Option (List ℕ)) (later more : Option (List (List ℕ))) (bytes : List ℕ) (n : ℕ) → more ≡ later → 0 < n → n ≤ length bytes
    → Consumes old new (take n bytes)
    → Consumes (joined_rest before old later) (joined_rest (not (is_end (slice_index_or bytes (n - 1) 0))) new more) (take n bytes)
gives before old new later more bytes n same h k p =
    subst (λ b. Consumes (joined_rest before old later) (joined_rest b new more) (take n bytes)) (unfinished_after before bytes n h k)
    (subst (λ l. Consumes (joined_rest before old later) (joined_rest (is_unfinished before (take n bytes)) new l) (take n bytes)) (sym same)
    (gives_of before old new later (take n bytes) p))

-- a read gave nothing
pub keeps : (before : Bool) (old new : Option (List ℕ)) (later more : Option (List (List ℕ))) → more ≡ later → Keeps old new
    → Keeps (joined_rest before old later) (joined_rest before new more)
keeps before None new later more same p = tt
keeps before (Some x) None later more same p = absurd p
keeps before (Some x) (Some y) None more same p = tt
keeps before (Some x) (Some y) (Some texts) more same p =
    subst (λ l. Keeps (Some (finished before x ++ joined texts)) (joined_rest before (Some y) l)) (sym same) (ap (λ l. finished before l ++ joined texts) p)

pub none_given : (old new : Option (List ℕ)) (bytes : List ℕ) (n : ℕ) → n ≤ 0 → Consumes old new (take n bytes) → Keeps old new
none_given None new bytes n h p = tt
none_given (Some x) None bytes n h p = absurd p
none_given (Some x) (Some y) bytes n h p = let e : n ≡ 0 = omega (arith, h) in sym (p ∙ ap (λ m. take m bytes ++ y) e)

-- the line feed after a text
end_of : (text : Option (List ℕ)) (later : Option (List (List ℕ))) (bytes : List ℕ) → 0 < length bytes → IsAtEnd text
    → Consumes (joined_rest true text later) (joined_rest false text later) (take 1 (slice_set bytes 0 10))
end_of text later [] h e = absurd (omega (arith, h))
end_of None later (byte ∷ bytes) h e = tt
end_of (Some text) None (byte ∷ bytes) h e = tt
end_of (Some text) (Some texts) (byte ∷ bytes) h e = subst (λ l. finished true l ++ joined texts ≡ 10 ∷ (finished false l ++ joined texts)) (sym e) refl

pub gives_end : (before : Bool) (text : Option (List ℕ)) (later : Option (List (List ℕ))) (bytes : List ℕ) → before ≡ true → 0 < length bytes → IsAtEnd text
    → Consumes (joined_rest before text later) (joined_rest false text later) (take 1 (slice_set bytes 0 10))
gives_end before text later bytes b h e =
    subst (λ b. Consumes (joined_rest b text later) (joined_rest false text later) (take 1 (slice_set bytes 0 10))) (sym b) (end_of text later bytes h e)

-- the next text
goes_from : (text next : Option (List ℕ)) (later more : Option (List (List ℕ))) → IsAtEnd text → IsNext later next more
    → Keeps (joined_rest false text later) (joined_rest false next more)
goes_from None next later more e p = tt
goes_from (Some text) next None more e p = tt
goes_from (Some text) None (Some texts) more e p = absurd p
goes_from (Some text) (Some next) (Some texts) None e p = absurd p
goes_from (Some text) (Some next) (Some texts) (Some more) e p =
    sym (subst (λ l. finished false l ++ joined texts ≡ joined texts) (sym e) refl ∙ ap joined p)

pub goes_on : (before : Bool) (text next : Option (List ℕ)) (later more : Option (List (List ℕ))) → before ≡ false → IsAtEnd text → IsNext later next more
    → Keeps (joined_rest before text later) (joined_rest before next more)
goes_on before text next later more b e p = subst (λ b. Keeps (joined_rest b text later) (joined_rest b next more)) (sym b) (goes_from text next later more e p)

-- no text is left
is_last : (text : Option (List ℕ)) (later : Option (List (List ℕ))) → IsAtEnd text → IsLast later
    → Consumes (joined_rest false text later) (joined_rest false text later) [] × IsAtEnd (joined_rest false text later)
is_last None later e p = (tt, tt)
is_last (Some text) None e p = (tt, tt)
is_last (Some text) (Some texts) e p = (refl, ap (λ l. finished false l ++ joined texts) e ∙ ap joined p)

pub ends : (before : Bool) (text end : Option (List ℕ)) (later more : Option (List (List ℕ))) → before ≡ false → IsAtEnd text → IsLast later → end ≡ text → more ≡ later
    → Consumes (joined_rest before text later) (joined_rest before end more) [] × IsAtEnd (joined_rest before end more)
ends before text end later more b e p same_text same =
    let P : Bool → Option (List ℕ) → Option (List (List ℕ)) → Type 0 =
    λ b t l. Consumes (joined_rest b text later) (joined_rest b t l) [] × IsAtEnd (joined_rest b t l) in
    subst (λ b. P b end more) (sym b) (subst (λ t. P false t more) (sym same_text) (subst (P false text) (sym same) (is_last text later e p)))
