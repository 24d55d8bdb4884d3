-- The front of a text.
use Rattle.std.proofs.Common.{◌≡◌, ℕ, ◌<◌, ◌≤◌, refl, sym, ap, ◌∙◌, arith, true, List, [], ◌∷◌, ◌++◌, length, drop, Option, Some, None, append-nil}
use Rattle.std.specs.Prelude.{slice_get, get_or, ◌&&◌, ◌==◌}
use Rattle.std.proofs.lemmas.List.{length-append}
use Rattle.std.proofs.lemmas.Bool.{and_parts, eq-eqb, eqb-true, false≢true}
use Rattle.std.proofs.lemmas.Option.{slice_get_within}
use Rattle.cal_names.specs.Names.{begins_with}
use Rattle.cal_names.specs.Apart.{AreApart, AreDistinct, Ends, IsContinued, IsFound, NoneContinued}

-- A text that begins with a name is the name and the rest.
pub rest-is : (x t : List ℕ) → begins_with x t ≡ true → t ≡ x ++ drop (length x) t
unfolding begins_with
rest-is [] t e = refl
rest-is (p ∷ ps) [] e = absurd (false≢true e)
rest-is (p ∷ ps) (b ∷ bs) e =
    let both = and_parts _ _ e in
    ap (λ c. c ∷ bs) (eqb-true b p both.0) ∙ ap (λ l. p ∷ l) (rest-is ps bs both.1)

pub begins-long : (x t : List ℕ) → begins_with x t ≡ true → length x ≤ length t
unfolding begins_with
begins-long [] t e = omega arith
begins-long (p ∷ ps) [] e = absurd (false≢true e)
begins-long (p ∷ ps) (b ∷ bs) e = omega (arith, begins-long ps bs (and_parts _ _ e).1)

-- A name and a rest begin with the name.
pub begins-with_rest : (x r : List ℕ) → begins_with x (x ++ r) ≡ true
unfolding begins_with
begins-with_rest [] r = refl
begins-with_rest (p ∷ ps) r = ap (λ b. b && begins_with ps (ps ++ r)) (eq-eqb p p refl) ∙ begins-with_rest ps r

-- The longer of two names that begin a text begins with the other one.
pub longer-begins : (x y t : List ℕ) → begins_with x t ≡ true → begins_with y t ≡ true → length x ≤ length y → begins_with x y ≡ true
unfolding begins_with
longer-begins [] y t e f h = refl
longer-begins (p ∷ ps) [] t e f h = absurd (omega arith)
longer-begins (p ∷ ps) (q ∷ qs) [] e f h = absurd (false≢true e)
longer-begins (p ∷ ps) (q ∷ qs) (b ∷ bs) e f h =
    let first = and_parts _ _ e in
    let second = and_parts _ _ f in
    let same : q ≡ p = sym (eqb-true b q second.0) ∙ eqb-true b p first.0 in
    ap (λ c. c && begins_with ps qs) (eq-eqb q p same) ∙ longer-begins ps qs bs first.1 second.1 (omega arith)

-- If no name begins another one, each name ends before every rest.
pub ends : (names : List (List ℕ)) (n : ℕ) (name rest : List ℕ) → AreApart names → slice_get names n ≡ Some name → Ends names n name rest
ends names n name rest apart at = record { is_name = at; alone = λ m x there front begins. sym (apart n m name x at there front) }

-- ---- the longest name
pub printed : (names : List (List ℕ)) (text : List ℕ) (end n : ℕ) (name rest : List ℕ) (r : Option ℕ) → length names ≤ end → IsFound names text end r → Ends names n name rest → text ≡ name ++ rest → r ≡ Some n
printed names text end n name rest None most found ends is =
    let on : begins_with name text ≡ true = ap (begins_with name) is ∙ begins-with_rest name rest in
    absurd (false≢true (sym (found n name (omega (arith, slice_get_within names n name ends.is_name)) ends.is_name) ∙ on))
printed names text end n name rest (Some k) most found ends is =
    let on : begins_with name text ≡ true = ap (begins_with name) is ∙ begins-with_rest name rest in
    let long = found.most n name (omega (arith, slice_get_within names n name ends.is_name)) ends.is_name on in
    let front : begins_with name found.name ≡ true = longer-begins name found.name text on found.begins long in
    ap Some (ends.alone k found.name found.is_name front (ap (begins_with found.name) (sym is) ∙ found.begins))

-- ---- the byte after a name
begins-after : (x s t : List ℕ) → begins_with (x ++ s) (x ++ t) ≡ true → begins_with s t ≡ true
unfolding begins_with
begins-after [] s t e = e
begins-after (p ∷ ps) s t e = begins-after ps s t (and_parts (p == p) (begins_with (ps ++ s) (ps ++ t)) e).1

goes-on : (names : List (List ℕ)) (n m b : ℕ) (name x t r : List ℕ) → AreDistinct names → NoneContinued names b → slice_get names n ≡ Some name → slice_get names m ≡ Some x
    → x ≡ name ++ t → begins_with x (name ++ b ∷ r) ≡ true → m ≡ n
unfolding begins_with
goes-on names n m b name x [] r distinct none at there is begins =
    distinct m n name (there ∙ ap Some (is ∙ append-nil name)) at
goes-on names n m b name x (c ∷ t) r distinct none at there is begins =
    let after = begins-after name (c ∷ t) (b ∷ r) (ap (λ l. begins_with l (name ++ b ∷ r)) (sym is) ∙ begins) in
    let same : b ≡ c = eqb-true b c (and_parts (b == c) (begins_with t r) after).0 in
    absurd (none n m name x at there (t, is ∙ ap (λ k. name ++ k ∷ t) (sym same)))

-- If no two names are the same, and none goes on with the byte b to another one, each name ends
-- before every rest that begins with b.
pub ends-before : (names : List (List ℕ)) (n b : ℕ) (name r : List ℕ) → AreDistinct names → NoneContinued names b → slice_get names n ≡ Some name → Ends names n name (b ∷ r)
ends-before names n b name r distinct none at = record {
  is_name = at;
  alone = λ m x there front begins. goes-on names n m b name x (drop (length name) x) r distinct none at there (rest-is name x front) begins;
}

equal-long : (name x : List ℕ) → begins_with name x ≡ true → length x ≤ length name → x ≡ name
unfolding begins_with
equal-long [] [] e h = refl
equal-long [] (c ∷ x) e h = absurd (omega arith)
equal-long (p ∷ ps) [] e h = absurd (false≢true e)
equal-long (p ∷ ps) (c ∷ x) e h =
    let both = and_parts _ _ e in
    ap (λ k. k ∷ x) (eqb-true c p both.0) ∙ ap (λ l. p ∷ l) (equal-long ps x both.1 (omega arith))

-- If no two names are the same, each name ends at the end of the text.
pub ends-last : (names : List (List ℕ)) (n : ℕ) (name : List ℕ) → AreDistinct names → slice_get names n ≡ Some name → Ends names n name []
ends-last names n name distinct at = record {
  is_name = at;
  alone = λ m x there front begins.
      let short : length x ≤ length name = omega (arith, begins-long x (name ++ []) begins, ap length (append-nil name)) in
      distinct m n name (there ∙ ap Some (equal-long name x front short)) at;
}

get-or-after : (x s : List ℕ) (b d : ℕ) → get_or (x ++ b ∷ s) (length x) d ≡ b
get-or-after [] s b d = refl
get-or-after (p ∷ ps) s b d = get-or-after ps s b d

-- A text that begins with x and has the byte b after it.
pub continued : (x y : List ℕ) (b d : ℕ) → length x < length y → get_or y (length x) d ≡ b → begins_with x y ≡ true → IsContinued x b y
unfolding begins_with
continued [] [] b d h e on = absurd (omega arith)
continued [] (c ∷ ys) b d h e on = (ys, ap (λ k. k ∷ ys) e)
continued (p ∷ ps) [] b d h e on = absurd (false≢true on)
continued (p ∷ ps) (c ∷ ys) b d h e on =
    let both = and_parts _ _ on in
    let rest = continued ps ys b d (omega arith) e both.1 in
    (rest.0, ap (λ k. k ∷ ys) (eqb-true c p both.0) ∙ ap (λ l. p ∷ l) rest.1)

pub is-begun : (x y : List ℕ) (b : ℕ) → IsContinued x b y → begins_with x y ≡ true
is-begun x y b h = ap (begins_with x) h.1 ∙ begins-with_rest x (b ∷ h.0)

pub continued-long : (x y : List ℕ) (b : ℕ) → IsContinued x b y → length x < length y
continued-long x y b h = omega (arith, ap length h.1, length-append x (b ∷ h.0))

pub continued-byte : (x y : List ℕ) (b d : ℕ) → IsContinued x b y → get_or y (length x) d ≡ b
continued-byte x y b d h = ap (λ l. get_or l (length x) d) h.1 ∙ get-or-after x h.0 b d

pub ruleset going_on = (continued-long, continued-byte, continued, is-begun)
