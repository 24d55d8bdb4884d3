-- The text of a field in quotes.
use Rattle.std.proofs.Common.{◌≡◌, ◌∙◌, ℕ, suc, ◌+◌, ◌-◌, ◌<◌, ◌≤◌, Bool, true, false, cond, eqb, eq-eqb, List, [], ◌∷◌, ◌++◌, length, take, drop, get_or, Option, Some, None, refl, sym, ap, arith, append_assoc, length-drop}
use Rattle.std.specs.Prelude.{All, MatchOption, not, option_map, unwrap_or, ◌&&◌}
use Rattle.std.proofs.lemmas.List.{take_all, take_more}
use Rattle.std.proofs.lemmas.List.Elements.{All-head, All-tail}
use Rattle.caldate_lines.specs.Fields.{field_text, is_quote, unquoted}

-- ---- one byte
pub plain_byte : (x : ℕ) (xs : List ℕ) → is_quote x ≡ false → unquoted (x ∷ xs) ≡ option_map (λ text. x ∷ text) (unquoted xs)
plain_byte x [] e = ap (λ b. cond b (Some []) None) e
plain_byte x (y ∷ ys) e =
    ap (λ b. cond (not b) (option_map (λ text. x ∷ text) (unquoted (y ∷ ys))) (cond (is_quote y) (option_map (λ text. 34 ∷ text) (unquoted ys)) (Some (y ∷ ys)))) e

pub doubled_quote : (x : ℕ) (xs : List ℕ) → is_quote x ≡ true → 1 ≤ length xs → is_quote (get_or xs 0 0) ≡ true
    → unquoted (x ∷ xs) ≡ option_map (λ text. 34 ∷ text) (unquoted (drop 1 xs))
doubled_quote x [] e some f = absurd (omega (arith, some))
doubled_quote x (y ∷ ys) e some f =
    ap (λ b. cond (not b) (option_map (λ text. x ∷ text) (unquoted (y ∷ ys))) (cond (is_quote y) (option_map (λ text. 34 ∷ text) (unquoted ys)) (Some (y ∷ ys)))) e
    ∙ ap (λ b. cond b (option_map (λ text. 34 ∷ text) (unquoted ys)) (Some (y ∷ ys))) f

pub closing_quote : (x : ℕ) (xs : List ℕ) → is_quote x ≡ true → is_quote (get_or xs 0 0) ≡ false → unquoted (x ∷ xs) ≡ Some xs
closing_quote x [] e f = ap (λ b. cond b (Some []) None) e
closing_quote x (y ∷ ys) e f =
    ap (λ b. cond (not b) (option_map (λ text. x ∷ text) (unquoted (y ∷ ys))) (cond (is_quote y) (option_map (λ text. 34 ∷ text) (unquoted ys)) (Some (y ∷ ys)))) e
    ∙ ap (λ b. cond b (option_map (λ text. 34 ∷ text) (unquoted ys)) (Some (y ∷ ys))) f

-- the bytes that are pushed come before the rest
pub pushed : (old : List ℕ) (x : ℕ) (text : Option (List ℕ)) → option_map (λ t. (old ++ x ∷ []) ++ t) text ≡ option_map (λ t. old ++ t) (option_map (λ t. x ∷ t) text)
pushed old x None = refl
pushed old x (Some text) = ap Some (append_assoc old (x ∷ []) text)

pub next_doubled : (old now rest : List ℕ) (all : Option (List ℕ)) → 1 ≤ length rest → get_or rest 0 0 ≡ 34 → 1 ≤ length (take (length rest - 1) (drop 1 rest))
    → is_quote (get_or (take (length rest - 1) (drop 1 rest)) 0 0) ≡ true → now ≡ old ++ 34 ∷ [] → option_map (λ t. old ++ t) (unquoted rest) ≡ all
    → option_map (λ t. now ++ t) (unquoted (take (length (take (length rest - 1) (drop 1 rest)) - 1) (drop 1 (take (length rest - 1) (drop 1 rest))))) ≡ all
next_doubled old now [] all some quote more next put before = absurd (omega (arith, some))
next_doubled old now (x ∷ xs) all some quote more next put before =
    let others : take (length (x ∷ xs) - 1) xs ≡ xs = take_all (length (x ∷ xs) - 1) xs (omega arith) in
    let last : take (length xs - 1) (drop 1 xs) ≡ drop 1 xs = take_all (length xs - 1) (drop 1 xs) (omega (arith, length-drop 1 xs)) in
    ap (λ l. option_map (λ t. now ++ t) (unquoted (take (length l - 1) (drop 1 l)))) others ∙ ap (λ l. option_map (λ t. now ++ t) (unquoted l)) last
    ∙ ap (λ l. option_map (λ t. l ++ t) (unquoted (drop 1 xs))) put ∙ pushed old 34 (unquoted (drop 1 xs))
    ∙ ap (option_map (λ t. old ++ t)) (sym (doubled_quote x xs (eq-eqb x 34 quote) (omega (arith, more, ap length others)) (ap (λ l. is_quote (get_or l 0 0)) (sym others) ∙ next)))
    ∙ before

-- ---- quotes around a text without quotes
all_unquoted : (xs : List ℕ) → All (λ x. eqb x 34 ≡ false) xs → unquoted (xs ++ 34 ∷ []) ≡ Some xs
all_unquoted [] h = refl
all_unquoted (x ∷ xs) h =
    plain_byte x (xs ++ 34 ∷ []) (All-head (λ x. eqb x 34 ≡ false) x xs h) ∙ ap (option_map (λ text. x ∷ text)) (all_unquoted xs (All-tail (λ x. eqb x 34 ≡ false) x xs h))

pub quoted_text : (part : List ℕ) (end : ℕ) → is_quote (get_or part 0 0) ≡ true → 1 ≤ length part → end ≡ length part - 1 → 0 < end → get_or part end 0 ≡ 34
    → All (λ x. eqb x 34 ≡ false) (take (end - 1) (drop 1 part)) → take (end - 1) (drop 1 part) ≡ field_text true part
quoted_text [] end q some at inner last h = absurd (omega (arith, some))
quoted_text (x ∷ xs) end q some at inner last h =
    let few : (end - 1) + 1 ≡ length xs = omega (arith, at, inner) in
    let whole : xs ≡ take (end - 1) xs ++ get_or xs (end - 1) 0 ∷ [] =
    sym (take_all ((end - 1) + 1) xs (omega (arith, few))) ∙ take_more xs (end - 1) 0 (omega (arith, few)) in
    let next : suc (end - 1) ≡ end = omega (arith, inner) in
    let close : get_or xs (end - 1) 0 ≡ 34 = ap (λ n. get_or (x ∷ xs) n 0) next ∙ last in
    let is = ap unquoted (whole ∙ ap (λ b. take (end - 1) xs ++ b ∷ []) close) ∙ all_unquoted (take (end - 1) xs) h in
    sym (ap (λ b. cond b (unwrap_or (unquoted xs) (x ∷ xs)) (x ∷ xs)) q ∙ ap (λ t. unwrap_or t (x ∷ xs)) is)

-- ---- it is no longer than the field
mapped : (x : ℕ) (o : Option (List ℕ)) (n m : ℕ) → n + 1 ≤ m → MatchOption o (Unit {0}) (λ t. length t ≤ n) → MatchOption (option_map (λ t. x ∷ t) o) (Unit {0}) (λ t. length t ≤ m)
mapped x None n m h k = tt
mapped x (Some t) n m h k = omega (arith, h, k)

abbrev last_text : Bool → Option (List ℕ)
last_text closes = cond closes (Some []) None

one_few : (b : Bool) (x : ℕ) → MatchOption (last_text b) (Unit {0}) (λ t. length t ≤ length (x ∷ []))
one_few true x = omega arith
one_few false x = tt

two_few : (a b : Bool) (x y : ℕ) (ys : List ℕ) → MatchOption (unquoted (y ∷ ys)) (Unit {0}) (λ t. length t ≤ length (y ∷ ys)) → MatchOption (unquoted ys) (Unit {0}) (λ t. length t ≤ length ys)
    → MatchOption (cond (not a) (option_map (λ t. x ∷ t) (unquoted (y ∷ ys))) (cond b (option_map (λ t. 34 ∷ t) (unquoted ys)) (Some (y ∷ ys)))) (Unit {0}) (λ t. length t ≤ length (x ∷ y ∷ ys))
two_few false b x y ys h k = mapped x (unquoted (y ∷ ys)) (length (y ∷ ys)) (length (x ∷ y ∷ ys)) (omega arith) h
two_few true true x y ys h k = mapped 34 (unquoted ys) (length ys) (length (x ∷ y ∷ ys)) (omega arith) k
two_few true false x y ys h k = omega arith

unquoted_few : (xs : List ℕ) → MatchOption (unquoted xs) (Unit {0}) (λ t. length t ≤ length xs)
unquoted_few [] = tt
unquoted_few (x ∷ []) = one_few (is_quote x) x
unquoted_few (x ∷ y ∷ ys) = two_few (is_quote x) (is_quote y) x y ys (unquoted_few (y ∷ ys)) (unquoted_few ys)

either_few : (b : Bool) (o : Option (List ℕ)) (xs all : List ℕ) → length xs ≤ length all → MatchOption o (Unit {0}) (λ t. length t ≤ length xs) → length (cond b (unwrap_or o all) all) ≤ length all
either_few true None xs all few h = omega arith
either_few true (Some t) xs all few h = omega (arith, few, h)
either_few false o xs all few h = omega arith

pub text_few : (csv : Bool) (part : List ℕ) → length (field_text csv part) ≤ length part
text_few csv [] = omega arith
text_few csv (x ∷ xs) = either_few (csv && is_quote x) (unquoted xs) xs (x ∷ xs) (omega arith) (unquoted_few xs)
