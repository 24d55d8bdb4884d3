use Rattle.std.proofs.Common.{◌≡◌, ◌∙◌, ℕ, ◌+◌, ◌<◌, List, [], ◌∷◌, ◌++◌, length, take, slice_set, arith, rules, ap, refl, append_assoc, length-set}
use Rattle.std.proofs.lemmas.Grind.{take-set_at}
use Rattle.std.proofs.lemmas.List.{take-append-le, take_all}
use Rattle.std.proofs.lemmas.Slice.{take-put_mid}
use borrow.Rule.Slice.PartMut.{post_of, put_mid}
use Rattle.caldate_args.proofs.zones.zone_source.join_path.Goals as goal

written : (folder name xs ys rest : List ℕ) (n m k : ℕ) → n ≡ length folder → m ≡ length name → xs ≡ folder → ys ≡ name → n < length (xs ++ rest)
    → take (n + 1 + m) (put_mid (n + 1) k (slice_set (xs ++ rest) n 47) ys) ≡ folder ++ 47 ∷ name
written folder name xs ys rest n m k front end first last room =
    let same = ap (λ (l : List ℕ). length l) first in
    let others = ap (λ (l : List ℕ). length l) last in
    take-put_mid (n + 1) k (slice_set (xs ++ rest) n 47) ys (n + 1 + m) (omega arith) (omega (arith, length-set (xs ++ rest) n 47))
    ∙ ap (λ l. l ++ ys) (take-set_at (xs ++ rest) n (n + 1) 47 (omega arith) room ∙ ap (λ l. l ++ 47 ∷ []) (take-append-le n xs rest (omega arith) ∙ take_all n xs (omega arith) ∙ first))
    ∙ ap (λ l. (folder ++ 47 ∷ []) ++ l) last ∙ append_assoc folder (47 ∷ []) name

pub returns-clause-path : goal.returns-clause-path
returns-clause-path c =
    let n = length c.args.folder.now in
    let rest = post_of 0 n c.args.path.now in
    let out = c.if-between-ge-MAX_PATH_BYTES.false in
    let room : n < length (c.copy_from_slice.new.self ++ rest) = search rules in
    written c.args.folder.now c.args.name.now c.copy_from_slice.new.self c.copy_from_slice-2.new.self rest n (length c.args.name.now) _ refl refl
    c.copy_from_slice.ensures.after c.copy_from_slice-2.ensures.after room
