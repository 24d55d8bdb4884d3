use Rattle.std.proofs.Common.{◌≡◌, ℕ, ◌<◌, length, get_or, [], ◌∙◌, subst, arith}
use Rattle.std.proofs.lemmas.List.{length-set}
use Rattle.std.proofs.lemmas.List.Elements.{All-from_get_or}
use Rattle.std.specs.Str.{IsUtf8}
use Rattle.cal_names.specs.Apart.{texts, text_at}
use Rattle.cal_c.specs.NamedFormats.{IsName}
use Rattle.cal_c.proofs.WrittenNames.{length-texts, one_more, same_more, within-longest}
use Rattle.cal_c.proofs.formats.named.names_parts.write_bytes.Goals as goal

pub loop-index-preserved : goal.loop-index-preserved
loop-index-preserved c =
    let names = c.args.names.now in
    let kept = c.loop-index.invariant in
    let bytes = c.as_bytes.result in
    let here : c.loop-index.index < length names = omega arith in
    let room : c.loop-index.index < length c.loop-index.bytes = omega (arith, here, kept.room) in
    let same : bytes.now ≡ text_at names c.loop-index.index = c.as_bytes.ensures.value ∙ c.name_at.ensures in
    record {
      room = length-set c.loop-index.bytes c.loop-index.index bytes ∙ kept.room;
      same = same_more names c.loop-index.bytes c.loop-index.index bytes here room same kept.same;
      utf8 = one_more (λ k. IsUtf8 (text_at names k)) c.loop-index.index kept.utf8 (subst IsUtf8 same c.as_bytes.ensures.utf8);
    }

pub returns-clause-names : goal.returns-clause-names
returns-clause-names c short =
    let names = c.args.names.now in
    let all : (k : ℕ) → k < length (texts names) → IsName (get_or (texts names) k []) =
    λ k lt. (c.loop-index.invariant.utf8 k (omega (arith, lt, length-texts names)), omega (arith, short, within-longest (texts names) k)) in
    All-from_get_or IsName (texts names) [] all
