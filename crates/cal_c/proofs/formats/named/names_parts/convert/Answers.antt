use Rattle.std.proofs.Common.{ℕ, ◌<◌, [], length, get_or, refl, sym, subst, ◌∙◌, arith}
use Rattle.std.proofs.lemmas.Bool.{false≢true}
use Rattle.std.proofs.lemmas.List.{length-set}
use Rattle.std.proofs.lemmas.List.Elements.{All-from_get_or, All-get_or}
use Rattle.cal_names.specs.Apart.{texts, text_at}
use Rattle.cal_c.specs.NamedFormats.{IsName}
use Rattle.cal_c.proofs.WrittenNames.{length-texts, one_more, same_more}
use Rattle.cal_c.proofs.formats.named.names_parts.convert.Goals as goal

pub returns-in-None-clause-names : goal.returns-in-None-clause-names
returns-in-None-clause-names c =
    let names = c.args.names.now in
    let here : c.loop-index.index < length (texts names) = omega (arith, length-texts names) in
    ((λ e. absurd (false≢true e)), (λ all. absurd (c.in-None.ensures (subst IsName (sym c.bytes_at.ensures) (All-get_or IsName (texts names) c.loop-index.index [] here all)))))

pub loop-index-preserved : goal.loop-index-preserved
loop-index-preserved c =
    let names = c.args.names.now in
    let kept = c.loop-index.invariant in
    let string = c.in-Some.string in
    let here : c.loop-index.index < length names = omega arith in
    let room : c.loop-index.index < length c.loop-index.strings = omega (arith, here, kept.room) in
    record {
      room = length-set c.loop-index.strings c.loop-index.index string ∙ kept.room;
      same = same_more names c.loop-index.strings c.loop-index.index string here room (c.in-Some.ensures.0 ∙ c.bytes_at.ensures) kept.same;
      fine = one_more (λ k. IsName (text_at names k)) c.loop-index.index kept.fine (subst IsName c.bytes_at.ensures c.in-Some.ensures.1);
    }

pub returns-clause-names : goal.returns-clause-names
returns-clause-names c =
    let names = c.args.names.now in
    let all : (k : ℕ) → k < length (texts names) → IsName (get_or (texts names) k []) = λ k lt. c.loop-index.invariant.fine k (omega (arith, lt, length-texts names)) in
    ((λ _. All-from_get_or IsName (texts names) [] all), (λ _. refl))
