use Rattle.std.proofs.Common.{ℕ, ◌≤◌, length, sym, ap, ◌∙◌, arith}
use Rattle.std.proofs.lemmas.List.{length-replicate}
use Rattle.std.specs.Prelude.{IsTrue}
use Rattle.cal_format.specs.Reading.{show_within}
use Rattle.cal_format.specs.Text.{text_of}
use Rattle.cal_format.proofs.Lengths.{text-short}
use Rattle.cal_c.proofs.FormatPrinting.{printed_by}
use Rattle.cal_c.proofs.formats.one_pass.print_in_steps.Goals as goal

pub returns-clause-value : goal.returns-clause-value
returns-clause-value c items h =
    let found = c.in-Some.value in
    let v = c.args.moment.now in
    let within = show_within c.args.low c.args.high in
    let shows : IsTrue (within found) = sym (c.are_within.ensures ∙ ap within c.items.ensures.items) ∙ c.if-not-are_within.false in
    let short = text-short found v c.requires in
    let few : length found ≤ 64 = c.in-Some.ensures.value.few in
    let room = c.print_moment-end.ensures.room in
    printed_by within (λ xs. text_of xs v) c.to_format.result found items c.print_moment-end.new.buffer c.args.bytes.now c.write.new.bytes _ c.print_moment-end.result c.write.result c.in-Some.is (c.to_format.ensures.every items h)
    (omega (arith, short, few, length-replicate {A = ℕ} 960 0)) ((λ e. (shows, room.0 e)), (λ e. room.1 e.1)) c.print_moment-end.ensures.text c.write.ensures.none c.write.ensures.some
