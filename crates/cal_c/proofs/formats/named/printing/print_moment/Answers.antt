use Rattle.std.proofs.Common.{ℕ, ◌≤◌, length, sym, ap, subst, ◌∙◌, arith}
use Rattle.std.proofs.lemmas.List.{length-replicate}
use Rattle.std.proofs.lemmas.Option.{none-some}
use Rattle.std.specs.Prelude.{IsTrue, replicate}
use Rattle.cal_format.specs.Printing.{Writes}
use Rattle.cal_format.specs.Reading.{show_within}
use Rattle.cal_named_format.specs.Named.{text_in}
use Rattle.cal_c.proofs.FormatPrinting.{printed_by}
use Rattle.cal_c.proofs.NamedPrinting.{named_text-short}
use Rattle.cal_c.proofs.formats.named.printing.print_moment.Goals as goal

pub returns-clause-value : goal.returns-clause-value
returns-clause-value c _ items h =
    let found = c.in-Some.value in
    let t = c.in-Some-to_names.value in
    let names = c.in-Some-to_names.ensures in
    let v = c.args.moment.now in
    let within = show_within c.args.low c.args.high in
    let shows : IsTrue (within found) = sym (c.are_within.ensures ∙ ap within c.items-items.ensures.items) ∙ c.if-not-are_within.false in
    let short = named_text-short c.args.names.now t found v names.1 names.0 c.requires in
    let few : length found ≤ 64 = c.in-Some.ensures.value.few in
    let writes = subst (λ xs. Writes (text_in t xs v) 0 (replicate 8128 0) c.print-end.new.buffer c.print-end.result) c.items-items.ensures.items c.print-end.ensures in
    let room = writes.room in (
      t,
      names.0,
      printed_by within (λ xs. text_in t xs v) c.to_format.result found items c.print-end.new.buffer c.args.bytes.now c.write.new.bytes 8128 c.print-end.result c.write.result c.in-Some.is (c.to_format.ensures.every items h)
          (omega (arith, short, few, length-replicate {A = ℕ} 8128 0)) ((λ e. (shows, omega (arith, room.0 e))), (λ e. room.1 (omega (arith, e.1)))) writes.text c.write.ensures.none c.write.ensures.some,
    )

pub returns-in-None-clause-invalid_names : goal.returns-in-None-clause-invalid_names
returns-in-None-clause-invalid_names c is _ = absurd (none-some is.0 (c.in-None.ensures.every is.0 is.1))
