use Rattle.std.proofs.Common.{◌≡◌, suc, length, subst, arith}
use Rattle.cal_text.specs.Shape.{unmatched_bytes}
use Rattle.cal_format.specs.Form.{numbered_text}
use Rattle.cal_format.specs.Rejection.{IsNumberRejection}
use Rattle.cal_format.specs.Values.{IsPrinted}
use Rattle.cal_named_format.specs.Named.{shape_in}
use Rattle.cal_named_format.specs.Rejection.{HasNumbersIn, IsPrintedIn, IsRejectionIn}
use Rattle.cal_named_format.proofs.Named.{Reads, own-form, own-numbers, printed-in, rejected-number, is-stop-in, rejected-at, ok-mapped, err-mapped}
use Rattle.cal_named_format.proofs.parsing.parse.Goals as goal

pub overflow_sub-text : goal.overflow_sub-text
overflow_sub-text c = (is-stop-in c.args.names.now c.items-2.result.now _ _ c.in-None.ensures.scans).within

pub returns-in-None : goal.returns-in-None
returns-in-None c =
    let names = c.args.names.now in
    let items = c.args.items.now in
    let text = c.args.text.now in
    let stop = subst (λ l. unmatched_bytes (shape_in names l) text ≡ suc (length c.scan_items.new.scanner.rest.now)) c.items-2.ensures.items c.in-None.ensures.scans in
    let reads : Reads names items = record { tables = c.table_counts.ensures; reads = c.requires.reads } in
    record {
      every = λ v holds e. absurd (omega (arith, stop, own-form names items v text reads holds.in_range holds.numbers e));
      value = tt;
      error = rejected-at names items _ _ _ _ stop (is-stop-in names items _ _ stop).position c.unexpected.ensures.byte c.unexpected.ensures.end;
    }

pub moment_of_numbers-requires : goal.moment_of_numbers-requires
moment_of_numbers-requires c = record { fit = (subst (λ l. HasNumbersIn c.args.names.now l c.scan_items.new.numbers c.args.text.now) c.items-2.ensures.items c.in-Some.ensures.value).fit }

pub returns-in-Some : goal.returns-in-Some
returns-in-Some c =
    let names = c.args.names.now in
    let items = c.args.items.now in
    let text = c.args.text.now in
    let numbers = c.scan_items.new.numbers in
    let reads : Reads names items = record { tables = c.table_counts.ensures; reads = c.requires.reads } in
    let has : HasNumbersIn names items numbers text = subst (λ l. HasNumbersIn names l numbers text) c.items-2.ensures.items c.in-Some.ensures.value in
    record {
      every = λ v holds e. c.moment_of_numbers.ensures.every v holds (own-numbers names items v numbers text reads holds.in_range holds.numbers has e);
      value = ok-mapped (λ v. IsPrinted items v (numbered_text items numbers)) (λ v. IsPrintedIn names items v text) _ (λ v is. printed-in names items v numbers text c.requires.apart has is) c.moment_of_numbers.ensures.value;
      error = err-mapped (IsNumberRejection items numbers) (IsRejectionIn names items text) _ (λ e h. rejected-number names items numbers text e has h) c.moment_of_numbers.ensures.error;
    }
