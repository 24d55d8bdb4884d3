use Rattle.std.proofs.Common.{◌≡◌, ℕ, ◌+◌, ◌-◌, length, ap, ◌∙◌, sym, arith, true}
use Rattle.std.proofs.lemmas.Bool.{false≢true}
use Rattle.cal_tzif.specs.Bytes.{byte}
use Rattle.cal_tzif.specs.Posix.{is_name_byte, run_end}
use Rattle.cal_tzif.proofs.Readers.{run_end-step, run_end-stop, no_name-zero}
use Rattle.cal_tzif.proofs.posix.run_end.Goals as goal

pub loop-at-preserved : goal.loop-at-preserved
loop-at-preserved c =
    let q = c.args.quoted in
    let bytes = c.args.text.now in
    let at = c.loop-at.at in
    let same = c.loop-at.invariant.same in
    let test = sym c.is_name_byte.ensures ∙ c.loop-at-test.true in
    let on : is_name_byte q (byte bytes at) ≡ true = ap (is_name_byte q) (sym c.byte.ensures.value) ∙ test in
    let inside = c.byte.ensures.inside (λ z. false≢true (sym (no_name-zero q) ∙ ap (is_name_byte q) (sym z) ∙ test)) in
    let from = c.loop-at.invariant.from in
    let less : length bytes - (at - c.args.start) - 1 ≡ length bytes - (at + 1 - c.args.start) = omega arith in
    record {
      same = same ∙ run_end-step q bytes (length bytes - (at - c.args.start)) at (omega arith) on ∙ ap (λ (n : ℕ). run_end q bytes n (at + 1)) less;
      from = omega arith;
      upto = omega arith;
    }

pub returns-clause-value : goal.returns-clause-value
returns-clause-value c =
    let off = ap (is_name_byte c.args.quoted) (sym c.byte.ensures.value) ∙ sym c.is_name_byte.ensures ∙ c.loop-at-test.false in
    sym (c.loop-at.invariant.same ∙ run_end-stop c.args.quoted c.args.text.now _ c.loop-at.at off)
