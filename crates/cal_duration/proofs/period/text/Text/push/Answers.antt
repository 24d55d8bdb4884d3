use Rattle.std.proofs.Common.{◌+◌, ◌-◌, ◌++◌, ◌∙◌, take, ap, sym, subst, length, arith, rules}
use Rattle.std.specs.Prelude.{IsUtf8}
use Rattle.std.proofs.lemmas.Str.{IsUtf8-append}
use Rattle.std.proofs.lemmas.Slice.{take-put_mid}
use Rattle.cal_duration.proofs.period.text.Text.push.Goals as goal

-- The text is the old text and then the appended text.
pub invariant_of-self : goal.invariant_of-self
invariant_of-self c =
    let start = c.self.inside.filled in
    let count = length c.args.text.now in
    let copied = c.copy_from_slice.ensures.after ∙ c.as_bytes.ensures.value in
    let whole = take-put_mid start (start + count - start) c.self.inside.bytes c.copy_from_slice.new.self (start + count) (omega (arith, ap length copied)) (omega (arith, c.self.invariant.0)) in
    (search rules, subst IsUtf8 (sym (whole ∙ ap (λ bytes. take start c.self.inside.bytes ++ bytes) copied)) (IsUtf8-append _ _ c.self.invariant.1 c.utf8.text))
