use Rattle.std.proofs.Common.{◌≡◌, ◌+◌, ◌-◌, ◌<◌, ◌^◌, ◌++◌, length, ◌∙◌, sym}
use Rattle.cal_text.specs.Shape.{Digits, ParsesMoreDigits}
use Rattle.cal_format.specs.declared.item.Padding.TheVariants as padding
use Rattle.cal_format.specs.Text.{padded}
use Rattle.cal_format.specs.Form.{AfterSpaces}
use Rattle.cal_format.proofs.Forms.{carried, mapped_both, few-digits, one-space, more-space, full-space, spaces-past, spaces-none}
use Rattle.cal_format.proofs.form.+scan_after_spaces.Goals as goal

pub returns-then-more-eq0-clause-value : goal.returns-then-more-eq0-clause-value
returns-then-more-eq0-clause-value t c =
    rw c.from.ensures (one-space c.args.more _ _ _ c.if-more-eq0.true c.in_ok-digit.ensures.value.0 c.in_ok-digit.ensures.value.1)

pub returns-in_err-first-in-None-clause-scans : goal.returns-in_err-first-in-None-clause-scans
returns-in_err-first-in-None-clause-scans t c =
    rw c.from_residual-in_err-first-in-None.ensures (λ f. spaces-none c.args.more f _ _ c.if-more-eq0.false c.in-None.ensures.branches ∙ c.in_err-first-in-None.ensures.scans (Digits c.args.more f))

pub scan_digits-requires : goal.scan_digits-requires
scan_digits-requires t c = rw c.from-in-None.ensures (few-digits _ c.args.more c.requires c.in_ok-first-in-None.ensures.value.1)

pub returns-in-Some-clause-scans : goal.returns-in-Some-clause-scans
returns-in-Some-clause-scans t c =
    carried (AfterSpaces c.args.more) (AfterSpaces (c.args.more - 1)) _ _ _ _ (λ f. spaces-past c.args.more f _ _ c.if-more-eq0.false c.in-Some.ensures.branches) c.scan_after_spaces.ensures.scans

pub returns-in-Some-clause-value : goal.returns-in-Some-clause-value
returns-in-Some-clause-value t c =
    let new = c.scan_after_spaces.new.scanner.rest.now in
    mapped_both (λ n. c.byte.new.self.rest.now ≡ padded padding.Space (c.args.more - 1 + 1) n ++ new) (λ n. n < 10 ^ (c.args.more - 1 + 1)) (λ n. c.args.scanner.now.rest.now ≡ padded padding.Space (c.args.more + 1) n ++ new) _
    (λ n h low. (more-space c.args.more n _ _ _ c.if-more-eq0.false c.requires low c.in-Some.ensures.value h).1) c.scan_after_spaces.ensures.value c.scan_after_spaces.ensures.range

pub returns-in_ok-first-in-None-clause-scans : goal.returns-in_ok-first-in-None-clause-scans
returns-in_ok-first-in-None-clause-scans t c =
    carried (AfterSpaces c.args.more) (Digits c.args.more) _ _ _ _
    (λ f. spaces-none c.args.more f _ _ c.if-more-eq0.false c.in-None.ensures.branches ∙ c.in_ok-first-in-None.ensures.scans (Digits c.args.more f)) c.scan_digits.ensures.scans

pub returns-in_ok-first-in-None-clause-value : goal.returns-in_ok-first-in-None-clause-value
returns-in_ok-first-in-None-clause-value t c =
    let first = c.in_ok-first-in-None.ensures.value in
    let mid = c.digit_from_1.new.self.rest.now in
    let new = c.scan_digits.new.scanner.rest.now in
    mapped_both (ParsesMoreDigits mid new c.args.more c.from-in-None.result) (λ _. length mid ≡ c.args.more + length new) (λ n. c.args.scanner.now.rest.now ≡ padded padding.Space (c.args.more + 1) n ++ new) _
    (λ n h long. (full-space c.args.more c.in_ok-first-in-None.first n _ mid new c.requires (first.0, first.1, sym c.in-None.ensures.unchanged ∙ first.2) (rw c.from-in-None.ensures at h) long).1) c.scan_digits.ensures.value c.scan_digits.ensures.count
