use Rattle.std.proofs.Common.{◌∙◌, ap, sym, subst, refl, arith}
use Rattle.cal_format.specs.Form.{numbers_of, numbered_text, AreNumbers}
use Rattle.cal_format.specs.Lenient.{items_of, IsRead, IsLenientRejection}
use Rattle.cal_format.specs.Rejection.{IsNumberRejection}
use Rattle.cal_format.specs.Values.{IsPrinted}
use Rattle.cal_format.proofs.Known.{known-fit, read-known, printed-read, false-true, mapped_ok, mapped_err, lenient-unexpected, number-rejected}
use Rattle.cal_format.proofs.lenient_parsing.parse_leniently.Goals as goal

pub returns-then-not-scan_known-clause-every : goal.returns-then-not-scan_known-clause-every
returns-then-not-scan_known-clause-every c v holds read =
    let f = c.args.format.now in
    absurd (false-true (c.if-not-scan_known.ensures.every (numbers_of (items_of f) v) (read-known f.pivot f.format v c.args.text.now c.requires.read.pivot read.window read.variant)).0)

pub returns-then-not-scan_known-clause-error : goal.returns-then-not-scan_known-clause-error
returns-then-not-scan_known-clause-error c =
    lenient-unexpected c.args.format.now c.args.text.now _ _ (omega arith) c.unexpected.ensures.byte c.unexpected.ensures.end (λ ns has. false-true (c.if-not-scan_known.ensures.every ns has).0)

pub moment_of_numbers-requires : goal.moment_of_numbers-requires
moment_of_numbers-requires c =
    let f = c.args.format.now in
    record { fit = subst (λ l. AreNumbers l c.scan_known.new.numbers) (sym c.requires.known) (known-fit f.pivot f.format c.scan_known.new.numbers c.args.text.now c.requires.read.pivot (c.if-not-scan_known.ensures.value refl)) }

pub returns-clause-every : goal.returns-clause-every
returns-clause-every c v holds read =
    let f = c.args.format.now in
    let same = (c.if-not-scan_known.ensures.every (numbers_of (items_of f) v) (read-known f.pivot f.format v c.args.text.now c.requires.read.pivot read.window read.variant)).1 in
    c.moment_of_numbers.ensures.every v holds (same ∙ ap (λ l. numbers_of l v) (sym c.requires.known))

pub returns-clause-value : goal.returns-clause-value
returns-clause-value c =
    let f = c.args.format.now in
    let known = c.args.known.now in
    let numbers = c.scan_known.new.numbers in
    mapped_ok (λ v. IsPrinted known v (numbered_text known numbers)) (λ v. IsRead f v c.args.text.now) _
    (λ v h. printed-read f known numbers c.args.text.now v c.requires.known c.requires.read c.requires.apart (c.if-not-scan_known.ensures.value refl) h) c.moment_of_numbers.ensures.value

pub returns-clause-error : goal.returns-clause-error
returns-clause-error c =
    let f = c.args.format.now in
    let known = c.args.known.now in
    let numbers = c.scan_known.new.numbers in
    mapped_err (IsNumberRejection known numbers) (IsLenientRejection f c.args.text.now) _
    (λ e h. number-rejected f known numbers c.args.text.now e c.requires.known (c.if-not-scan_known.ensures.value refl) h) c.moment_of_numbers.ensures.error
