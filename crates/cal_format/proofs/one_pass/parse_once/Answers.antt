use Rattle.std.proofs.Common.{[], refl, sym, ap, subst, ◌∙◌}
use Rattle.cal_format.specs.Scanning.{fields_of}
use Rattle.cal_format.specs.Values.{first_contradiction}
use Rattle.cal_format.proofs.OnePass.{IsScanned, whole, most, read-printed, held-read}
use Rattle.cal_format.proofs.Outcomes.{same-value}
use Rattle.cal_format.proofs.one_pass.parse_once.Goals as goal

pub find_moment-requires : goal.find_moment-requires
find_moment-requires c k =
    let read = whole c.items.result.now c.new-fields.result c.scan_whole.new.fields c.args.text.now [] (c.scan_whole.ensures c.if-not-scan_whole.false) refl c.new-fields.ensures.zero in
    let scanned = subst (λ l. IsScanned l c.scan_whole.new.fields c.args.text.now) c.items.ensures.items read in
    most c.args.items.now c.scan_whole.new.fields c.args.text.now k scanned

pub returns-in-None-clause-every : goal.returns-in-None-clause-every
returns-in-None-clause-every c v holds e =
    let read = whole c.items.result.now c.new-fields.result c.scan_whole.new.fields c.args.text.now [] (c.scan_whole.ensures c.if-not-scan_whole.false) refl c.new-fields.ensures.zero in
    let scanned = subst (λ l. IsScanned l c.scan_whole.new.fields c.args.text.now) c.items.ensures.items read in
    same-value c.in_ok-moment.moment v (c.in_ok-moment.ensures.every v (held-read c.args.items.now c.scan_whole.new.fields c.args.text.now v scanned c.requires.apart holds e))

pub returns-in-None-clause-value : goal.returns-in-None-clause-value
returns-in-None-clause-value c =
    let read = whole c.items.result.now c.new-fields.result c.scan_whole.new.fields c.args.text.now [] (c.scan_whole.ensures c.if-not-scan_whole.false) refl c.new-fields.ensures.zero in
    let scanned = subst (λ l. IsScanned l c.scan_whole.new.fields c.args.text.now) c.items.ensures.items read in
    let f = c.scan_whole.new.fields in
    let v = c.in_ok-moment.moment in
    let agrees = c.in-None.ensures ∙ ap (λ l. first_contradiction l (fields_of l f) v) c.items-2.ensures.items in
    read-printed c.args.items.now f c.args.text.now v scanned c.in_ok-moment.ensures.value (sym agrees)
