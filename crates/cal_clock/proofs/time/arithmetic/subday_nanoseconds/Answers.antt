use Rattle.std.proofs.Common.{◌≡◌, FitsSigned, sym, subst, ◌∙◌, rules}
use Rattle.std.specs.Int.{w32, w64}
use Rattle.std.proofs.lemmas.Int.{to_z-of_z}
use Rattle.cal_span.specs.SignedDuration.{subsec_nanoseconds}
use Rattle.cal_clock.specs.Time.{IsSubdayPart}
use Rattle.cal_clock.proofs.Days.{rest-of, computed-rest}
use Rattle.cal_clock.proofs.time.arithmetic.subday_nanoseconds.Goals as goal

pub overflow_add-result : goal.overflow_add-result
overflow_add-result c =
    let small : FitsSigned w32 c.subsec_nanoseconds.result = search rules in
    let from = simp to_z-of_z at c.from.ensures in
    let past : c.from.result ≡ subsec_nanoseconds c.args.duration = from ∙ c.subsec_nanoseconds.ensures in
    let h = rest-of c.args.duration c.whole_seconds-seconds.result c.from.result c.whole_seconds-seconds.ensures past in
    let s : FitsSigned w64 c.whole_seconds-seconds.result = search rules in
    let n : FitsSigned w64 c.from.result = search rules in
    let rem = h.rem_fits in
    let product = h.product_fits in
    simp to_z-of_z h.rest_fits

pub returns : goal.returns
returns c =
    let small : FitsSigned w32 c.subsec_nanoseconds.result = search rules in
    let from = simp to_z-of_z at c.from.ensures in
    let past : c.from.result ≡ subsec_nanoseconds c.args.duration = from ∙ c.subsec_nanoseconds.ensures in
    let h = rest-of c.args.duration c.whole_seconds-seconds.result c.from.result c.whole_seconds-seconds.ensures past in
    let s : FitsSigned w64 c.whole_seconds-seconds.result = search rules in
    let n : FitsSigned w64 c.from.result = search rules in
    subst (IsSubdayPart c.args.duration) (sym (computed-rest c.args.duration c.whole_seconds-seconds.result c.from.result s n h)) h.past
