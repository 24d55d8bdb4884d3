use Rattle.std.proofs.Common.{◌≡◌, ◌∙◌, ap, subst, arith, SomeIff, ℤ, w64, w32, rules, pos, ◌+ℤ◌, ◌*ℤ◌, FitsSigned}
use Rattle.std.proofs.lemmas.Int.{ints, to_z-of_z}
use Rattle.cal_time.specs.SignedDuration.{second}
use Rattle.cal_datetime.specs.DateTime.{IsDateTime}
use Rattle.cal_datetime.specs.OffsetDateTime.{LocalAndOffset, unix_epoch}
use Rattle.cal_zoned.proofs.Instants.{sum_of}
use Rattle.cal_zoned.proofs.unchecked.local_date_time.Goals as goal

pub returns : goal.returns
returns c =
    let a : c.local.result ≡ unix_epoch = c.local.ensures.value ∙ ap (λ (m : LocalAndOffset). m.local) c.unix_epoch.ensures.value in
    let w : FitsSigned w32 c.whole_seconds.result = search rules in
    let f : c.from.result ≡ c.whole_seconds.result = simp to_z-of_z at c.from.ensures in
    let r : FitsSigned w64 c.from.result = omega (arith, ints, f, w.sfits) in
    let b = c.ranges.seconds in
    let s = simp to_z-of_z at c.in_ok-seconds.ensures in
    let i : FitsSigned w64 c.in_ok-seconds.seconds = rw s.1 s.0 in
    let j = c.ranges.past in
    let n = simp to_z-of_z at c.new.ensures in
    let e : c.local.result +ℤ c.new.result ≡ unix_epoch +ℤ (c.args.seconds +ℤ c.args.offset) *ℤ pos second +ℤ c.args.past =
    sum_of c.local.result c.new.result c.in_ok-seconds.seconds c.args.seconds c.args.offset c.args.past a n (s.1 ∙ ap (λ x. c.args.seconds +ℤ x) (f ∙ c.whole_seconds.ensures.value)) in
    subst (λ (x : ℤ). SomeIff c.checked_add-2.result (IsDateTime x) x) e c.checked_add-2.ensures.value
