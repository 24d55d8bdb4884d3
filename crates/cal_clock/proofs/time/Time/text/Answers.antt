use Rattle.std.proofs.Common.{◌≡◌, sym, subst, rules}
use Rattle.std.specs.Str.{IsAscii}
use Rattle.cal_units.specs.Digits.{decimals}
use Rattle.cal_clock.specs.Time.{text}
use Rattle.cal_clock.proofs.Text.{text-ascii}
use Rattle.cal_clock.proofs.time.Time.text.Goals as goal

pub returns-clause-ascii : goal.returns-clause-ascii
returns-clause-ascii c =
    let t = c.args.self in
    let last = subst (λ n. IsAscii (decimals n)) c.nanosecond.ensures c.push_decimals.ensures.ascii in
    let same : c.push_decimals.new.self ≡ text t = search rules in
    subst IsAscii (sym same) (text-ascii t c.hour.ensures.in_range.below_day last)
