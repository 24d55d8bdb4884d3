use Rattle.std.proofs.Common.{◌≡◌, ◌∙◌, ap, arith, rules, ◌+ℤ◌}
use Rattle.std.proofs.lemmas.Int.{ints}
use Rattle.cal_datetime.specs.DateTime.{clamped_date_time}
use Rattle.cal_datetime.specs.OffsetDateTime.{instant, local_at, unix_seconds}
use Rattle.cal_zone.specs.Timeline.{offset_at}
use Rattle.caldate_args.proofs.args.clock_words.moment_in.Goals as goal

pub returns : goal.returns
unfolding instant
returns c =
    let m = c.args.moment in
    let offset : c.utc_offset_at-offset.result ≡ offset_at c.args.zone.now (unix_seconds (instant m)) = search rules in
    let sum : (c.local.result +ℤ c.seconds-seconds.result) ≡ local_at (instant m) c.utc_offset_at-offset.result = omega (arith, ints) in
    let clamped = c.saturating_add.ensures ∙ ap clamped_date_time (sum ∙ ap (local_at (instant m)) offset) in
    c.assume_offset.ensures.value ∙ (λ i. record { local = clamped i; offset = offset i })
