-- A date or a moment is moved to one moment.
use Rattle.std.proofs.Common.{◌≡◌, ℤ, pos, sym, ap, ◌∙◌, arith}
use Rattle.std.proofs.lemmas.Int.{ints}
use Rattle.cal_datetime.specs.DateTime.{date_time}
use Rattle.cal_datetime.specs.OffsetDateTime.{LocalAndOffset}
use Rattle.cal_text.specs.declared.any.DateOrMoment.{DateOrMoment}
use Rattle.cal_text.specs.declared.any.DateOrMoment.TheVariants.{Date, Moment}
use Rattle.caldate_answers.specs.Answers.{IsLater}

pub one_later : (found : DateOrMoment) (d : ℤ) (m k : LocalAndOffset) → IsLater found d m → IsLater found d k → m ≡ k
one_later (Date form from) d m k h i =
    let same : h.day ≡ i.day = omega (arith, ints, h.moved, i.moved) in
    h.midnight ∙ ap (λ day. record { local = date_time day 0; offset = pos 0 }) same ∙ sym i.midnight
one_later (Moment form from) d m k h i = h.moved ∙ sym i.moved
