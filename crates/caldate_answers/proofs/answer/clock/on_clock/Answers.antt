use Rattle.std.proofs.Common.{Err, ap, subst, sym, ◌∙◌}
use Rattle.std.specs.Prelude.{ℤ}
use Rattle.cal_zone.specs.Local.{IsLocalOf}
use Rattle.caldate_answers.specs.Clocks.{IsOnClock, placed_as}
use Rattle.caldate_answers.proofs.OneMoment.{one_moment}
use Rattle.caldate_answers.proofs.answer.clock.on_clock.Goals as goal

pub returns-in-Ok-clause-one : goal.returns-in-Ok-clause-one
returns-in-Ok-clause-one c = λ r h.
    let clock = c.args.clock.now in
    let found : IsLocalOf clock.zone c.local.result c.resolve.result = record { set = c.resolve.ensures.set; explained = c.resolve.ensures.explained } in
    let own : IsOnClock clock c.args.form c.args.moment.local _ = record {
      local = c.resolve.result;
      is = subst (λ (z : ℤ). IsLocalOf clock.zone z c.resolve.result) c.local.ensures.value found;
      placed = ap (placed_as c.args.form) (sym c.in-Ok.is ∙ c.select.ensures);
    } in
    one_moment clock c.args.form c.args.moment.local _ r c.one_local.ensures own h

pub returns-in-Err-clause-one : goal.returns-in-Err-clause-one
returns-in-Err-clause-one c = λ r h.
    let clock = c.args.clock.now in
    let found : IsLocalOf clock.zone c.local.result c.resolve.result = record { set = c.resolve.ensures.set; explained = c.resolve.ensures.explained } in
    let own : IsOnClock clock c.args.form c.args.moment.local _ = record {
      local = c.resolve.result;
      is = subst (λ (z : ℤ). IsLocalOf clock.zone z c.resolve.result) c.local.ensures.value found;
      placed = ap Err c.why_none.ensures ∙ ap (placed_as c.args.form) (sym c.in-Err.is ∙ c.select.ensures);
    } in
    one_moment clock c.args.form c.args.moment.local _ r c.one_local.ensures own h
