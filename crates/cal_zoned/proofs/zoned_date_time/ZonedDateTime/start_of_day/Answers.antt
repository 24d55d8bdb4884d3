use Rattle.std.proofs.Common.{◌≡◌, ◌∙◌, ap, sym, subst, ℕ}
use Rattle.std.specs.Prelude.{IfSome}
use Rattle.cal_datetime.specs.DateTime.{IsDateTime, date_at}
use Rattle.cal_datetime.specs.OffsetDateTime.{LocalAndOffset, instant}
use Rattle.cal_zoned.specs.Zoned.{InZone}
use Rattle.cal_zoned.proofs.Instants.{seen_itself}
use Rattle.cal_zoned.proofs.Firsts.{day_kept, from_midnight}
use Rattle.cal_zoned.proofs.zoned_date_time.ZonedDateTime.start_of_day.Goals as goal

pub returns-clause-date : goal.returns-clause-date
returns-clause-date c =
    let zone = c.self.inside.zone.now in
    let m = c.self.inside.moment in
    let local : c.local.result ≡ m.local = c.local.ensures.value ∙ ap (λ (v : InZone). v.moment.local) (sym c.self.view_is) in
    let inside : IsDateTime m.local = subst IsDateTime local c.local.ensures.range in
    let day : c.date.result ≡ date_at m.local = c.date.ensures.value ∙ ap date_at local in
    let here : date_at m.local ≡ date_at c.args.self.now.moment.local = ap (λ (v : InZone). date_at v.moment.local) c.self.view_is in
    subst (λ (n : ℕ). IfSome c.start_of_day.result (λ (r : InZone). date_at r.moment.local ≡ n)) (day ∙ here)
    (day_kept zone c.date.result m.local (instant m) c.start_of_day.result c.start_of_day.ensures.start c.start_of_day.ensures.least
    (ap (λ (x : LocalAndOffset). x.local) (seen_itself zone m.local m c.self.invariant)) inside (from_midnight c.date.result m.local inside.not_before (sym day)) (sym day))
