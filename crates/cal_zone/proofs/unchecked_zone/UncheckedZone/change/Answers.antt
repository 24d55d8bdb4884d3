use Rattle.std.proofs.Common.{ap, ◌∙◌, sym, arith}
use Rattle.std.proofs.lemmas.List.{get_or-append_right}
use Rattle.std.specs.List.{slice_index_or}
use Rattle.cal_zone.specs.Timeline.{Timeline, no_change}
use Rattle.cal_zone.specs.Zone.{later}
use Rattle.cal_zone.proofs.Joins.{item_left}
use Rattle.cal_zone.proofs.unchecked_zone.UncheckedZone.change.Goals as goal

pub returns-then-index-count : goal.returns-then-index-count
returns-then-index-count c =
    let t = c.self.inside.table in
    let ys = later c.self.inside.rule c.self.inside.skip in
    c.change.ensures.value ∙ (sym (item_left t ys c.args.index (omega (arith, c.len-count.ensures.len))))
    ∙ ap (λ (z : Timeline). slice_index_or z.changes c.args.index no_change) c.self.view_is

pub returns : goal.returns
returns c =
    let t = c.self.inside.table in
    let ys = later c.self.inside.rule c.self.inside.skip in
    c.later_change.ensures ∙ (sym (get_or-append_right t ys c.len-count.result c.args.index no_change (sym c.len-count.ensures.len) (omega arith)))
    ∙ ap (λ (z : Timeline). slice_index_or z.changes c.args.index no_change) c.self.view_is
