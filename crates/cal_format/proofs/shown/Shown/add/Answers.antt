use Rattle.std.proofs.Common.{max, min, sym, ap, ◌∙◌}
use Rattle.std.specs.Prelude.{◌&&◌}
use Rattle.cal_format.specs.declared.item.Component.{Component}
use Rattle.cal_format.specs.declared.shown.Shown.{Shown}
use Rattle.cal_format.specs.Shown.{low_of}
use Rattle.cal_format.specs.Reading.{mark_of}
use Rattle.cal_format.proofs.Marks.{added, marked-none, marked-some}
use Rattle.cal_format.proofs.shown.Shown.add.Goals as goal

pub returns-in-Some : goal.returns-in-Some
returns-in-Some c =
    let old = c.args.self.now in
    let new : Shown = record { marks = c.set.new.marks; low = c.min-self.result; end = c.max-self.result; is_fixed = old.is_fixed && c.is_fixed.result } in
    let marks = λ (k : Component). c.set.ensures k ∙ marked-some k c.in-Some.component c.args.item (mark_of k old.marks) (sym c.requires ∙ c.in-Some.is) in
    record {
      shown = λ items are. added items c.args.item old new are marks (ap (λ b. old.is_fixed && b) c.is_fixed.ensures)
          (c.min-self.ensures ∙ ap (min old.low) (c.low_of.ensures ∙ ap low_of c.requires)) (c.max-self.ensures ∙ ap (max old.end) c.end_of.ensures);
      marks = marks;
    }

pub returns-in_default : goal.returns-in_default
returns-in_default c =
    let old = c.args.self.now in
    let new : Shown = record { marks = old.marks; low = c.min-self.result; end = c.max-self.result; is_fixed = old.is_fixed && c.is_fixed.result } in
    let marks = λ (k : Component). marked-none k c.args.item (mark_of k old.marks) (sym c.requires ∙ c.in_default.is) in
    record {
      shown = λ items are. added items c.args.item old new are marks (ap (λ b. old.is_fixed && b) c.is_fixed.ensures)
          (c.min-self.ensures ∙ ap (min old.low) (c.low_of.ensures ∙ ap low_of c.requires)) (c.max-self.ensures ∙ ap (max old.end) c.end_of.ensures);
      marks = marks;
    }
