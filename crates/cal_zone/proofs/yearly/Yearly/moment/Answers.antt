use Rattle.std.proofs.Common.{◌≡◌, ap, arith, w32, ◌∙◌}
use Rattle.std.proofs.lemmas.Int.{ints, to_z-of_z}
use Rattle.cal_zone.specs.Rule.{day_of}
use Rattle.cal_zone.proofs.yearly.Yearly.moment.Goals as goal

pub returns : goal.returns
returns c =
    let r = c.args.self.now in
    let day : c.day_in.result ≡ day_of r c.args.year = c.day_in.ensures.day ∙ ap (day_of r) (to_z-of_z w32 c.args.year c.ranges.year) in
    record {
      value = omega (arith, ints, day, c.midnight.ensures.value, c.day_in.ensures.range, c.requires.yearly.time.0, c.requires.yearly.time.1, c.requires.before.0, c.requires.before.1, c.from.ensures, c.from-2.ensures);
    }
