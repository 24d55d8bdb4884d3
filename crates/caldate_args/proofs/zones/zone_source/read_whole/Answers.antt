use Rattle.std.proofs.Common.{◌≡◌, ◌-◌, ◌≤◌, ℕ, List, Option, length, rules, sym, subst, take}
use Rattle.std.proofs.KnownBytes.{Consumes-trans}
use Rattle.std.specs.Io.KnownBytes.{Consumes}
use Rattle.caldate_lines.specs.Outputs.{HasRead}
use Rattle.caldate_lines.proofs.Known.{given_more}
use Rattle.caldate_args.proofs.zones.zone_source.read_whole.Goals as goal

more : (a b c : Option (List ℕ)) (old new : List ℕ) → Consumes a b old → HasRead b c old new → Consumes a c new
more a b c old new before read = subst (Consumes a c) (sym read.2) (Consumes-trans a b c old read.0 before read.1)

same : (a b : Option (List ℕ)) (bytes : List ℕ) (n m : ℕ) → n ≡ m → Consumes a b (take n bytes) → Consumes a b (take m bytes)
same a b bytes n m e read = subst (λ k. Consumes a b (take k bytes)) e read

pub loop-filled-preserved : goal.loop-filled-preserved
loop-filled-preserved g c =
    let filled = c.loop-filled.filled in
    let room : filled ≤ length c.loop-filled.buffer = search rules in
    let bound = c.in-Ok.ensures.bound.0 in
    let read = given_more _ _ filled (length c.loop-filled.buffer - filled) c.in-Ok.count c.loop-filled.buffer c.read_some.new.buffer room bound c.in-Ok.ensures.bytes.0 in
    (search rules, more _ _ _ _ _ c.loop-filled.invariant.1 read)

pub returns-clause-full : goal.returns-clause-full
returns-clause-full g c = λ _. same _ _ _ c.loop-filled.filled _ (search rules) c.loop-filled.invariant.1
