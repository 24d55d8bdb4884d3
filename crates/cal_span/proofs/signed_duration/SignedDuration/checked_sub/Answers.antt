use Rattle.std.proofs.Common.{◌≡◌, ◌∙◌, sym, to_z, pos, ◌+ℤ◌, ◌-ℤ◌, ◌*ℤ◌, ◌<ℤ◌, FitsSigned, of_z, ap, rules}
use Rattle.std.specs.Int.{w32, w64}
use Rattle.std.proofs.lemmas.Int.{to_z-of_z}
use Rattle.cal_span.specs.SignedDuration.{second}
use Rattle.cal_span.proofs.Carry.{is-below, is-not-below, CanCarry-difference, difference-fits, borrowed, difference-fields, sub-fits-apart, sub-fits-over, sub-overflow, exact-along}
use Rattle.cal_span.proofs.signed_duration.SignedDuration.checked_sub.Goals as goal
use Rattle.cal_span.proofs.signed_duration.SignedDuration.checked_sub.Goals.{then-self-eq0+else-nanoseconds-lt0, else-self-eq0}

pub overflow_sub-nanoseconds : goal.overflow_sub-nanoseconds
overflow_sub-nanoseconds c =
    let m : FitsSigned w32 c.self.inside.nanoseconds = search rules in
    let n : FitsSigned w32 c.rhs.inside.nanoseconds = search rules in
    simp to_z-of_z (difference-fits c.self.inside c.rhs.inside c.self.invariant c.rhs.invariant)

pub invariant_of-result : goal.invariant_of-result
invariant_of-result c =
    let a : FitsSigned w64 c.self.inside.seconds = search rules in
    let b : FitsSigned w64 c.rhs.inside.seconds = search rules in
    let m : FitsSigned w32 c.self.inside.nanoseconds = search rules in
    let n : FitsSigned w32 c.rhs.inside.nanoseconds = search rules in
    let mn : FitsSigned w32 (c.self.inside.nanoseconds -ℤ c.rhs.inside.nanoseconds) = difference-fits c.self.inside c.rhs.inside c.self.invariant c.rhs.invariant in
    let zero : c.self.inside.seconds ≡ pos 0 = sym (to_z-of_z w64 c.self.inside.seconds a) ∙ ap (to_z w64) c.if-self-eq0.true in
    let below : (c.self.inside.nanoseconds -ℤ c.rhs.inside.nanoseconds) <ℤ pos 0 = is-below _ (simp to_z-of_z at c.if-nanoseconds-lt0.true) in
    let least = sub-overflow c.self.inside.seconds c.rhs.inside.seconds b zero (simp to_z-of_z at c.in-None.ensures) in
    let moved = borrowed c.self.inside c.rhs.inside c.args.self c.args.rhs c.self.invariant c.rhs.invariant c.self.view_is c.rhs.view_is zero least below in
    let past = moved.fits in
    simp to_z-of_z moved.normal

pub checked_new-requires : goal.checked_new-requires
checked_new-requires c =
    let can = CanCarry-difference c.self.inside c.rhs.inside c.self.invariant c.rhs.invariant in
    let a : FitsSigned w64 c.self.inside.seconds = search rules in
    let b : FitsSigned w64 c.rhs.inside.seconds = search rules in
    let m : FitsSigned w32 c.self.inside.nanoseconds = search rules in
    let n : FitsSigned w32 c.rhs.inside.nanoseconds = search rules in
    let mn : FitsSigned w32 (c.self.inside.nanoseconds -ℤ c.rhs.inside.nanoseconds) = difference-fits c.self.inside c.rhs.inside c.self.invariant c.rhs.invariant in
    let s : FitsSigned w64 c.in-Some.seconds = search rules in
    let k = simp to_z-of_z at c.in-Some.ensures in
    simp to_z-of_z (rw k.1 can)

pub returns-in-Some : goal.returns-in-Some
returns-in-Some c =
    let can = CanCarry-difference c.self.inside c.rhs.inside c.self.invariant c.rhs.invariant in
    let a : FitsSigned w64 c.self.inside.seconds = search rules in
    let b : FitsSigned w64 c.rhs.inside.seconds = search rules in
    let m : FitsSigned w32 c.self.inside.nanoseconds = search rules in
    let n : FitsSigned w32 c.rhs.inside.nanoseconds = search rules in
    let mn : FitsSigned w32 (c.self.inside.nanoseconds -ℤ c.rhs.inside.nanoseconds) = difference-fits c.self.inside c.rhs.inside c.self.invariant c.rhs.invariant in
    let s : FitsSigned w64 c.in-Some.seconds = search rules in
    let k = simp to_z-of_z at c.in-Some.ensures in
    exact-along c.checked_new.result (c.in-Some.seconds *ℤ pos second +ℤ (c.self.inside.nanoseconds -ℤ c.rhs.inside.nanoseconds)) (c.args.self -ℤ c.args.rhs) (rw k.1 (difference-fields c.self.inside c.rhs.inside c.args.self c.args.rhs c.self.view_is c.rhs.view_is)) (simp to_z-of_z at c.checked_new.ensures)

pub returns-in-None : goal.returns-in-None
returns-in-None c =
    let a : FitsSigned w64 c.self.inside.seconds = search rules in
    let b : FitsSigned w64 c.rhs.inside.seconds = search rules in
    let m : FitsSigned w32 c.self.inside.nanoseconds = search rules in
    let n : FitsSigned w32 c.rhs.inside.nanoseconds = search rules in
    let mn : FitsSigned w32 (c.self.inside.nanoseconds -ℤ c.rhs.inside.nanoseconds) = difference-fits c.self.inside c.rhs.inside c.self.invariant c.rhs.invariant in
    let zero : c.self.inside.seconds ≡ pos 0 = sym (to_z-of_z w64 c.self.inside.seconds a) ∙ ap (to_z w64) c.if-self-eq0.true in
    let below : (c.self.inside.nanoseconds -ℤ c.rhs.inside.nanoseconds) <ℤ pos 0 = is-below _ (simp to_z-of_z at c.if-nanoseconds-lt0.true) in
    let least = sub-overflow c.self.inside.seconds c.rhs.inside.seconds b zero (simp to_z-of_z at c.in-None.ensures) in
    let moved = borrowed c.self.inside c.rhs.inside c.args.self c.args.rhs c.self.invariant c.rhs.invariant c.self.view_is c.rhs.view_is zero least below in
    let past = moved.fits in
    (moved.duration, simp to_z-of_z moved.whole)

pub returns-in-None-2 : goal.returns-in-None-2
returns-in-None-2 c = λ d.
    let a : FitsSigned w64 c.self.inside.seconds = search rules in
    let b : FitsSigned w64 c.rhs.inside.seconds = search rules in
    let m : FitsSigned w32 c.self.inside.nanoseconds = search rules in
    let n : FitsSigned w32 c.rhs.inside.nanoseconds = search rules in
    let mn : FitsSigned w32 (c.self.inside.nanoseconds -ℤ c.rhs.inside.nanoseconds) = difference-fits c.self.inside c.rhs.inside c.self.invariant c.rhs.invariant in
    let h = simp to_z-of_z at c.in-None.ensures in
    elim c.if-self-eq0.branch [
      | then-self-eq0+else-nanoseconds-lt0 w ↦
          let over = simp to_z-of_z at w.if-nanoseconds-lt0.false in
          h (sub-fits-over c.self.inside c.rhs.inside c.args.self c.args.rhs c.self.invariant c.rhs.invariant a b c.self.view_is c.rhs.view_is d (is-not-below _ over))
      | else-self-eq0 w ↦
          h (sub-fits-apart c.self.inside c.rhs.inside c.args.self c.args.rhs c.self.invariant c.rhs.invariant a b c.self.view_is c.rhs.view_is d (λ e. w.if-self-eq0.false (ap (of_z w64) e)))
    ]
