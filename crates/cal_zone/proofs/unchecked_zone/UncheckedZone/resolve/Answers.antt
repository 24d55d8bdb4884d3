use Rattle.std.proofs.Common.{◌∙◌, refl, arith, rules, w64, inl, inr}
use Rattle.std.proofs.lemmas.Int.{ints, to_z-of_z}
use Rattle.cal_zone.proofs.Joins.{moment_is, offset_is, offset_shown}
use Rattle.cal_zone.proofs.Moments.{single, gap, fold, in_order, in_range, gap_is, shown}
use Rattle.cal_zone.proofs.unchecked_zone.UncheckedZone.resolve.Goals as goal

pub returns-in_err-utc_offset-in-Gap-clause-none : goal.returns-in_err-utc_offset-in-Gap-clause-none
returns-in_err-utc_offset-in-Gap-clause-none c =
    rw c.from_residual-in_err-utc_offset-in-Gap.ensures
    (λ order. c.in_err-utc_offset-in-Gap.ensures (offset_shown _ _ refl (c.in-Gap.ensures.explained order).offsets.0))

pub returns-in_err-utc_offset-in-Gap-2-clause-none : goal.returns-in_err-utc_offset-in-Gap-2-clause-none
returns-in_err-utc_offset-in-Gap-2-clause-none c =
    rw c.from_residual-in_err-utc_offset-in-Gap-2.ensures
    (λ order. c.in_err-utc_offset-in-Gap-2.ensures (offset_shown _ _ refl (c.in-Gap.ensures.explained order).offsets.1))

pub returns-in_err-shown_at-in-Single-clause-none : goal.returns-in_err-shown_at-in-Single-clause-none
returns-in_err-shown_at-in-Single-clause-none c =
    rw c.from_residual.ensures
    (λ order. c.in_err-shown_at-in-Single.ensures
    (in_range c.args.self.now order _ _ _ ((c.in-Single.ensures.set order _).0 refl) (to_z-of_z w64 c.in-Single.instant (search rules))))

pub returns-in_err-shown_at-in-Fold-clause-none : goal.returns-in_err-shown_at-in-Fold-clause-none
returns-in_err-shown_at-in-Fold-clause-none c =
    rw c.from_residual-in_err-shown_at-in-Fold.ensures
    (λ order. c.in_err-shown_at-in-Fold.ensures
    (in_range c.args.self.now order _ _ _ ((c.in-Fold.ensures.set order _).0 (inl refl)) (to_z-of_z w64 c.in-Fold.earlier (search rules))))

pub returns-in_err-shown_at-in-Fold-2-clause-none : goal.returns-in_err-shown_at-in-Fold-2-clause-none
returns-in_err-shown_at-in-Fold-2-clause-none c =
    rw c.from_residual-in_err-shown_at-in-Fold-2.ensures
    (λ order. c.in_err-shown_at-in-Fold-2.ensures
    (in_range c.args.self.now order _ _ _ ((c.in-Fold.ensures.set order _).0 (inr refl)) (to_z-of_z w64 c.in-Fold.later (search rules))))

pub returns-in_ok-shown_at-in-Single-clause-some : goal.returns-in_ok-shown_at-in-Single-clause-some
returns-in_ok-shown_at-in-Single-clause-some c = λ order. record {
  set =
      let set = c.in-Single.ensures.set order in
      let same = to_z-of_z w64 c.in-Single.instant (search rules) in
      single c.args.self.now c.args.reading _ _ _ _ (to_z-of_z w64 c.reading_seconds-seconds.result (omega (arith, ints)) ∙ c.reading_seconds-seconds.ensures.value) set
      (shown c.args.self.now c.args.reading _ _ _ _ ((set _).0 refl) same c.in_ok-shown_at-in-Single.ensures.1) same;
  explained = tt;
}

pub returns-in_ok-utc_offset-in-Gap-2-clause-some : goal.returns-in_ok-utc_offset-in-Gap-2-clause-some
returns-in_ok-utc_offset-in-Gap-2-clause-some c = λ order.
    let is = c.in-Gap.ensures.explained order in
    let seconds = to_z-of_z w64 c.reading_seconds-seconds.result (omega (arith, ints)) ∙ c.reading_seconds-seconds.ensures.value in
    record {
      set = gap c.args.self.now c.args.reading _ seconds (c.in-Gap.ensures.set order);
      explained = (
        refl,
        gap_is c.args.self.now _ _ _ _ _ _ _ _ seconds (moment_is _ _ refl is.moment)
            (c.in_ok-utc_offset-in-Gap.ensures.1 ∙ offset_is _ _ refl is.offsets.0) (c.in_ok-utc_offset-in-Gap-2.ensures.1 ∙ offset_is _ _ refl is.offsets.1) is,
      );
    }

pub returns-in_ok-shown_at-in-Fold-2-clause-some : goal.returns-in_ok-shown_at-in-Fold-2-clause-some
returns-in_ok-shown_at-in-Fold-2-clause-some c = λ order.
    let set = c.in-Fold.ensures.set order in
    let first = to_z-of_z w64 c.in-Fold.earlier (search rules) in
    let second = to_z-of_z w64 c.in-Fold.later (search rules) in
    let earlier = shown c.args.self.now c.args.reading _ _ _ _ ((set _).0 (inl refl)) first c.in_ok-shown_at-in-Fold.ensures.1 in
    let later = shown c.args.self.now c.args.reading _ _ _ _ ((set _).0 (inr refl)) second c.in_ok-shown_at-in-Fold-2.ensures.1 in
    record {
      set = fold c.args.self.now c.args.reading _ _ _ _ _ _ _ (to_z-of_z w64 c.reading_seconds-seconds.result (omega (arith, ints)) ∙ c.reading_seconds-seconds.ensures.value) set earlier first later second;
      explained = in_order c.args.self.now c.args.reading _ _ _ _ _ _ _ set (c.in-Fold.ensures.explained order) earlier first later second;
    }
