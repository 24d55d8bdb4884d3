use Rattle.cal_c.proofs.moment.arithmetic.fots_moment_saturating_sub.Goals as goal

pub returns-clause-invalid_moment : goal.returns-clause-invalid_moment
returns-clause-invalid_moment c = λ out. absurd (out c.in-Some.ensures.0)
