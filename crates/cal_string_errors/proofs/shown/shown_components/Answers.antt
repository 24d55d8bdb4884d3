use Rattle.std.proofs.Common.{refl}
use Rattle.std.proofs.lemmas.Option.{none-some}
use Rattle.cal_string_errors.proofs.Nothing.{nothing-shown}
use Rattle.cal_string_errors.proofs.shown.shown_components.Goals as goal

pub returns-in-None-clause-none : goal.returns-in-None-clause-none
returns-in-None-clause-none c e =
    nothing-shown c.args.text.now (c.in_default.ensures.none refl) (c.in_default-shown_time.ensures.none refl) (λ o h. none-some o (c.in_default-parse_numbers.ensures.every o h))
    (c.in_default-shown_plain.ensures.none refl) (c.in_default-shown_moment.ensures.none refl) (λ m h. none-some m (c.in-None.ensures.every m h))
