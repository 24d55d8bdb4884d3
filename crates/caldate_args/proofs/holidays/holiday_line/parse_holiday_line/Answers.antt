use Rattle.std.proofs.Common.{sym, subst}
use Rattle.cal_text.specs.DateForms.{IsDateText}
use Rattle.caldate_args.proofs.holidays.holiday_line.parse_holiday_line.Goals as goal

pub returns-in-Err-eq0-clause-error : goal.returns-in-Err-eq0-clause-error
returns-in-Err-eq0-clause-error c =
    let text = c.cut_return-has_return.ensures.text in
    let syntax = rw text at c.in-Err.ensures.syntax_error in (
      record {
        no_date = λ n h. cc (c.in-Err.ensures.every n h.in_range (subst (λ t. IsDateText t n) (sym text) h.text_is));
        result_is = cc c.in-Err-eq0.ensures;
      },
      record {
        syntax = (λ e h. syntax.0 e h.0 h.1, λ none. syntax.1 (λ form h. none (form, h)));
        position = rw text at c.in-Err.ensures.position;
        component = rw text at c.in-Err.ensures.out_of_range;
      },
    )
