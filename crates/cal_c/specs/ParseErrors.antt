-- The result of a string that doesn't parse.
use Rattle.std.specs.Prelude.{ℕ, ℤ}
use Rattle.cal_text.specs.declared.error.ParseError.{ParseError}
use Rattle.cal_text.specs.declared.error.ParseError.TheVariants.{UnexpectedByte, UnexpectedEnd, OutOfRange}
use Rattle.cal_c.specs.declared.status.TheConstants.{UNEXPECTED_BYTE, UNEXPECTED_END}
use Rattle.cal_c.specs.Statuses.{component_status}
use Rattle.cal_c.specs.Texts.{no_position}

-- An error of the form has its position, and an error of a component its status.
abbrev pub of_parse_error : {R : Type 0} → (ℤ → ℕ → R) → ParseError → R
of_parse_error error_at (UnexpectedByte at) = error_at UNEXPECTED_BYTE at
of_parse_error error_at (UnexpectedEnd at) = error_at UNEXPECTED_END at
of_parse_error error_at (OutOfRange why) = error_at (component_status why.component) no_position
