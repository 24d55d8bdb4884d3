-- The texts of errors.
use Rattle.std.specs.Prelude.{ℕ, List, ◌++◌, codes, decimal}
use Rattle.cal_time.specs.ComponentError.{component_name}
use Rattle.cal_format.specs.declared.error.ParseError.{ParseError}
use Rattle.cal_format.specs.declared.error.ParseError.TheVariants.{UnexpectedByte, UnexpectedEnd, OutOfRange, Contradiction}
use Rattle.cal_format.specs.declared.format.FormatError.{FormatError}
use Rattle.cal_format.specs.declared.format.FormatError.TheVariants.{UnknownItem, TooLong}

-- An error of the form prints its position, and the other errors print the component's name.
abbrev pub error_text : ParseError → List ℕ
error_text (UnexpectedByte position) = codes "unexpected byte at " ++ decimal position
error_text (UnexpectedEnd position) = codes "unexpected end at " ++ decimal position
error_text (OutOfRange e) = component_name e.component ++ codes " was not in range"
error_text (Contradiction c) = component_name c ++ codes " contradicts the other components"

-- The error of a text that is not a format prints the position of what spells no item.
abbrev pub format_error_text : FormatError → List ℕ
format_error_text (UnknownItem position) = codes "unknown item at " ++ decimal position
format_error_text TooLong = codes "too many items"
