-- The text of an error.
use Rattle.std.specs.Prelude.{ℕ, List, ◌++◌, codes, decimal}
use Rattle.cal_time.specs.ComponentError.{component_name}
use Rattle.cal_text.specs.declared.error.ParseError.{ParseError}
use Rattle.cal_text.specs.declared.error.ParseError.TheVariants.{UnexpectedByte, UnexpectedEnd, OutOfRange}

-- An error of the form prints its position, and an error of a component the component's name.
abbrev pub error_text : ParseError → List ℕ
error_text (UnexpectedByte position) = codes "unexpected byte at " ++ decimal position
error_text (UnexpectedEnd position) = codes "unexpected end at " ++ decimal position
error_text (OutOfRange e) = component_name e.component ++ codes " was not in range"
