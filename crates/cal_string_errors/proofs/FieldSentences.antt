-- The sentence of fields is the sentence of their numbers.
use mathlib.Core.Path.{fun_ext}
use Rattle.std.proofs.Common.{◌≡◌, ◌∙◌, ℕ, List, ap}
use Rattle.std.specs.Prelude.{Option}
use Rattle.cal_format.specs.declared.fields.Fields.{Fields}
use Rattle.cal_format.specs.declared.item.Item.{Item}
use Rattle.cal_format.specs.Numbers.{AreFields}
use Rattle.cal_format.specs.Scanning.{number_at}
use Rattle.cal_format.specs.Values.{number_in}
use Rattle.cal_time.specs.declared.error.Component.{Component}
use Rattle.cal_string_errors.specs.Formats.{sentence_of}

pub of-numbers : (k : Component) (items : List Item) (numbers : List ℕ) (f : Fields) (r : Option (List ℕ)) → AreFields items numbers f → r ≡ sentence_of k items (λ c. number_at c f)
    → r ≡ sentence_of k items (number_in items numbers)
of-numbers k items numbers f r same e = e ∙ ap (sentence_of k items) (fun_ext same)
