-- The numbers of a text that has the form of a format, in range or not.
use Rattle.std.specs.Prelude.{◌≡◌, ℕ, List, IsTrue}
use Rattle.cal_format.specs.declared.fields.Fields.{Fields}
use Rattle.cal_format.specs.declared.item.Component.{Component}
use Rattle.cal_format.specs.declared.item.Item.{Item}
use Rattle.cal_format.specs.declared.lenient.LenientFormat.{LenientFormat}
use Rattle.cal_format.specs.Form.{HasNumbers}
use Rattle.cal_format.specs.Lenient.{CanRead, HasKnown}
use Rattle.cal_format.specs.Reading.{are_apart}
use Rattle.cal_format.specs.Scanning.{number_at}
use Rattle.cal_format.specs.Values.{number_in}

-- The text has these numbers for the items, and no others.
abbrev pub HasOwnNumbers : List Item → List ℕ → List ℕ → Type 0
HasOwnNumbers items numbers text = IsTrue (are_apart items) × HasNumbers items numbers text

-- The text is a variant with these numbers, and with no others. With a pivot the first one is the
-- century.
abbrev pub HasKnownNumbers : LenientFormat → List ℕ → List ℕ → Type 0
HasKnownNumbers f numbers text = CanRead f × HasKnown f.pivot f.format numbers text

-- Each component has the number of the first item that shows it.
abbrev pub AreFields : List Item → List ℕ → Fields → Type 0
AreFields items numbers f = (c : Component) → number_at c f ≡ number_in items numbers c
