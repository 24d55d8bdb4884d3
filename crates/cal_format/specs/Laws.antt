-- Laws for callers: `%F` is the format of the text of a date.
use Rattle.std.proofs.Common.{◌≡◌, ℕ, List, [], ◌∷◌, length, ap, arith, append_assoc, append-nil}
use Rattle.std.specs.Prelude.{codes}
use Rattle.cal_time.specs.DateText as date
use Rattle.cal_format.specs.declared.item.Item.{Item}
use Rattle.cal_format.specs.declared.item.Item.TheVariants as item
use Rattle.cal_format.specs.declared.item.Component.TheVariants.{Year, Month, Day}
use Rattle.cal_format.specs.declared.item.Padding.TheVariants as padding
use Rattle.cal_format.specs.declared.item.Syntax.TheVariants.{Percent}
use Rattle.cal_format.specs.Directive.{begins_with}
use Rattle.cal_format.specs.Format.{Spells, nothing, more, front}
use Rattle.cal_format.specs.Moment.{moment_of_date}
use Rattle.cal_format.specs.Text.{text_of}

-- The items of an ISO 8601 calendar date.
abbrev pub iso_items : List Item
iso_items = item.Number Year padding.Zero ∷ item.Literal 45 ∷ item.Number Month padding.Zero ∷ item.Literal 45 ∷ item.Number Day padding.Zero ∷ []

-- `%F` spells these items.
pub iso_items-spelled : Spells Percent (codes "%F") iso_items []
unfolding front begins_with
iso_items-spelled = more (codes "%F") [] [] (λ e. absurd (omega (arith, ap length e))) (nothing [])

-- These items print a date as its text.
pub iso_items-text : (n : ℕ) → text_of iso_items (moment_of_date n) ≡ date.text n
iso_items-text n = simp (append_assoc, append-nil)
