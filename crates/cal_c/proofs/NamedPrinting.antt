-- How long the texts of formats with names are: each item prints at most 127 bytes.
use Rattle.std.proofs.Common.{◌≡◌, ℕ, ◌*◌, ◌-◌, ◌≤◌, List, [], ◌∷◌, get_or, length, lit≤, subst, sym, arith, inl, inr, length-append}
use Rattle.std.proofs.lemmas.Bool.{cases_lt}
use Rattle.std.proofs.lemmas.List.{get_or_past}
use Rattle.std.proofs.lemmas.List.Elements.{All-get_or}
use Rattle.std.specs.Prelude.{All}
use Rattle.cal_format.specs.declared.item.Item.{Item}
use Rattle.cal_format.specs.declared.item.Item.TheVariants as item
use Rattle.cal_format.specs.declared.item.Name.{Name}
use Rattle.cal_format.specs.declared.item.Name.TheVariants as name
use Rattle.cal_format.specs.declared.moment.Moment.{Moment}
use Rattle.cal_format.specs.Moment.{IsMoment, number}
use Rattle.cal_format.specs.Reading.{name_component}
use Rattle.cal_format.specs.Text.{item_text}
use Rattle.cal_format.proofs.Lengths.{text-short}
use Rattle.cal_names.specs.Apart.{texts}
use Rattle.cal_names.specs.declared.names.Names.{Names}
use Rattle.cal_named_format.specs.Named.{first_number, item_text_in, table_of, text_in}
use Rattle.cal_c.specs.NamedFormats.{AreNames, HasNames, IsName}
use Rattle.cal_c.specs.declared.formats.named.names_parts.NamesParts.{NamesParts}

name-short : (xs ys : List (List ℕ)) (n : ℕ) → All IsName xs → xs ≡ ys → length (get_or ys n []) ≤ 127
name-short xs ys n all same =
    let here : length (get_or xs n []) ≤ 127 = elim (cases_lt n (length xs)) as (λ _. length (get_or xs n []) ≤ 127) [
      | inl lt ↦ (All-get_or IsName xs n [] lt all).1
      | inr past ↦ subst (λ x. length x ≤ 127) (sym (get_or_past xs n [] past)) (lit≤ tt)
    ] in
    subst (λ zs. length (get_or zs n []) ≤ 127) same here

table-short : (p : NamesParts) (t : Names) (k : Name) (n : ℕ) → AreNames p → HasNames p t → length (get_or (table_of t k) n []) ≤ 127
table-short p t name.Month n are has = name-short (texts p.months) (texts t.months) n are.months has.months
table-short p t name.MonthAlone n are has = name-short (texts p.months_alone) (texts t.months_alone) n are.months_alone has.months_alone
table-short p t name.ShortMonth n are has = name-short (texts p.short_months) (texts t.short_months) n are.short_months has.short_months
table-short p t name.Weekday n are has = name-short (texts p.weekdays) (texts t.weekdays) n are.weekdays has.weekdays
table-short p t name.ShortWeekday n are has = name-short (texts p.short_weekdays) (texts t.short_weekdays) n are.short_weekdays has.short_weekdays
table-short p t name.Period n are has = name-short (texts p.periods) (texts t.periods) n are.periods has.periods
table-short p t name.LowerPeriod n are has = name-short (texts p.lower_periods) (texts t.lower_periods) n are.lower_periods has.lower_periods

other-short : (i : Item) (v : Moment) → IsMoment v → length (item_text [] v i) ≤ 127
other-short i v h = omega (arith, text-short (i ∷ []) v h, length-append (item_text [] v i) [])

item-short : (p : NamesParts) (t : Names) (i : Item) (v : Moment) → AreNames p → HasNames p t → IsMoment v → length (item_text_in t v i) ≤ 127
item-short p t (item.Name k) v are has h = table-short p t k (number (name_component k) v - first_number k) are has
item-short p t (item.Literal b) v are has h = other-short (item.Literal b) v h
item-short p t (item.Number c q) v are has h = other-short (item.Number c q) v h
item-short p t (item.Signed c q) v are has h = other-short (item.Signed c q) v h
item-short p t item.Fraction v are has h = other-short item.Fraction v h
item-short p t item.Decimals v are has h = other-short item.Decimals v h
item-short p t item.OffsetSign v are has h = other-short item.OffsetSign v h
item-short p t item.OffsetMinus v are has h = other-short item.OffsetMinus v h
item-short p t item.TimestampSign v are has h = other-short item.TimestampSign v h
item-short p t item.TimestampMinus v are has h = other-short item.TimestampMinus v h
item-short p t item.Abbreviation v are has h = other-short item.Abbreviation v h

pub named_text-short : (p : NamesParts) (t : Names) (items : List Item) (v : Moment) → AreNames p → HasNames p t → IsMoment v → length (text_in t items v) ≤ 127 * length items
named_text-short p t [] v are has h = lit≤ tt
named_text-short p t (i ∷ items) v are has h =
    omega (arith, length-append (item_text_in t v i) (text_in t items v), item-short p t i v are has h, named_text-short p t items v are has h)
