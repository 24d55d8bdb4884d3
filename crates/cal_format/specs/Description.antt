-- The components of `time`'s format descriptions: in brackets, a name and modifiers in any order,
-- which white space separates.
use Rattle.std.specs.Prelude.{ℕ, zero, suc, ◌+◌, ◌==◌, ◌&&◌, ◌||◌, Bool, List, [], ◌∷◌, length, drop, get_or, if◌then◌else◌}
use Rattle.cal_format.specs.declared.item.Item.TheVariants as item
use Rattle.cal_format.specs.Components.{Row, years, date_components, time_components}
use Rattle.cal_format.specs.Directive.{Front, front_with, begins_with}

-- ASCII white space.
abbrev pub is_space : ℕ → Bool
is_space b = (b == 32) || ((b == 9) || ((b == 10) || ((b == 12) || (b == 13))))

-- The number of bytes of white space at the front of a text.
unfoldable pub spaces : List ℕ → ℕ
spaces [] = 0
spaces (x ∷ xs) = if is_space x then spaces xs + 1 else 0

-- The length of a word at the front of a text, if white space or a closing bracket comes after it.
-- Otherwise it is 0.
abbrev pub word_length : List ℕ → List ℕ → ℕ
word_length word text =
    let next = get_or text (length word) 0 in
    if begins_with word text && (is_space next || (next == 93)) then length word else 0

-- The same for the first word of a list that is there, or 0.
unfoldable pub any_length : List (List ℕ) → List ℕ → ℕ
any_length [] text = 0
any_length (w ∷ words) text = (let n = word_length w text in if n == 0 then any_length words text else n)

-- The length of at most k of these words and the closing bracket, with the white space before each
-- of them, or 0.
unfoldable pub modifiers_length : ℕ → List (List ℕ) → List ℕ → ℕ
modifiers_length zero words text = (let s = spaces text in if get_or text s 0 == 93 then s + 1 else 0)
modifiers_length (suc k) words text =
    let s = spaces text in
    if get_or text s 0 == 93 then s + 1
    else (let n = any_length words (drop s text) in
    let others = modifiers_length k words (drop (s + n) text) in
    if (n == 0) || (others == 0) then 0 else s + n + others)

-- The length of a component with this name and at most eight of these modifiers, or 0.
abbrev pub component_length : List ℕ → List (List ℕ) → List ℕ → ℕ
component_length name words text =
    let s = spaces text in
    let n = word_length name (drop s text) in
    let others = modifiers_length 8 words (drop (s + n) text) in
    if (n == 0) || (others == 0) then 0 else s + n + others

-- The items of the first row that has the name and all modifiers of the component at the front.
unfoldable pub component_front : List Row → List ℕ → Front
component_front [] text = front_with [] 1
component_front (row ∷ rows) text = (let n = component_length row.0 row.1 text in if n == 0 then component_front rows text else front_with row.2 (n + 1))

-- The first of two fronts that has items, or the second one.
abbrev pub front_or : Front → Front → Front
front_or first second = record {
  items = if length first.items == 0 then second.items else first.items;
  used = if length first.items == 0 then second.used else first.used;
}

abbrev pub other_component_front : List ℕ → Front
other_component_front text = front_or (component_front date_components text) (component_front time_components text)

abbrev pub any_component_front : List ℕ → Front
any_component_front text = front_or (component_front years text) (other_component_front text)

-- The items of a text after an opening bracket: another opening bracket, which is a literal, or a
-- component.
abbrev pub description_front : List ℕ → Front
description_front text = if get_or text 0 0 == 91 then front_with (item.Literal 91 ∷ []) 2 else any_component_front text
