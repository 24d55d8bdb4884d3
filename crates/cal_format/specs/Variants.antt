-- The variants of printed texts, which a lenient format reads.
use Rattle.std.specs.Prelude.{◌≡◌, ℕ, ◌+◌, ◌<◌, ◌≤◌, ◌^◌, ◌==◌, ◌&&◌, ◌||◌, not, ◌++◌, Bool, true, false, List, [], ◌∷◌, length, take, replicate, IsTrue, nat_le, nat_lt, if◌then◌else◌}
use Rattle.std.specs.Str.Parse.{AllDigits, digits_value_after}
use Rattle.cal_format.specs.declared.item.Item.{Item}
use Rattle.cal_format.specs.declared.item.Item.TheVariants as item
use Rattle.cal_format.specs.declared.item.Name.{Name}
use Rattle.cal_format.specs.declared.item.Name.TheVariants as name
use Rattle.cal_format.specs.declared.item.Padding.{Padding}
use Rattle.cal_format.specs.declared.item.Padding.TheVariants as padding
use Rattle.cal_format.specs.declared.item.Component.{Component}
use Rattle.cal_format.specs.Description.{is_space}
use Rattle.cal_format.specs.Form.{numbered_name, numbered_item, IsNameNumber, IsNumber}
use Rattle.cal_format.specs.Moment.{width, width_of}
use Rattle.cal_format.specs.Reading.{index}
use Rattle.cal_format.specs.Text.{padded}

-- ---- letters
-- A letter in lower case. Other bytes stay as they are.
abbrev pub lower : ℕ → ℕ
lower b = if nat_le 65 b && nat_le b 90 then b + 32 else b

abbrev pub is_letter : ℕ → Bool
is_letter b = nat_le 97 (lower b) && nat_le (lower b) 122

-- The texts have the same letters, in any case.
unfoldable pub same_letters : List ℕ → List ℕ → Bool
same_letters [] [] = true
same_letters [] (y ∷ ys) = false
same_letters (x ∷ xs) [] = false
same_letters (x ∷ xs) (y ∷ ys) = (lower x == lower y) && same_letters xs ys

-- The text is the name in any case, or its first three letters in any case.
abbrev pub is_name : List ℕ → List ℕ → Bool
is_name name text = same_letters text name || same_letters text (take 3 name)

-- The minimum and the maximum number of a name.
abbrev pub least_name : Name → ℕ
least_name name.Period = 0
least_name name.LowerPeriod = 0
least_name _ = 1

abbrev pub most_name : Name → ℕ
most_name name.Month = 12
most_name name.MonthAlone = 12
most_name name.ShortMonth = 12
most_name name.Weekday = 7
most_name name.ShortWeekday = 7
most_name name.Period = 1
most_name name.LowerPeriod = 1

abbrev pub all_letters : List ℕ → Bool
all_letters [] = true
all_letters (x ∷ xs) = is_letter x && all_letters xs

-- The number of letters at the front of the text.
unfoldable pub letters : List ℕ → ℕ
letters [] = 0
letters (x ∷ xs) = if is_letter x then letters xs + 1 else 0

-- ---- white space
abbrev pub all_spaces : List ℕ → Bool
all_spaces [] = true
all_spaces (x ∷ xs) = is_space x && all_spaces xs

-- One or more bytes of white space.
pub record IsRun (text : List ℕ) : Type 0 where
  pub some : 1 ≤ length text
  pub all : IsTrue (all_spaces text)

-- The item is a byte of white space.
abbrev pub is_white : Item → Bool
is_white (item.Literal b) = is_space b
is_white _ = false

-- The text of a literal. A byte of white space has any run of white space, and nothing if the item
-- before it is white space, too.
abbrev pub IsLiteralVariant : (space after : Bool) → ℕ → List ℕ → Type 0
IsLiteralVariant false after b text = text ≡ b ∷ []
IsLiteralVariant true true b text = text ≡ []
IsLiteralVariant true false b text = IsRun text

-- ---- numbers
-- At most w bytes: digits with the value n, and spaces before them if there may be spaces.
pub record IsNumberVariant (spaces : Bool) (w n : ℕ) (text : List ℕ) : Type 0 where
  pub fill : ℕ
  pub digits : List ℕ
  pub unfilled : spaces ≡ false → fill ≡ 0
  pub all : AllDigits 10 digits
  pub some : 1 ≤ length digits
  pub fit : fill + length digits ≤ w
  pub value : digits_value_after 10 0 digits ≡ n
  pub text_is : text ≡ replicate fill 32 ++ digits

abbrev pub pads_with_spaces : Padding → Bool
pads_with_spaces padding.Space = true
pads_with_spaces _ = false

-- The numbers of a date, and of a time of day down to the second, have any padding. The digits of a
-- fraction, an offset and a Unix time stay as they are printed.
abbrev pub is_free : Component → Bool
is_free c = nat_lt (index c) 18

-- After white space the spaces before a number belong to the white space.
abbrev pub IsNumberText : (free after : Bool) → Component → Padding → ℕ → List ℕ → Type 0
IsNumberText true after c p n text = IsNumberVariant (pads_with_spaces p && not after) (width c) n text
IsNumberText false after c p n text = (n < 10 ^ width_of p c) × (text ≡ padded p (width c) n)

-- ---- items
-- A variant of the printed text of the item with the number n. The item before it is white space if
-- `after` is true.
abbrev pub IsVariant : Bool → Item → ℕ → List ℕ → Type 0
IsVariant after (item.Literal b) n text = (n ≡ 0) × IsLiteralVariant (is_space b) after b text
IsVariant after (item.Number c p) n text = IsNumberText (is_free c) after c p n text
IsVariant after (item.Name k) n text = IsNameNumber k n × IsTrue (is_name (numbered_name k n) text)
IsVariant after i n text = IsNumber i n × (text ≡ numbered_item i n)

-- The item has only the text that it prints.
abbrev pub is_exact : Item → Bool
is_exact (item.Literal b) = not (is_space b)
is_exact (item.Number c p) = not (is_free c)
is_exact (item.Name k) = false
is_exact _ = true

-- The text is one text and then another.
pub record Split (First Next : List ℕ → Type 0) (text : List ℕ) : Type 0 where
  pub front : List ℕ
  pub rest : List ℕ
  pub first : First front
  pub next : Next rest
  pub text_is : text ≡ front ++ rest

-- The text is a variant of what the items print with these numbers, one for each item.
abbrev pub HasVariants : Bool → List Item → List ℕ → List ℕ → Type 0
HasVariants after [] [] text = text ≡ []
HasVariants after [] (n ∷ numbers) text = ⊥
HasVariants after (i ∷ items) [] text = ⊥
HasVariants after (i ∷ items) (n ∷ numbers) text = Split (IsVariant after i n) (HasVariants (is_white i) items numbers) text
