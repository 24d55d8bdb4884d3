-- Which sentence a call returns for a status.
use Rattle.std.specs.Prelude.{◌≡◌, ℕ, ◌-◌, ℤ, pos, Bool, not, ◌&&◌, ◌⊎◌, List, ◌++◌, codes, length, replicate, Option, Some, None, slice_get, if◌then◌else◌}
use Rattle.cal_errors.specs.Sentences.{position_text}
use Rattle.cal_errors.specs.Statuses.{sentence, with_position}
use Rattle.cal_format.specs.Lenient.{lacks_century}
use Rattle.cal_format.specs.Reading.{any_shows}
use Rattle.cal_format.specs.declared.item.Component.TheVariants as shown
use Rattle.cal_format.specs.declared.item.Item.{Item}
use Rattle.cal_recurrence.specs.FaultText.{reason_text}
use Rattle.cal_recurrence.specs.declared.fault.ParseRuleErrorKind.{ParseRuleErrorKind}
use Rattle.cal_recurrence.specs.declared.fault.ParseRuleErrorKind.TheVariants.{Twice, TooMany, Value}
use Rattle.cal_string_errors.specs.Formats.{IsFormatSentence, IsLenientSentence}
use Rattle.cal_time.specs.declared.error.Component.{Component}
use Rattle.cal_c.specs.LenientParsing.{lenient_of}
use Rattle.cal_c.specs.RecurrenceTexts.{part_number}
use Rattle.cal_c.specs.Statuses.{component_status}
use Rattle.cal_c.specs.declared.errors.ErrorText.{ErrorText}
use Rattle.cal_c.specs.declared.status.TheConstants.{CONTRADICTION, DUPLICATE_PART, INSUFFICIENT_FORMAT, INVALID_VALUE, TOO_MANY_VALUES, UNEXPECTED_BYTE}

-- A sentence, filled with zeros up to 220 bytes.
abbrev pub error_text : List ℕ → ErrorText
error_text text = record { length = length text; bytes = text ++ replicate (220 - length text) 0 }

-- The sentence of a component with its range, or the sentence of its status.
abbrev pub component_text : ℤ → Option (List ℕ) → List ℕ
component_text s None = sentence s
component_text s (Some text) = text

-- The sentence of a component of a string, or the sentence of its status with a position.
abbrev pub text_or_sentence : ℤ → ℕ → Option (List ℕ) → List ℕ
text_or_sentence s at None = with_position at (sentence s)
text_or_sentence s at (Some text) = text

-- ---- strings
-- The status has a wrong byte, which is b.
abbrev pub IsByteOf : ℤ → ℕ → List ℕ → ℕ → Type 0
IsByteOf s at text b = (s ≡ UNEXPECTED_BYTE) × (slice_get text at ≡ Some b)

-- The status has a component in place of a position.
abbrev pub NamesComponent : ℤ → ℕ → Component → Type 0
NamesComponent s at c = (s ≡ CONTRADICTION) × (pos at ≡ component_status c)

-- ---- recurrences
-- The status and the part are a reason.
abbrev pub HasReason : ℤ → ℕ → ParseRuleErrorKind → Type 0
HasReason s part (Twice p) = (s ≡ DUPLICATE_PART) × (part ≡ part_number p)
HasReason s part (TooMany p) = (s ≡ TOO_MANY_VALUES) × (part ≡ part_number p)
HasReason s part (Value p) = (s ≡ INVALID_VALUE) × (part ≡ part_number p)
HasReason s part _ = ⊥

abbrev pub reason_at : ParseRuleErrorKind → ℕ → List ℕ
reason_at k at = reason_text k ++ position_text at

-- ---- formats
abbrev pub lacks_period : List Item → Bool
lacks_period items = any_shows shown.Hour12 items && not (any_shows shown.Period items)

-- The sentence of a format that doesn't determine a value.
abbrev pub remedy : List Item → List ℕ
remedy items =
    if lacks_century items then codes "\"%y\" has no century: use %Y or a pivot"
    else (if lacks_period items then codes "\"%I\" has no half of the day: use %H or add %p" else sentence INSUFFICIENT_FORMAT)

-- The sentence of a component of a string that the items print, or else that they read leniently.
abbrev pub IsReadSentence : Component → List Item → List ℕ → ℤ → Option (List ℕ) → Type 0
IsReadSentence c items text pivot None = IsFormatSentence c items text None × IsLenientSentence c (lenient_of items pivot) text None
IsReadSentence c items text pivot (Some s) =
    IsFormatSentence c items text (Some s) ⊎ (IsFormatSentence c items text None × IsLenientSentence c (lenient_of items pivot) text (Some s))
