-- The answer to a line with --scan: its strings in a form that the run reads are answered in place.
use Rattle.std.specs.Prelude.{◌≡◌, ◌⊎◌, ℕ, suc, ◌+◌, ◌-◌, ◌==◌, ◌&&◌, ◌||◌, not, ◌<◌, ◌≤◌, nat_lt, Bool, true, false, MatchBool, List, [], ◌∷◌, ◌++◌, length, take, drop, slice_index, Option, Some, None, Result, Ok, Err, if◌then◌else◌}
use Rattle.cal_text.specs.Position.{Begins}
use Rattle.cal_text.specs.declared.any.DateOrMoment.{DateOrMoment}
use Rattle.caldate_answers.specs.Answers.{Answer, IsAnswer, IsNotRead, IsReadAs, keeps}
use Rattle.caldate_answers.specs.Offsets.{is_digit}
use Rattle.caldate_answers.specs.Readers.{has_form}
use Rattle.caldate_lines.specs.Room.{longest_text}
use Rattle.caldate_answers.specs.Spellings.{is_sign}
use Rattle.caldate_answers.specs.Offsets.{is_letter}
use Rattle.caldate_lines.specs.declared.on_invalid.OnInvalid.TheVariants as invalid
use Rattle.caldate_answers.specs.declared.request.DigitCounts.{DigitCounts}
use Rattle.caldate_answers.specs.declared.request.Filter.{Filter}
use Rattle.caldate_lines.specs.declared.no_answer.NoAnswer.{NoAnswer}
use Rattle.caldate_lines.specs.declared.no_answer.NoAnswer.TheVariants as why
use Rattle.caldate_answers.specs.declared.scan.found_text.FoundText.{FoundText}

-- ---- the strings of a line
-- The bytes have one of the forms, perhaps with a component out of range.
abbrev pub IsText : Filter → List ℕ → Type 0
IsText filter bytes =
    (0 < length bytes) × (((found : DateOrMoment) × IsReadAs filter bytes found) ⊎ ((any : NoAnswer) × IsNotRead filter bytes any × (has_form any ≡ true)))

-- What reading the bytes gives.
abbrev pub IsReadWith : Filter → List ℕ → Result DateOrMoment NoAnswer → Type 0
IsReadWith filter bytes (Ok found) = IsReadAs filter bytes found
IsReadWith filter bytes (Err any) = IsNotRead filter bytes any

-- The n bytes from place k of the line on.
abbrev pub part_at : List ℕ → ℕ → ℕ → List ℕ
part_at line k n = take n (drop k line)

-- A byte of a word. No such byte comes before the line or after it.
abbrev pub is_of_word : ℕ → Bool
is_of_word byte = is_letter byte || is_digit byte

abbrev pub byte_before : List ℕ → ℕ → ℕ
byte_before line k = if k == 0 then 0 else slice_index line (k - 1)

-- The four bytes from place k on are digits.
abbrev pub are_digits : List ℕ → ℕ → Bool
are_digits bytes k =
    is_digit (slice_index bytes k) && (is_digit (slice_index bytes (k + 1)) && (is_digit (slice_index bytes (k + 2)) && is_digit (slice_index bytes (k + 3))))

-- A sign before a year of four digits isn't part of a date.
abbrev pub has_short_year : List ℕ → Bool
has_short_year bytes = is_sign (slice_index bytes 0) && (slice_index bytes 5 == 45 && are_digits bytes 1)

-- A string may begin at place k, which is not after a letter or a digit.
abbrev pub may_begin : List ℕ → ℕ → Bool
may_begin line k = not (is_of_word (byte_before line k) || has_short_year (drop k line))

-- The number of digits at the front.
abbrev pub digits_at_front : List ℕ → ℕ
digits_at_front [] = 0
digits_at_front (byte ∷ bytes) = if is_digit byte then suc (digits_at_front bytes) else 0

-- Digits, perhaps with a point and digits after them.
abbrev pub is_decimal_part : List ℕ → Bool
is_decimal_part bytes = slice_index bytes 0 == 46 && suc (digits_at_front (drop 1 bytes)) == length bytes

abbrev pub is_number : List ℕ → Bool
is_number bytes = digits_at_front bytes == length bytes || is_decimal_part (drop (digits_at_front bytes) bytes)

-- A Unix time of this century has 9 or 10 digits in seconds, 12 or 13 in milliseconds, 15 or 16 in
-- microseconds, and 18 or 19 in nanoseconds.
abbrev pub is_likely_count : DigitCounts → ℕ → Bool
is_likely_count counts n =
    (counts.seconds && (n == 9 || n == 10)) || ((counts.milliseconds && (n == 12 || n == 13))
    || ((counts.microseconds && (n == 15 || n == 16)) || (counts.nanoseconds && (n == 18 || n == 19))))

abbrev pub without_minus : List ℕ → List ℕ
without_minus bytes = if slice_index bytes 0 == 45 then drop 1 bytes else bytes

abbrev pub is_likely_number : DigitCounts → List ℕ → Bool
is_likely_number counts bytes = not (is_number bytes) || is_likely_count counts (digits_at_front bytes)

-- A run that reads Unix times takes no number of another length for one.
abbrev pub is_likely_by : Option DigitCounts → List ℕ → Bool
is_likely_by None bytes = true
is_likely_by (Some counts) bytes = is_likely_number counts (without_minus bytes)

abbrev pub is_likely : Filter → List ℕ → Bool
is_likely filter bytes = is_likely_by filter.numbers bytes

-- These n bytes are a string, and no letter or digit is beside them.
pub record IsTextAt (filter : Filter) (line : List ℕ) (k n : ℕ) : Type 0 where
  pub within : k + n ≤ length line
  pub is : IsText filter (part_at line k n)
  pub before : may_begin line k ≡ true
  pub after : is_of_word (slice_index line (k + n)) ≡ false
  pub likely : is_likely filter (part_at line k n) ≡ true

-- The string at place k is the longest there, and is read so.
pub record IsLongestText (filter : Filter) (line : List ℕ) (k : ℕ) (text : FoundText) : Type 0 where
  pub at : text.place ≡ k
  pub is : IsTextAt filter line k text.count
  pub longest : (m : ℕ) → text.count < m → ¬ IsTextAt filter line k m
  pub read : IsReadWith filter (part_at line k text.count) text.read

-- No string begins from place i to before place k.
abbrev pub NoneFrom : Filter → List ℕ → ℕ → ℕ → Type 0
NoneFrom filter line i k = (j n : ℕ) → i ≤ j → j < k → ¬ IsTextAt filter line j n

abbrev pub HasNoText : Filter → List ℕ → ℕ → Type 0
HasNoText filter line i = NoneFrom filter line i (length line)

-- The first string from place i on, and the longest that begins there.
pub record IsFirstText (filter : Filter) (line : List ℕ) (i k n : ℕ) : Type 0 where
  pub from : i ≤ k
  pub is : IsTextAt filter line k n
  pub leftmost : NoneFrom filter line i k
  pub longest : (m : ℕ) → n < m → ¬ IsTextAt filter line k m

-- ---- how a search ends early
-- No more than `most` of the bytes begin a string.
pub record Bounds (IsText : List ℕ → Type 0) (bytes : List ℕ) (most : ℕ) : Type 0 where
  pub within : most ≤ length bytes
  pub begins : (n : ℕ) → n ≤ length bytes → Begins IsText (take n bytes) → n ≤ most

abbrev pub is_digit_or_hyphen : ℕ → Bool
is_digit_or_hyphen byte = is_digit byte || byte == 45

-- A string in one of the six forms starts with four digits and a hyphen, with a sign, four digits,
-- and a digit or a hyphen, or with an @ or a J, and a digit or a hyphen.
abbrev pub is_usual_start : List ℕ → Bool
is_usual_start bytes =
    if is_digit (slice_index bytes 0) then slice_index bytes 4 == 45 && are_digits bytes 0
    else if is_sign (slice_index bytes 0) then is_digit_or_hyphen (slice_index bytes 5) && are_digits bytes 1
    else (slice_index bytes 0 == 64 || slice_index bytes 0 == 74) && is_digit_or_hyphen (slice_index bytes 1)

abbrev pub StartsAsUsual : List ℕ → Type 0
StartsAsUsual bytes = is_usual_start bytes ≡ true

-- A sign, an @ or a J. A string that starts with a digit has a hyphen, which is one, after four
-- digits.
abbrev pub is_mark : ℕ → Bool
is_mark byte = is_sign byte || (byte == 64 || byte == 74)

-- The last byte of a string in one of the six forms is a digit, Z or z.
abbrev pub is_last : ℕ → Bool
is_last byte = is_digit byte || (byte == 90 || byte == 122)

-- The first n bytes end as such a string does. If it starts with a digit, it is a date of 8 or 10
-- bytes, or a moment of at least 20.
abbrev pub has_usual_length : ℕ → Bool
has_usual_length n = n == 8 || (n == 10 || nat_lt 19 n)

abbrev pub is_usual_end : List ℕ → ℕ → Bool
is_usual_end bytes n = is_last (slice_index bytes (n - 1)) && (if is_digit (slice_index bytes 0) then has_usual_length n else true)

-- The index of the byte after the seconds of a moment, or after the digits that follow a point or a
-- comma there.
abbrev pub offset_index : List ℕ → ℕ
offset_index bytes = if slice_index bytes 19 == 46 || slice_index bytes 19 == 44 then 20 + digits_at_front (drop 20 bytes) else 19

-- A string that starts with a digit has at most this many bytes: up to the end of a Z, a z or an
-- offset such as +01:00 at that index, or else 10.
abbrev pub bound_with : ℕ → ℕ → ℕ
bound_with mark index = if mark == 90 || mark == 122 then index + 1 else if is_sign mark then index + 6 else 10

abbrev pub digit_bound : List ℕ → ℕ
digit_bound bytes = bound_with (slice_index bytes (offset_index bytes)) (offset_index bytes)

-- A string starts and ends so, and is not longer.
pub record IsUsual (bytes : List ℕ) : Type 0 where
  pub start : StartsAsUsual bytes
  pub end : is_usual_end bytes (length bytes) ≡ true
  pub bound : is_digit (slice_index bytes 0) ≡ true → length bytes ≤ digit_bound bytes

abbrev pub AreUsual : Filter → Type 0
AreUsual filter = (bytes : List ℕ) → IsText filter bytes → IsUsual bytes

-- Each string starts with two digits.
abbrev pub starts_with_digits : List ℕ → Bool
starts_with_digits bytes = is_digit (slice_index bytes 0) && is_digit (slice_index bytes 1)

abbrev pub StartsWithDigits : List ℕ → Type 0
StartsWithDigits bytes = starts_with_digits bytes ≡ true

abbrev pub StartWithDigits : Filter → Type 0
StartWithDigits filter = (bytes : List ℕ) → IsText filter bytes → StartsWithDigits bytes

-- ---- the answer to the line
-- The answer has words, which replace its string.
abbrev pub has_words : Answer → Bool
has_words (Ok (Some words)) = true
has_words other = false

-- A line that becomes longer than a line may be has no answer.
abbrev pub fitted : List ℕ → Answer
fitted out = if nat_lt longest_text (length out) then Err why.TooLong else Ok (Some out)

-- The bytes that go out so far, with those up to a string and with its answer.
abbrev pub with_words : List ℕ → ℕ → ℕ → List ℕ → List ℕ → List ℕ
with_words line i k out words = out ++ part_at line i (k - i) ++ words

-- The answer to the line if `out` goes out for the bytes before place i.
pub data IsReplaced (filter : Filter) (line : List ℕ) (answer : Answer) : List ℕ → ℕ → Type 0 where
  no_more : (out : List ℕ) (i : ℕ) → HasNoText filter line i → answer ≡ fitted (out ++ drop i line) → IsReplaced filter line answer out i
  answered : (out words : List ℕ) (i k n : ℕ) → IsFirstText filter line i k n → IsAnswer filter (part_at line k n) (Ok (Some words))
      → length (with_words line i k out words) ≤ longest_text → IsReplaced filter line answer (with_words line i k out words) (k + n)
      → IsReplaced filter line answer out i
  too_long : (out words : List ℕ) (i k n : ℕ) → IsFirstText filter line i k n → IsAnswer filter (part_at line k n) (Ok (Some words))
      → longest_text < length (with_words line i k out words) → answer ≡ Err why.TooLong → IsReplaced filter line answer out i
  unanswered : (out : List ℕ) (i k n : ℕ) → IsFirstText filter line i k n → IsAnswer filter (part_at line k n) answer → has_words answer ≡ false
      → IsReplaced filter line answer out i

-- `keep` selects the line by its first string, and leaves out a line without one.
abbrev pub selected : List ℕ → Answer → Answer
selected line (Ok (Some words)) = Ok (Some line)
selected line other = other

abbrev pub IsSelected : Filter → List ℕ → Answer → Type 0
IsSelected filter line answer =
    (HasNoText filter line 0 × (answer ≡ Ok None))
    ⊎ ((k n : ℕ) × (own : Answer) × IsFirstText filter line 0 k n × IsAnswer filter (part_at line k n) own × (answer ≡ selected line own))

-- The answer to the line. A run that ends at a line without an answer ends at one without a string.
abbrev pub IsScanned : Filter → List ℕ → Answer → Type 0
IsScanned filter line answer =
    ((filter.on_invalid ≡ invalid.Stop) × HasNoText filter line 0 × (answer ≡ Err why.NoForm))
    ⊎ ((filter.on_invalid ≡ invalid.Stop → ¬ HasNoText filter line 0)
    × MatchBool (keeps filter.request) (IsSelected filter line answer) (IsReplaced filter line answer [] 0))
