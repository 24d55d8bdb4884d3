-- Texts that are put in place piece by piece.
use Rattle.std.proofs.Common.{◌≡◌, ℕ, ◌+◌, List, ◌∷◌, [], ◌++◌, codes, append_assoc, ℤ, pos}
use Rattle.std.specs.Fmt.{signed_decimal}
use Rattle.cal_time.specs.Date.{year_at, ordinal_at, julian_day_at}
use Rattle.cal_time.specs.DateText.{text}
use Rattle.cal_time.specs.IsoWeekDate.{HasIsoWeekDate}
use Rattle.cal_time.specs.declared.Weekday.{Weekday}
use Rattle.cal_time.specs.Weekday.{name, index}
use Rattle.cal_time.specs.WeekdayCycle.{weekday_of_index-index}
use Rattle.caltool.specs.Answers.{day_text, week_answer}

-- the text of a day in place, by its parts
pub day_in_place : (a b c d e f : List ℕ) (year julian_day : ℤ) (ordinal n : ℕ) → b ≡ a ++ signed_decimal year → c ≡ b ++ codes " ordinal "
    → d ≡ c ++ signed_decimal (pos ordinal) → e ≡ d ++ codes " julian " → f ≡ e ++ signed_decimal julian_day
    → year ≡ year_at n → ordinal ≡ ordinal_at n → julian_day ≡ julian_day_at n → f ≡ a ++ day_text n
unfolding day_text
day_in_place a b c d e f year julian_day ordinal n p q r s t u v w =
    rw (t, s, r, q, p, u, v, w) (simp append_assoc)

-- the text of a day with its ISO week date in place, by its parts
pub week_in_place : (a b c d e f g h i j : List ℕ) (year : ℤ) (week day n : ℕ) (weekday : Weekday) → b ≡ a ++ text n → c ≡ b ++ codes " iso "
    → d ≡ c ++ signed_decimal year → e ≡ d ++ 32 ∷ [] → f ≡ e ++ signed_decimal (pos week) → g ≡ f ++ 32 ∷ []
    → h ≡ g ++ signed_decimal (pos day) → i ≡ h ++ 32 ∷ [] → j ≡ i ++ name weekday
    → HasIsoWeekDate year week (index weekday) n → day ≡ index weekday + 1 → j ≡ a ++ week_answer n
unfolding week_answer
week_in_place a b c d e f g h i j year week day n weekday p q r s t u v w x has number =
    let same = weekday_of_index-index weekday in
    rw (x, w, v, u, t, s, r, q, p, number, ← has.0, ← has.1, has.2, same) (simp append_assoc)
