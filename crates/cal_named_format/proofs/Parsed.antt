-- The value of a moment that was parsed.
use Rattle.std.proofs.Common.{◌≡◌, ℕ, List, refl, ap, ◌∙◌, Ok, Err}
use Rattle.std.specs.Prelude.{IsTrue}
use Rattle.cal_format.specs.declared.error.ParseError.{ParseError}
use Rattle.cal_format.specs.declared.item.Item.{Item}
use Rattle.cal_format.specs.declared.moment.Moment.{Moment}
use Rattle.cal_format.specs.Reading.{are_apart}
use Rattle.cal_format.specs.Values.{Holds}
use Rattle.cal_format.proofs.Alike.{AreAlike}
use Rattle.cal_format.proofs.Outcomes.{no-result, same-result}
use Rattle.cal_names.specs.declared.names.Names.{Names}
use Rattle.cal_named_format.specs.Rejection.{IsParsedIn}
use Rattle.cal_named_format.specs.Values.{ParsesIn}
use Rattle.cal_named_format.proofs.Named.{alike-in}

pub parsed-value : {V : Type 0} (IsHeld : V → Type 0) (moment_of : V → Moment) (t : Names) (items : List Item) (text : List ℕ) (m : Moment) (x : V) → IsTrue (are_apart items) → IsParsedIn t items text (Ok m)
    → ((v : V) → IsHeld v → Holds items (moment_of v)) → ((v : V) → IsHeld v → m ≡ moment_of v → x ≡ v) → IsHeld x → AreAlike items m (moment_of x) → ParsesIn IsHeld moment_of t items text (Ok x)
parsed-value IsHeld moment_of t items text m x apart parsed holds back held alike =
    let other = holds x held in
    record {
      every = λ v is e. ap Ok (back v is (same-result (Ok m) m (moment_of v) refl (parsed.every (moment_of v) (holds v is) e)));
      value = (held, parsed.value.text_is ∙ alike-in t items m (moment_of x) apart parsed.value.in_range other.in_range parsed.value.numbers other.numbers alike.0);
      error = tt;
    }

pub parsed-error : {V : Type 0} (IsHeld : V → Type 0) (moment_of : V → Moment) (t : Names) (items : List Item) (text : List ℕ) (e : ParseError) → IsParsedIn t items text (Err e)
    → ((v : V) → IsHeld v → Holds items (moment_of v)) → ParsesIn IsHeld moment_of t items text (Err e)
parsed-error IsHeld moment_of t items text e parsed holds = record {
  every = λ v is text_is. absurd (no-result e (moment_of v) (parsed.every (moment_of v) (holds v is) text_is));
  value = tt;
  error = parsed.error;
}
