-- A text of a format that is printed to a buffer of its own, and then written.
use Rattle.std.proofs.Common.{◌≡◌, ℕ, ◌<◌, ◌≤◌, List, length, take, refl, subst, ◌↔◌, arith}
use Rattle.std.specs.Prelude.{Option, Some, None, IsSome, IfSome, Bool, IsTrue}
use Rattle.cal_format.specs.declared.item.Item.{Item}
use Rattle.cal_c.specs.FormatTexts.{IsPrinted, IsUnprinted, IsWritten, length_error}
use Rattle.cal_c.specs.declared.status.TheConstants.{UNSUPPORTED_ITEM}
use Rattle.cal_c.specs.declared.formats.results.LengthResult.{LengthResult}
use Rattle.cal_c.proofs.FormatItems.{at_items}

pub printed : (shown : Bool) (text buffer old new : List ℕ) (room : ℕ) (end : Option ℕ) (r : LengthResult)
    → length text ≤ room → (IsSome end ↔ (IsTrue shown × (length text ≤ room))) → IfSome end (λ n. take n buffer ≡ text)
    → (end ≡ None → IsUnprinted old new r (length_error UNSUPPORTED_ITEM)) → IfSome end (λ n. IsWritten (take n buffer) old new r)
    → IsPrinted shown text old new r
printed shown text buffer old new room None r short fits is none some = record {
  unsupported_item = λ _. none refl;
  written = λ t. let no = fits.1 (t, short) in cc;
}
printed shown text buffer old new room (Some n) r short fits is none some = record {
  unsupported_item = λ no. absurd (no (fits.0 refl).0);
  written = λ _. subst (λ t. IsWritten t old new r) is some;
}

-- The same with an abbreviation of this length.
pub printed_in_zone : (size : ℕ) (text buffer old new : List ℕ) (room : ℕ) (end : Option ℕ) (r : LengthResult)
    → (size ≤ 15 → length text ≤ room) → (IsSome end ↔ ((size ≤ 15) × (length text ≤ room))) → IfSome end (λ n. take n buffer ≡ text)
    → (end ≡ None → IsUnprinted old new r (length_error UNSUPPORTED_ITEM)) → IfSome end (λ n. IsWritten (take n buffer) old new r)
    → (15 < size → IsUnprinted old new r (length_error UNSUPPORTED_ITEM)) × (size ≤ 15 → IsWritten text old new r)
printed_in_zone size text buffer old new room None r short fits is none some = (λ more. none refl, λ few. let no = fits.1 (few, short few) in cc)
printed_in_zone size text buffer old new room (Some n) r short fits is none some = (λ more. absurd (omega (arith, more, (fits.0 refl).0)), λ few. subst (λ t. IsWritten t old new r) is some)

-- The same for the items of a format that C passes.
pub printed_by : (shown : List Item → Bool) (text : List Item → List ℕ) (o : Option (List Item)) (found items : List Item) (buffer old new : List ℕ) (room : ℕ) (end : Option ℕ) (r : LengthResult)
    → o ≡ Some found → o ≡ Some items → length (text found) ≤ room → (IsSome end ↔ (IsTrue (shown found) × (length (text found) ≤ room))) → IfSome end (λ n. take n buffer ≡ text found)
    → (end ≡ None → IsUnprinted old new r (length_error UNSUPPORTED_ITEM)) → IfSome end (λ n. IsWritten (take n buffer) old new r)
    → IsPrinted (shown items) (text items) old new r
printed_by shown text o found items buffer old new room end r is every short fits own none some =
    at_items (λ xs. IsPrinted (shown xs) (text xs) old new r) o found items is every (printed (shown found) (text found) buffer old new room end r short fits own none some)
