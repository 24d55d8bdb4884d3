-- The days and moments of a list, one after another.
use Rattle.std.proofs.Common.{◌≡◌, ℕ, ◌+◌, ◌<◌, ◌∙◌, ap, refl, sym, subst, arith, Bool, true, false, Option, None, Some, Result, Ok, Err, ℤ, pos, min, List, [], ◌∷◌, ◌++◌, append_assoc}
use Rattle.std.specs.Prelude.{◌≤ℤ◌, ◌<ℤ◌, IfSome, IsOk, MatchOption, is_ok}
use Rattle.std.specs.List.{flat_map}
use Rattle.std.proofs.lemmas.Bool.{false≢true}
use Rattle.std.proofs.lemmas.Int.{ints}
use Rattle.std.proofs.lemmas.List.{append-nil}
use Rattle.cal_datetime.specs.OffsetDateTime.{LocalAndOffset, instant}
use Rattle.cal_recurrence.specs.ZonedSet.{IsNextAfter, Occurs}
use Rattle.cal_recurrence.specs.declared.zoned_set.ZonedSet.{ZonedSet}
use Rattle.cal_time.specs.Date.{IsDate}
use Rattle.cal_schedule.specs.Months.{IsMonthsLater}
use Rattle.cal_schedule.proofs.MonthMoves.{IsMonthNumber-date, one_later}
use Rattle.caldate_lines.specs.Outputs.{IfAll, WritesPage}
use Rattle.caldate_lines.specs.declared.run_error.RunError.{RunError}
use Rattle.caldate_answers.proofs.OneAnswer.{took-one}
use Rattle.caldate_args.specs.declared.command.Listing.{Listing}
use Rattle.caldate_args.specs.declared.command.StepUnit.{StepUnit}
use Rattle.caldate_args.specs.declared.command.StepUnit.TheVariants.{Days, Months}
use Rattle.caldate_args.specs.Lists.{AreListed, IsEnd, IsUnitsAfter, Lists, WritesLines, line_of}
use Rattle.caldate_run.specs.Recurring.{AreListedIn, IsEndIn, IsNextIn}

-- any two days of the range are less than a thousand million months from each other
pub few_months : (n m s : ℕ) → IsDate n → IsDate s → IsMonthsLater n (pos m) s → m < 1000000000
few_months n m s d e h =
    let a = IsMonthNumber-date n d in
    let b = IsMonthNumber-date s e in
    omega (arith, ints, a.not_before, b.not_after, h.month)

-- a day is found with clamped months exactly if it is found with all of them
pub by_few : (n m : ℕ) (z : ℤ) (r : Option ℕ) → IsDate n → z ≡ pos (min m 1000000000) → ((s : ℕ) → IsDate s → IsMonthsLater n z s → r ≡ Some s)
    → IfSome r (λ s. IsDate s × IsMonthsLater n z s)
    → MatchOption r ((s : ℕ) → ¬ (IsDate s × IsMonthsLater n (pos m) s)) (λ s. IsDate s × IsMonthsLater n (pos m) s)
by_few n m z None d e every has = λ s h.
    let same : pos m ≡ z = omega (arith, ints, few_months n m s d h.0 h.1) in
    let found = every s h.0 (subst (λ y. IsMonthsLater n y s) same h.1) in cc
by_few n m z (Some s) d e every has =
    let few = few_months n (min m 1000000000) s d has.0 (subst (λ y. IsMonthsLater n y s) e has.1) in
    let same : z ≡ pos m = omega (arith, ints, few) in
    (has.0, subst (λ y. IsMonthsLater n y s) same has.1)

pub near : (n m : ℕ) (z : ℤ) (r : Option ℕ) → IsDate n → z ≡ pos (min m 1000000000) → IfSome r (λ s. IsDate s × IsMonthsLater n z s)
    → IfSome r (λ _. m < 1000000000)
near n m z None d e has = tt
near n m z (Some s) d e has = omega (arith, few_months n (min m 1000000000) s d has.0 (subst (λ y. IsMonthsLater n y s) e has.1))

-- ---- the lines that were given and those that are left
-- The items are those before these, of which the lines were given, and these.
abbrev pub Follows : {S X : Type 0} → (X → List ℕ) → (Bool → S → List X → Type 0) → S → S → List ℕ → Type 0
Follows {S} {X} line Are start now given =
    (all : Bool) (items : List X) → Are all now items → (whole : List X) × Are all start whole × (flat_map line whole ≡ given ++ flat_map line items)

pub one_more : {S X : Type 0} (line : X → List ℕ) (Are : Bool → S → List X → Type 0) (start now next : S) (given bytes : List ℕ) (x : X) → bytes ≡ line x
    → ((all : Bool) (items : List X) → Are all next items → Are all now (x ∷ items)) → Follows line Are start now given → Follows line Are start next (given ++ bytes)
one_more line Are start now next given bytes x same more follows all items are =
    let (whole, is, e) = follows all (x ∷ items) (more all items are) in
    (whole, is, e ∙ sym (append_assoc given (line x) (flat_map line items)) ∙ ap (λ b. (given ++ b) ++ flat_map line items) (sym same))

-- nothing is left, or not all is listed
pub lists : {S X : Type 0} (line : X → List ℕ) (Are : Bool → S → List X → Type 0) (start now : S) (given : List ℕ) (r : Result Unit RunError) (old new : Option (List ℕ))
    → Are (is_ok r) now [] → Follows line Are start now given → WritesPage given r old new → WritesLines line (λ all. Are all start) r old new
lists line Are start now given r old new end follows page =
    let (whole, is, e) = follows (is_ok r) [] end in
    (whole, is, subst (λ bytes. WritesPage bytes r old new) (sym (e ∙ append-nil given)) page)

pub if_all : (all : Bool) (P : Type 0) → P → IfAll all P
if_all true P h = h
if_all false P h = tt

pub no_days : (listing : Listing) (count : ℕ) (all : Bool) → IsEnd listing count → AreListed listing all count []
no_days listing count all end = if_all all (IsEnd listing count) end

pub no_moments : (set : ZonedSet) (last : LocalAndOffset) (x : ℤ) (all : Bool) → IsEndIn set last x → AreListedIn set last all x []
no_moments set last x all end = if_all all (IsEndIn set last x) end

-- ---- the next moment, or the end
pub next_in : (set : ZonedSet) (last : LocalAndOffset) (x : ℤ) (r : Option LocalAndOffset) (m : LocalAndOffset) → IsNextAfter (Occurs set) x r → r ≡ Some m
    → instant m ≤ℤ instant last → IsNextIn set last x m
next_in set last x r m next e most = record { first = subst (IsNextAfter (Occurs set) x) e next; not_past = most }

pub end_in : (set : ZonedSet) (last : LocalAndOffset) (x : ℤ) (r : Option LocalAndOffset) → IsNextAfter (Occurs set) x r
    → ((m : LocalAndOffset) → r ≡ Some m → instant last <ℤ instant m) → IsEndIn set last x
end_in set last x None none past m next = omega (arith, ints, none next.first.place m next.first.is, next.first.later)
end_in set last x (Some k) first past m next =
    omega (arith, ints, (first.first next.first.place m next.first.is next.first.later).0, past k refl, next.not_past)

-- ---- a list has one answer
pub one_after : (unit : StepUnit) (count n a b : ℕ) → IsUnitsAfter unit count n a → IsUnitsAfter unit count n b → a ≡ b
one_after Days count n a b h k = h ∙ sym k
one_after Months count n a b h k = one_later n a b (pos count) h k

one_days : (listing : Listing) (count : ℕ) (days others : List ℕ) → AreListed listing true count days → AreListed listing true count others → days ≡ others
one_days listing count [] [] end stop = refl
one_days listing count [] (k ∷ ks) end (there, rest) = absurd (end k there)
one_days listing count (day ∷ days) [] (here, others) end = absurd (end day here)
one_days listing count (day ∷ days) (k ∷ ks) (here, others) (there, rest) =
    let same = one_after listing.step.unit count listing.first day k here.after there.after in
    let more = one_days listing (count + listing.step.every) days ks others rest in
    λ i. same i ∷ more i

pub lists-one : (listing : Listing) (held : List ℕ) (r s : Result Unit RunError) (w v : Option (List ℕ)) → IsOk r → IsOk s
    → Lists listing r (Some held) w → Lists listing s (Some held) v → w ≡ v
lists-one listing held (Err e) s w v ok too first second = absurd (false≢true ok)
lists-one listing held (Ok done) (Err e) w v ok too first second = absurd (false≢true too)
lists-one listing held (Ok done) (Ok end) w v ok too (days, all, took) (others, every, taken) =
    took-one held _ _ w v took taken (ap (flat_map line_of) (one_days listing 0 days others all every))

pub pages-one : (page held : List ℕ) (r s : Result Unit RunError) (w v : Option (List ℕ)) → IsOk r → IsOk s
    → WritesPage page r (Some held) w → WritesPage page s (Some held) v → w ≡ v
pages-one page held (Err e) s w v ok too first second = absurd (false≢true ok)
pages-one page held (Ok done) (Err e) w v ok too first second = absurd (false≢true too)
pages-one page held (Ok done) (Ok end) w v ok too first second = took-one held page page w v first second refl
