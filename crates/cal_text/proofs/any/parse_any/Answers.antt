use Rattle.std.proofs.Common.{◌≢◌, ◌∙◌, ℕ, inl, inr, refl, rules, sym}
use Rattle.std.specs.Prelude.{get_or}
use Rattle.cal_text.specs.declared.any.DateOrMoment.TheVariants.{Date, Moment}
use Rattle.cal_text.specs.declared.any.DateForm.TheVariants.{JulianDay}
use Rattle.cal_text.specs.declared.any.MomentForm.TheVariants.{Rfc3339, Unix}
use Rattle.cal_text.proofs.AnyForms.{julian-found, julian-any, julian-error, moment-found, moment-any, moment-error, unix-found, unix-any, unix-error, no_any, same_error}
use Rattle.cal_text.proofs.Results.{same_mapped, not_ok}
use Rattle.cal_text.proofs.AnyPositions as positions
use Rattle.cal_text.proofs.any.parse_any.Goals as goal

-- a Julian day
pub returns-in-Ok-clause-every : goal.returns-in-Ok-clause-every
returns-in-Ok-clause-every c =
    let first = (c.if-begins_with.ensures.0 refl).1 in
    julian-found c.args.text.now _ first (λ n date e. same_mapped {A = ℕ} (λ x. Date JulianDay x) c.in-Ok.date n (c.in-Ok.ensures.every n date e))

pub returns-in-Ok-clause-out_of_range : goal.returns-in-Ok-clause-out_of_range
returns-in-Ok-clause-out_of_range c why =
    let first = (c.if-begins_with.ensures.0 refl).1 in same_error (c.in-Ok.ensures.out_of_range why) (julian-error c.args.text.now why first) (λ h. inr (inl h))

pub returns-in-Err : goal.returns-in-Err
returns-in-Err c =
    let text = c.args.text.now in
    let first = (c.if-begins_with.ensures.0 refl).1 in
    let e = c.in-Err.ensures in
    record {
      every = julian-found text _ first (λ n date t. absurd (not_ok _ _ (e.every n date t)));
      value = tt;
      syntax_error = no_any e.syntax_error (julian-any text first) (λ h. inr (inl h));
      position = positions.julian text c.in-Err.error first e.position;
      out_of_range = λ why. same_error (e.out_of_range why) (julian-error text why first) (λ h. inr (inl h));
    }

-- a Unix time
pub returns-in-Ok-parse-clause-every : goal.returns-in-Ok-parse-clause-every
returns-in-Ok-parse-clause-every c =
    let first = (c.if-begins_with-2.ensures.0 refl).1 in
    unix-found c.args.text.now _ first (λ m is. same_mapped (λ x. Moment Unix x) c.in-Ok-parse.moment m (c.in-Ok-parse.ensures.every m is))

pub returns-in-Ok-parse-clause-out_of_range : goal.returns-in-Ok-parse-clause-out_of_range
returns-in-Ok-parse-clause-out_of_range c why =
    let first = (c.if-begins_with-2.ensures.0 refl).1 in same_error (c.in-Ok-parse.ensures.out_of_range why) (unix-error c.args.text.now why first) (λ h. inr (inr (inr h)))

pub returns-in-Err-parse : goal.returns-in-Err-parse
returns-in-Err-parse c =
    let text = c.args.text.now in
    let first = (c.if-begins_with-2.ensures.0 refl).1 in
    let e = c.in-Err-parse.ensures in
    record {
      every = unix-found text _ first (λ m t. absurd (not_ok _ _ (e.every m t)));
      value = tt;
      syntax_error = no_any e.syntax_error (unix-any text first) (λ h. inr (inr (inr h)));
      position = positions.unix text c.in-Err-parse.error first e.position;
      out_of_range = λ why. same_error (e.out_of_range why) (unix-error text why first) (λ h. inr (inr (inr h)));
    }

-- a moment
pub returns-in-Ok-parse-2-clause-every : goal.returns-in-Ok-parse-2-clause-every
returns-in-Ok-parse-2-clause-every c =
    let first : (get_or c.args.text.now 0 0 ≢ 74) × (get_or c.args.text.now 0 0 ≢ 64) = search rules in
    let separator = c.if-is_separator.ensures.0 refl in
    moment-found c.args.text.now _ first separator (λ m is. same_mapped (λ x. Moment Rfc3339 x) c.in-Ok-parse-2.moment m (c.in-Ok-parse-2.ensures.every m is))

pub returns-in-Ok-parse-2-clause-out_of_range : goal.returns-in-Ok-parse-2-clause-out_of_range
returns-in-Ok-parse-2-clause-out_of_range c why =
    let first : (get_or c.args.text.now 0 0 ≢ 74) × (get_or c.args.text.now 0 0 ≢ 64) = search rules in
    let separator = c.if-is_separator.ensures.0 refl in
    same_error (c.in-Ok-parse-2.ensures.out_of_range why) (moment-error c.args.text.now why first separator) (λ h. inr (inr (inl h)))

pub returns-in-Err-parse-2 : goal.returns-in-Err-parse-2
returns-in-Err-parse-2 c =
    let text = c.args.text.now in
    let first : (get_or text 0 0 ≢ 74) × (get_or text 0 0 ≢ 64) = search rules in
    let separator = c.if-is_separator.ensures.0 refl in
    let same = c.furthest_error.ensures.component in
    let e = c.in-Err-parse-2.ensures in
    let syntax = no_any e.syntax_error (moment-any text first separator) (λ h. inr (inr (inl h))) in
    record {
      every = moment-found text _ first separator (λ m t. absurd (not_ok _ _ (e.every m t)));
      value = tt;
      syntax_error = (λ h. syntax.0 (sym same ∙ h), λ none. same ∙ syntax.1 none);
      position = c.furthest_error.ensures.position;
      out_of_range = λ why.
          let error = same_error (e.out_of_range why) (moment-error text why first separator) (λ h. inr (inr (inl h))) in
          (λ h. error.0 (sym same ∙ h), λ is. same ∙ error.1 is);
    }
