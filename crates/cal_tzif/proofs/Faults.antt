-- What has an error is not a text or a footer.
use Rattle.std.proofs.Common.{◌≢◌, ℕ, ◌+◌, List, length, arith}
use Rattle.std.specs.Prelude.{Option, Some, None}
use Rattle.cal_zone.specs.declared.local_type.LocalType.{LocalType}
use Rattle.cal_zone.specs.declared.rule.Rule.{Rule}
use Rattle.cal_tzif.specs.declared.footer.Footer.{Footer}
use Rattle.cal_tzif.specs.declared.zone_error.ZoneError.{ZoneError}
use Rattle.cal_tzif.specs.File.{HasFooter, IsFooterText, without_last, IsFooterError}
use Rattle.cal_zone.specs.declared.layout.Layout.{Layout}
use Rattle.cal_tzif.specs.Header.{IsHeader, IsHeaderError, HasHeaders, IsHeadersError}
use Rattle.cal_tzif.specs.Types.{IsType, IsTypeError, IsAsciiError, HasTypes, IsTypesError}
use Rattle.cal_tzif.specs.Posix.{IsStandard, IsDaylight, IsChange, HasRule, IsRest, standard, standard_end, Spells}
use Rattle.cal_tzif.specs.PosixError.{IsStandardError, IsDaylightError, IsChangeError, IsRuleError, IsTextError}

pub not_standard : (text : List ℕ) (at : ℕ) (e : ZoneError) → IsStandardError text at e → IsStandard text at → ⊥
not_standard text at e (IsStandardError.name none _) h = none h.name
not_standard text at e (IsStandardError.offset _ none _) h = none h.offset

pub not_daylight : (text : List ℕ) (at : ℕ) (e : ZoneError) → IsDaylightError text at e → IsDaylight text at → ⊥
not_daylight text at e (IsDaylightError.name none _) h = none h.name
not_daylight text at e (IsDaylightError.offset _ given none _) h = none (h.offset given)

pub not_change : (text : List ℕ) (at : ℕ) (e : ZoneError) → IsChangeError text at e → IsChange text at → ⊥
not_change text at e (IsChangeError.comma none _) h = none h.comma
not_change text at e (IsChangeError.date _ none _) h = none h.date
not_change text at e (IsChangeError.time _ _ none _) h = none h.time

not_rule : (text : List ℕ) (at : ℕ) (e : ZoneError) → IsRuleError text at e → HasRule text at → ⊥
not_rule text at e (IsRuleError.daylight fault) h = not_daylight _ _ _ fault h.daylight
not_rule text at e (IsRuleError.begins _ fault) h = not_change _ _ _ fault h.begins
not_rule text at e (IsRuleError.ends _ _ fault) h = not_change _ _ _ fault h.ends
not_rule text at e (IsRuleError.trailing _ _ _ more _) h = more h.whole
not_rule text at e (IsRuleError.months _ _ _ _ near _) h = near h.apart

not_rest : (text : List ℕ) (at : ℕ) (before : LocalType) (rule : Option Rule) (e : ZoneError) → at ≢ length text → IsRuleError text at e → IsRest text at before rule → ⊥
not_rest text at before None e more fault h = more h
not_rest text at before (Some rule) e more fault h = not_rule text at e fault h.1.has

pub not_text : (text : List ℕ) (at : ℕ) (e : ZoneError) (f : Footer) → IsTextError text at e → Spells text at f → ⊥
not_text text at e f (IsTextError.standard fault) h = not_standard _ _ _ fault h.has
not_text text at e f (IsTextError.rest _ more fault) h = not_rest text (standard_end text at) (standard text at) f.rule e more fault h.rest

pub not_header : (bytes : List ℕ) (at size : ℕ) (e : ZoneError) → IsHeaderError bytes at size e → IsHeader bytes at size → ⊥
not_header bytes at size e (IsHeaderError.short few _) h = omega (arith, few, h.room)
not_header bytes at size e (IsHeaderError.magic _ none _) h = none h.magic
not_header bytes at size e (IsHeaderError.version _ _ none _) h = none h.version
not_header bytes at size e (IsHeaderError.cut _ _ _ few _) h = omega (arith, few, h.whole)

pub not_headers : (bytes : List ℕ) (e : ZoneError) → IsHeadersError bytes e → HasHeaders bytes → ⊥
not_headers bytes e (IsHeadersError.first fault) h = not_header _ _ _ _ fault h.first
not_headers bytes e (IsHeadersError.second _ fault) h = not_header _ _ _ _ fault h.second
not_headers bytes e (IsHeadersError.version _ _ other _) h = other h.version
not_headers bytes e (IsHeadersError.leaps _ _ _ some _) h = some h.leaps
not_headers bytes e (IsHeadersError.no_type _ _ _ _ none _) h = omega (arith, none, h.types)

pub not_type : (bytes : List ℕ) (p : Layout) (k : ℕ) (e : ZoneError) → IsTypeError bytes p k e → IsType bytes p k → ⊥
not_type bytes p k e (IsTypeError.offset none _) h = none h.offset
not_type bytes p k e (IsTypeError.flag _ more _) h = omega (arith, more, h.flag)
not_type bytes p k e (IsTypeError.name _ _ far _) h = omega (arith, far, h.name)

pub not_types : (bytes : List ℕ) (p : Layout) (e : ZoneError) → IsTypesError bytes p e → HasTypes bytes p → ⊥
not_types bytes p e (IsTypesError.one k inside _ fault) h = not_type bytes p k e fault (h.types k inside)
not_types bytes p e (IsTypesError.ascii _ (IsAsciiError.byte k inside _ more _)) h = omega (arith, more, h.ascii k inside)
not_types bytes p e (IsTypesError.end _ _ fault) h = fault.0 h.end

not_footer_text : (bytes : List ℕ) (at : ℕ) (e : ZoneError) (f : Option Footer) → at + 1 ≢ length bytes → IsTextError (without_last bytes) at e → IsFooterText bytes at f → ⊥
not_footer_text bytes at e None more fault h = more h
not_footer_text bytes at e (Some f) more fault h = not_text (without_last bytes) at e f fault h.1

pub not_footer : (bytes : List ℕ) (at : ℕ) (e : ZoneError) (f : Option Footer) → IsFooterError bytes at e → HasFooter bytes at f → ⊥
not_footer bytes at e f (IsFooterError.first other _) h = other h.newlines.first
not_footer bytes at e f (IsFooterError.last _ none _) h = none h.newlines
not_footer bytes at e f (IsFooterError.text _ more fault) h = not_footer_text bytes (at + 1) e f (λ same. more (omega arith)) fault h.text
