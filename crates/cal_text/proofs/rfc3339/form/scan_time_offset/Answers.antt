use Rattle.std.proofs.Common.{◌∷◌, ◌∙◌, ap, sym}
use Rattle.cal_text.specs.Rfc3339Form.{sign_byte}
use Rattle.cal_text.proofs.MomentShapes.{put_pair}
use Rattle.cal_text.proofs.rfc3339.form.scan_time_offset.Goals as goal

pub returns-in_ok-end-in-None-byte-clause-value : goal.returns-in_ok-end-in-None-byte-clause-value
returns-in_ok-end-in-None-byte-clause-value c =
    let pair = put_pair _ _ _ _ _ _ c.in_ok-hours-in-None-byte.ensures.value c.in_ok-byte-in-None-byte.ensures.value c.in_ok-minutes-in-None-byte.ensures.value c.in_ok-end-in-None-byte.ensures.value in
    let sign = c.in_ok-is_west-in-None-byte in
    (pair.0, pair.1, sym c.in-None.ensures.unchanged ∙ sym c.in-None-byte.ensures.unchanged ∙ sign.ensures.value ∙ ap (λ rest. sign_byte sign.is_west ∷ rest) pair.2)
