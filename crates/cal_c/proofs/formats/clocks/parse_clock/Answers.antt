use Rattle.cal_c.proofs.UsualFormats.{clock-text, clock-read}
use Rattle.cal_c.proofs.formats.clocks.parse_clock.Goals as goal

pub returns : goal.returns
returns c =
    let b = c.args.shows_second in
    let h = c.in_ok-hour.hour in
    let m = c.in_ok-minute.minute in
    let s = c.in_ok-second.second in
    let value = c.in-Ok.ensures.value in
    clock-read b c.args.text.now h m s c.in-Ok.time
    (clock-text b _ _ _ _ _ h m s c.in_ok-hour.ensures.value c.in_ok-byte.ensures.value c.in_ok-minute.ensures.value c.in_ok-second.ensures.value c.in_ok-end.ensures.value)
    c.in_ok-second.ensures.zero value.hour value.minute value.second value.value
