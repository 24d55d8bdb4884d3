use Rattle.cal_text.proofs.MomentShapes.{put_two}
use Rattle.cal_text.proofs.scanner.Scanner.two_numbers.Goals as goal

pub returns-clause-value : goal.returns-clause-value
returns-clause-value c =
    put_two _ _ _ _ _ _ _ _ c.in_ok-byte.ensures.value c.in_ok-first.ensures.value c.in_ok-byte-2.ensures.value c.in_ok-second.ensures.value
