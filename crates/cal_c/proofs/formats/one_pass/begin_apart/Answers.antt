use Rattle.std.proofs.Common.{get_or}
use Rattle.std.specs.Prelude.{nat_lt}
use Rattle.cal_format.proofs.OnePass.{first-or, second-or}
use Rattle.cal_c.specs.Formats.{parts}
use Rattle.cal_c.proofs.OnePass.{begins-first, byte-apart, name-apart}
use Rattle.cal_c.proofs.formats.one_pass.begin_apart.Goals as goal

pub returns-then-part-lt48 : goal.returns-then-part-lt48
returns-then-part-lt48 c h =
    let part = get_or c.args.parts.now 0 (parts 0 0) in
    begins-first c.args.parts.now c.in-len1-up.len_at_least (byte-apart part c.in-0.is (first-or (nat_lt part.value 48) (nat_lt 57 part.value) h))

pub returns-else-part-lt48 : goal.returns-else-part-lt48
returns-else-part-lt48 c h =
    let part = get_or c.args.parts.now 0 (parts 0 0) in
    begins-first c.args.parts.now c.in-len1-up.len_at_least (byte-apart part c.in-0.is (second-or (nat_lt part.value 48) (nat_lt 57 part.value) h))

pub returns-in-4 : goal.returns-in-4
returns-in-4 c h = begins-first c.args.parts.now c.in-len1-up.len_at_least (name-apart (get_or c.args.parts.now 0 (parts 0 0)) c.in-4.is)
