use Rattle.std.proofs.Common.{◌≡◌, ◌∙◌, ◌*◌, ◌%◌, sym, ap, subst, pos, to_z, of_z, w32, bit_or}
use Rattle.cal_units.specs.Lengths.{is_leap_year}
use Rattle.cal_date.specs.Date.{IsDate, HasOrdinalDate}
use Rattle.cal_date.specs.PackedDate.{packed, HasOrdinalDate-ordinal_number}
use Rattle.cal_date.proofs.Dates.{IsDate-ordinal_number}
use Rattle.cal_date.proofs.Packed.{IsPackedDate-packed, number_of-packed, packed-bits}
use Rattle.cal_date.proofs.date.Date.pack.Goals as goal
use mir.Val.{bool_byte}

-- The bits are the packed value.
bits : (c : goal.After-from-2)
    → to_z w32 (bit_or (bit_or (of_z w32 c.args.year * 1024 % 4294967296) (of_z w32 c.from.result * 512 % 4294967296)) (of_z w32 c.from-2.result)) ≡ packed c.args.year c.args.ordinal
bits c =
    let leap : c.from.result ≡ pos (bool_byte (is_leap_year c.args.year)) = c.from.ensures ∙ ap (λ b. pos (bool_byte b)) c.requires.leap in
    packed-bits c.args.year c.from.result c.from-2.result c.args.ordinal c.requires.year c.requires.ordinal leap c.from-2.ensures

pub invariant_of-result : goal.invariant_of-result
invariant_of-result c = rw (bits c) (IsPackedDate-packed _ _ c.requires.year c.requires.ordinal)

pub returns : goal.returns
returns c =
    let y = c.args.year in
    let o = c.args.ordinal in
    let number = number_of-packed y o c.requires.year c.requires.ordinal in
    rw (bits c) (record {
      value = number;
      date = subst (HasOrdinalDate y o) (sym number) (HasOrdinalDate-ordinal_number y o c.requires.year c.requires.ordinal);
      range = subst IsDate (sym number) (IsDate-ordinal_number y o c.requires.year c.requires.ordinal);
    })
