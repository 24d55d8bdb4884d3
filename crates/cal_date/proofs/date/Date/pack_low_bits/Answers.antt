use Rattle.std.proofs.Common.{◌≡◌, ◌-◌, ◌*◌, ◌%◌, pos, refl, sym, subst, arith, to_z, of_z, w32, bit_or}
use Rattle.cal_date.specs.Date.{IsDate}
use Rattle.cal_date.specs.PackedDate.{packed, leap_mark}
use Rattle.cal_date.proofs.Dates.{IsDate-ordinal_number}
use Rattle.cal_date.proofs.Packed.{IsPackedDate-packed, number_of-packed, packed-low_bits}
use Rattle.cal_date.proofs.date.Date.pack_low_bits.Goals as goal
use Rattle.cal_date.proofs.date.Date.pack_low_bits.Goals.{Start}

-- The bits are the packed value.
bits : (c : Start)
    → to_z w32 (bit_or (of_z w32 c.args.year * 1024 % 4294967296) (of_z w32 (pos c.args.low))) ≡ packed c.args.year (c.args.low - leap_mark c.args.year)
bits c = packed-low_bits c.args.year (pos c.args.low) c.args.low _ c.requires.year c.requires.low (omega (arith, c.requires.low.0)) refl

pub invariant_of-result : goal.invariant_of-result
invariant_of-result c = rw (bits c) (IsPackedDate-packed _ _ c.requires.year c.requires.low)

pub returns : goal.returns
returns c =
    let y = c.args.year in
    let o = c.args.low - leap_mark y in
    let number = number_of-packed y o c.requires.year c.requires.low in
    rw (bits c) (record {
      value = number;
      range = subst IsDate (sym number) (IsDate-ordinal_number y o c.requires.year c.requires.low);
    })
