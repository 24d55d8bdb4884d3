-- What a date-time in a zone feeds to a hasher: its instant.
use Rattle.std.specs.Hash as fed
use Rattle.std.specs.Hash.{HashWrites}
use Rattle.cal_zoned.specs.Zoned.{InZone, instant_in}

abbrev pub hash_input_of : InZone → HashWrites
hash_input_of m = fed.i128 (instant_in m)
