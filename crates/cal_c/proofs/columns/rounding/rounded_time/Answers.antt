use Rattle.std.proofs.Common.{rules, FitsSigned, w32}
use Rattle.std.proofs.lemmas.Int.{to_z-of_z}
use Rattle.cal_c.proofs.RoundedRows.{time_rounded}
use Rattle.cal_c.proofs.TextRows.{IsByteOf}
use Rattle.cal_c.proofs.columns.rounding.rounded_time.Goals as goal

pub returns : goal.returns
returns c =
    let r = c.fots_time_round-rounded.result in
    let status : FitsSigned w32 r.status = search rules in
    let byte : IsByteOf c.byte_status.result r.status = simp to_z-of_z at c.byte_status.ensures in
    time_rounded c.args.time c.args.unit c.args.mode r c.byte_status.result byte c.fots_time_round-rounded.ensures
