use Rattle.std.proofs.Common.{◌≡◌, get_or, pos, arith, rules, FitsSigned, w64, to_z, of_z}
use Rattle.std.proofs.lemmas.Int.{to_z-of_z}
use Rattle.std.specs.Prelude.{MatchOption}
use Rattle.cal_zone.specs.Timeline.{Timeline, InOrder}
use Rattle.cal_c.specs.Results.{int64_error}
use Rattle.cal_c.specs.declared.status.TheConstants.{INVALID_ZONE, INVALID_POLICY}
use Rattle.cal_c.specs.Values.{need◌else◌then◌}
use Rattle.cal_c.specs.ZoneColumns.{IsInstantByPolicy, IsInstantOfReading, int64_row}
use Rattle.cal_c.specs.Zones.{policy_number, IsPolicy}
use Rattle.cal_zone.specs.declared.policy.Policy.{Policy}
use Rattle.cal_c.proofs.Rows.{rows_two}
use Rattle.cal_c.proofs.ZoneResults.{for_policy, for_some, match_by, next_span}
use Rattle.cal_c.proofs.columns.zones.fots_zone_instants.Goals as goal

pub loop-row-preserved : goal.loop-row-preserved
loop-row-preserved c =
    let f : FitsSigned w64 (get_or c.args.readings.now c.loop-row.row (pos 0)) = search rules in
    let fits : FitsSigned w64 c.row_of_instant.result.0 = search rules in
    let reading = get_or c.args.readings.now c.loop-row.row (pos 0) in
    let row = int64_row c.row_of_instant.result.0 c.row_of_instant.result.1 in
    let found = next_span c.unchecked.result _ _ (row ≡ int64_error INVALID_ZONE)
    (λ (z : Timeline). MatchOption c.valid_policy.result (row ≡ int64_error INVALID_POLICY) (λ (q : Policy). IsInstantByPolicy z reading q row))
    (simp to_z-of_z at c.row_of_instant.ensures) c.loop-row.invariant.span in
    let here : IsInstantOfReading c.args.zone.now reading c.args.policy row =
    record {
      answer = for_some c.args.zone.now c.unchecked.result _ _ c.unchecked.ensures
          (match_by
          (λ (z : Timeline). InOrder z → MatchOption c.valid_policy.result (row ≡ int64_error INVALID_POLICY) (λ (q : Policy). IsInstantByPolicy z reading q row))
          (λ (z : Timeline). InOrder z → need IsPolicy c.args.policy else row ≡ int64_error INVALID_POLICY then ((q : Policy) × (policy_number q ≡ c.args.policy) × IsInstantByPolicy z reading q row))
          c.unchecked.result _
          (λ z is order. for_policy c.args.policy c.valid_policy.result (row ≡ int64_error INVALID_POLICY) (λ (q : Policy). IsInstantByPolicy z reading q row) c.valid_policy.ensures (is order))
          found.0);
    } in
    record {
      rows = rows_two (λ k second status. IsInstantOfReading c.args.zone.now (get_or c.args.readings.now k (pos 0)) c.args.policy (int64_row second status)) c.loop-row.seconds c.loop-row.statuses c.loop-row.row (to_z w64 (of_z w64 c.row_of_instant.result.0)) (pos 0) c.row_of_instant.result.1 0 (omega arith) (omega arith) c.loop-row.invariant.rows (simp to_z-of_z here);
      span = found.1;
    }
