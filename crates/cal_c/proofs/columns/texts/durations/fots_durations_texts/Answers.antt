use Rattle.std.proofs.Common.{◌≡◌, ◌≤◌, ◌<◌, ◌+◌, ◌*◌, get_or, pos, arith, rules, refl, ap, subst, sym, ◌∙◌, drop, length, FitsSigned, w32, w64, to_z}
use Rattle.std.specs.Prelude.{unsigned_abs}
use Rattle.std.proofs.lemmas.List.{length-set}
use Rattle.std.proofs.lemmas.Int.{to_z-of_z}
use Rattle.cal_c.specs.TextColumns.{HasRoomFor}
use Rattle.cal_c.specs.DurationColumns.{duration_at, IsDurationTextRow}
use Rattle.cal_c.proofs.PrintedRows.{IsPut, one-more-at}
use Rattle.cal_c.proofs.columns.texts.durations.fots_durations_texts.Goals as goal

pub loop-row-preserved : goal.loop-row-preserved
loop-row-preserved c =
    let text = c.as_bytes.result.now in
    let next = c.put-end.result in
    let put : IsPut c.loop-row.end text c.loop-row.bytes c.put-end.new.bytes = record {
      as_long = c.put-end.ensures.length;
      front = c.put-end.ensures.before;
      put = c.put-end.ensures.text;
      back = c.put-end.ensures.after;
    } in
    let f-seconds : FitsSigned w64 (get_or c.args.seconds.now c.loop-row.row (pos 0)) = search rules in
    let f-nanoseconds : FitsSigned w32 (get_or c.args.nanoseconds.now c.loop-row.row (pos 0)) = search rules in
    let same : text ≡ c.duration_text_row-text.result.0 = c.as_bytes.ensures.value in
    let as_long : length text ≡ length c.duration_text_row-text.result.0 = ap length same in
    let here : IsDurationTextRow (duration_at (get_or c.args.seconds.now c.loop-row.row (pos 0)) (get_or c.args.nanoseconds.now c.loop-row.row (pos 0))) c.duration_text_row-text.result.0 c.duration_text_row-text.result.1 = simp to_z-of_z at c.duration_text_row-text.ensures.value in
    let few : next ≤ (c.loop-row.row + 1) * 36 = omega (arith, c.put-end.ensures.value, c.loop-row.invariant.few, c.duration_text_row-text.ensures.max_length, as_long) in
    let all : HasRoomFor 36 (length c.args.seconds.now) (length c.args.bytes.now) = c.if-not-has_room.ensures.0 refl in
    let below : c.loop-row.row < length c.args.seconds.now = omega arith in
    let small : next ≤ 2_147_483_647 = omega (arith, few, all.few, below) in
    let bound : to_z w32 next ≡ pos next = search rules in
    let hb : c.loop-row.row + 1 < length c.loop-row.bounds = omega (arith, simp length-set at c.loop-row.auto.bounds) in
    let hs : c.loop-row.row < length c.loop-row.statuses = omega arith in
    let room : next ≤ length c.loop-row.bytes = omega (arith, few, all.room, c.loop-row.auto.bytes) in
    one-more-at (λ k text status. IsDurationTextRow (duration_at (get_or c.args.seconds.now k (pos 0)) (get_or c.args.nanoseconds.now k (pos 0))) text status) 36 c.args.bytes.now c.loop-row.bytes c.put-end.new.bytes c.loop-row.bounds c.loop-row.statuses c.loop-row.row c.loop-row.end text c.duration_text_row-text.result.1 next (to_z w32 next) c.put-end.ensures.value bound hb hs room few c.loop-row.invariant put
    (subst (λ t. IsDurationTextRow (duration_at (get_or c.args.seconds.now c.loop-row.row (pos 0)) (get_or c.args.nanoseconds.now c.loop-row.row (pos 0))) t c.duration_text_row-text.result.1) (sym same) here)

pub returns : goal.returns
returns c =
    let all : HasRoomFor 36 (length c.args.seconds.now) (length c.args.bytes.now) = c.if-not-has_room.ensures.0 refl in
    let printed = c.loop-row.invariant in
    let long : length c.loop-row.statuses ≡ c.loop-row.row = omega arith in
    record {
      error = λ no. absurd (no (c.if-not-are_bounds.ensures.0 refl, omega arith, omega arith, all));
      value = λ yes. record {
        first = printed.first;
        bytes_between = λ k below. printed.part k (omega (arith, below, long));
        text = λ k below. printed.text k (omega (arith, below, long));
        rest =
            subst (λ n. drop n c.loop-row.bytes ≡ drop n c.args.bytes.now) (sym (ap (λ n. unsigned_abs (get_or c.loop-row.bounds n (pos 0))) long ∙ ap unsigned_abs printed.last)) printed.rest;
        count = c.count_errors.ensures;
      };
    }
