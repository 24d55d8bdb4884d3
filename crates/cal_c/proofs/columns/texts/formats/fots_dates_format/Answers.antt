use Rattle.std.proofs.Common.{◌≡◌, ◌≤◌, ◌<◌, ◌+◌, get_or, pos, arith, rules, refl, ap, sym, subst, ◌∙◌, take, drop, length, FitsSigned, w32, to_z}
use Rattle.std.specs.Prelude.{unsigned_abs}
use Rattle.std.proofs.lemmas.List.{length-set, length-take-le}
use Rattle.std.proofs.lemmas.Int.{to_z-of_z}
use Rattle.cal_c.specs.FormatColumns.{IsTextByFormatRow, room_for_text}
use Rattle.cal_c.specs.TextColumns.{HasRoomFor}
use Rattle.cal_c.proofs.FormatRows.{Fits, next-fits}
use Rattle.cal_c.proofs.PrintedRows.{IsPut, one-more-at}
use Rattle.cal_c.proofs.columns.texts.formats.fots_dates_format.Goals as goal

pub put-end-requires : goal.put-end-requires
put-end-requires c =
    let room = room_for_text c.args.format.now in
    let all : HasRoomFor room (length c.args.dates.now) (length c.args.bytes.now) = subst (λ n. HasRoomFor n (length c.args.dates.now) (length c.args.bytes.now)) c.room_for_text.ensures.value (c.if-not-has_room.ensures.0 refl) in
    let below : c.loop-row.row < length c.args.dates.now = omega arith in
    let fits : Fits c.loop-row.end c.text_row-length.result.0 c.loop-row.row room (length c.args.bytes.now) = next-fits c.loop-row.end c.text_row-length.result.0 c.loop-row.row (length c.args.dates.now) room (length c.args.bytes.now) c.loop-row.invariant.printed.few c.text_row-length.ensures.max_length below all.room in
    let long : length (take c.text_row-length.result.0 c.text_row-length.new.text) ≡ c.text_row-length.result.0 = length-take-le c.text_row-length.result.0 c.text_row-length.new.text (omega (arith, c.text_row-length.ensures.max_length, c.room_for_text.ensures.range.1, c.room_for_text.ensures.value, c.text_row-length.ensures.room)) in
    omega (arith, fits.within, c.loop-row.auto.bytes, long)

pub overflow_cast-bounds : goal.overflow_cast-bounds
overflow_cast-bounds c =
    let room = room_for_text c.args.format.now in
    let all : HasRoomFor room (length c.args.dates.now) (length c.args.bytes.now) = subst (λ n. HasRoomFor n (length c.args.dates.now) (length c.args.bytes.now)) c.room_for_text.ensures.value (c.if-not-has_room.ensures.0 refl) in
    let below : c.loop-row.row < length c.args.dates.now = omega arith in
    let fits : Fits c.loop-row.end c.text_row-length.result.0 c.loop-row.row room 2_147_483_647 = next-fits c.loop-row.end c.text_row-length.result.0 c.loop-row.row (length c.args.dates.now) room 2_147_483_647 c.loop-row.invariant.printed.few c.text_row-length.ensures.max_length below all.few in
    let long : length (take c.text_row-length.result.0 c.text_row-length.new.text) ≡ c.text_row-length.result.0 = length-take-le c.text_row-length.result.0 c.text_row-length.new.text (omega (arith, c.text_row-length.ensures.max_length, c.room_for_text.ensures.range.1, c.room_for_text.ensures.value, c.text_row-length.ensures.room)) in
    let small : c.put-end.result ≤ 2_147_483_647 = omega (arith, c.put-end.ensures.value, long, fits.within) in
    search rules

pub loop-row-preserved : goal.loop-row-preserved
loop-row-preserved c =
    let room = room_for_text c.args.format.now in
    let all : HasRoomFor room (length c.args.dates.now) (length c.args.bytes.now) = subst (λ n. HasRoomFor n (length c.args.dates.now) (length c.args.bytes.now)) c.room_for_text.ensures.value (c.if-not-has_room.ensures.0 refl) in
    let below : c.loop-row.row < length c.args.dates.now = omega arith in
    let count = c.text_row-length.result.0 in
    let text = take count c.text_row-length.new.text in
    let next = c.put-end.result in
    let fits : Fits c.loop-row.end count c.loop-row.row room (length c.args.bytes.now) = next-fits c.loop-row.end count c.loop-row.row (length c.args.dates.now) room (length c.args.bytes.now) c.loop-row.invariant.printed.few c.text_row-length.ensures.max_length below all.room in
    let short : Fits c.loop-row.end count c.loop-row.row room 2_147_483_647 = next-fits c.loop-row.end count c.loop-row.row (length c.args.dates.now) room 2_147_483_647 c.loop-row.invariant.printed.few c.text_row-length.ensures.max_length below all.few in
    let long : length text ≡ count = length-take-le count c.text_row-length.new.text (omega (arith, c.text_row-length.ensures.max_length, c.room_for_text.ensures.range.1, c.room_for_text.ensures.value, c.text_row-length.ensures.room)) in
    let put : IsPut c.loop-row.end text c.loop-row.bytes c.put-end.new.bytes = record {
      as_long = c.put-end.ensures.length;
      front = c.put-end.ensures.before;
      put = c.put-end.ensures.text;
      back = c.put-end.ensures.after;
    } in
    let f-dates : FitsSigned w32 (get_or c.args.dates.now c.loop-row.row (pos 0)) = search rules in
    let here : IsTextByFormatRow c.args.format.now (get_or c.args.dates.now c.loop-row.row (pos 0)) text c.text_row-length.result.1 = (simp to_z-of_z at c.text_row-length.ensures.value) in
    let small : next ≤ 2_147_483_647 = omega (arith, c.put-end.ensures.value, long, short.within) in
    let bound : to_z w32 next ≡ pos next = search rules in
    let hb : c.loop-row.row + 1 < length c.loop-row.bounds = omega (arith, simp length-set at c.loop-row.auto.bounds) in
    let hs : c.loop-row.row < length c.loop-row.statuses = omega arith in
    record {
      printed =
          one-more-at (λ k text status. IsTextByFormatRow c.args.format.now (get_or c.args.dates.now k (pos 0)) text status) room c.args.bytes.now c.loop-row.bytes c.put-end.new.bytes c.loop-row.bounds c.loop-row.statuses c.loop-row.row c.loop-row.end text c.text_row-length.result.1 next (to_z w32 next) c.put-end.ensures.value bound hb hs
          (omega (arith, c.put-end.ensures.value, long, fits.within, c.loop-row.auto.bytes)) (omega (arith, c.put-end.ensures.value, long, fits.so_far)) c.loop-row.invariant.printed put here;
      room = c.text_row-length.ensures.room;
    }

pub returns : goal.returns
returns c =
    let room = room_for_text c.args.format.now in
    let all : HasRoomFor room (length c.args.dates.now) (length c.args.bytes.now) = subst (λ n. HasRoomFor n (length c.args.dates.now) (length c.args.bytes.now)) c.room_for_text.ensures.value (c.if-not-has_room.ensures.0 refl) in
    let printed = c.loop-row.invariant.printed in
    let long : length c.loop-row.statuses ≡ c.loop-row.row = omega arith in
    record {
      error = λ no. absurd (no (c.if-not-are_bounds.ensures.0 refl, omega arith, all));
      value = λ yes. record {
        first = printed.first;
        bytes_between = λ k below. printed.part k (omega (arith, below, long));
        text = λ k below. printed.text k (omega (arith, below, long));
        rest =
            subst (λ n. drop n c.loop-row.bytes ≡ drop n c.args.bytes.now) (sym (ap (λ n. unsigned_abs (get_or c.loop-row.bounds n (pos 0))) long ∙ ap unsigned_abs printed.last)) printed.rest;
        count = c.count_errors.ensures;
      };
    }
