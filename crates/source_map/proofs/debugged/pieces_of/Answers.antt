use Rattle.std.proofs.Common.{◌≡◌, ◌∙◌, ◌++◌, arith, ap, List, Option}
use Rattle.std.specs.Option.{option_to_list}
use Rattle.debug_records.specs.Info.{record_at}
use Rattle.debug_records.specs.declared.row.Row.{Row as DebugRow}
use Rattle.source_map.specs.Debugged.{Program, piece_of}
use Rattle.source_map.specs.declared.rows.Row.{Row}
use Rattle.source_map.proofs.Pieces.{all_pieces, none_made, piece_made}
use Rattle.source_map.proofs.debugged.pieces_of.Goals as goal

pub loop-place-init : goal.loop-place-init
loop-place-init c = record { few = omega arith; left = none_made _ _ _ c.new-pieces.ensures.items }

pub loop-place-preserved : goal.loop-place-preserved
loop-place-preserved c =
    let program : Program = record { profile = c.args.profile; image = c.args.image.now } in
    let begun = c.in_ok-begun_rows.begun_rows.items in
    let shown = c.in_ok-shown_rows.shown_rows.items in
    let place = c.loop-place.place in
    let made = c.loop-place.pieces.items in
    let at_begun : c.record_at-begun.result ≡ record_at begun place =
    c.record_at-begun.ensures ∙ ap (λ (t : List (Option DebugRow)). record_at t place) c.deref.ensures.value in
    let at_shown : c.record_at-shown.result ≡ record_at shown place =
    c.record_at-shown.ensures ∙ ap (λ (t : List (Option DebugRow)). record_at t place) c.deref-in-loop-place.ensures.value in
    record {
      few = omega (arith, c.loop-place-test.true);
      left = piece_made program c.args.rows.now begun shown made c.push_some.new.rows.items place c.loop-place-test.true
          c.in_ok-begun_rows.ensures c.in_ok-shown_rows.ensures
          (c.in_ok-push_some.ensures ∙ ap (λ (o : Option Row). made ++ option_to_list o)
          (c.piece_of-row.ensures ∙ (ap (λ b. piece_of program place b c.record_at-shown.result) at_begun
          ∙ ap (piece_of program place (record_at begun place)) at_shown)))
          c.loop-place.invariant.left;
    }

pub returns : goal.returns
returns c = all_pieces _ _ _ c.loop-place.place (omega (arith, c.loop-place-test.false, c.loop-place.invariant.few)) c.loop-place.invariant.left
