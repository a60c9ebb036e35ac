use Rattle.std.proofs.Common.{◌∙◌, ◌+◌, ◌<◌, ◌≤◌, ◌++◌, ◌∷◌, [], length, length-append, append_assoc, drop, get_or, sym, ap, subst, arith}
use Rattle.std.proofs.lemmas.List.{append-nil}
use Rattle.std.proofs.Math.ListN.{drop_of_length-le}
use Rattle.word_trace.specs.Notes.{is_kept, kept}
use Rattle.word_trace.proofs.Keeping.{left_out, none_left, pushed, taken}
use Rattle.word_trace.proofs.notes.kept.Goals as goal

pub loop-address-preserved-then-not-is_kept : goal.loop-address-preserved-then-not-is_kept
loop-address-preserved-then-not-is_kept c =
    let map = c.args.session.now.current.bus.map in
    let rom = c.args.file.now.rom in
    let port = c.args.file.now.port in
    let i = c.loop-address.address-index in
    let stores = c.args.stores.now.items in
    let value = c.as_slice-address-items.ensures.value in
    let within = subst (λ xs. i < length xs) value c.loop-address-test.true in
    let is = ap (λ xs. is_kept map rom port (get_or xs i 0)) (sym value) ∙ sym c.is_kept.ensures ∙ c.if-not-is_kept.true in
    record {
      short = omega (arith, c.loop-address.invariant.short);
      rows = sym (ap (λ xs. c.loop-address.kept.items ++ xs) (left_out map rom port i stores within is)) ∙ c.loop-address.invariant.rows;
    }

pub loop-address-preserved : goal.loop-address-preserved
loop-address-preserved c =
    let map = c.args.session.now.current.bus.map in
    let rom = c.args.file.now.rom in
    let port = c.args.file.now.port in
    let i = c.loop-address.address-index in
    let stores = c.args.stores.now.items in
    let items = c.loop-address.kept.items in
    let value = c.as_slice-address-items.ensures.value in
    let within = subst (λ xs. i < length xs) value c.loop-address-test.true in
    let is = ap (λ xs. is_kept map rom port (get_or xs i 0)) (sym value) ∙ sym c.is_kept.ensures ∙ c.if-not-is_kept.false in
    let more = pushed c.try_push.result _ _ c.try_push.ensures.ok c.try_push.ensures.full
    (λ full. omega (arith, full, c.loop-address.invariant.short, c.loop-address-test.true, c.as_slice-address-items.ensures.fits)) in
    let grown = more ∙ ap (λ xs. items ++ get_or xs i 0 ∷ []) value in
    record {
      short = omega (arith, ap length more, length-append items (get_or c.as_slice-address-items.result.now i 0 ∷ []), c.loop-address.invariant.short);
      rows = ap (λ xs. xs ++ kept map rom port (drop (i + 1) stores)) grown
          ∙ append_assoc items (get_or stores i 0 ∷ []) (kept map rom port (drop (i + 1) stores))
          ∙ sym (ap (λ xs. items ++ xs) (taken map rom port i stores within is)) ∙ c.loop-address.invariant.rows;
    }

pub returns : goal.returns
returns c =
    let items = c.loop-address.kept.items in
    let stores = c.args.stores.now.items in
    let i = c.loop-address.address-index in
    let past = subst (λ xs. length xs ≤ i) c.as_slice-address-items.ensures.value c.loop-address-test.false in
    sym (ap (λ xs. items ++ xs) (none_left c.args.session.now.current.bus.map c.args.file.now.rom c.args.file.now.port (drop i stores)
    (drop_of_length-le stores past)) ∙ append-nil items)
    ∙ c.loop-address.invariant.rows
