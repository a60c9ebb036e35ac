use Rattle.std.proofs.Common.{◌∙◌, [], ap, arith, codes, if◌then◌else◌, sym}
use Rattle.std.proofs.lemmas.Bool.{le-ltb, lt-ltb}
use Rattle.std.specs.Prelude.{decimal}
use Rattle.std.specs.Str.Lossy.{utf8_lossy}
use Rattle.dap_messages.specs.SeenAnswers.{no_instruction}
use Rattle.dap_views.proofs.Lossy.{grown}
use Rattle.dap_messages.proofs.Shown.{item_as}
use Rattle.dap_views.specs.Rows.{joined, row_bytes, row_on, row_shown, row_text}
use Rattle.dap_views.proofs.rows.row_of.Goals as goal

pub returns : goal.returns
returns c =
    let mon = c.args.mon.now in
    let files = c.args.source.now.files.now in
    let counting = c.args.source.now.counting in
    let bytes = utf8_lossy (joined [] (codes " ") (row_bytes mon c.args.address c.args.len)) in
    let text = utf8_lossy (row_text mon c.args.address c.args.len) in
    let within = lt-ltb c.args.address 65536 (omega (arith, c.if-address-ge-BEHIND.false)) in
    let row = c.row_on.ensures _ _ (c.as_text-bytes.ensures _ (grown _ _ _ _ c.new-column.ensures.items c.push_row-grown.ensures.column))
    (c.as_text-text.ensures _ (grown _ _ _ _ c.new-words.ensures.items c.push_row-grown.ensures.words)) in
    item_as _ _ _ (ap (row_on files counting c.args.address bytes text) c.row_at-row.ensures
    ∙ sym (ap (λ b. if b then row_shown mon files counting c.args.address c.args.len else no_instruction (decimal c.args.address)) within)) row

pub returns-then-address-ge-BEHIND : goal.returns-then-address-ge-BEHIND
returns-then-address-ge-BEHIND c =
    let mon = c.args.mon.now in
    let files = c.args.source.now.files.now in
    let past = le-ltb c.args.address 65536 (omega (arith, c.if-address-ge-BEHIND.true)) in
    item_as _ _ _ (sym (ap (λ b. if b then row_shown mon files c.args.source.now.counting c.args.address c.args.len else no_instruction
    (decimal c.args.address)) past))
    (c.no_instruction.ensures _ c.format.ensures.ok)
