use Rattle.std.proofs.Common.{◌∙◌, length, map, sym, ap}
use Rattle.std.proofs.lemmas.List.{length-map}
use Rattle.model.specs.AllFaults.{smallest}
use Rattle.model.specs.Source.{first_context}
use Rattle.source_notes.specs.Lines.{name_view, names_of, texts_of}
use Rattle.source_faults.specs.Views.{found_view}
use Rattle.fault_notes.proofs.Marked.{blocks_as, known_same, lines_read}
use Rattle.fault_notes.proofs.block.found_blocks.Goals as goal

pub returns : goal.returns
returns c =
    let p = c.args.profile in
    let source = c.args.source.now in
    let lines = ap texts_of c.deref.ensures.value ∙ c.in_ok-lines.ensures in
    let count = sym (length-map c.args.found.now found_view) ∙ ap length c.requires.found in
    let read = lines_read smallest (first_context p) p source (length c.args.found.now) c.deref.result.now lines count in
    let names = ap (map name_view) c.deref-2.ensures.value ∙ c.in_ok-names.ensures ∙ ap names_of read in
    let known = known_same p _ _ _ _ names c.requires.names in
    blocks_as (λ text. text.items) c.line_blocks.result c.args.file.now _ _ _ _ c.args.faults.now
    (ap texts_of c.deref-3.ensures.value ∙ c.in_ok-lines.ensures) known c.line_blocks.ensures
