use Rattle.std.proofs.Common.{◌≡◌, ◌∙◌, ap, arith, length, rules, sym}
use Rattle.std.proofs.lemmas.List.{length-map, length-take, take_min}
use Rattle.std.proofs.lemmas.Result.{IfOk-weaker}
use Rattle.fault_notes.proofs.Marked.{known_same, lines_read}
use Rattle.model.specs.AllFaults.{smallest}
use Rattle.model.specs.Source.{first_context}
use Rattle.source_faults.specs.Views.{found_view}
use Rattle.source_notes.specs.Lines.{names_of}
use Rattle.lsp_answers.proofs.Marking.{marked_as}
use Rattle.lsp_answers.proofs.fault_marks.source_faults_marked.Goals as goal

pub lay_out-requires-clause-size : goal.lay_out-requires-clause-size
lay_out-requires-clause-size c = c.requires.size

pub lay_out-requires-clause-empty : goal.lay_out-requires-clause-empty
lay_out-requires-clause-empty c = c.new-symbols.ensures

pub slice_bounds-names_of-end : goal.slice_bounds-names_of-end
slice_bounds-names_of-end c = omega (arith, c.min.ensures, length-take c.min.result c.args.lines.now)

pub returns : goal.returns
returns c =
    let p = c.args.map.now.profile in
    let found = rw c.profile.ensures at c.in-Ok.ensures.found in
    let numbers = rw c.profile.ensures at c.in-Ok.ensures.names in
    let size : c.len.result ≡ length c.in-Ok.found.items = search rules in
    let count = size ∙ sym (length-map c.in-Ok.found.items found_view) ∙ ap length found in
    let lines = lines_read smallest (first_context p) p c.args.source.now c.len.result c.args.lines.now c.requires.lines count in
    let names = (rw (c.min.ensures, take_min c.len.result c.args.lines.now) at c.in-Ok-names_of.ensures) ∙ ap names_of lines in
    let marked = rw (c.profile-2.ensures, c.deref.ensures.value) at c.line_faults.ensures in
    IfOk-weaker c.line_faults.result _ _ (λ ds is. marked_as _ _ _ _ c.args.faults.now ds.items c.requires.lines (known_same p _ _ _ _ names numbers) is) marked
