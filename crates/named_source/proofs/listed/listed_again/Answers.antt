use Rattle.std.proofs.Common.{◌≡◌, Ok, take, ap, ◌∙◌}
use Rattle.model.specs.InstructionText.{TextRow, row_of}
use Rattle.model.specs.OneLineAssembly.{one_line}
use Rattle.named_source.proofs.Answered.{right, only_memory}
use Rattle.named_source.proofs.listed.listed_again.Goals as goal

pub returns-clause-same : goal.returns-clause-same
returns-clause-same c =
    let read : one_line c.args.profile c.args.address (row_of c.args.profile c.args.bytes.now c.args.address).text
    ≡ Ok (take (row_of c.args.profile c.args.bytes.now c.args.address).len c.args.bytes.now)
    = c.text_is_read_again.ensures c.args.profile c.args.bytes.now c.args.address c.requires (λ i. (c.type_inv.bytes i).fits) c.ranges.address.fits in
    let text : take c.line_in-row.result.text_len c.line_in-row.result.text ≡ (row_of c.args.profile c.args.bytes.now c.args.address).text =
    ap (λ (r : TextRow). r.text) c.line_in-row.ensures.text in
    right c.assemble_line_in.result _ _ (ap (one_line c.args.profile c.args.address) text ∙ read) c.assemble_line_in.ensures.exact

pub returns-clause-only : goal.returns-clause-only
returns-clause-only c =
    let read : one_line c.args.profile c.args.address (row_of c.args.profile c.args.bytes.now c.args.address).text
    ≡ Ok (take (row_of c.args.profile c.args.bytes.now c.args.address).len c.args.bytes.now)
    = c.text_is_read_again.ensures c.args.profile c.args.bytes.now c.args.address c.requires (λ i. (c.type_inv.bytes i).fits) c.ranges.address.fits in
    let text : take c.line_in-row.result.text_len c.line_in-row.result.text ≡ (row_of c.args.profile c.args.bytes.now c.args.address).text =
    ap (λ (r : TextRow). r.text) c.line_in-row.ensures.text in
    only_memory c.assemble_line_in.result _ _ (ap (one_line c.args.profile c.args.address) text ∙ read) c.assemble_line_in.ensures.exact
