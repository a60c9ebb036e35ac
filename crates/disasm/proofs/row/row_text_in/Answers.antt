use Rattle.std.proofs.Common.{◌≡◌, take, arith, ap}
use Rattle.std.proofs.lemmas.Grind.{common_steps}
use Rattle.model.specs.Disassembly.{row_line}
use Rattle.model.specs.InstructionText.{TextRow, row_of}
use Rattle.disasm.proofs.Columns.{all_of, joined}
use Rattle.disasm.proofs.row.row_text_in.Goals as goal

pub returns-clause-text : goal.returns-clause-text
unfolding row_line
returns-clause-text c =
    let text : take c.line_in-row.result.text_len c.line_in-row.result.text ≡ (row_of c.args.profile c.args.bytes.now c.args.address).text =
    ap (λ (r : TextRow). r.text) c.line_in-row.ensures.text in
    let len : c.line_in-row.result.len ≡ (row_of c.args.profile c.args.bytes.now c.args.address).len = ap (λ (r : TextRow). r.len) c.line_in-row.ensures.text in
    let all : take 3 (take c.line_in-row.result.len c.args.bytes.now) ≡ take c.line_in-row.result.len c.args.bytes.now =
    all_of _ (grind (arith, common_steps, c.requires.few)) in
    rw (
      c.push_bytes-5.ensures,
      c.push_bytes-4.ensures,
      c.push_bytes-3.ensures,
      c.push_bytes-2.ensures,
      c.push_bytes.ensures,
      c.byte_columns.ensures,
      c.new-text.ensures,
      c.digits_of_address.ensures,
      all,
      text,
      len,
    ) (joined _ _ _ _ _ _)
