use Rattle.std.proofs.Common.{ap, ◌∙◌, length}
use Rattle.model.specs.InstructionText.{row_of}
use Rattle.mos65_c.proofs.Shown.{shown_all}
use Rattle.mos65_c.proofs.looking.shown_row.Goals as goal

pub returns-clause-text : goal.returns-clause-text
returns-clause-text c =
    let memory = c.args.session.now.current.bus.memory in
    let bytes = c.read.ensures ∙ shown_all memory c.args.address (length c.args.bytes.now) c.peek-first.ensures.size c.requires in
    c.line_in.ensures.text
    ∙ ap (λ profile. row_of profile c.read.new.out c.args.address) c.profile.ensures
    ∙ ap (λ bs. row_of c.args.session.now.current.bus.map.profile bs c.args.address) bytes
