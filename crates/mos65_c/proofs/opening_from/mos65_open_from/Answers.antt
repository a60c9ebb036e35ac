use Rattle.std.proofs.Common.{◌∙◌, ap}
use Rattle.model.specs.Session.{Session}
use Rattle.mos65_c.specs.From.{image_beside}
use Rattle.mos65_c.proofs.Begun.{begun, same_session}
use Rattle.mos65_c.proofs.opening_from.mos65_open_from.Goals as goal

pub returns-clause-opened : goal.returns-clause-opened
returns-clause-opened c s closed there =
    let same = same_session _ c.inside-session.result.now s c.inside-session.ensures.value there in
    let all = c.in-Ok.ensures.ok in
    begun c.args.config.now s.current c.in-Ok.map c.in-Ok-image_beside.image c.in-Ok-memory_of.memory.items c.port.result c.regs-regs.result
    c.begin.result c.begin.new.m.slot.session all.0 all.1
    (c.in-Ok-memory_of.ensures.all ∙ ap (λ (t : Session). t.current.bus.memory) same) c.in-Ok-memory_of.ensures.size
    c.port.ensures.value c.port.ensures.within.1
    (c.in-Ok-image_beside.ensures ∙ ap (image_beside c.port.result) c.as_slice.ensures.value)
    (c.regs-regs.ensures ∙ ap (λ (t : Session). t.current.regs) same)
    c.begin.ensures.ok c.begin.ensures.same c.begin.ensures.right
