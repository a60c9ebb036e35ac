use Rattle.std.proofs.Common.{◌≡◌, ◌++◌, subst}
use Rattle.std.specs.Prelude.{OnOk}
use Rattle.model.specs.declared.registers.Regs.{Regs}
use Rattle.mon_steps.specs.BackTexts.{at_break_text}
use Rattle.mon_steps.proofs.back.say_break.Goals as goal

pub returns-clause-text : goal.returns-clause-text
returns-clause-text c =
    subst (λ (r : Regs). OnOk c.say_place.result (c.say_place.new.mon.text.items
    ≡ c.args.mon.now.text.items ++ at_break_text c.args.mon.now.places.names r.pc))
    c.regs-pc.ensures c.say_place.ensures.text
