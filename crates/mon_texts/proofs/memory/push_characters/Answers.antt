use Rattle.std.proofs.Common.{◌∙◌, ◌++◌, ap, refl, arith}
use Rattle.mon_texts.specs.Memory.{character_text}
use Rattle.mon_texts.proofs.Bytes.{none_yet, one_more, all_done}
use Rattle.mon_texts.proofs.memory.push_characters.Goals as goal

pub loop-offset-init : goal.loop-offset-init
loop-offset-init c = none_yet character_text c.args.session.now.current.bus.memory c.args.first 0 c.args.count c.args.text.now.items refl

pub loop-offset-preserved : goal.loop-offset-preserved
loop-offset-preserved c = one_more character_text c.args.session.now.current.bus.memory c.args.first c.loop-offset.offset c.args.count
    _ _ _ c.peek.ensures.within (omega arith)
    (c.in_ok-push_character.ensures.ok ∙ ap (λ b. c.loop-offset.text.items ++ character_text b) c.peek.ensures.value) c.loop-offset.invariant

pub returns : goal.returns
returns c = all_done character_text c.args.session.now.current.bus.memory c.args.first c.loop-offset.offset c.args.count _ _ (omega arith)
    c.loop-offset.invariant
