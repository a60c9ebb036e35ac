use Rattle.std.proofs.Common.{flat_map, sym, ap, ◌∙◌, map-id}
use Rattle.std.proofs.lemmas.Iterator.{YieldsList-from_chars}
use Rattle.std.proofs.lemmas.Iterator.Consumers.{YieldsList-end}
use Rattle.arguments.specs.Shown.{shown_char}
use Rattle.arguments.proofs.shown.shown_name.Goals as goal

pub returns : goal.returns
returns c =
    let end = YieldsList-end (YieldsList-from_chars c.args.name.now c.utf8.name cc) c.loop-character.yielded _ c.loop-character.yielded_by _ _
    c.in-None.is c.next.ensures.steps in
    c.loop-character.invariant ∙ ap (flat_map shown_char) (sym (map-id c.loop-character.yielded) ∙ end.0)
