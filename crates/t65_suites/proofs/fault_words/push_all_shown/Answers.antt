use Rattle.std.proofs.Common.{◌∙◌, ◌++◌, ap, flat_map, map-id, sym}
use Rattle.std.specs.Prelude.{string_bytes}
use Rattle.std.proofs.lemmas.Iterator.{YieldsList-from_chars}
use Rattle.std.proofs.lemmas.Iterator.Consumers.{YieldsList-end}
use Rattle.t65_suites.specs.FaultTexts.{shown_character}
use Rattle.t65_suites.proofs.fault_words.push_all_shown.Goals as goal

pub returns : goal.returns
returns c =
    let end = YieldsList-end (YieldsList-from_chars c.args.characters.now c.utf8.characters cc) c.loop-character.yielded _ c.loop-character.yielded_by
    _ _ c.in-None.is c.next.ensures.steps in
    c.loop-character.invariant ∙ ap (λ cs. string_bytes c.args.text.now ++ flat_map shown_character cs) (sym (map-id c.loop-character.yielded) ∙ end.0)
