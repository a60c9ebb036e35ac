use Rattle.std.proofs.Common.{◌∙◌, ◌++◌, ap, flat_map, map-id, sym}
use Rattle.std.specs.Prelude.{string_bytes}
use Rattle.std.proofs.lemmas.Iterator.{YieldsList-from_chars}
use Rattle.std.proofs.lemmas.Iterator.Consumers.{YieldsList-end}
use Rattle.t65_reports.specs.Reports.{tap_character}
use Rattle.t65_reports.proofs.reports.push_tap_characters.Goals as goal

pub returns : goal.returns
returns c =
    let end = YieldsList-end (YieldsList-from_chars c.args.name.now c.utf8.name cc) c.loop-character.yielded _ c.loop-character.yielded_by _ _
    c.in-None.is c.next.ensures.steps in
    c.loop-character.invariant ∙ ap (λ cs. string_bytes c.args.text.now ++ flat_map tap_character cs) (sym (map-id c.loop-character.yielded) ∙ end.0)
