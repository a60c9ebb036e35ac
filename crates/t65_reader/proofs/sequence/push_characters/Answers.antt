use Rattle.std.proofs.Common.{◌∙◌, ◌-◌, ◌+◌, sym, ap, arith, length}
use Rattle.std.specs.Option.{option_map}
use Rattle.t65_reader.proofs.Pieces.{characters_end, characters_more, no_character_left}
use Rattle.t65_reader.proofs.sequence.push_characters.Goals as goal

pub returns-in-None-clause-ok : goal.returns-in-None-clause-ok
returns-in-None-clause-ok c = c.loop.invariant.read
    ∙ characters_end (length c.args.text.now - c.loop.counter) _ _ (sym c.character_of.ensures ∙ ap (option_map _) c.in-None.is)

pub loop-preserved : goal.loop-preserved
loop-preserved c = record {
  read = c.loop.invariant.read
      ∙ characters_more (length c.args.text.now - c.loop.counter) (length c.args.text.now - (c.loop.counter + 1)) _ _ _ _ _ _ (omega arith)
      (sym c.character_of.ensures ∙ ap (option_map _) c.in-Some.is) c.in-Ok.ensures.ok;
}

pub returns-clause-ok : goal.returns-clause-ok
returns-clause-ok c = c.loop.invariant.read ∙ no_character_left (length c.args.text.now - c.loop.counter) _ _ (omega arith)
