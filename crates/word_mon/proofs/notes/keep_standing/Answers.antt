use Rattle.std.proofs.Common.{rules}
use Rattle.std.proofs.lemmas.Fn.{filter_same}
use Rattle.word_mon.specs.Notes.{SeenNote, stands}
use Rattle.word_mon.proofs.notes.keep_standing.Goals as goal

pub returns : goal.returns
returns c = filter_same _ (λ (n : SeenNote). stands c.args.mon.now n.placed) _ (λ x b f t. search rules) c.args.notes.now.items
    c.retain.new.self.items c.retain.ensures.filtered
