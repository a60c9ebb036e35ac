use Rattle.std.proofs.Common.{not, rules}
use Rattle.std.proofs.lemmas.Fn.{filter_same}
use Rattle.word_mon.specs.Notes.{SeenNote, replaces}
use Rattle.word_mon.proofs.notes.forget_replaced.Goals as goal

pub returns : goal.returns
returns c = filter_same _ (λ (n : SeenNote). not (replaces c.args.placed n.placed)) _ (λ x b f t. search rules) c.args.notes.now.items
    c.retain.new.self.items c.retain.ensures.filtered
