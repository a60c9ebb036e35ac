use Rattle.std.proofs.Common.{◌≡◌, drop, map}
use Rattle.line_parts.specs.TermViews.{term_view}
use Rattle.emission.specs.Gathering.{with_pieces, value_pieces, word_piece_in}
use Rattle.model.specs.Names.{number_in}
use Rattle.emission.proofs.emit.LineBytes.add_words.Given as goal

abbrev pub invariant-loop-value : goal.invariant-loop-value
invariant-loop-value l = with_pieces l.self (value_pieces (word_piece_in l.order) (number_in l.names) l.here
    (map term_view (drop l.value-index l.values))) ≡ with_pieces l.fn.self
    (value_pieces (word_piece_in l.order) (number_in l.names) l.here (map term_view l.values))
