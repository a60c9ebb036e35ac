use Rattle.std.proofs.Common.{◌≡◌, ◌+◌, ◌-◌, ◌*◌, Some}
use Rattle.line_parts.specs.Lexemes.{lexemes}
use Rattle.line_parts.specs.TermViews.{term_view}
use Rattle.model.specs.Reading.{inner_at, more_with, sum_with}
use Rattle.parser.proofs.parse.+parse.Given as goal

abbrev pub decreases-primary : goal.decreases-primary
decreases-primary l = 4 * l.depth

abbrev pub decreases-sum : goal.decreases-sum
decreases-sum l = 4 * l.depth + 3

abbrev pub decreases-unary : goal.decreases-unary
decreases-unary l = 4 * l.depth + 1

abbrev pub invariant-sum-loop : goal.invariant-sum-loop
invariant-sum-loop l = Some (more_with (inner_at l.depth) (l.end - l.counter) (term_view l.left) (lexemes l.rest))
    ≡ sum_with (inner_at l.depth) (lexemes l.fn.tokens)

abbrev pub decreases-next : goal.decreases-next
decreases-next l = 4 * l.depth + 2
