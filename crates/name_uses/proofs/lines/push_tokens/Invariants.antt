use Rattle.std.proofs.Common.{◌≡◌, ◌++◌}
use Rattle.line_parts.specs.Lexemes.{lexemes}
use Rattle.name_uses.proofs.Steps.{uses_left}
use Rattle.name_uses.specs.Uses.{uses_in}
use Rattle.name_uses.specs.Views.{use_views}
use Rattle.name_uses.proofs.lines.push_tokens.Given as goal

abbrev pub invariant-loop-token : goal.invariant-loop-token
invariant-loop-token l = use_views l.uses.items ++ uses_left l.profile l.number l.defined l.tokens l.token-index
    ≡ use_views l.fn.uses.items ++ uses_in l.profile l.number l.defines (lexemes l.tokens)
