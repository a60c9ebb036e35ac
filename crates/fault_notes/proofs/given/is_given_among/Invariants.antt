use Rattle.std.proofs.Common.{◌≡◌, drop}
use Rattle.std.specs.List.{list_any}
use Rattle.fault_notes.specs.Given.{is_given}
use Rattle.line_parts.specs.Lexemes.{lexemes}
use Rattle.fault_notes.proofs.given.is_given_among.Given as goal

abbrev pub invariant-loop-token : goal.invariant-loop-token
invariant-loop-token l = list_any (is_given l.given) (lexemes l.tokens)
    ≡ list_any (is_given l.given) (lexemes (drop l.token-index l.tokens))
