use Rattle.std.proofs.Common.{◌≡◌, drop, not}
use Rattle.std.specs.List.{find}
use Rattle.source_notes.specs.Operands.{is_symbol}
use Rattle.warning_notes.proofs.note.inner_text.Given as goal

abbrev pub invariant-loop-token : goal.invariant-loop-token
invariant-loop-token l = find (λ token. not (is_symbol token 91)) l.tokens ≡ find (λ token. not (is_symbol token 91)) (drop l.token-index l.tokens)
