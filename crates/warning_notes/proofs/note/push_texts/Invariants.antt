use Rattle.std.proofs.Common.{◌≡◌, ◌++◌, drop}
use Rattle.warning_notes.specs.Notes.{joined}
use Rattle.warning_notes.proofs.note.push_texts.Given as goal

abbrev pub invariant-loop-token : goal.invariant-loop-token
invariant-loop-token l = l.words.items ++ joined (drop l.token-index l.tokens) ≡ l.fn.words.items ++ joined l.tokens
