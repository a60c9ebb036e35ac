use Rattle.std.proofs.Common.{◌≡◌, drop}
use Rattle.lsp_answers.specs.Search.{left_of}
use Rattle.lsp_answers.proofs.search.has_letters.Given as goal

abbrev pub invariant-loop-byte : goal.invariant-loop-byte
invariant-loop-byte l = left_of l.left (drop l.byte-index l.name) ≡ left_of l.query l.name
