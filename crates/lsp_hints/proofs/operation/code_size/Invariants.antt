use Rattle.std.proofs.Common.{◌≡◌, ◌+◌, drop}
use Rattle.lsp_hints.specs.Operations.{code_from}
use Rattle.lsp_hints.proofs.operation.code_size.Given as goal

abbrev pub invariant-loop-index : goal.invariant-loop-index
invariant-loop-index l = code_from 0 l.line ≡ l.index + code_from l.covered (drop l.index l.line)
