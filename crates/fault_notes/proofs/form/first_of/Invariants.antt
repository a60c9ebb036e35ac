use Rattle.std.proofs.Common.{◌≡◌, drop}
use Rattle.fault_notes.specs.Marks.{first_of}
use Rattle.fault_notes.proofs.form.first_of.Given as goal

abbrev pub invariant-loop-token : goal.invariant-loop-token
invariant-loop-token l = first_of l.symbol l.tokens ≡ first_of l.symbol (drop l.token-index l.tokens)
