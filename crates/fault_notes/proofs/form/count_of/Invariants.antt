use Rattle.std.proofs.Common.{◌≡◌, ◌≤◌, take}
use Rattle.fault_notes.specs.Marks.{count_of}
use Rattle.fault_notes.proofs.form.count_of.Given as goal

abbrev pub invariant-loop-token : goal.invariant-loop-token
invariant-loop-token l = record {
  count : l.count ≡ count_of l.symbol (take l.token-index l.tokens);
  few : l.count ≤ l.token-index;
}
