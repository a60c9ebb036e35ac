use Rattle.std.proofs.Common.{◌≡◌, ◌≤◌, drop}
use Rattle.dap_session.specs.Completions.{typed_bytes}
use Rattle.dap_session.proofs.completion.typed_bytes.Given as goal

abbrev pub invariant-loop-byte : goal.invariant-loop-byte
invariant-loop-byte l = record {
  counted : typed_bytes 0 l.text ≡ typed_bytes l.count (drop l.byte-index l.text);
  inside : l.count ≤ l.byte-index;
}
