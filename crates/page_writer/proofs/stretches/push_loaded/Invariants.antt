use Rattle.std.proofs.Common.{◌≡◌, ◌≤◌, ◌++◌, drop}
use Rattle.page_writer.specs.Facts.{loaded_facts}
use Rattle.page_writer.proofs.stretches.push_loaded.Given as goal

abbrev pub invariant-loop-address : goal.invariant-loop-address
invariant-loop-address l = record {
  within : l.len ≤ l.address;
  told : l.text.items ++ loaded_facts l.address l.len (drop l.address l.fn.written) ≡ l.fn.text.items ++ loaded_facts 0 0 l.fn.written;
}
