use Rattle.std.proofs.Common.{◌≡◌, length}
use Rattle.std.specs.Vec.Iter.{into_iter_items, into_iter_len}
use Rattle.dap_session.proofs.FilesAgain.{Leads}
use Rattle.dap_session.specs.Answered.{KeepsMade}
use Rattle.dap_session.proofs.answering.files_again.Given as goal

-- what the lists that are left do, all do
abbrev pub invariant-loop-listed : goal.invariant-loop-listed
invariant-loop-listed g l = record {
  set : Leads l.counting l.files l.fn.lists.items l.fn.client (into_iter_items l.listed-iterator) l.client;
  len : into_iter_len l.listed-iterator ≡ length (into_iter_items l.listed-iterator);
  kept : KeepsMade l.fn.client.mon l.client.mon;
  launch : l.client.launch ≡ l.fn.client.launch;
}
