use Rattle.dap_messages.proofs.ReadLists.{AreRead}
use Rattle.dap_messages.specs.Requests.{source_of}
use Rattle.dap_messages.specs.Seen.{source_view}
use Rattle.dap_messages.proofs.reading.sources_in.Given as goal

abbrev pub invariant-loop-listed : goal.invariant-loop-listed
invariant-loop-listed l = AreRead source_of source_view l.all l.listed-index l.list.items
