use Rattle.dap_messages.proofs.ReadLists.{AreRead}
use Rattle.dap_messages.specs.Requests.{instruction_of}
use Rattle.dap_messages.specs.Seen.{instruction_view}
use Rattle.dap_messages.proofs.reading.instructions_in.Given as goal

abbrev pub invariant-loop-listed : goal.invariant-loop-listed
invariant-loop-listed l = AreRead instruction_of instruction_view l.all l.listed-index l.list.items
