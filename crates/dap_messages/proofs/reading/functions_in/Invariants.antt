use Rattle.dap_messages.proofs.ReadLists.{AreRead}
use Rattle.dap_messages.specs.Requests.{function_of}
use Rattle.dap_messages.specs.Seen.{function_view}
use Rattle.dap_messages.proofs.reading.functions_in.Given as goal

abbrev pub invariant-loop-listed : goal.invariant-loop-listed
invariant-loop-listed l = AreRead function_of function_view l.all l.listed-index l.list.items
