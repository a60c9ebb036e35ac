use Rattle.dap_messages.proofs.ReadLists.{AreRead}
use Rattle.dap_messages.specs.Requests.{data_of}
use Rattle.dap_messages.specs.declared.request.DataBreakpoint.{DataBreakpoint}
use Rattle.dap_messages.proofs.reading.bytes_in.Given as goal

abbrev pub invariant-loop-listed : goal.invariant-loop-listed
invariant-loop-listed l = AreRead data_of (λ (b : DataBreakpoint). b) l.all l.listed-index l.list.items
