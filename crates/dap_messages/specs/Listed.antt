-- The numbers of breakpoints. Source: Debug Adapter Protocol 1.65, "Breakpoint": a number of its own
-- for each; which numbers, mos65.
use Rattle.std.specs.Prelude.{ℕ, zero, suc, Vec}
use Rattle.std.specs.declared.alloc.Global.{Global}
use Rattle.dap_messages.specs.Messages.{next_number}
use Rattle.dap_messages.specs.declared.listed.AddressList.{AddressList}
use Rattle.dap_messages.specs.declared.listed.FunctionList.{FunctionList}
use Rattle.dap_messages.specs.declared.listed.LineList.{LineList}
use Rattle.dap_messages.specs.declared.listed.Listed.{Listed}
use Rattle.dap_messages.specs.declared.request.FunctionBreakpoint.{FunctionBreakpoint}
use Rattle.dap_messages.specs.declared.request.InstructionBreakpoint.{InstructionBreakpoint}
use Rattle.dap_messages.specs.declared.request.SourceBreakpoint.{SourceBreakpoint}

-- The number behind so many, of which the first is given.
unfoldable pub reserved : ℕ → ℕ → ℕ
reserved first zero = first
reserved first (suc n) = reserved (next_number first) n

-- So many are taken for breakpoints that are listed.
abbrev pub reserving : ℕ → Listed → Listed
reserving count listed = record listed { next = reserved listed.next count }

-- Breakpoints that are listed begin with the next number.
abbrev pub lines_of : Listed → Vec SourceBreakpoint Global → LineList
lines_of listed list = record { first = listed.next; list = list }

abbrev pub addresses_of : Listed → Vec InstructionBreakpoint Global → AddressList
addresses_of listed list = record { first = listed.next; list = list }

abbrev pub functions_of : Listed → Vec FunctionBreakpoint Global → FunctionList
functions_of listed list = record { first = listed.next; list = list }
