-- Log points: breakpoints of a source at which a run says something and goes on. Source: Debug Adapter
-- Protocol 1.65, "SourceBreakpoint"; which of several counts, mos65.
use Rattle.std.specs.Prelude.{ℕ, ◌≡◌, ◌==◌, ◌||◌, is_some, Bool, true, false, if◌then◌else◌, List, [], ◌∷◌, length, string_bytes, Option, Some, None}
use Rattle.std.specs.Option.{option_or}
use Rattle.dap_messages.specs.Messages.{Said, next_number}
use Rattle.dap_messages.specs.declared.client_event.Category.TheVariants.{Console}
use Rattle.dap_messages.specs.declared.halt.Reason.{Reason}
use Rattle.dap_messages.specs.declared.halt.Reason.TheVariants.{Breakpoint}
use Rattle.dap_messages.specs.declared.listed.FileLines.{FileLines}
use Rattle.dap_messages.specs.declared.listed.Listed.{Listed}
use Rattle.dap_messages.specs.declared.listed.Placed.{Placed}
use Rattle.dap_messages.specs.declared.request.SourceBreakpoint.{SourceBreakpoint}
use Rattle.dap_session.specs.Stands.{is_at}
use Rattle.dap_session.specs.Told.{output_said}
use Rattle.dap_session.specs.declared.client.Client.{Client}

-- ---- which breakpoint stands at an address

-- The number of the last of some that stands there: of several the last counts.
abbrev pub id_or : Placed → ℕ → Option ℕ → Option ℕ
id_or placed pc found = if placed.address == pc then Some placed.id else found

unfoldable pub last_from : Option ℕ → ℕ → List Placed → Option ℕ
last_from found pc [] = found
last_from found pc (placed ∷ rest) = last_from (id_or placed pc found) pc rest

abbrev pub last_at : ℕ → List Placed → Option ℕ
last_at pc placed = last_from None pc placed

-- ---- what it says

-- A breakpoint without a text stops.
abbrev pub text_of : SourceBreakpoint → Option (List ℕ)
text_of listed = if length (string_bytes listed.log) == 0 then None
    else Some (string_bytes listed.log)

-- The text of the one of a number, of some of which the first has this number.
abbrev pub text_or : SourceBreakpoint → ℕ → ℕ → Option (List ℕ) → Option (List ℕ)
text_or listed number id found = if number == id then text_of listed else found

unfoldable pub text_from : Option (List ℕ) → ℕ → ℕ → List SourceBreakpoint → Option (List ℕ)
text_from found id number [] = found
text_from found id number (listed ∷ rest)
    = text_from (text_or listed number id found) id (next_number number) rest

abbrev pub text_numbered : ℕ → ℕ → List SourceBreakpoint → Option (List ℕ)
text_numbered id first list = text_from None id first list

-- Of one of some lists.
abbrev pub text_of_list : FileLines → ℕ → Option (List ℕ) → Option (List ℕ)
text_of_list listed id found
    = option_or (text_numbered id listed.lines.first listed.lines.list.items) found

unfoldable pub text_among : Option (List ℕ) → ℕ → List FileLines → Option (List ℕ)
text_among found id [] = found
text_among found id (listed ∷ rest) = text_among (text_of_list listed id found) id rest

abbrev pub text_in : List FileLines → ℕ → Option (List ℕ)
text_in lists id = text_among None id lists

abbrev pub text_by : List FileLines → Option ℕ → Option (List ℕ)
text_by lines None = None
text_by lines (Some id) = text_in lines id

-- Where a breakpoint stands that is listed by its address or its name, the run stops.
abbrev pub is_other : Listed → ℕ → Bool
is_other listed pc = is_at listed.addresses.items pc || is_at listed.functions.items pc

abbrev pub log_at : Listed → ℕ → Option (List ℕ)
log_at listed pc = if is_other listed pc then None
    else text_by listed.last_lines.items (last_at pc listed.lines.items)

-- ---- a session

-- The text of the log point that has stopped the machine, if one has.
abbrev pub log_for : Reason → Client → Option (List ℕ)
log_for Breakpoint client = log_at client.listed client.mon.session.current.regs.pc
log_for other client = None

abbrev pub log_here : Client → Option (List ℕ)
log_here client = log_for client.told.reason client

abbrev pub is_log : Client → Bool
is_log client = is_some (log_here client)

-- A line of the console is said, or nothing.
abbrev pub SaysIf : Bool → List Said → Type 0
SaysIf true said = (text : List ℕ) × (said ≡ output_said Console text ∷ [])
SaysIf false said = said ≡ []
