-- Where the breakpoints of a list can stand. Source: Debug Adapter Protocol 1.65, "SetBreakpoints
-- Request", "SetInstructionBreakpoints Request", "SetFunctionBreakpoints Request"; that a line at
-- which none begins stands for the next, and what a condition is, mos65.
use Rattle.std.specs.Prelude.{ℕ, ◌≡◌, List, [], ◌∷◌, ◌++◌, map, string_bytes, Option, Some, None, Result, Ok, Err}
use Rattle.std.specs.List.{flat_map}
use Rattle.std.specs.Option.{option_to_list}
use Rattle.dap_messages.specs.Counting.{own_line}
use Rattle.dap_messages.specs.declared.counting.Counting.{Counting}
use Rattle.dap_messages.specs.declared.request.Condition.{Condition}
use Rattle.dap_messages.specs.declared.request.FunctionBreakpoint.{FunctionBreakpoint}
use Rattle.dap_messages.specs.declared.request.InstructionBreakpoint.{InstructionBreakpoint}
use Rattle.dap_messages.specs.declared.request.SourceBreakpoint.{SourceBreakpoint}
use Rattle.dap_views.specs.Looks.{place_named}
use Rattle.dap_views.specs.Wanted.{file_number}
use Rattle.dap_views.specs.declared.wanted.List.{List as WantedList}
use Rattle.dap_views.specs.declared.wanted.Wanted.{Wanted}
use Rattle.mon_line_parts.specs.Reading.{SeenFlaw}
use Rattle.mon_lines.specs.Wholes.{tests_in, times_in}
use Rattle.mon_lines.specs.declared.command.Test.{Test}
use Rattle.mon_runs.specs.declared.breaks.Break.{Break}
use Rattle.source_map.specs.Lines.{PlacesView, addresses_of_line, line_at, line_from}

-- ---- a condition

-- Its address, the tests that have to hold, and at which of the visits it stops.
abbrev pub Stop : Type 0
Stop = ℕ × List Test × ℕ

abbrev pub stop_view : Break → Stop
stop_view stop = (stop.address, stop.tests.items, stop.times)

abbrev pub stop_with : ℕ → Result (List Test) SeenFlaw → Result ℕ SeenFlaw → Option Stop
stop_with address (Ok tests) (Ok times) = Some (address, tests, times)
stop_with address (Ok tests) (Err why) = None
stop_with address (Err why) times = None

-- The tests and the hit count are what `mon` reads of such texts.
abbrev pub stop_at : PlacesView → ℕ → Condition → ℕ → Option Stop
stop_at places pc condition address = stop_with address
    (tests_in places pc (string_bytes condition.tests))
    (times_in places (string_bytes condition.hits))

-- ---- one breakpoint

-- Some addresses with one condition: none if it or its hit count cannot be read.
abbrev pub stops_at : PlacesView → ℕ → Condition → List ℕ → List Stop
stops_at places pc condition addresses
    = flat_map (λ address. option_to_list (stop_at places pc condition address)) addresses

-- The line at which it is told to stand, or to be wanted, if there is one, and what is set, if its
-- condition and its hit count can be read: one at each address of the line.
abbrev pub Found : Type 0
Found = Option ℕ × List Stop

abbrev pub found_on : PlacesView → ℕ → Condition → Option ℕ → List ℕ → Found
found_on places pc condition line addresses
    = (line, stops_at places pc condition addresses)

-- At all addresses of a line of a file, or of the next that has some.
abbrev pub found_from : PlacesView → ℕ → Condition → ℕ → List ℕ → Option ℕ → Found
found_from places pc condition line addresses (Some moved)
    = found_on places pc condition (Some moved) addresses
found_from places pc condition line addresses None = (Some line, [])

abbrev pub found_line : PlacesView → ℕ → Counting → ℕ → SourceBreakpoint → Found
found_line places pc counting file wanted = found_from places pc wanted.condition
    (own_line counting wanted.line)
    (addresses_of_line places.sites (file_number file) (own_line counting wanted.line))
    (line_from places.sites (file_number file) (own_line counting wanted.line))

-- At an address.
abbrev pub found_at : PlacesView → ℕ → Condition → Option ℕ → Found
found_at places pc condition (Some address)
    = found_on places pc condition (line_at places.lines address) (address ∷ [])
found_at places pc condition None = (None, [])

abbrev pub found_address : PlacesView → ℕ → InstructionBreakpoint → Found
found_address places pc wanted = found_at places pc wanted.condition wanted.address

-- At a name, which is any place that `mon` reads.
abbrev pub found_name : PlacesView → ℕ → FunctionBreakpoint → Found
found_name places pc wanted = found_at places pc wanted.condition
    (place_named places pc (string_bytes wanted.name))

-- ---- a list

-- What is told of a breakpoint, but for the words of why it is not set.
abbrev pub told_view : Wanted → Option ℕ × List ℕ
told_view wanted = (wanted.line, wanted.addresses.items)

abbrev pub told_of : Found → Option ℕ × List ℕ
told_of found = (found.0, map (λ stop. stop.0) found.1)

-- One more was looked for.
abbrev pub HasFound : Found → WantedList → WantedList → Type 0
HasFound found old new
    = (map told_view new.told.items ≡ map told_view old.told.items ++ told_of found ∷ [])
    × (map stop_view new.stops.items
    ≡ map stop_view old.stops.items ++ found.1)

-- All that a client wants were looked for: which are told, and which are to be set.
abbrev pub AreTold : {W : Type 0} → (W → Found) → List W → List Wanted → Type 0
AreTold find listed told = map told_view told ≡ map (λ wanted. told_of (find wanted)) listed

abbrev pub AreStops : {W : Type 0} → (W → Found) → List W → List Break → Type 0
AreStops find listed stops
    = map stop_view stops ≡ flat_map (λ wanted. (find wanted).1) listed
