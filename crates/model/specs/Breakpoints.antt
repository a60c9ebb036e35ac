-- Breakpoints and watchpoints. Source: mos65.
use Rattle.std.specs.Prelude.{ℕ, nat_eq, nat_le, if◌then◌else◌, List, [], ◌∷◌, ◌++◌, length, Result, Ok, Err}
use Rattle.std.specs.List.{list_any}
use Rattle.std.specs.Set.{remove_key}
use Rattle.model.specs.State.{is_port}
use Rattle.model.specs.Session.{Session}
use Rattle.model.specs.declared.session_fault.SessionFault.{SessionFault}
use Rattle.model.specs.declared.session_fault.SessionFault.TheVariants.{AlreadySet, TableFull, NotSet, PortAddress}

-- The most addresses in a table. Source: mos65.
abbrev pub table_size : ℕ
table_size = 256

-- An address set after the others; rejected if it is set already, and then if the table is full.
unfoldable pub table_with : List ℕ → ℕ → Result (List ℕ) SessionFault
table_with table address =
    if list_any (nat_eq address) table then Err AlreadySet
    else if nat_le table_size (length table) then Err TableFull
    else Ok (table ++ address ∷ [])

-- An address cleared; rejected if it is not set. The others keep their order.
unfoldable pub table_without : List ℕ → ℕ → Result (List ℕ) SessionFault
table_without table address = if list_any (nat_eq address) table
    then Ok (remove_key (nat_eq address) table) else Err NotSet

-- A session with another table of breakpoints, or of watchpoints, or the fault.
abbrev pub with_breaks : Session → Result (List ℕ) SessionFault → Result Session SessionFault
with_breaks s (Ok table) = Ok (record s { breaks = table })
with_breaks s (Err fault) = Err fault

abbrev pub with_watches : Session → Result (List ℕ) SessionFault → Result Session SessionFault
with_watches s (Ok table) = Ok (record s { watches = table })
with_watches s (Err fault) = Err fault

-- The calls. A watchpoint may not be at a port address.
unfoldable pub break_set : ℕ → Session → Result Session SessionFault
break_set address s = with_breaks s (table_with s.breaks address)

unfoldable pub break_cleared : ℕ → Session → Result Session SessionFault
break_cleared address s = with_breaks s (table_without s.breaks address)

unfoldable pub watch_set : ℕ → Session → Result Session SessionFault
watch_set address s = if is_port s.current.bus.map address then Err PortAddress
    else with_watches s (table_with s.watches address)

unfoldable pub watch_cleared : ℕ → Session → Result Session SessionFault
watch_cleared address s = with_watches s (table_without s.watches address)
