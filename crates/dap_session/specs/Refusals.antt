-- When a request of a session is refused. Memory may run out at any request. Source: mos65.
use Rattle.std.specs.Prelude.{ℕ, ◌≡◌, ◌⊎◌, ◌&&◌, ⊤, is_ok, nat_lt, not, Bool, true, false, List, Option, Some, None, Ok}
use Rattle.base64.specs.Engines.{standard}
use Rattle.base64.specs.GeneralPurpose.{decode_of}
use Rattle.dap_messages.specs.declared.request.Change.{Change}
use Rattle.dap_messages.specs.declared.request.Change.TheVariants as change
use Rattle.dap_messages.specs.declared.request.Query.{Query}
use Rattle.dap_messages.specs.declared.request.Query.TheVariants as query
use Rattle.dap_messages.specs.declared.request.SessionRequest.{SessionRequest}
use Rattle.dap_messages.specs.declared.request.SessionRequest.TheVariants as to
use Rattle.dap_messages.specs.declared.request.Scope.{Scope}
use Rattle.dap_messages.specs.declared.halt.Reason.{Reason}
use Rattle.dap_messages.specs.declared.halt.Reason.TheVariants.{Exception}
use Rattle.dap_session.specs.Changes.{change_asked, may_write}
use Rattle.dap_session.specs.Console.{is_line}
use Rattle.dap_session.specs.declared.client.Client.{Client}
use Rattle.dap_session.specs.declared.fault.Fault.{Fault}
use Rattle.dap_session.specs.declared.fault.Fault.TheVariants as fault
use Rattle.dap_views.specs.Frames.{has_frame, stack_frames}
use Rattle.dap_views.specs.Looks.{look_at}
use Rattle.model.specs.Event.{event_of}
use Rattle.model.specs.declared.event.Event.{Event}
use Rattle.model.specs.declared.event.Event.TheVariants.{Set}
use Rattle.model.specs.declared.event.Setting.TheVariants.{Pc}
use Rattle.mon_session.specs.declared.mon_state.MonState.{MonState}

-- What holds where a request is refused with words.
abbrev pub IfRefused : Fault → Type 0 → Type 0
IfRefused (fault.Refused words) Why = Why
IfRefused fault.OutOfMemory Why = ⊤

-- The machine does not accept an event.
abbrev pub Rejects : Event → MonState → Type 0
Rejects event mon = is_ok (event_of mon.session.current event) ≡ false

-- No event is asked for, or one that is not accepted.
abbrev pub IsUnmade : Option Event → MonState → Type 0
IsUnmade asked mon = (asked ≡ None) ⊎ ((made : Event) × (asked ≡ Some made) × Rejects made mon)

-- A variable of which the name or the value cannot be read, or a value that is not accepted.
abbrev pub IsNoChange : Option Scope → List ℕ → List ℕ → MonState → Type 0
IsNoChange scope name value mon = IsUnmade (change_asked scope name value mon) mon

-- No address, or a step to it that is not accepted.
abbrev pub IsNoTarget : Option ℕ → MonState → Type 0
IsNoTarget target mon = (target ≡ None)
    ⊎ ((address : ℕ) × (target ≡ Some address) × Rejects (Set (Pc address)) mon)

-- No address, bytes that are not written in Base64, or bytes that cannot all be written, where a part
-- is not allowed.
abbrev pub CannotWrite : Option ℕ → List ℕ → Bool → MonState → Type 0
CannotWrite place text is_partial mon = (address : ℕ) × (bytes : List ℕ)
    × (place ≡ Some address) × (decode_of standard text ≡ Ok bytes)
    × (may_write mon.session.current.bus.map address bytes is_partial ≡ false)

abbrev pub IsNoWriting : Option ℕ → List ℕ → Bool → MonState → Type 0
IsNoWriting place text is_partial mon = (place ≡ None)
    ⊎ ((is_ok (decode_of standard text) ≡ false) ⊎ CannotWrite place text is_partial mon)

-- Something to look at that names nothing. A text of the console that can be read as a line is not
-- looked at.
abbrev pub IsNoLook : List ℕ → Bool → MonState → Type 0
IsNoLook text is_console mon = ((is_console && is_line mon text) ≡ false)
    × (look_at mon.session.current mon.places text ≡ None)

-- A change that cannot be made.
abbrev pub MayRefuseChange : Change → MonState → Type 0
MayRefuseChange (change.Evaluate text is_console frame) mon = IsNoLook text.now is_console mon
MayRefuseChange (change.SetVariable scope name value) mon
    = IsNoChange scope name.now value.now mon
MayRefuseChange (change.Goto target) mon = IsNoTarget target mon
MayRefuseChange (change.WriteMemory place text is_partial) mon
    = IsNoWriting place text.now is_partial mon

-- Whether there is a frame of a number, if one is named.
abbrev pub is_known : Option ℕ → MonState → Bool
is_known (Some id) mon
    = has_frame (stack_frames mon.session.current mon.places.lines) id
is_known None mon = false

-- A step was refused.
abbrev pub is_exception : Reason → Bool
is_exception Exception = true
is_exception other = false

-- A question that names a frame, a scope or an address that there is not, that wants more than
-- 16,384 rows of a disassembly, or that is about a step that was not refused.
abbrev pub cannot_show : Query → Client → Bool
cannot_show (query.Scopes frame) client = not (is_known frame client.mon)
cannot_show (query.Variables None page) client = true
cannot_show (query.ReadMemory None count) client = true
cannot_show (query.Disassemble None offset count) client = true
cannot_show (query.Disassemble (Some address) offset count) client = nat_lt 16384 count
cannot_show query.ExceptionInfo client = not (is_exception client.told.reason)
cannot_show other client = false

-- `restart` is refused as a launch is: a file may have gone, or have faults now. A request is refused
-- that names no thread where it has to. No other request that is known is refused.
abbrev pub MayRefuse : SessionRequest → Client → Type 0
MayRefuse (to.Changes change) client = MayRefuseChange change client.mon
MayRefuse (to.Shows query) client = cannot_show query client ≡ true
MayRefuse to.NoThread client = ⊤
MayRefuse to.Restart client = ⊤
MayRefuse to.Other client = ⊤
MayRefuse asked client = ⊥

-- Any is refused once the program is said to have ended.
abbrev pub MayRefuseAt : SessionRequest → Client → Type 0
MayRefuseAt asked client = (client.told.is_over ≡ true) ⊎ MayRefuse asked client
