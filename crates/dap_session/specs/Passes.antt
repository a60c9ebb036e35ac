-- Moves that go on past log points. Source: Debug Adapter Protocol 1.65, "SourceBreakpoint"; how a
-- move goes on, mos65.
use Rattle.std.specs.Prelude.{ℕ, ◌≡◌, ◌⊎◌, ◌+◌, ◌-◌, ◌≤◌, ◌==◌, ◌&&◌, zero, suc, not, nat_lt, Bool, true, false, if◌then◌else◌, List, ◌++◌, length, take, None}
use Rattle.dap_desk.specs.Lines.{goes_by_lines}
use Rattle.dap_desk.specs.Moves.{KeepsWatches, moved, moved_fault, moved_reason, moved_words, stand_of}
use Rattle.dap_messages.specs.Messages.{Said}
use Rattle.dap_messages.specs.Seen.{launch_view}
use Rattle.dap_messages.specs.declared.halt.Halt.{Halt}
use Rattle.dap_messages.specs.declared.halt.Reason.{Reason}
use Rattle.dap_messages.specs.declared.halt.Reason.TheVariants as reason
use Rattle.dap_messages.specs.declared.request.Move.{Move}
use Rattle.dap_messages.specs.declared.request.Move.TheVariants as to
use Rattle.dap_session.specs.Logs.{SaysIf, is_log}
use Rattle.dap_session.specs.Options.{steps_of}
use Rattle.dap_session.specs.Stands.{IsToldHalt, KeepsProgram, KeepsSession, NotesReason, TellsBehind}
use Rattle.dap_session.specs.declared.client.Client.{Client}
use Rattle.dap_session.specs.declared.passing.Further.{Further}
use Rattle.dap_session.specs.declared.passing.Further.TheVariants.{Ends, Again, Leaves}
use Rattle.dap_session.specs.declared.wording.TheConstants.{MANY_LOGS, STEPPED}
use Rattle.mon_runs.specs.Goals.{opcode_at_pc}
use Rattle.mon_session.specs.declared.mon_state.MonState.{MonState}

-- ---- a move

-- It is made, and it is told why the machine stands, behind what was said before.
abbrev pub Makes : Move → List Said → Client → Client → List Said → Type 0
Makes way before old new said
    = (stand_of new.mon ≡ moved (steps_of (launch_view old.launch)) way old.mon)
    × KeepsWatches old.mon new.mon × KeepsProgram old new
    × TellsBehind (moved_reason (steps_of (launch_view old.launch)) way old.mon)
    (moved_words (steps_of (launch_view old.launch)) way old.mon)
    (moved_fault (steps_of (launch_view old.launch)) way old.mon) old new.mon before said
    × NotesReason (moved_reason (steps_of (launch_view old.launch)) way old.mon) old new

-- ---- how a move goes on past a log point

-- A run is made again. A subroutine is left, until the stack pointer is what it was before its JSR,
-- or for `stepOut` above what it was. A step is done, and so is one by lines.
abbrev pub over_further : MonState → Further
over_further mon = if opcode_at_pc mon.session.current == 0x20
    then Leaves mon.session.current.regs.s else Ends

abbrev pub further_of : Move → MonState → Further
further_of to.Over mon = if goes_by_lines mon then Ends else over_further mon
further_of to.In mon = Ends
further_of to.Step mon = Ends
further_of to.Out mon = Leaves (mon.session.current.regs.s + 1)
further_of to.Go mon = Again to.Go
further_of to.BackOver mon = Ends
further_of to.Back mon = Ends
further_of to.BackToStop mon = Again to.BackToStop

abbrev pub way_of : Further → Move
way_of Ends = to.Step
way_of (Again way) = way
way_of (Leaves stack) = to.Out

abbrev pub is_step : Reason → Bool
is_step reason.Step = true
is_step other = false

-- A subroutine was left, and not yet the one that is to be left.
abbrev pub is_within : ℕ → Client → Bool
is_within stack client
    = is_step client.told.reason && nat_lt client.mon.session.current.regs.s stack

abbrev pub has_ended : Further → Client → Bool
has_ended Ends client = true
has_ended (Again way) client = not (is_log client)
has_ended (Leaves stack) client = not (is_log client) && not (is_within stack client)

-- A log point says nothing on the way back.
abbrev pub is_back : Further → Bool
is_back (Again to.BackToStop) = true
is_back other = false

abbrev pub says : Further → Client → Bool
says further client = not (is_back further) && is_log client

-- What was said but for that the machine stands, which is said last.
abbrev pub but_last : List Said → List Said
but_last said = take (length said - 1) said

-- A move goes on: the log point is told of, and behind that what the move does.
abbrev pub GoesPast : Further → Client → List Said → Client → List Said → Type 0
GoesPast further old said new more = (log : List Said) × SaysIf (says further old) log
    × Makes (way_of further) (but_last said ++ log) old new more

-- It goes on so often.
unfoldable pub Passes : ℕ → Further → Client → List Said → Client → List Said → Type 0
Passes zero further old said new more = (new ≡ old) × (more ≡ said)
Passes (suc n) further old said new more = (between : Client) × (so_far : List Said)
    × Passes n further old said between so_far × (has_ended further between ≡ false)
    × GoesPast further between so_far new more

-- ---- how it ends

-- It has ended, or has gone on as often as a move goes on.
abbrev pub IsOver : ℕ → Further → Client → Type 0
IsOver n further client = (has_ended further client ≡ true) ⊎ (256 ≤ n)

-- A step that has led to a log point is done. Where many were passed, nothing has stopped the run so
-- far.
abbrev pub rest_reason : Further → Reason
rest_reason Ends = reason.Step
rest_reason other = reason.NoStop

abbrev pub rest_words : Further → List ℕ
rest_words Ends = STEPPED.now
rest_words other = MANY_LOGS.now

-- The log point is told of, and that the machine stands.
abbrev pub Rests : Further → Client → List Said → Client → List Said → Type 0
Rests further old said new more = (log : List Said) × SaysIf (says further old) log
    × (halt : Halt) × (halt.reason ≡ rest_reason further) × (halt.words.now ≡ rest_words further)
    × (halt.fault ≡ None) × KeepsSession old new
    × IsToldHalt old halt new (but_last said ++ log) more

-- A move does not end at a log point.
abbrev pub SettlesAt : Bool → Further → Client → List Said → Client → List Said → Type 0
SettlesAt true further old said new more = Rests further old said new more
SettlesAt false further old said new more = (new ≡ old) × (more ≡ said)

abbrev pub PassesLogs : Further → Client → List Said → Client → List Said → Type 0
PassesLogs further old said new more = (n : ℕ) × (last : Client) × (so_far : List Said)
    × Passes n further old said last so_far × IsOver n further last
    × SettlesAt (is_log last) further last so_far new more
