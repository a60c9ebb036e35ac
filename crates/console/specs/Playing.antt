-- A program that runs with a reader for its console: it is given a line of input where it looks for
-- input and none waits. It ends where nothing stands that could be run. Source: mos65.
use Rattle.std.specs.Prelude.{ℕ, zero, suc, ◌+◌, Bool, false, not, ◌&&◌, ◌||◌, ◌==◌, nat_lt, if◌then◌else◌, List, [], length, drop, Option, Some, None, Result, Ok, Err}
use Rattle.std.specs.Option.{option_or}
use Rattle.model.specs.State.{State, input_waits}
use Rattle.model.specs.Step.{step}
use Rattle.model.specs.Session.{Session, with_state}
use Rattle.model.specs.Transcript.{after_input}
use Rattle.model.specs.declared.event.EventFault.{EventFault}
use Rattle.model.specs.declared.registers.Regs.{Regs}
use Rattle.model.specs.declared.registers.Flags.{Flags}
use Rattle.cpu_step.specs.PlainSteps.{is_break, stays}
use Rattle.accesses.specs.Access.{access_here, puts_byte, row_here}
use Rattle.accesses.specs.Looking.{looks}
use Rattle.accesses.specs.Moments.{step_stores}
use Rattle.accesses.specs.Writing.{is_written, with_bytes}
use Rattle.console.specs.Line.{line_at, room_of}
use Rattle.console.specs.declared.memo.Memo.{Memo}
use Rattle.console.specs.declared.ending.Ending.{Ending}
use Rattle.console.specs.declared.ending.Ending.TheVariants.{Until, Rest, InputOver, Limit, Unwritten, NoReset, NoVector, Refused}

-- Where a run stands: the session, what is left of the input, what is remembered of the steps
-- before, and where a byte was ever written.
pub record Play : Type 0 where
  pub session : Session
  pub input : List ℕ
  pub memo : Memo
  pub written : List Bool

-- ---- when a line is asked for

-- A line is asked for if no input waits and the program looks for it. A program that has come to a
-- jump to itself with I clear waits for an interrupt, which input may ask for: so it looks too.
unfoldable pub asks : Memo → State → Bool
asks memo state = not (input_waits state.bus)
    && (if memo.rests then not state.regs.flags.i else looks state)

-- ---- what ends a run before a step

abbrev pub same_flag : Bool → Bool → Bool
same_flag a b = if a then b else not b

abbrev pub same_flags : Flags → Flags → Bool
same_flags f g = same_flag f.n g.n && same_flag f.v g.v && same_flag f.d g.d
    && same_flag f.i g.i && same_flag f.z g.z && same_flag f.c g.c

abbrev pub same_regs : Regs → Regs → Bool
same_regs r q = (r.a == q.a) && (r.x == q.x) && (r.y == q.y) && (r.s == q.s) && (r.pc == q.pc)
    && same_flags r.flags q.flags

abbrev pub is_idle : Option Regs → Regs → Bool
is_idle None regs = false
is_idle (Some last) regs = same_regs last regs

-- A jump to itself ends the run, unless a line came that was asked for. So does a look that was made
-- before: no line came, none will, the registers are those of the look before, and no byte was
-- stored since. The program would look again for ever.
unfoldable pub ending_before : Memo → Bool → Bool → Regs → Option Ending
ending_before memo asked came regs =
    if memo.rests then (if came then None else Some Rest)
    else if asked && not came && is_idle memo.idle regs then Some InputOver
    else None

-- A vector stands in memory if one of its bytes was ever written.
abbrev pub stands : List Bool → ℕ → Bool
stands written vector = is_written written vector || is_written written (vector + 1)

-- Nothing was ever written at PC: a step led there, or the reset.
abbrev pub stray_of : List Bool → Option ℕ → Ending
stray_of written (Some from) = Unwritten (Some from)
stray_of written None = if stands written 0xFFFC then Unwritten None else NoReset

-- A run ends where nothing was ever written at PC, and at a BRK whose vector does not stand in
-- memory: neither the file nor the program has put something there to be run.
unfoldable pub fall_of : List Bool → Option ℕ → State → Option Ending
fall_of written from state =
    if not (is_written written state.regs.pc) then Some (stray_of written from)
    else if is_break (row_here state) && not (stands written 0xFFFE) then Some NoVector
    else None

-- What ends a run before a step, if something does.
abbrev pub ending_here : Memo → List Bool → Bool → Bool → State → Option Ending
ending_here memo written asked came state
    = option_or (ending_before memo asked came state.regs) (fall_of written memo.from state)

-- ---- a step

-- What is remembered after a step: whether it was a jump to itself; the registers at the last look
-- for which no line came, if no byte was stored since; and where the step was made.
unfoldable pub memo_after : Memo → Bool → Bool → State → Regs → Memo
memo_after memo asked came before after = record {
  rests = stays before.regs after;
  idle = if puts_byte (access_here before) then None
      else if asked && not came then Some before.regs
      else memo.idle;
  from = Some before.regs.pc;
}

-- ---- a turn: a line if one is asked for, and a step

pub record Turn : Type 0 where
  pub ending : Option Ending
  pub play : Play

abbrev pub stepped : Play → Bool → Bool → Result State EventFault → Turn
stepped p asked came (Err fault) = record { ending = Some (Refused fault); play = p }
stepped p asked came (Ok after) = record {
  ending = None;
  play = record p {
    session = with_state p.session after;
    memo = memo_after p.memo asked came p.session.current after.regs;
    written = with_bytes p.written (step_stores p.session.current after);
  };
}

abbrev pub unless_ended : Option Ending → Play → Turn → Turn
unless_ended (Some why) p turn = record { ending = Some why; play = p }
unless_ended None p turn = turn

-- The line that is handed in: none if none is asked for.
abbrev pub line_for : Memo → State → List ℕ → List ℕ
line_for memo state input = if asks memo state then line_at (room_of state) input else []

abbrev pub with_line : List ℕ → Play → Play
with_line line p = record p {
  session = after_input p.session line;
  input = drop (length line) p.input;
}

abbrev pub came : List ℕ → Bool
came line = nat_lt 0 (length line)

abbrev pub turn_with : Bool → List ℕ → Play → Turn
turn_with asked line p =
    let q = with_line line p in
    unless_ended (ending_here p.memo p.written asked (came line) q.session.current) q
    (stepped q asked (came line) (step q.session.current))

unfoldable pub turn_of : Play → Turn
turn_of p = turn_with (asks p.memo p.session.current)
    (line_for p.memo p.session.current p.input) p

-- ---- the run

-- How a run ended: after how many steps, why, and where it stood then.
pub record Outcome : Type 0 where
  pub steps : ℕ
  pub ending : Ending
  pub play : Play

abbrev pub is_at : Option ℕ → State → Bool
is_at None state = false
is_at (Some address) state = state.regs.pc == address

abbrev pub later : ℕ → Outcome → Outcome
later steps o = record o { steps = steps + o.steps }

abbrev pub after_turn : Option ℕ → Turn → (Play → Outcome) → Outcome
after_turn until turn rest = by turn.ending
  where
    by : Option Ending → Outcome
    by (Some why) = record { steps = 0; ending = why; play = turn.play }
    by None = if is_at until turn.play.session.current
        then record { steps = 1; ending = Until; play = turn.play }
        else later 1 (rest turn.play)

-- After the last step that was asked for: a jump to itself is an end of its own, unless a line is
-- asked for.
abbrev pub ending_after : Memo → State → Ending
ending_after memo state = if memo.rests && not (asks memo state) then Rest else Limit

-- At most so many steps, up to one that leads to an address, if one is given.
unfoldable pub played : Option ℕ → ℕ → Play → Outcome
played until zero p = record {
  steps = 0;
  ending = ending_after p.memo p.session.current;
  play = p;
}
played until (suc n) p = after_turn until (turn_of p) (λ q. played until n q)

-- At first no step was made.
abbrev pub no_memo : Memo
no_memo = record { rests = false; idle = None; from = None }

-- With these addresses written.
abbrev pub begun : Session → List Bool → List ℕ → Play
begun s written input
    = record { session = s; input = input; memo = no_memo; written = written }
