-- The addresses that the instruction at PC reads as data, and, as `Stored.antt` of `cpu_step` says it,
-- those that it stores at. `Effect.antt` of model says what is done there. Source: mos65.
use Rattle.std.specs.Prelude.{ℕ, ◌+◌, ◌*◌, ◌/◌, ◌%◌, List, [], ◌∷◌, Option, Some, None}
use Rattle.model.specs.State.{State, Bus}
use Rattle.model.specs.Operand.{address_at, byte_at, next_byte}
use Rattle.model.specs.Effect.{operation_of}
use Rattle.model.specs.declared.instruction.Mode.{Mode}
use Rattle.model.specs.declared.instruction.Mode.TheVariants.{IndX, IndY, Ind, IndZ}
use Rattle.model.specs.declared.instruction.Profile.{Profile}
use Rattle.model.specs.declared.instruction.Profile.TheVariants.{N, C}
use Rattle.model.specs.declared.instruction.Row.{Row}
use Rattle.model.specs.declared.operation.Operation.{Operation}
use Rattle.model.specs.declared.operation.Operation.TheVariants.{PullA, PullX, PullY, PullStatus, Return, ReturnInterrupt, Break}
use Rattle.model.specs.declared.registers.Regs.{Regs}
use Rattle.cpu_step.specs.Access.{access_here, row_here}
pub use Rattle.cpu_step.specs.Stored.{below, pushed_at, stored_at}
unfoldable pub use Rattle.cpu_step.specs.Stored.{stores_by, stores_here}

-- ---- the stack

-- The address so many bytes above the stack pointer: it is pulled from.
abbrev pub above : ℕ → ℕ → ℕ
above s count = 256 + (s + count) % 256

-- ---- pointers

-- A pointer's two bytes in one page: after the last byte of the page comes its first.
abbrev pub in_page : ℕ → ℕ × ℕ
in_page address = (address, 256 * (address / 256) + (address + 1) % 256)

-- The pointer of JMP indirect. Profile C crosses the page.
abbrev pub jump_pointer : Profile → ℕ → ℕ × ℕ
jump_pointer N address = in_page address
jump_pointer C address = (address, (address + 1) % 65536)

-- The two addresses of the pointer by which a mode reaches its operand, if it has one.
unfoldable pub pointer_in : Bus → Regs → Mode → Option (ℕ × ℕ)
pointer_in bus regs IndX = Some (in_page ((byte_at bus (next_byte regs) + regs.x) % 256))
pointer_in bus regs IndY = Some (in_page (byte_at bus (next_byte regs)))
pointer_in bus regs IndZ = Some (in_page (byte_at bus (next_byte regs)))
pointer_in bus regs Ind = Some (jump_pointer bus.map.profile (address_at bus (next_byte regs)))
pointer_in bus regs mode = None

-- ---- what is read

abbrev pub pointer_and_operand : Option (ℕ × ℕ) → Option ℕ → List ℕ
pointer_and_operand None None = []
pointer_and_operand None (Some read) = read ∷ []
pointer_and_operand (Some pointer) None = pointer.0 ∷ pointer.1 ∷ []
pointer_and_operand (Some pointer) (Some read) = pointer.0 ∷ pointer.1 ∷ read ∷ []

-- A return and a pull read the stack, BRK its vector, and all others a pointer and an operand, if
-- they have them.
unfoldable pub reads_by : Operation → Option (ℕ × ℕ) → Option ℕ → ℕ → List ℕ
reads_by PullA pointer read s = above s 1 ∷ []
reads_by PullX pointer read s = above s 1 ∷ []
reads_by PullY pointer read s = above s 1 ∷ []
reads_by PullStatus pointer read s = above s 1 ∷ []
reads_by Return pointer read s = above s 1 ∷ above s 2 ∷ []
reads_by ReturnInterrupt pointer read s = above s 1 ∷ above s 2 ∷ above s 3 ∷ []
reads_by Break pointer read s = 0xFFFE ∷ 0xFFFF ∷ []
reads_by operation pointer read s = pointer_and_operand pointer read

abbrev pub reads_of : Option Row → State → List ℕ
reads_of None state = []
reads_of (Some row) state = reads_by (operation_of row.mnemonic)
    (pointer_in state.bus state.regs row.mode) (access_here state).read state.regs.s

-- What the instruction at PC reads as data, in this order.
unfoldable pub reads_here : State → List ℕ
reads_here state = reads_of (row_here state) state
