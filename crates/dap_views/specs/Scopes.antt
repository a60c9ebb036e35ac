-- The variables of each scope. Source: Debug Adapter Protocol 1.65, "Variables Request"; what a
-- scope has, mos65.
use Rattle.std.specs.Prelude.{ℕ, zero, suc, ◌+◌, ◌-◌, ◌*◌, ◌%◌, List, [], ◌∷◌, codes, length, map as each, slice_index, Option, Some, None}
use Rattle.std.specs.Str.Lossy.{utf8_lossy}
use Rattle.dap_messages.specs.Texts.{address_text}
use Rattle.dap_messages.specs.declared.request.Page.{Page}
use Rattle.dap_messages.specs.declared.request.Scope.{Scope}
use Rattle.dap_messages.specs.declared.request.Scope.TheVariants as scope
use Rattle.dap_views.specs.Pages.{page_of}
use Rattle.dap_messages.specs.SeenAnswers.{SeenAnswer, SeenItem, plain_variable, variables_body}
use Rattle.dap_views.specs.Variables.{byte_variable, flags_shown, number_variable, registers_shown}
use Rattle.model.specs.Session.{Session}
use Rattle.model.specs.State.{State}
use Rattle.source_map.specs.Names.{Named}

-- ---- bytes

-- The byte at an address, under its address.
abbrev pub cell : List ℕ → ℕ → SeenItem
cell memory address
    = byte_variable (address_text address) address (slice_index memory address)

-- So many from an address on.
unfoldable pub cells : List ℕ → ℕ → ℕ → List SeenItem
cells memory address zero = []
cells memory address (suc n) = cell memory address ∷ cells memory (address + 1) n

-- Those of the stack, from that above the stack pointer on.
abbrev pub stack_shown : State → List SeenItem
stack_shown s = cells s.bus.memory (257 + s.regs.s) (512 - (257 + s.regs.s))

-- ---- names

-- The bytes at all names of the program, each under its name, in the order of their definition.
abbrev pub symbols_shown : List ℕ → List Named → List SeenItem
symbols_shown memory names = each
    (λ name. byte_variable (utf8_lossy name.text) name.address
    (slice_index memory name.address)) names

-- ---- a word

-- Its low byte comes first.
abbrev pub word_at : List ℕ → ℕ → ℕ
word_at memory address
    = slice_index memory ((address + 1) % 65536) * 256 + slice_index memory address

-- The word, and the byte that it points to. No name of a program is written as that of the word.
abbrev pub word_shown : List ℕ → ℕ → List SeenItem
word_shown memory address
    = plain_variable (codes "(word)") (address_text (word_at memory address))
    ∷ cell memory (word_at memory address) ∷ []

-- ---- scopes

abbrev pub machine_shown : Session → List SeenItem
machine_shown session = number_variable (codes "cycles") session.current.cycles
    ∷ number_variable (codes "events held") (length session.earlier)
    ∷ number_variable (codes "bytes put out") (length session.current.bus.out) ∷ []

abbrev pub scope_shown : Session → List Named → Scope → List SeenItem
scope_shown session names scope.Registers = registers_shown session.current.regs
scope_shown session names scope.Flags = flags_shown session.current.regs.flags
scope_shown session names scope.Symbols = symbols_shown session.current.bus.memory names
scope_shown session names scope.Stack = stack_shown session.current
scope_shown session names scope.ZeroPage = cells session.current.bus.memory 0 256
scope_shown session names scope.Machine = machine_shown session
scope_shown session names (scope.Word address) = word_shown session.current.bus.memory address
scope_shown session names (scope.Locals frame) = []

-- No scope has no variables.
abbrev pub listed : Session → List Named → Option Scope → List SeenItem
listed session names (Some asked) = scope_shown session names asked
listed session names None = []

-- Those that are asked for.
abbrev pub variables_shown : Session → List Named → Option Scope → Page → SeenAnswer
variables_shown session names asked page
    = variables_body (page_of page (listed session names asked))
