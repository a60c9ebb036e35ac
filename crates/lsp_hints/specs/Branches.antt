-- A branch that does not reach its target, turned round a jump: `BNE far` is `BEQ *+5` before
-- `JMP far`. Source: mos65.
use Rattle.std.specs.Prelude.{ℕ, ◌==◌, ◌&&◌, nat_le, nat_lt, not, if◌then◌else◌, Bool, List, ◌++◌, codes, drop, length, take, Option, Some, None, option_and_then}
use Rattle.std.specs.List.{list_any, prefix_len}
use Rattle.lsp_answers.specs.Kinds.{is_far_branch as is_far}
use Rattle.lsp_answers.specs.declared.kinds.Diagnostic.{Diagnostic}
use Rattle.lsp_hints.specs.Operations.{start_of, word_size}
use Rattle.lsp_hints.specs.declared.branches.Far.{Far}
use Rattle.lsp_hints.specs.declared.wording.TheConstants.{AND_JUMP}
use Rattle.model.specs.Mnemonics.{mnemonic_named, mnemonic_text}
use Rattle.model.specs.Token.{is_blank}
use Rattle.model.specs.declared.instruction.Mnemonic.{Mnemonic}
use Rattle.model.specs.declared.instruction.Mnemonic.TheVariants.{Bpl, Bmi, Bvc, Bvs, Bcc, Bcs, Bne, Beq}
use Rattle.model.specs.declared.instruction.Profile.{Profile}

-- The branch on the opposite of what a branch waits for.
abbrev pub opposite : Mnemonic → Option Mnemonic
opposite Bpl = Some Bmi
opposite Bmi = Some Bpl
opposite Bvc = Some Bvs
opposite Bvs = Some Bvc
opposite Bcc = Some Bcs
opposite Bcs = Some Bcc
opposite Bne = Some Beq
opposite Beq = Some Bne
opposite m = None

-- That of the branch of a line, if it has one.
abbrev pub turned : Profile → List ℕ → Option Mnemonic
turned profile line =
    let rest = drop (start_of line) line in
    option_and_then opposite (mnemonic_named profile (take (word_size rest) rest))

-- So many bytes of a line from one on.
abbrev pub operand_in : List ℕ → ℕ → ℕ → List ℕ
operand_in line from width = take width (drop from line)

abbrev pub is_star : ℕ → Bool
is_star b = b == 42

-- A `*` would be another address in another line.
abbrev pub has_here : List ℕ → Bool
has_here operand = list_any is_star operand

abbrev pub far_by : List ℕ → Diagnostic → Option Mnemonic → Option Far
far_by line d None = None
far_by line d (Some m) = Some (record {
  opposite = m;
  start = start_of line;
  from = d.note.start;
  width = d.note.width;
})

-- The branch of a line that a fault is about.
abbrev pub far_of : Profile → List ℕ → Diagnostic → Option Far
far_of profile line d =
    if not (is_far d.kind) then None
    else if has_here (operand_in line d.note.start d.note.width) then None
    else far_by line d (turned profile line)

-- The blanks before an operation with which a line begins; one blank otherwise.
abbrev pub indent_of : List ℕ → ℕ → List ℕ
indent_of line start
    = if nat_lt 0 start && (start == prefix_len is_blank line) && nat_le start (length line)
    then take start line else codes " "

-- The two lines in its place, and what the change is called.
abbrev pub far_words : List ℕ → Far → List ℕ
far_words line far = mnemonic_text far.opposite ++ codes " *+5\n" ++ indent_of line far.start
    ++ codes "JMP " ++ operand_in line far.from far.width

abbrev pub far_title : List ℕ → Far → List ℕ
far_title line far
    = mnemonic_text far.opposite ++ AND_JUMP.now ++ operand_in line far.from far.width
