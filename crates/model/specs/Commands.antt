-- What a command line asks for. Source: mos65.
use Rattle.std.specs.Prelude.{ℕ, Bool, true, false, List, [], ◌∷◌, ◌++◌, length, take, nat_lt, nat_le, ◌==◌, ◌&&◌, if◌then◌else◌, codes, replicate, Option, Some, None}
use Rattle.std.specs.Str.{bytes_eq}
use Rattle.model.specs.Digits.{hex_number, decimal_number}
use Rattle.model.specs.declared.command.Command.{Command}
use Rattle.model.specs.declared.command.Command.TheVariants.{Regs, Step, Mem, Out, Set, Patch, Reset, Irq, Nmi, Input, Run, Back, Break, Unbreak, Watch, Unwatch, Breaks, Dis, Asm, Quit, Nothing, Bad}
use Rattle.model.specs.declared.event.Setting.{Setting}
use Rattle.model.specs.declared.event.Setting.TheVariants.{A, X, Y, S, P, Pc}

-- ---- words

-- Whether a word goes on into some bytes.
abbrev pub goes_on : List ℕ → Bool
goes_on [] = false
goes_on (b ∷ bs) = if b == 32 then false else true

-- A byte put before some words: it belongs to the first of them, or is a word of its own.
abbrev pub with_byte_before : ℕ → Bool → List (List ℕ) → List (List ℕ)
with_byte_before b false ws = (b ∷ []) ∷ ws
with_byte_before b true [] = (b ∷ []) ∷ []
with_byte_before b true (w ∷ ws) = (b ∷ w) ∷ ws

-- The words of a line, which spaces alone separate; spaces may lead and trail.
abbrev pub words_of : List ℕ → List (List ℕ)
words_of [] = []
words_of (b ∷ bs) = if b == 32 then words_of bs else with_byte_before b (goes_on bs) (words_of bs)

-- A line without the spaces in front of it.
abbrev pub without_spaces : List ℕ → List ℕ
without_spaces [] = []
without_spaces (b ∷ bs) = if b == 32 then without_spaces bs else b ∷ bs

-- The bytes after the first word of some bytes that begin with one.
abbrev pub after_word : List ℕ → List ℕ
after_word [] = []
after_word (b ∷ bs) = if b == 32 then b ∷ bs else after_word bs

-- The bytes after the first word of a line.
abbrev pub rest_of : List ℕ → List ℕ
rest_of line = after_word (without_spaces line)

-- ---- numbers

-- The address that exactly four hex digits write.
abbrev pub address_of : List ℕ → Option ℕ
address_of word = if length word == 4 then hex_number word else None

-- The byte that exactly two hex digits write.
abbrev pub byte_of : List ℕ → Option ℕ
byte_of word = if length word == 2 then hex_number word else None

abbrev pub byte_before : Option ℕ → Option (List ℕ) → Option (List ℕ)
byte_before (Some b) (Some bytes) = Some (b ∷ bytes)
byte_before (Some b) None = None
byte_before None bytes = None

-- The bytes that some words write, if each word writes one.
abbrev pub bytes_of_words : List (List ℕ) → Option (List ℕ)
bytes_of_words [] = Some []
bytes_of_words (w ∷ ws) = byte_before (byte_of w) (bytes_of_words ws)

-- The number that 1 to 7 decimal digits write; leading zeros count as digits.
unfoldable pub decimal_of : List ℕ → Option ℕ
decimal_of word = if nat_le 1 (length word) && nat_le (length word) 7 then decimal_number word
    else None

-- A number that is at least 1 and no more than a highest one.
abbrev pub from_1_to : ℕ → Option ℕ → Option ℕ
from_1_to highest (Some number) = if nat_le 1 number && nat_le number highest then Some number
    else None
from_1_to highest None = None

-- ---- commands

-- The bytes from one address to another, which is at least as high.
abbrev pub mem_command : Option ℕ → Option ℕ → Command
mem_command (Some first) (Some last) = if nat_le first last then Mem first last else Bad
mem_command (Some first) None = Bad
mem_command None last = Bad

abbrev pub set_byte : (ℕ → Setting) → Option ℕ → Command
set_byte register (Some value) = Set (register value)
set_byte register None = Bad

-- A register and its new value: two hex digits, and four for PC. Register names are capital
-- letters.
unfoldable pub set_command : List ℕ → List ℕ → Command
set_command name value =
    if bytes_eq name (codes "A") then set_byte A (byte_of value)
    else if bytes_eq name (codes "X") then set_byte X (byte_of value)
    else if bytes_eq name (codes "Y") then set_byte Y (byte_of value)
    else if bytes_eq name (codes "S") then set_byte S (byte_of value)
    else if bytes_eq name (codes "P") then set_byte P (byte_of value)
    else if bytes_eq name (codes "PC") then set_byte Pc (address_of value)
    else Bad

-- One to three bytes from an address on.
abbrev pub patch_at : ℕ → List ℕ → Command
patch_at address (a ∷ []) = Patch address (a ∷ 0 ∷ 0 ∷ []) 1
patch_at address (a ∷ b ∷ []) = Patch address (a ∷ b ∷ 0 ∷ []) 2
patch_at address (a ∷ b ∷ c ∷ []) = Patch address (a ∷ b ∷ c ∷ []) 3
patch_at address [] = Bad
patch_at address (a ∷ b ∷ c ∷ d ∷ bytes) = Bad

abbrev pub patch_command : Option ℕ → Option (List ℕ) → Command
patch_command (Some address) (Some bytes) = patch_at address bytes
patch_command (Some address) None = Bad
patch_command None bytes = Bad

-- The words after `patch`: an address, and one for each byte.
abbrev pub patch_words : List (List ℕ) → Command
patch_words [] = Bad
patch_words (a ∷ ws) = patch_command (address_of a) (bytes_of_words ws)

-- Sixteen zeros.
abbrev pub no_input : List ℕ
no_input = 0 ∷ 0 ∷ 0 ∷ 0 ∷ 0 ∷ 0 ∷ 0 ∷ 0 ∷ 0 ∷ 0 ∷ 0 ∷ 0 ∷ 0 ∷ 0 ∷ 0 ∷ 0 ∷ []

-- The IRQ line's level: 0 or 1.
abbrev pub irq_command : List ℕ → Command
irq_command level =
    if bytes_eq level (codes "0") then Irq false
    else if bytes_eq level (codes "1") then Irq true
    else Bad

-- One to sixteen bytes of input, padded with zeros.
abbrev pub input_command : Option (List ℕ) → Command
input_command (Some bytes) = if nat_le (length bytes) 16
    then Input (take 16 (bytes ++ no_input)) (length bytes) else Bad
input_command None = Bad

-- The words after `in`: one for each byte, and at least one.
abbrev pub input_words : List (List ℕ) → Command
input_words [] = Bad
input_words (a ∷ ws) = input_command (bytes_of_words (a ∷ ws))

-- A command with a number, if the word writes one.
abbrev pub number_command : (ℕ → Command) → Option ℕ → Command
number_command command (Some number) = command number
number_command command None = Bad

-- How many steps to make at most, or how many events to undo.
abbrev pub most_steps : ℕ
most_steps = 1000000

-- At most so many instructions as text, from an address on.
abbrev pub dis_command : Option ℕ → Option ℕ → Command
dis_command (Some address) (Some count) = Dis address count
dis_command (Some address) None = Bad
dis_command None count = Bad

-- ---- one row for each command

-- The words after a command's name: none, one, or two. With any others the command is bad.
abbrev pub with_none : Command → List (List ℕ) → Command
with_none command [] = command
with_none command (a ∷ ws) = Bad

abbrev pub with_one : (List ℕ → Command) → List (List ℕ) → Command
with_one command (a ∷ []) = command a
with_one command ws = Bad

abbrev pub with_two : (List ℕ → List ℕ → Command) → List (List ℕ) → Command
with_two command (a ∷ b ∷ []) = command a b
with_two command ws = Bad

-- Each command's name, and what it asks for with the words after it.
abbrev pub commands : List (List ℕ × (List (List ℕ) → Command))
commands =
    (codes "regs", with_none Regs)
    ∷ (codes "step", with_none Step)
    ∷ (codes "reset", with_none Reset)
    ∷ (codes "nmi", with_none Nmi)
    ∷ (codes "out", with_none Out)
    ∷ (codes "breaks", with_none Breaks)
    ∷ (codes "quit", with_none Quit)
    ∷ (codes "irq", with_one irq_command)
    ∷ (codes "in", input_words)
    ∷ (codes "run", with_one (λ a. number_command Run (from_1_to most_steps (decimal_of a))))
    ∷ (codes "back", with_one (λ a. number_command Back (from_1_to most_steps (decimal_of a))))
    ∷ (codes "break", with_one (λ a. number_command Break (address_of a)))
    ∷ (codes "unbreak", with_one (λ a. number_command Unbreak (address_of a)))
    ∷ (codes "watch", with_one (λ a. number_command Watch (address_of a)))
    ∷ (codes "unwatch", with_one (λ a. number_command Unwatch (address_of a)))
    ∷ (codes "mem", with_two (λ a b. mem_command (address_of a) (address_of b)))
    ∷ (codes "set", with_two set_command)
    ∷ (codes "patch", patch_words)
    ∷ (codes "dis", with_two (λ a b. dis_command (address_of a) (from_1_to 256 (decimal_of b))))
    ∷ []

-- What the row of a name asks for.
abbrev pub command_named : List (List ℕ × (List (List ℕ) → Command)) → List ℕ → List (List ℕ)
    → Command
command_named [] name ws = Bad
command_named (row ∷ rows) name ws = if bytes_eq name row.0 then row.1 ws
    else command_named rows name ws

-- What words ask for: the first is a command's name.
unfoldable pub command_of_words : List (List ℕ) → Command
command_of_words [] = Nothing
command_of_words (w ∷ ws) = command_named commands w ws

-- ---- assembly

-- Whether the first of a line's words is `asm`.
abbrev pub is_asm : List (List ℕ) → Bool
is_asm [] = false
is_asm (w ∷ ws) = bytes_eq w (codes "asm")

-- The second of a line's words; empty if there is none.
abbrev pub second_word : List (List ℕ) → List ℕ
second_word (w ∷ a ∷ ws) = a
second_word ws = []

-- A text to assemble at an address. It is not empty; zeros pad it.
abbrev pub asm_command : Option ℕ → List ℕ → Command
asm_command (Some address) (b ∷ bs)
    = Asm address (take 255 ((b ∷ bs) ++ replicate 255 0)) (length (b ∷ bs))
asm_command (Some address) [] = Bad
asm_command None text = Bad

-- The text of `asm`: the rest of the line after the address and its spaces.
abbrev pub text_of : List ℕ → List ℕ
text_of line = without_spaces (rest_of (rest_of line))

-- ---- lines

-- What a line asks for. A line of more than 255 bytes is bad as a whole.
unfoldable pub command_of : List ℕ → Command
command_of line =
    if nat_lt 255 (length line) then Bad
    else if is_asm (words_of line)
    then asm_command (address_of (second_word (words_of line))) (text_of line)
    else command_of_words (words_of line)
