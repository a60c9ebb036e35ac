-- Commands by how many words they have, as the code takes them.
use Rattle.std.specs.Prelude.{ℕ, List, [], ◌∷◌, if◌then◌else◌, codes}
use Rattle.std.specs.Str.{bytes_eq}
use Rattle.model.specs.declared.command.Command.{Command}
use Rattle.model.specs.declared.command.Command.TheVariants.{Regs, Step, Out, Reset, Nmi, Run, Back, Break, Unbreak, Watch, Unwatch, Breaks, Quit, Bad}
use Rattle.model.specs.Commands.{address_of, bytes_of_words, decimal_of, from_1_to, mem_command, set_command, patch_command, irq_command, input_command, number_command, most_steps, dis_command}

-- a command of one word
unfoldable pub plain_command : List ℕ → Command
plain_command w =
    if bytes_eq w (codes "regs") then Regs
    else if bytes_eq w (codes "step") then Step
    else if bytes_eq w (codes "reset") then Reset
    else if bytes_eq w (codes "nmi") then Nmi
    else if bytes_eq w (codes "out") then Out
    else if bytes_eq w (codes "breaks") then Breaks
    else if bytes_eq w (codes "quit") then Quit
    else Bad

-- a command of two words
unfoldable pub pair_command : List ℕ → List ℕ → Command
pair_command w a =
    if bytes_eq w (codes "irq") then irq_command a
    else if bytes_eq w (codes "in") then input_command (bytes_of_words (a ∷ []))
    else if bytes_eq w (codes "run") then number_command Run (from_1_to most_steps (decimal_of a))
    else if bytes_eq w (codes "back") then number_command Back (from_1_to most_steps (decimal_of a))
    else if bytes_eq w (codes "break") then number_command Break (address_of a)
    else if bytes_eq w (codes "unbreak") then number_command Unbreak (address_of a)
    else if bytes_eq w (codes "watch") then number_command Watch (address_of a)
    else if bytes_eq w (codes "unwatch") then number_command Unwatch (address_of a)
    else Bad

-- a command of three words
unfoldable pub triple_command : List ℕ → List ℕ → List ℕ → Command
triple_command w a b =
    if bytes_eq w (codes "mem") then mem_command (address_of a) (address_of b)
    else if bytes_eq w (codes "set") then set_command a b
    else if bytes_eq w (codes "patch") then patch_command (address_of a) (bytes_of_words (b ∷ []))
    else if bytes_eq w (codes "in") then input_command (bytes_of_words (a ∷ b ∷ []))
    else if bytes_eq w (codes "dis") then dis_command (address_of a) (from_1_to 256 (decimal_of b))
    else Bad

-- a command of more than three words
unfoldable pub long_command : List ℕ → List ℕ → List (List ℕ) → Command
long_command w a ws =
    if bytes_eq w (codes "patch") then patch_command (address_of a) (bytes_of_words ws)
    else if bytes_eq w (codes "in") then input_command (bytes_of_words (a ∷ ws))
    else Bad
