-- Lines of few bytes. A line that is read is one, since it has at most 255 bytes itself.
use Rattle.std.specs.Prelude.{◌≤◌, ⊤, length}
use Rattle.model.specs.Layout.{items_size}
use Rattle.model.specs.SourceLine.{Statement, nothing, origin, bytes, words, words_high_first, reserve, finish, instruction, Line, labelled, definition}

-- What a statement denotes has at most 510 bytes.
abbrev pub IsSmall : Statement → Type 0
IsSmall (bytes items) = items_size items ≤ 510
IsSmall (words es) = length es ≤ 255
IsSmall (words_high_first es) = length es ≤ 255
IsSmall nothing = ⊤
IsSmall (origin e) = ⊤
IsSmall (reserve e) = ⊤
IsSmall finish = ⊤
IsSmall (instruction m operand) = ⊤

abbrev pub IsSmallLine : Line → Type 0
IsSmallLine (labelled name s) = IsSmall s
IsSmallLine (definition name e) = ⊤
