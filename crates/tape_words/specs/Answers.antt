-- What a word has done by its exit status. Source: mos65.
use Rattle.std.specs.Prelude.{◌≡◌, ℕ, ◌==◌, ◌++◌, ◌∷◌, [], codes, if◌then◌else◌, List, Option, ◌⊎◌, string_bytes}
use Rattle.std.specs.Fmt.{decimal}
use Rattle.std.specs.Io.KnownBytes.{Appends}
use Rattle.arguments.specs.Shown.{shown_name}
use Rattle.model.specs.TapeFault.{tape_fault_name, tape_fault_number}
use Rattle.model.specs.Writers.{AppendsFront}
use Rattle.model.specs.declared.tape.TapeFaultKind.{TapeFaultKind}
use Rattle.tape_words.specs.declared.answer.Answer.{Answer}

-- An answer is written, and the status is 0 where it is right and 1 where it is not; or it could
-- not be written, and a beginning of it was.
abbrev pub IsAnswered : Answer → ℕ → Option (List ℕ) → Option (List ℕ) → Type 0
IsAnswered answer status held now =
    ((status ≡ 4) × AppendsFront held now (string_bytes answer.text))
    ⊎ ((status ≡ (if answer.is_right then 0 else 1)) × Appends held now (string_bytes answer.text))

-- How many things there are, with the word for one or for more.
abbrev pub counted : ℕ → List ℕ → List ℕ → List ℕ
counted count one more = decimal count ++ 32 ∷ (if count == 1 then one else more)

-- A text begins with another.
abbrev pub Begins : List ℕ → List ℕ → Type 0
Begins front text = (rest : List ℕ) × (text ≡ front ++ rest)

-- A text is not empty, and ends with a line.
abbrev pub EndsLine : List ℕ → Type 0
EndsLine text = (front : List ℕ) × (text ≡ front ++ 10 ∷ [])

-- How the line that says a tape's fault begins: `FILE:LINE: NAME NUMBER: `, with the name of the file
-- as it is shown.
abbrev pub fault_front : List ℕ → ℕ → TapeFaultKind → List ℕ
fault_front file line kind = shown_name file ++ codes ":" ++ decimal line ++ codes ": "
    ++ tape_fault_name kind ++ codes " " ++ decimal (tape_fault_number kind) ++ codes ": "

-- A text tells a fault of a file, in one of its lines.
abbrev pub TellsFault : List ℕ → TapeFaultKind → List ℕ → Type 0
TellsFault file kind text = (line : ℕ) × Begins (fault_front file line kind) text
