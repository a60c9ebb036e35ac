-- What `mon` writes first. Source: mos65.
use Rattle.std.specs.Prelude.{ℕ, ◌==◌, ◌&&◌, ◌||◌, if◌then◌else◌, Bool, false, true, List, [], ◌∷◌, ◌++◌, codes, Option, None, is_some, slice_index}
use Rattle.arguments.specs.declared.file_options.FileForm.{FileForm}
use Rattle.arguments.specs.declared.file_options.FileForm.TheVariants.{Source}
use Rattle.model.specs.State.{State}
use Rattle.source_map.specs.Names.{Named, address_of}
use Rattle.word_mon.specs.declared.wording.TheConstants.{GREETING, HIDDEN, NO_VECTOR}

-- ---- names of the program that mean a register or a flag: A, X and Y are reserved words

abbrev pub is_hidden : List Named → List ℕ → Bool
is_hidden names word = is_some (address_of names word)

unfoldable pub hides_register : List Named → Bool
hides_register names = is_hidden names (codes "S") || is_hidden names (codes "SP")
    || is_hidden names (codes "P") || is_hidden names (codes "PC")

unfoldable pub hides_flag : List Named → Bool
hides_flag names = is_hidden names (codes "N") || is_hidden names (codes "V")
    || is_hidden names (codes "D") || is_hidden names (codes "I")
    || is_hidden names (codes "Z") || is_hidden names (codes "C")

abbrev pub has_hidden : List Named → Bool
has_hidden names = hides_register names || hides_flag names

abbrev pub hidden_name : List Named → List ℕ → List ℕ
hidden_name names word = if is_hidden names word then 32 ∷ word else []

unfoldable pub hidden_registers : List Named → List ℕ
hidden_registers names = hidden_name names (codes "S") ++ hidden_name names (codes "SP")
    ++ hidden_name names (codes "P") ++ hidden_name names (codes "PC")

unfoldable pub hidden_flags : List Named → List ℕ
hidden_flags names = hidden_name names (codes "N") ++ hidden_name names (codes "V")
    ++ hidden_name names (codes "D") ++ hidden_name names (codes "I")
    ++ hidden_name names (codes "Z") ++ hidden_name names (codes "C")

-- The registers and flags whose names the program has too, in any letter case.
abbrev pub hidden_text : List Named → List ℕ
hidden_text names = if has_hidden names
    then HIDDEN.now ++ hidden_registers names ++ hidden_flags names ++ codes "\n" else []

-- ---- the whole

-- That there is no reset vector, if its two bytes are 0.
abbrev pub vector_text : ℕ → ℕ → List ℕ
vector_text low high = if (low == 0) && (high == 0) then NO_VECTOR.now else []

-- The last line is the one that tells of warnings, if there are some.
unfoldable pub greeting : List Named → ℕ → ℕ → List ℕ → List ℕ
greeting names low high warning_line
    = GREETING.now ++ hidden_text names ++ vector_text low high ++ warning_line

-- The words name an image: one file that is no source, or several.
abbrev pub has_image : {X : Type 0} → FileForm → Option X → Bool
has_image Source None = false
has_image form second = true

-- What is written first: all of this, if prompts are; without them of an image the last line alone,
-- which tells of fill that was left out.
abbrev pub greeting_of : Bool → Bool → State → List Named → List ℕ → List ℕ
greeting_of prompts is_image state names warning_line = if prompts
    then greeting names (slice_index state.bus.memory 0xFFFC) (slice_index state.bus.memory 0xFFFD)
    warning_line else if is_image then warning_line else []
