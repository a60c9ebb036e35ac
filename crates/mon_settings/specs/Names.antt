-- An instruction with addresses in place of its names. Source: mos65.
use Rattle.std.specs.Prelude.{ℕ, ◌==◌, ◌||◌, nat_lt, if◌then◌else◌, List, [], ◌∷◌, ◌++◌, length, Option, Some, None}
use Rattle.std.specs.Str.{byte}
use Rattle.model.specs.Text.{hex_address, hex_byte}
use Rattle.model.specs.Token.{is_word_byte}
use Rattle.source_map.specs.Names.{Named, address_of}
use Rattle.mon_settings.specs.declared.names.Before.{Before}
use Rattle.mon_settings.specs.declared.names.Before.TheVariants.{Nothing, Mark, Quote, Text, Other}

-- ---- what stands before a word

-- A byte that is of no word and no string begins a string with `"`, begins or ends a character with
-- `'`, and marks a number with `$` and a directive with `.`.
abbrev pub begun_by : ℕ → Before
begun_by b =
    if b == 34 then Text
    else if b == byte "'" then Quote
    else if b == byte "$" || b == byte "." then Mark
    else Other

-- What stands before the next word, after a byte that is of no word. A `"` ends a string, and after
-- `'` it is a character.
abbrev pub next_before : Before → ℕ → Before
next_before Text b = if b == 34 then Other else Text
next_before Quote b = if b == 34 then Other else begun_by b
next_before Nothing b = begun_by b
next_before Mark b = begun_by b
next_before Other b = begun_by b

-- ---- a word

-- An address in an operand: two digits in the zero page, otherwise four.
abbrev pub operand_text : ℕ → List ℕ
operand_text address = byte "$" ∷ (if nat_lt address 256 then hex_byte address
    else hex_address address)

abbrev pub if_named : List ℕ → Option ℕ → List ℕ
if_named word None = word
if_named word (Some address) = operand_text address

-- A name of two letters or more stands for its address. One letter may be a register.
abbrev pub word_text : List Named → Before → List ℕ → List ℕ
word_text names Other word = if nat_lt 1 (length word) then if_named word (address_of names word)
    else word
word_text names Nothing word = word
word_text names Mark word = word
word_text names Quote word = word
word_text names Text word = word

-- ---- all words

-- What is written so far, what stands before the word that has begun, the word so far, and the rest
-- of the instruction.
unfoldable pub text_from : List Named → List ℕ → Before → List ℕ → List ℕ → List ℕ
text_from names text before word [] = text ++ word_text names before word
text_from names text before word (b ∷ rest) = if is_word_byte b
    then text_from names text before (word ++ b ∷ []) rest
    else text_from names ((text ++ word_text names before word) ++ b ∷ []) (next_before before b)
    [] rest

abbrev pub without_names : List Named → List ℕ → List ℕ
without_names names line = text_from names [] Nothing [] line
