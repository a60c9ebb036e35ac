-- What may be written. Source: Language Server Protocol 3.17, "Completion Request"; what may be
-- written where, mos65.
use Rattle.std.specs.Prelude.{ℕ, nat_lt, ℤ, Bool, true, false, List, [], ◌++◌, codes, length, map, Option, None, Some}
use Rattle.json_messages.specs.Values.{list_of}
use Rattle.lsp_answers.specs.Items.{item_of}
use Rattle.lsp_answers.specs.Lists.{defined}
use Rattle.lsp_answers.specs.Meanings.{numbers_in}
use Rattle.lsp_answers.specs.Named.{item_kind}
use Rattle.lsp_answers.specs.Texts.{TextView}
use Rattle.lsp_answers.specs.Written.{directive_items}
use Rattle.lsp_answers.specs.declared.completing.Spot.{Spot}
use Rattle.lsp_answers.specs.declared.completing.Spot.TheVariants.{Operation, Operand, Comment}
use Rattle.lsp_answers.specs.declared.wording.TheConstants.{NO_VALUE}
use Rattle.model.specs.Listing.{number_text}
use Rattle.model.specs.Mnemonics.{mnemonic_text, mnemonics}
use Rattle.model.specs.Names.{Definitions, number_in}
use Rattle.model.specs.declared.instruction.Mnemonic.{Mnemonic}
use Rattle.name_uses.specs.Uses.{Use}
use Rattle.serde_json.specs.Data.{Data}

abbrev pub value_words : Option ℤ → List ℕ
value_words None = NO_VALUE.now
value_words (Some number) = number_text number

-- A name with its number.
abbrev pub name_item : List ℕ → Definitions → TextView → Use → Data
name_item group numbers t u
    = item_of u.text (item_kind t u) (value_words (number_in numbers u.text)) group

-- A mnemonic is a keyword, which has the number 14.
abbrev pub mnemonic_item : Mnemonic → Data
mnemonic_item m = item_of (mnemonic_text m) 14 (codes "instruction") (codes "0")

-- The names that a source defines, unless it is too long.
abbrev pub names_by : Bool → List ℕ → TextView → List Data
names_by true group t = []
names_by false group t = map (name_item group (numbers_in t) t) (defined t.uses)

abbrev pub names_at : List ℕ → TextView → List Data
names_at group t = names_by (nat_lt 1048576 (length t.source)) group t

-- Where the operation of a line stands: the mnemonics of the profile first, then the directives, and
-- the names last; behind it the names.
abbrev pub completion_of : TextView → Spot → Data
completion_of t Operation = list_of (names_at (codes "2") t
    ++ map mnemonic_item (mnemonics t.profile) ++ directive_items)
completion_of t Operand = list_of (names_at (codes "0") t)
completion_of t Comment = list_of []
