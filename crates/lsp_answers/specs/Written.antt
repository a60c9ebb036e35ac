-- The directives, as what may be written, each with what it does.
use Rattle.std.specs.Prelude.{ℕ, List, [], ◌∷◌, codes}
use Rattle.lsp_answers.specs.Items.{item_of}
use Rattle.lsp_answers.specs.declared.written.TheConstants.{BYTE_EFFECT, WORD_EFFECT, DBYTE_EFFECT, RES_EFFECT, END_EFFECT}
use Rattle.serde_json.specs.Data.{Data}

-- A directive is a keyword, which has the number 14.
abbrev pub directive_item : List ℕ → List ℕ → Data
directive_item name effect = item_of name 14 effect (codes "1")

abbrev pub directive_items : List Data
directive_items = directive_item (codes ".BYTE") BYTE_EFFECT.now
    ∷ directive_item (codes ".WORD") WORD_EFFECT.now
    ∷ directive_item (codes ".DBYTE") DBYTE_EFFECT.now
    ∷ directive_item (codes ".RES") RES_EFFECT.now
    ∷ directive_item (codes ".END") END_EFFECT.now ∷ []
