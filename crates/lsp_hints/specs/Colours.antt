-- The colours of tokens. Source: Language Server Protocol 3.17, "Semantic Tokens"; which token has
-- which, mos65.
use Rattle.std.specs.Prelude.{ℕ, Bool, if◌then◌else◌, List, [], ◌∷◌, codes, Option, Some, None}
use Rattle.lsp_hints.specs.declared.colour.Colour.{Colour}
use Rattle.lsp_hints.specs.declared.colour.Colour.TheVariants as colours
use Rattle.model.specs.SourceLine.{is_reserved}
use Rattle.model.specs.Token.{Lexeme}
use Rattle.model.specs.declared.expression.TokenKind.{TokenKind}
use Rattle.model.specs.declared.expression.TokenKind.TheVariants.{Word, Directive, Number, Char, Str, Symbol}
use Rattle.model.specs.declared.instruction.Profile.{Profile}

-- The legend: the types and the modifiers, by their numbers from 0.
abbrev pub types : List (List ℕ)
types = codes "keyword" ∷ codes "macro" ∷ codes "variable" ∷ codes "number" ∷ codes "string"
    ∷ codes "comment" ∷ []

abbrev pub modifiers : List (List ℕ)
modifiers = codes "definition" ∷ []

abbrev pub type_of : Colour → ℕ
type_of colours.Reserved = 0
type_of colours.Directive = 1
type_of colours.Defined = 2
type_of colours.Named = 2
type_of colours.Number = 3
type_of colours.Quoted = 4
type_of colours.Comment = 5

-- A bit for each modifier.
abbrev pub modifiers_of : Colour → ℕ
modifiers_of colours.Defined = 1
modifiers_of colours.Reserved = 0
modifiers_of colours.Directive = 0
modifiers_of colours.Named = 0
modifiers_of colours.Number = 0
modifiers_of colours.Quoted = 0
modifiers_of colours.Comment = 0

-- A word is reserved, or a name, which its line defines or not.
abbrev pub word_colour : Profile → Bool → List ℕ → Colour
word_colour profile defines text = if is_reserved profile text then colours.Reserved
    else if defines then colours.Defined else colours.Named

abbrev pub colour_in : Profile → Bool → TokenKind → List ℕ → Option Colour
colour_in profile defines Word text = Some (word_colour profile defines text)
colour_in profile defines Directive text = Some colours.Directive
colour_in profile defines Number text = Some colours.Number
colour_in profile defines Char text = Some colours.Quoted
colour_in profile defines Str text = Some colours.Quoted
colour_in profile defines Symbol text = None

-- The colour of a token. A symbol has none.
abbrev pub colour_of : Profile → Bool → Lexeme → Option Colour
colour_of profile defines t = colour_in profile defines t.kind t.text
