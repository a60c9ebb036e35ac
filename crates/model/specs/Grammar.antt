-- The grammar of a line: which tokens are a line, and what they say. Source: mos65.
--     line      = [name ":"] [operation] | name "=" expr
--     operation = mnemonic [operand] | "*" "=" expr | ".BYTE" item {"," item}
--               | ".WORD" expr {"," expr} | ".DBYTE" expr {"," expr} | ".RES" expr | ".END"
--     item      = expr | string
--     operand   = "A" | "#" expr | ["!"] expr ["," ("X" | "Y")] | "(" expr ")"
--               | "(" expr "," "X" ")" | "(" expr ")" "," "Y"
-- Any word may be a name here; that no name is a reserved word is asked of the whole line
-- afterwards. `SourceLine.antt` reads a line by functions. Laws, which are proved, say that each line of
-- this grammar is read so, and that what is read is such a line.
use Rattle.std.specs.Prelude.{◌≡◌, ℕ, Bool, true, false, ◌&&◌, List, [], ◌∷◌, ◌++◌, codes, Some, None}
use Rattle.std.specs.Str.{byte, bytes_eq, str_to_ascii_uppercase}
use Rattle.model.specs.declared.expression.TokenKind.TheVariants.{Word, Directive}
use Rattle.model.specs.declared.line.Index.{Index}
use Rattle.model.specs.declared.line.Index.TheVariants.{Unindexed, X, Y}
use Rattle.model.specs.declared.instruction.Profile.{Profile}
use Rattle.model.specs.declared.instruction.Mnemonic.{Mnemonic}
use Rattle.model.specs.Mnemonics.{mnemonic_named}
use Rattle.model.specs.Token.{Lexeme}
use Rattle.model.specs.Expression.{Term, symbol_of, IsExpression}
use Rattle.model.specs.SourceLine.{Operand, absent, accumulator, immediate, direct, pointer, pointer_by_x, pointer_by_y, Item, value, string, Statement, nothing, origin, bytes, words, words_high_first, reserve, finish, instruction, Line, labelled, definition, is_word, is_alone, string_in, line_of}

-- ---- tokens

-- The token is this symbol.
abbrev pub IsSymbol : ℕ → Lexeme → Type 0
IsSymbol b t = symbol_of t ≡ Some b

abbrev pub IsColon : Lexeme → Type 0
IsColon t = IsSymbol (byte ":") t

abbrev pub IsEquals : Lexeme → Type 0
IsEquals t = IsSymbol (byte "=") t

abbrev pub IsComma : Lexeme → Type 0
IsComma t = IsSymbol (byte ",") t

abbrev pub IsHash : Lexeme → Type 0
IsHash t = IsSymbol (byte "#") t

abbrev pub IsMark : Lexeme → Type 0
IsMark t = IsSymbol (byte "!") t

abbrev pub IsStar : Lexeme → Type 0
IsStar t = IsSymbol (byte "*") t

abbrev pub Opens : Lexeme → Type 0
Opens t = IsSymbol (byte "(") t

abbrev pub Closes : Lexeme → Type 0
Closes t = IsSymbol (byte ")") t

-- The token is this word, in either letter case.
abbrev pub IsWord : List ℕ → Lexeme → Type 0
IsWord capitals t = is_word capitals t ≡ true

-- The token is a directive with these letters, in either letter case.
pub record IsDirective (capitals : List ℕ) (t : Lexeme) : Type 0 where
  pub kind : t.kind ≡ Directive
  pub letters : bytes_eq (str_to_ascii_uppercase t.text) capitals ≡ true

-- Whether some tokens are the word A alone.
abbrev pub is_a : List Lexeme → Bool
is_a [] = false
is_a (t ∷ ts) = is_alone ts && is_word (codes "A") t

-- ---- operands

-- `,X` or `,Y`, or nothing.
pub data IsIndex : Index → List Lexeme → Type 0 where
  unindexed : IsIndex Unindexed []
  by_x : (comma x : Lexeme) → IsComma comma → IsWord (codes "X") x → IsIndex X (comma ∷ x ∷ [])
  by_y : (comma y : Lexeme) → IsComma comma → IsWord (codes "Y") y → IsIndex Y (comma ∷ y ∷ [])

-- The word A alone is the accumulator and not a name.
pub data IsOperand : Operand → List Lexeme → Type 0 where
  none : IsOperand absent []
  letter_a : (t : Lexeme) → IsWord (codes "A") t → IsOperand accumulator (t ∷ [])
  after_hash : (hash : Lexeme) {e : Term} {ts : List Lexeme} → IsHash hash → IsExpression e ts
      → IsOperand (immediate e) (hash ∷ ts)
  plain : {e : Term} {by : Index} {ts us : List Lexeme} → is_a (ts ++ us) ≡ false
      → IsExpression e ts → IsIndex by us → IsOperand (direct false e by) (ts ++ us)
  after_mark : (mark : Lexeme) {e : Term} {by : Index} {ts us : List Lexeme} → IsMark mark
      → IsExpression e ts → IsIndex by us → IsOperand (direct true e by) (mark ∷ ts ++ us)
  in_brackets : (opening closing : Lexeme) {e : Term} {ts : List Lexeme} → Opens opening
      → IsExpression e ts → Closes closing
      → IsOperand (pointer e) (opening ∷ ts ++ closing ∷ [])
  in_brackets_by_x : (opening comma x closing : Lexeme) {e : Term} {ts : List Lexeme}
      → Opens opening → IsExpression e ts → IsComma comma → IsWord (codes "X") x → Closes closing
      → IsOperand (pointer_by_x e) (opening ∷ ts ++ comma ∷ x ∷ closing ∷ [])
  in_brackets_by_y : (opening closing comma y : Lexeme) {e : Term} {ts : List Lexeme}
      → Opens opening → IsExpression e ts → Closes closing → IsComma comma → IsWord (codes "Y") y
      → IsOperand (pointer_by_y e) (opening ∷ ts ++ closing ∷ comma ∷ y ∷ [])

-- ---- lists

-- One or more parts with a comma between them.
pub data AreListed {A : Type 0} (Is : A → List Lexeme → Type 0) : List A → List Lexeme
    → Type 0 where
  last : {a : A} {ts : List Lexeme} → Is a ts → AreListed Is (a ∷ []) ts
  more : {a : A} {as' : List A} {ts us : List Lexeme} (comma : Lexeme) → Is a ts → IsComma comma
      → AreListed Is as' us → AreListed Is (a ∷ as') (ts ++ comma ∷ us)

-- A string denotes the bytes between its quotes.
pub data IsItem : Item → List Lexeme → Type 0 where
  expression : {e : Term} {ts : List Lexeme} → IsExpression e ts → IsItem (value e) ts
  quoted : (t : Lexeme) {text : List ℕ} → string_in t.kind t.text ≡ Some text
      → IsItem (string text) (t ∷ [])

-- ---- operations

pub data IsOperation (profile : Profile) : Statement → List Lexeme → Type 0 where
  by_mnemonic : (t : Lexeme) {m : Mnemonic} {operand : Operand} {ts : List Lexeme} → t.kind ≡ Word
      → mnemonic_named profile t.text ≡ Some m → IsOperand operand ts
      → IsOperation profile (instruction m operand) (t ∷ ts)
  sets_address : (star equals : Lexeme) {e : Term} {ts : List Lexeme} → IsStar star
      → IsEquals equals → IsExpression e ts → IsOperation profile (origin e) (star ∷ equals ∷ ts)
  byte_directive : (t : Lexeme) {items : List Item} {ts : List Lexeme}
      → IsDirective (codes ".BYTE") t → AreListed IsItem items ts
      → IsOperation profile (bytes items) (t ∷ ts)
  word_directive : (t : Lexeme) {es : List Term} {ts : List Lexeme} → IsDirective (codes ".WORD") t
      → AreListed IsExpression es ts → IsOperation profile (words es) (t ∷ ts)
  dbyte_directive : (t : Lexeme) {es : List Term} {ts : List Lexeme}
      → IsDirective (codes ".DBYTE") t → AreListed IsExpression es ts
      → IsOperation profile (words_high_first es) (t ∷ ts)
  res_directive : (t : Lexeme) {e : Term} {ts : List Lexeme} → IsDirective (codes ".RES") t
      → IsExpression e ts → IsOperation profile (reserve e) (t ∷ ts)
  end_directive : (t : Lexeme) → IsDirective (codes ".END") t → IsOperation profile finish (t ∷ [])

-- An operation, or none.
pub data IsRest (profile : Profile) : Statement → List Lexeme → Type 0 where
  nothing_more : IsRest profile nothing []
  operation : {s : Statement} {ts : List Lexeme} → IsOperation profile s ts → IsRest profile s ts

-- ---- lines

-- These tokens are a line, and say this.
pub data IsLine (profile : Profile) : Line → List Lexeme → Type 0 where
  no_label : {s : Statement} {ts : List Lexeme} → IsRest profile s ts
      → IsLine profile (labelled None s) ts
  label : (w colon : Lexeme) {s : Statement} {ts : List Lexeme} → w.kind ≡ Word → IsColon colon
      → IsRest profile s ts → IsLine profile (labelled (Some w.text) s) (w ∷ colon ∷ ts)
  defines : (w equals : Lexeme) {e : Term} {ts : List Lexeme} → w.kind ≡ Word → IsEquals equals
      → IsExpression e ts → IsLine profile (definition w.text e) (w ∷ equals ∷ ts)

-- ---- that lines are read so

-- Each line of the grammar is read so, and so it says one thing only.
abbrev pub EachLineIsRead : Type 0
EachLineIsRead = (profile : Profile) (l : Line) (ts : List Lexeme) → IsLine profile l ts
    → line_of profile ts ≡ Some l

-- And what is read is a line of the grammar.
abbrev pub EachReadLineIsALine : Type 0
EachReadLineIsALine = (profile : Profile) (l : Line) (ts : List Lexeme)
    → line_of profile ts ≡ Some l → IsLine profile l ts
