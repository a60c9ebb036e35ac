-- Each line of the grammar is read so.
use Rattle.std.proofs.Common.{◌≡◌, ℕ, zero, suc, ◌≤◌, ◌<◌, Bool, true, false, List, [], ◌∷◌, ◌++◌, length, Option, Some, None, refl, sym, ap, ◌∙◌, arith, append-nil, length-append}
use Rattle.std.specs.Prelude.{⊤, codes, if◌then◌else◌}
use Rattle.std.specs.Option.{option_and_then}
use Rattle.std.specs.Str.{bytes_eq, str_to_ascii_uppercase}
use Rattle.std.proofs.lemmas.Slice.Eq.{bytes_eq-Decides}
use Rattle.model.specs.declared.expression.TokenKind.{TokenKind}
use Rattle.model.specs.declared.expression.TokenKind.TheVariants.{Word, Directive, Number, Char, Str, Symbol}
use Rattle.model.specs.declared.expression.Operator.{Operator}
use Rattle.model.specs.declared.instruction.Profile.{Profile}
use Rattle.model.specs.declared.line.Index.{Index}
use Rattle.model.specs.Token.{Lexeme}
use Rattle.model.specs.Expression.{Term, symbol_in, symbol_of, operator_for, operator_of, atom_in, Level, Derives, atom, group, plain as plain_unary, minus, single, chain, bare, low_byte, high_byte, IsExpression, OneExpression}
use Rattle.model.specs.Reading.{ReadsLongest, is_symbol, expression_of}
use Rattle.model.specs.SourceLine.{Operand, direct, Item, value, Statement, Line, is_word, is_word_in, direct_after, operand_of, list_within, item_of, item_or, string_in, directive_of, operation_by, origin_after, statement_of, unlabelled, word_line, line_by, line_of}
use Rattle.model.specs.Grammar.{IsIndex, unindexed, by_x, by_y, IsOperand, none, letter_a, after_hash, plain, after_mark, in_brackets, in_brackets_by_x, in_brackets_by_y, AreListed, last, more, IsItem, expression, quoted, IsOperation, by_mnemonic, sets_address, byte_directive, word_directive, dbyte_directive, res_directive, end_directive, IsRest, nothing_more, operation, no_label, label, defines, is_a, IsLine, EachLineIsRead}
use Rattle.asm_line.proofs.SymbolsOutside as foreign
use Rattle.asm_line.proofs.SymbolsOutside.{Ends, symbol_is, symbol_other, symbol_not, symbol_kind, not_a, none_is, read_before, read_whole, some_token}

-- ---- words

-- a text is one of two only where they are one
other_text : (text a b : List ℕ) → bytes_eq a b ≡ false → bytes_eq (str_to_ascii_uppercase text) a ≡ true → bytes_eq (str_to_ascii_uppercase text) b ≡ false
other_text text a b differ h =
    let same : str_to_ascii_uppercase text ≡ a = (bytes_eq-Decides (str_to_ascii_uppercase text) a).0 h in
    rw same differ

other_word : (t : Lexeme) (a b : List ℕ) → bytes_eq a b ≡ false → is_word a t ≡ true → is_word b t ≡ false
other_word t a b differ h = go t.kind t.text h where
  go : (kind : TokenKind) (text : List ℕ) → is_word_in kind text a ≡ true → is_word_in kind text b ≡ false
  go Word text h = other_text text a b differ h
  go Directive text h = refl
  go Number text h = refl
  go Char text h = refl
  go Str text h = refl
  go Symbol text h = refl

-- ---- strings

abbrev NoText : List Lexeme → Type 0
NoText [] = ⊤
NoText (t ∷ ts) = (string_in t.kind t.text ≡ None) × NoText ts

text_append : (ls rs : List Lexeme) → NoText ls → NoText rs → NoText (ls ++ rs)
text_append [] rs h k = k
text_append (l ∷ ls) rs h k = (h.0, text_append ls rs h.1 k)

symbol_text : (t : Lexeme) (b : ℕ) → symbol_of t ≡ Some b → string_in t.kind t.text ≡ None
symbol_text t b h = rw (symbol_kind t b h) refl

atom_text : (kind : TokenKind) (text : List ℕ) (e : Term) → atom_in kind text ≡ Some e → string_in kind text ≡ None
atom_text Str text e h = cc
atom_text Word text e h = refl
atom_text Directive text e h = refl
atom_text Number text e h = refl
atom_text Char text e h = refl
atom_text Symbol text e h = refl

operator_text : (t : Lexeme) (op : Operator) → operator_of t ≡ Some op → string_in t.kind t.text ≡ None
operator_text t op h = go t.kind t.text h where
  go : (kind : TokenKind) (text : List ℕ) → option_and_then operator_for (symbol_in kind text) ≡ Some op → string_in kind text ≡ None
  go Str text h = cc
  go Word text h = refl
  go Directive text h = refl
  go Number text h = refl
  go Char text h = refl
  go Symbol text h = refl

-- no string stands in an expression
no_text : {l : Level} {d : ℕ} {e : Term} {ts : List Lexeme} → Derives l d e ts → NoText ts
no_text (atom t {e = e} h) = (atom_text t.kind t.text e h, tt)
no_text (group t u {ts = ts} o c h) = (symbol_text t 91 o, text_append ts (u ∷ []) (no_text h) (symbol_text u 93 c, tt))
no_text (plain_unary h) = no_text h
no_text (minus t o h) = (symbol_text t 45 o, no_text h)
no_text (single h) = no_text h
no_text (chain t {op = op} {ls = ls} {rs = rs} o h k) = text_append ls (t ∷ rs) (no_text h) (operator_text t op o, no_text k)
no_text (bare h) = no_text h
no_text (low_byte t o h) = (symbol_text t 60 o, no_text h)
no_text (high_byte t o h) = (symbol_text t 62 o, no_text h)

-- ---- an index

index_ends : {by : Index} {us : List Lexeme} → IsIndex by us → Ends us
index_ends unindexed = tt
index_ends (by_x c x h k) = (44, foreign.comma, h)
index_ends (by_y c y h k) = (44, foreign.comma, h)

index_read : (marked : Bool) (e : Term) {by : Index} {us : List Lexeme} → IsIndex by us → direct_after marked e us ≡ Some (direct marked e by)
index_read marked e unindexed = refl
index_read marked e (by_x c x h k) = rw (symbol_is c 44 h, k) refl
index_read marked e (by_y c y h k) = rw (symbol_is c 44 h, other_word y (codes "Y") (codes "X") refl k, k) refl

-- ---- lists

record ReadBy {A : Type 0} (Is : A → List Lexeme → Type 0) (read : List Lexeme → Option (A × List Lexeme)) : Type 0 where
  reads : (a : A) (ts us : List Lexeme) → Is a ts → Ends us → read (ts ++ us) ≡ Some (a, us)
  some : (a : A) (ts : List Lexeme) → Is a ts → 0 < length ts

list_read : {A : Type 0} (Is : A → List Lexeme → Type 0) (read : List Lexeme → Option (A × List Lexeme)) → ReadBy Is read
    → (n : ℕ) {xs : List A} {ts : List Lexeme} → AreListed Is xs ts → length ts ≤ n → list_within read n ts ≡ Some xs
unfolding list_within
list_read Is read r zero (last {a = a} {ts = ts} h) le = let some = r.some a ts h in absurd (omega arith)
list_read Is read r (suc n) (last {a = a} {ts = ts} h) le =
    let found : read ts ≡ Some (a, []) = ap read (sym (append-nil ts)) ∙ r.reads a ts [] h tt in
    rw found refl
list_read Is read r zero (more {a = a} {ts = ts} {us = us} comma h c k) le = absurd (omega (arith, length-append ts (comma ∷ us)))
list_read Is read r (suc n) (more {a = a} {ts = ts} {us = us} comma h c k) le =
    rw (r.reads a ts (comma ∷ us) h (44, foreign.comma, c), symbol_is comma 44 c, list_read Is read r n k (omega (arith, length-append ts (comma ∷ us)))) refl

-- ---- the first token of an operation

abbrev NoName : List Lexeme → Type 0
NoName [] = ⊤
NoName (t ∷ ts) = (is_symbol 58 t ≡ false) × (is_symbol 61 t ≡ false)

symbol_no_name : (t : Lexeme) (ts : List Lexeme) (b : ℕ) → symbol_of t ≡ Some b → is_symbol 58 t ≡ false → is_symbol 61 t ≡ false → NoName (t ∷ ts)
symbol_no_name t ts b h c e = (c, e)

word_symbol : (capitals : List ℕ) (t : Lexeme) (b : ℕ) → is_word capitals t ≡ true → is_symbol b t ≡ false
word_symbol capitals t b h = symbol_not t b (λ s. bad (symbol_kind t b s)) where
  bad : t.kind ≡ Symbol → ⊥
  bad e = let there : false ≡ true = rw e at h in cc

-- what begins with a word before neither `:` nor `=` has no label
word_is : (profile : Profile) (w : Lexeme) (ts : List Lexeme) → NoName ts → word_line profile w ts ≡ unlabelled profile (w ∷ ts)
word_is profile w [] h = refl
word_is profile w (s ∷ ts) h = rw (h.0, h.1) refl

symbol_line : (profile : Profile) (kind : TokenKind) (t : Lexeme) (ts : List Lexeme) → kind ≡ Symbol → line_by profile kind t ts ≡ unlabelled profile (t ∷ ts)
symbol_line profile kind t ts e = rw e refl

directive_line : (profile : Profile) (kind : TokenKind) (t : Lexeme) (ts : List Lexeme) → kind ≡ Directive
    → line_by profile kind t ts ≡ unlabelled profile (t ∷ ts)
directive_line profile kind t ts e = rw e refl

word_kind : (profile : Profile) (kind : TokenKind) (t : Lexeme) (ts : List Lexeme) → kind ≡ Word → line_by profile kind t ts ≡ word_line profile t ts
word_kind profile kind t ts e = rw e refl

star_operation : (profile : Profile) (kind : TokenKind) (t : Lexeme) (ts : List Lexeme) → kind ≡ Symbol
    → operation_by profile kind t ts ≡ (if is_symbol 42 t then origin_after ts else None)
star_operation profile kind t ts e = rw e refl

directive_operation : (profile : Profile) (kind : TokenKind) (t : Lexeme) (ts : List Lexeme) → kind ≡ Directive
    → operation_by profile kind t ts ≡ directive_of t.text ts
directive_operation profile kind t ts e = rw e refl

module _ (profile : Profile) (longest : ReadsLongest) (one : OneExpression) where
  expressions : ReadBy IsExpression expression_of
  expressions = record { reads = λ e ts us d ends. read_before longest one e ts us d ends; some = λ e ts d. some_token longest one e ts d }

  item_reads : (a : Item) (ts us : List Lexeme) → IsItem a ts → Ends us → item_of (ts ++ us) ≡ Some (a, us)
  item_reads a ts us (quoted t h) ends = rw h refl
  item_reads a ts us (expression {e = e} d) ends = go ts d where
    go : (ts : List Lexeme) → IsExpression e ts → item_of (ts ++ us) ≡ Some (value e, us)
    go [] d = let some = some_token longest one e [] d in absurd (omega arith)
    go (t ∷ ts) d =
        ap (λ o. item_or o (ts ++ us) (expression_of (t ∷ (ts ++ us)))) (no_text d).0
        ∙ ap (λ r. item_or None (ts ++ us) r) (read_before longest one e (t ∷ ts) us d ends)

  item_some : (a : Item) (ts : List Lexeme) → IsItem a ts → 0 < length ts
  item_some a ts (quoted t h) = omega arith
  item_some a ts (expression {e = e} d) = some_token longest one e ts d

  items : ReadBy IsItem item_of
  items = record { reads = item_reads; some = item_some }

  -- ---- operands

  plain_read : (e : Term) (by : Index) (ts us : List Lexeme) → is_a (ts ++ us) ≡ false → IsExpression e ts → IsIndex by us
      → operand_of (ts ++ us) ≡ Some (direct false e by)
  unfolding operand_of
  plain_read e by [] us a d i = let some = some_token longest one e [] d in absurd (omega arith)
  plain_read e by (t ∷ ts) us a d i =
      rw (
        a,
        symbol_not t 35 (none_is 35 foreign.hash d).0,
        symbol_not t 40 (none_is 40 foreign.opening d).0,
        symbol_not t 33 (none_is 33 foreign.mark d).0,
        read_before longest one e (t ∷ ts) us d (index_ends i),
        index_read false e i,
      ) refl

  operand_read : {o : Operand} {ts : List Lexeme} → IsOperand o ts → operand_of ts ≡ Some o
  unfolding operand_of
  operand_read none = refl
  operand_read (letter_a t h) = rw h refl
  operand_read (after_hash t {e = e} {ts = ts} h d) = rw (not_a t ts 35 h, symbol_is t 35 h, read_whole longest one e ts d) refl
  operand_read (plain {e = e} {by = by} {ts = ts} {us = us} a d i) = plain_read e by ts us a d i
  operand_read (after_mark t {e = e} {ts = ts} {us = us} h d i) =
      rw (
        not_a t (ts ++ us) 33 h,
        symbol_other t 33 35 refl h,
        symbol_other t 33 40 refl h,
        symbol_is t 33 h,
        read_before longest one e ts us d (index_ends i),
        index_read true e i,
      ) refl
  operand_read (in_brackets t c {e = e} {ts = ts} h d k) =
      rw (
        not_a t (ts ++ c ∷ []) 40 h,
        symbol_other t 40 35 refl h,
        symbol_is t 40 h,
        read_before longest one e ts (c ∷ []) d
            (41, foreign.closing, k),
        symbol_is c 41 k,
      ) refl
  operand_read (in_brackets_by_x t m x c {e = e} {ts = ts} h d n w k) =
      rw (
        not_a t (ts ++ m ∷ x ∷ c ∷ []) 40 h,
        symbol_other t 40 35 refl h,
        symbol_is t 40 h,
        read_before longest one e ts (m ∷ x ∷ c ∷ []) d (44, foreign.comma, n),
        symbol_is m 44 n,
        w,
        symbol_is c 41 k,
      ) refl
  operand_read (in_brackets_by_y t c m y {e = e} {ts = ts} h d k n w) =
      rw (
        not_a t (ts ++ c ∷ m ∷ y ∷ []) 40 h,
        symbol_other t 40 35 refl h,
        symbol_is t 40 h,
        read_before longest one e ts (c ∷ m ∷ y ∷ []) d (41, foreign.closing, k),
        symbol_other c 41 44 refl k,
        symbol_is c 41 k,
        symbol_is m 44 n,
        w,
      ) refl

  -- no operand begins with `:` or `=`
  operand_first : {o : Operand} {ts : List Lexeme} → IsOperand o ts → NoName ts
  operand_first none = tt
  operand_first (letter_a t h) = (word_symbol (codes "A") t 58 h, word_symbol (codes "A") t 61 h)
  operand_first (after_hash t h d) = (symbol_other t 35 58 refl h, symbol_other t 35 61 refl h)
  operand_first (plain {e = e} {ts = ts} {us = us} a d i) = go ts d where
    go : (ts : List Lexeme) → IsExpression e ts → NoName (ts ++ us)
    go [] d = let some = some_token longest one e [] d in absurd (omega arith)
    go (t ∷ ts) d = (symbol_not t 58 (none_is 58 foreign.colon d).0, symbol_not t 61 (none_is 61 foreign.equals d).0)
  operand_first (after_mark t h d i) = (symbol_other t 33 58 refl h, symbol_other t 33 61 refl h)
  operand_first (in_brackets t c h d k) = (symbol_other t 40 58 refl h, symbol_other t 40 61 refl h)
  operand_first (in_brackets_by_x t m x c h d n w k) = (symbol_other t 40 58 refl h, symbol_other t 40 61 refl h)
  operand_first (in_brackets_by_y t c m y h d k n w) = (symbol_other t 40 58 refl h, symbol_other t 40 61 refl h)

  -- ---- operations

  operation_read : {s : Statement} {ts : List Lexeme} → IsOperation profile s ts → statement_of profile ts ≡ Some s
  unfolding statement_of directive_of
  operation_read (by_mnemonic t k m o) = rw (k, m, operand_read o) refl
  operation_read (sets_address t q {e = e} {ts = ts} h k d) =
      star_operation profile t.kind t (q ∷ ts) (symbol_kind t 42 h) ∙ rw (symbol_is t 42 h, symbol_is q 61 k, read_whole longest one e ts d) refl
  operation_read (byte_directive t {ts = ts} h l) =
      directive_operation profile t.kind t ts h.kind ∙ rw (h.letters, list_read IsItem item_of items (length ts) l (omega arith)) refl
  operation_read (word_directive t {ts = ts} h l) =
      directive_operation profile t.kind t ts h.kind
      ∙ rw (
        other_text t.text (codes ".WORD") (codes ".BYTE") refl h.letters,
        h.letters,
        list_read IsExpression expression_of expressions (length ts)
            l (omega arith),
      ) refl
  operation_read (dbyte_directive t {ts = ts} h l) =
      directive_operation profile t.kind t ts h.kind
      ∙ rw (
        other_text t.text (codes ".DBYTE") (codes ".BYTE") refl h.letters,
        other_text t.text (codes ".DBYTE") (codes ".WORD") refl h.letters,
        h.letters,
        list_read IsExpression expression_of expressions (length ts) l (omega arith),
      ) refl
  operation_read (res_directive t {e = e} {ts = ts} h d) =
      directive_operation profile t.kind t ts h.kind
      ∙ rw (
        other_text t.text (codes ".RES") (codes ".BYTE") refl h.letters,
        other_text t.text (codes ".RES") (codes ".WORD") refl h.letters,
        other_text t.text (codes ".RES") (codes ".DBYTE") refl h.letters,
        h.letters,
        read_whole longest one e ts d,
      ) refl
  operation_read (end_directive t h) =
      directive_operation profile t.kind t [] h.kind
      ∙ rw (
        other_text t.text (codes ".END") (codes ".BYTE") refl h.letters,
        other_text t.text (codes ".END") (codes ".WORD") refl h.letters,
        other_text t.text (codes ".END") (codes ".DBYTE") refl h.letters,
        other_text t.text (codes ".END") (codes ".RES") refl h.letters,
        h.letters,
      ) refl

  -- an operation alone is a line without a label
  operation_line : {s : Statement} {ts : List Lexeme} → IsOperation profile s ts → line_of profile ts ≡ unlabelled profile ts
  unfolding line_of
  operation_line (by_mnemonic t {ts = ts} k m o) = word_kind profile t.kind t ts k ∙ word_is profile t ts (operand_first o)
  operation_line (sets_address t q {ts = ts} h k d) = symbol_line profile t.kind t (q ∷ ts) (symbol_kind t 42 h)
  operation_line (byte_directive t {ts = ts} h l) = directive_line profile t.kind t ts h.kind
  operation_line (word_directive t {ts = ts} h l) = directive_line profile t.kind t ts h.kind
  operation_line (dbyte_directive t {ts = ts} h l) = directive_line profile t.kind t ts h.kind
  operation_line (res_directive t {ts = ts} h d) = directive_line profile t.kind t ts h.kind
  operation_line (end_directive t h) = directive_line profile t.kind t [] h.kind

  rest_read : {s : Statement} {ts : List Lexeme} → IsRest profile s ts → statement_of profile ts ≡ Some s
  unfolding statement_of
  rest_read nothing_more = refl
  rest_read (operation o) = operation_read o

  rest_line : {s : Statement} {ts : List Lexeme} → IsRest profile s ts → line_of profile ts ≡ unlabelled profile ts
  unfolding line_of statement_of
  rest_line nothing_more = refl
  rest_line (operation o) = operation_line o

  -- ---- lines

  line_is_read : (l : Line) (ts : List Lexeme) → IsLine profile l ts → line_of profile ts ≡ Some l
  unfolding line_of
  line_is_read l ts (no_label {s = s} r) = rest_line r ∙ rw (rest_read r) refl
  line_is_read l ts (label w colon {ts = us} k c r) = word_kind profile w.kind w (colon ∷ us) k ∙ rw (symbol_is colon 58 c, rest_read r) refl
  line_is_read l ts (defines w equals {e = e} {ts = us} k q d) =
      word_kind profile w.kind w (equals ∷ us) k ∙ rw (symbol_other equals 61 58 refl q, symbol_is equals 61 q, read_whole longest one e us d) refl

pub each_line : ReadsLongest → OneExpression → EachLineIsRead
each_line longest one profile l ts h = line_is_read profile longest one l ts h
