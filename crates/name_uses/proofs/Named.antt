-- The names among the tokens of a line are those of what the grammar reads.
use Rattle.std.proofs.Common.{◌≡◌, ◌∙◌, ℕ, Bool, true, false, List, [], ◌∷◌, ◌++◌, Option, Some, None, Ok, Err, pos, refl, sym, ap, subst, append-nil}
use Rattle.std.specs.Prelude.{◌||◌, ◌==◌, not, nat_lt, codes, map, is_some, length, slice_get, if◌then◌else◌}
use Rattle.std.specs.List.{flat_map, list_all, list_any}
use Rattle.std.specs.Option.{option_and_then, option_map}
use Rattle.std.specs.Str.{bytes_eq, str_to_ascii_uppercase}
use Rattle.model.specs.Mnemonics.{mnemonic_named}
use Rattle.model.specs.Token.{Lexeme, is_source_byte, tokens_of}
use Rattle.model.specs.Expression.{Term, literal, name, here, symbol_in, symbol_of, operator_for, operator_of, star_term, atom_in, in_range, number_of_text, Level, Derives, atom, group, plain as plain_unary, minus, single, chain, bare, low_byte, high_byte, IsExpression}
use Rattle.model.specs.Grammar.{EachReadLineIsALine, IsIndex, unindexed, by_x, by_y, IsOperand, none, letter_a, after_hash, plain, after_mark, in_brackets, in_brackets_by_x, in_brackets_by_y, AreListed, last, more, IsItem, expression, quoted, IsOperation, by_mnemonic, sets_address, byte_directive, word_directive, dbyte_directive, res_directive, end_directive, IsRest, nothing_more, operation, IsDirective, IsLine, no_label, label, defines}
use Rattle.model.specs.SourceLine.{Operand, Item, Statement, Line, string_in, is_reserved, is_word, is_word_in, item_reserves, line_of, line_reserves, operand_reserves, read_line, reserves, term_reserves, unreserved}
use Rattle.model.specs.declared.expression.Operator.{Operator}
use Rattle.model.specs.declared.expression.TokenKind.{TokenKind}
use Rattle.model.specs.declared.expression.TokenKind.TheVariants.{Word, Directive, Number, Char, Str, Symbol}
use Rattle.model.specs.declared.instruction.Mnemonic.{Mnemonic}
use Rattle.model.specs.declared.instruction.Profile.{Profile}
use Rattle.model.specs.declared.line.Index.{Index}
use Rattle.model.specs.declared.source_fault.AsmFaultKind.{AsmFaultKind}
use Rattle.model.specs.declared.source_fault.AsmFaultKind.TheVariants.{LineTooLong, NotAscii}
use Rattle.name_uses.specs.Grammar.{NamesAreTheGrammars, names_in, names_in_item, names_in_line, names_in_operand, names_in_statement}
use Rattle.name_uses.specs.Uses.{Use, defines_first, is_name_in, is_name_token, line_uses, use_of, uses_by, uses_in}

-- ---- tests

or_left : (a b : Bool) → (a || b) ≡ false → a ≡ false
or_left true b h = cc
or_left false b h = refl

or_right : (a b : Bool) → (a || b) ≡ false → b ≡ false
or_right true b h = cc
or_right false b h = h

or_a : (m x y : Bool) → not (m || true || x || y) ≡ false
or_a true x y = refl
or_a false x y = refl

or_x : (m a y : Bool) → not (m || a || true || y) ≡ false
or_x true a y = refl
or_x false true y = refl
or_x false false y = refl

or_y : (m a x : Bool) → not (m || a || x || true) ≡ false
or_y true a x = refl
or_y false true x = refl
or_y false false true = refl
or_y false false false = refl

-- ---- one more

text_of : (b : Bool) (u : Use) (named other : List Use) (texts : List (List ℕ)) → map (λ v. v.text) named ≡ texts → map (λ v. v.text) other ≡ texts
    → map (λ v. v.text) (if b then u ∷ named else other) ≡ (if b then u.text ∷ texts else texts)
text_of true u named other texts p q = ap (λ (x : List (List ℕ)). u.text ∷ x) p
text_of false u named other texts p q = q

text_before : (b : Bool) (text : List ℕ) (all xs ys : List (List ℕ)) → all ≡ xs ++ ys → (if b then text ∷ all else all) ≡ (if b then text ∷ xs else xs) ++ ys
text_before true text all xs ys p = ap (λ (x : List (List ℕ)). text ∷ x) p
text_before false text all xs ys p = p

module _ (profile : Profile) where
  -- the texts of the names among tokens
  texts_in : List Lexeme → List (List ℕ)
  texts_in [] = []
  texts_in (t ∷ ts) = if is_name_token profile t then t.text ∷ texts_in ts else texts_in ts

  texts_are : (number : ℕ) (d : Bool) (ts : List Lexeme) → map (λ u. u.text) (uses_in profile number d ts) ≡ texts_in ts
  unfolding uses_in texts_in
  texts_are number d [] = refl
  texts_are number d (t ∷ ts) = text_of (is_name_token profile t) (use_of number d t) (uses_in profile number false ts) (uses_in profile number d ts)
      (texts_in ts) (texts_are number false ts) (texts_are number d ts)

  texts-append : (xs ys : List Lexeme) → texts_in (xs ++ ys) ≡ texts_in xs ++ texts_in ys
  unfolding texts_in
  texts-append [] ys = refl
  texts-append (x ∷ xs) ys = text_before (is_name_token profile x) x.text (texts_in (xs ++ ys)) (texts_in xs) (texts_in ys) (texts-append xs ys)

  -- ---- tokens that are no names

  skipped : (t : Lexeme) (ts : List Lexeme) → is_name_token profile t ≡ false → texts_in (t ∷ ts) ≡ texts_in ts
  unfolding texts_in
  skipped t ts h = rw h refl

  taken : (t : Lexeme) (ts : List Lexeme) → is_name_token profile t ≡ true → texts_in (t ∷ ts) ≡ t.text ∷ texts_in ts
  unfolding texts_in
  taken t ts h = rw h refl

  symbol_none : (t : Lexeme) (b : ℕ) → symbol_of t ≡ Some b → is_name_token profile t ≡ false
  symbol_none t b h = go t.kind t.text h
    where
      go : (kind : TokenKind) (text : List ℕ) → symbol_in kind text ≡ Some b → is_name_in profile kind text ≡ false
      go Word text h = cc
      go Directive text h = refl
      go Number text h = refl
      go Char text h = refl
      go Str text h = refl
      go Symbol text h = refl

  operator_none : (t : Lexeme) (op : Operator) → operator_of t ≡ Some op → is_name_token profile t ≡ false
  operator_none t op h = go t.kind t.text h
    where
      go : (kind : TokenKind) (text : List ℕ) → option_and_then operator_for (symbol_in kind text) ≡ Some op → is_name_in profile kind text ≡ false
      go Word text h = cc
      go Directive text h = refl
      go Number text h = refl
      go Char text h = refl
      go Str text h = refl
      go Symbol text h = refl

  string_none : (t : Lexeme) (text : List ℕ) → string_in t.kind t.text ≡ Some text → is_name_token profile t ≡ false
  string_none t inside h = go t.kind t.text h
    where
      go : (kind : TokenKind) (text : List ℕ) → string_in kind text ≡ Some inside → is_name_in profile kind text ≡ false
      go Word text h = cc
      go Directive text h = refl
      go Number text h = refl
      go Char text h = refl
      go Str text h = refl
      go Symbol text h = refl

  a_none : (t : Lexeme) → is_word (codes "A") t ≡ true → is_name_token profile t ≡ false
  unfolding is_reserved
  a_none t h = go t.kind t.text h
    where
      go : (kind : TokenKind) (text : List ℕ) → is_word_in kind text (codes "A") ≡ true → is_name_in profile kind text ≡ false
      go Word text h = rw h (or_a (is_some (mnemonic_named profile text)) (bytes_eq (str_to_ascii_uppercase text) (codes "X"))
          (bytes_eq (str_to_ascii_uppercase text) (codes "Y")))
      go Directive text h = refl
      go Number text h = refl
      go Char text h = refl
      go Str text h = refl
      go Symbol text h = refl

  x_none : (t : Lexeme) → is_word (codes "X") t ≡ true → is_name_token profile t ≡ false
  unfolding is_reserved
  x_none t h = go t.kind t.text h
    where
      go : (kind : TokenKind) (text : List ℕ) → is_word_in kind text (codes "X") ≡ true → is_name_in profile kind text ≡ false
      go Word text h = rw h (or_x (is_some (mnemonic_named profile text)) (bytes_eq (str_to_ascii_uppercase text) (codes "A"))
          (bytes_eq (str_to_ascii_uppercase text) (codes "Y")))
      go Directive text h = refl
      go Number text h = refl
      go Char text h = refl
      go Str text h = refl
      go Symbol text h = refl

  y_none : (t : Lexeme) → is_word (codes "Y") t ≡ true → is_name_token profile t ≡ false
  unfolding is_reserved
  y_none t h = go t.kind t.text h
    where
      go : (kind : TokenKind) (text : List ℕ) → is_word_in kind text (codes "Y") ≡ true → is_name_in profile kind text ≡ false
      go Word text h = rw h (or_y (is_some (mnemonic_named profile text)) (bytes_eq (str_to_ascii_uppercase text) (codes "A"))
          (bytes_eq (str_to_ascii_uppercase text) (codes "X")))
      go Directive text h = refl
      go Number text h = refl
      go Char text h = refl
      go Str text h = refl
      go Symbol text h = refl

  kind_none : (t : Lexeme) (kind : TokenKind) → t.kind ≡ kind → is_name_in profile kind t.text ≡ false → is_name_token profile t ≡ false
  kind_none t kind is h = rw is h

  mnemonic_none : (t : Lexeme) (m : Mnemonic) → t.kind ≡ Word → mnemonic_named profile t.text ≡ Some m → is_name_token profile t ≡ false
  unfolding is_reserved
  mnemonic_none t m is h = kind_none t Word is (at h)
    where
      at : mnemonic_named profile t.text ≡ Some m → not (is_reserved profile t.text) ≡ false
      at h = rw h refl

  word_named : (t : Lexeme) → t.kind ≡ Word → is_reserved profile t.text ≡ false → is_name_token profile t ≡ true
  word_named t is free = let at : not (is_reserved profile t.text) ≡ true = rw free refl in rw is at

  -- ---- expressions

  atom_texts : (kind : TokenKind) (text : List ℕ) (e : Term) → atom_in kind text ≡ Some e → term_reserves profile e ≡ false
      → (if is_name_in profile kind text then text ∷ [] else []) ≡ names_in e
  atom_texts Word text e h free =
      let same : name text ≡ e = cc in
      let open' : is_reserved profile text ≡ false = subst (λ (x : Term). term_reserves profile x ≡ false) (sym same) free in
      subst (λ (x : Term). (if not (is_reserved profile text) then text ∷ [] else []) ≡ names_in x) same (rw open' refl)
  atom_texts Number text e h free =
      let same : literal (in_range (number_of_text text)) ≡ e = cc in
      subst (λ (x : Term). [] ≡ names_in x) same refl
  atom_texts Char text e h free = by (slice_get text 1) h
    where
      by : (o : Option ℕ) → option_map (λ b. literal (Some (pos b))) o ≡ Some e → [] ≡ names_in e
      by None k = cc
      by (Some b) k = let same : literal (Some (pos b)) ≡ e = cc in subst (λ (x : Term). [] ≡ names_in x) same refl
  atom_texts Symbol text e h free = by (slice_get text 0) h
    where
      star : (t : Bool) → (if t then Some here else None) ≡ Some e → [] ≡ names_in e
      star true k = let same : here ≡ e = cc in subst (λ (x : Term). [] ≡ names_in x) same refl
      star false k = cc

      by : (o : Option ℕ) → option_and_then star_term o ≡ Some e → [] ≡ names_in e
      by None k = cc
      by (Some b) k = star (b == 42) k
  atom_texts Directive text e h free = cc
  atom_texts Str text e h free = cc

  alone : (t : Lexeme) → texts_in (t ∷ []) ≡ (if is_name_in profile t.kind t.text then t.text ∷ [] else [])
  unfolding texts_in
  alone t = refl

  behind : (ts : List Lexeme) (u : Lexeme) → is_name_token profile u ≡ false → texts_in (ts ++ u ∷ []) ≡ texts_in ts
  unfolding texts_in
  behind ts u h = texts-append ts (u ∷ []) ∙ ap (λ (x : List (List ℕ)). texts_in ts ++ x) (skipped u [] h) ∙ append-nil (texts_in ts)

  around : (xs : List Lexeme) (t : Lexeme) (ys : List Lexeme) → is_name_token profile t ≡ false → texts_in (xs ++ t ∷ ys) ≡ texts_in xs ++ texts_in ys
  around xs t ys h = texts-append xs (t ∷ ys) ∙ ap (λ (x : List (List ℕ)). texts_in xs ++ x) (skipped t ys h)

  both_are : (a b : List (List ℕ)) (x y : List (List ℕ)) → a ≡ x → b ≡ y → a ++ b ≡ x ++ y
  both_are a b x y p q = rw (p, q) refl

  derived : {l : Level} {d : ℕ} {e : Term} {ts : List Lexeme} → Derives l d e ts → term_reserves profile e ≡ false → texts_in ts ≡ names_in e
  derived (atom t {e = e} h) free = alone t ∙ atom_texts t.kind t.text e h free
  derived (group t u {ts = ts} o c h) free = skipped t (ts ++ u ∷ []) (symbol_none t 91 o) ∙ behind ts u (symbol_none u 93 c) ∙ derived h free
  derived (plain_unary h) free = derived h free
  derived (minus t {ts = ts} o h) free = skipped t ts (symbol_none t 45 o) ∙ derived h free
  derived (single h) free = derived h free
  derived (chain t {op = op} {a = a} {b = b} {ls = ls} {rs = rs} o h k) free =
      around ls t rs (operator_none t op o)
      ∙ both_are (texts_in ls) (texts_in rs) (names_in a) (names_in b) (derived h (or_left (term_reserves profile a) (term_reserves profile b) free))
      (derived k (or_right (term_reserves profile a) (term_reserves profile b) free))
  derived (bare h) free = derived h free
  derived (low_byte t {ts = ts} o h) free = skipped t ts (symbol_none t 60 o) ∙ derived h free
  derived (high_byte t {ts = ts} o h) free = skipped t ts (symbol_none t 62 o) ∙ derived h free

  -- ---- operands

  indexed : {by : Index} {us : List Lexeme} → IsIndex by us → texts_in us ≡ []
  unfolding texts_in
  indexed unindexed = refl
  indexed (by_x c x h k) = skipped c (x ∷ []) (symbol_none c 44 h) ∙ skipped x [] (x_none x k)
  indexed (by_y c y h k) = skipped c (y ∷ []) (symbol_none c 44 h) ∙ skipped y [] (y_none y k)

  in_front : (ts us : List Lexeme) → texts_in us ≡ [] → texts_in (ts ++ us) ≡ texts_in ts
  in_front ts us h = texts-append ts us ∙ ap (λ (x : List (List ℕ)). texts_in ts ++ x) h ∙ append-nil (texts_in ts)

  three : (a b c : Lexeme) → is_name_token profile a ≡ false → is_name_token profile b ≡ false → is_name_token profile c ≡ false
      → texts_in (a ∷ b ∷ c ∷ []) ≡ []
  unfolding texts_in
  three a b c p q r = skipped a (b ∷ c ∷ []) p ∙ skipped b (c ∷ []) q ∙ skipped c [] r

  operands : {o : Operand} {ts : List Lexeme} → IsOperand o ts → operand_reserves profile o ≡ false → texts_in ts ≡ names_in_operand o
  unfolding texts_in
  operands none free = refl
  operands (letter_a t h) free = skipped t [] (a_none t h)
  operands (after_hash hash {ts = ts} h d) free = skipped hash ts (symbol_none hash 35 h) ∙ derived d free
  operands (plain {ts = ts} {us = us} a d i) free = in_front ts us (indexed i) ∙ derived d free
  operands (after_mark mark {ts = ts} {us = us} h d i) free = skipped mark (ts ++ us) (symbol_none mark 33 h) ∙ in_front ts us (indexed i) ∙ derived d free
  operands (in_brackets opening closing {ts = ts} h d c) free =
      skipped opening (ts ++ closing ∷ []) (symbol_none opening 40 h) ∙ behind ts closing (symbol_none closing 41 c) ∙ derived d free
  operands (in_brackets_by_x opening comma x closing {ts = ts} h d m w c) free =
      skipped opening (ts ++ comma ∷ x ∷ closing ∷ []) (symbol_none opening 40 h)
      ∙ in_front ts (comma ∷ x ∷ closing ∷ []) (three comma x closing (symbol_none comma 44 m) (x_none x w) (symbol_none closing 41 c)) ∙ derived d free
  operands (in_brackets_by_y opening closing comma y {ts = ts} h d c m w) free =
      skipped opening (ts ++ closing ∷ comma ∷ y ∷ []) (symbol_none opening 40 h)
      ∙ in_front ts (closing ∷ comma ∷ y ∷ []) (three closing comma y (symbol_none closing 41 c) (symbol_none comma 44 m) (y_none y w)) ∙ derived d free

  -- ---- lists

  listed : {A : Type 0} (Is : A → List Lexeme → Type 0) (reserving : A → Bool) (named : A → List (List ℕ))
      → ((a : A) (ts : List Lexeme) → Is a ts → reserving a ≡ false → texts_in ts ≡ named a)
      → {xs : List A} {ts : List Lexeme} → AreListed Is xs ts → list_any reserving xs ≡ false → texts_in ts ≡ flat_map named xs
  listed Is reserving named one (last {a = a} {ts = ts} h) free = one a ts h (or_left (reserving a) false free) ∙ sym (append-nil (named a))
  listed Is reserving named one (more {a = a} {as' = as'} {ts = ts} {us = us} comma h c k) free =
      around ts comma us (symbol_none comma 44 c)
      ∙ both_are (texts_in ts) (texts_in us) (named a) (flat_map named as') (one a ts h (or_left (reserving a) (list_any reserving as') free))
      (listed Is reserving named one k (or_right (reserving a) (list_any reserving as') free))

  terms : (e : Term) (ts : List Lexeme) → IsExpression e ts → term_reserves profile e ≡ false → texts_in ts ≡ names_in e
  terms e ts h free = derived h free

  item : {i : Item} {ts : List Lexeme} → IsItem i ts → item_reserves profile i ≡ false → texts_in ts ≡ names_in_item i
  unfolding texts_in
  item (expression d) free = derived d free
  item (quoted t {text = text} s) free = skipped t [] (string_none t text s)

  items : (i : Item) (ts : List Lexeme) → IsItem i ts → item_reserves profile i ≡ false → texts_in ts ≡ names_in_item i
  items i ts h free = item h free

  -- ---- operations

  directive_none : (capitals : List ℕ) (t : Lexeme) → IsDirective capitals t → is_name_token profile t ≡ false
  directive_none capitals t d = kind_none t Directive d.kind refl

  operations : {s : Statement} {ts : List Lexeme} → IsOperation profile s ts → reserves profile s ≡ false → texts_in ts ≡ names_in_statement s
  unfolding texts_in
  operations (by_mnemonic t {m = m} {ts = ts} k n o) free = skipped t ts (mnemonic_none t m k n) ∙ operands o free
  operations (sets_address star equals {ts = ts} s e d) free =
      skipped star (equals ∷ ts) (symbol_none star 42 s) ∙ skipped equals ts (symbol_none equals 61 e) ∙ derived d free
  operations (byte_directive t {items = is} {ts = ts} d l) free =
      skipped t ts (directive_none _ t d) ∙ listed IsItem (item_reserves profile) names_in_item items l free
  operations (word_directive t {ts = ts} d l) free = skipped t ts (directive_none _ t d) ∙ listed IsExpression (term_reserves profile) names_in terms l free
  operations (dbyte_directive t {ts = ts} d l) free = skipped t ts (directive_none _ t d) ∙ listed IsExpression (term_reserves profile) names_in terms l free
  operations (res_directive t {ts = ts} d e) free = skipped t ts (directive_none _ t d) ∙ derived e free
  operations (end_directive t d) free = skipped t [] (directive_none _ t d)

  rests : {s : Statement} {ts : List Lexeme} → IsRest profile s ts → reserves profile s ≡ false → texts_in ts ≡ names_in_statement s
  unfolding texts_in
  rests nothing_more free = refl
  rests (operation o) free = operations o free

  -- ---- lines

  lines : {l : Line} {ts : List Lexeme} → IsLine profile l ts → line_reserves profile l ≡ false → texts_in ts ≡ names_in_line l
  lines (no_label r) free = rests r free
  lines (label w colon {s = s} {ts = ts} k c r) free =
      taken w (colon ∷ ts) (word_named w k (or_left (is_reserved profile w.text) (reserves profile s) free))
      ∙ ap (λ (x : List (List ℕ)). w.text ∷ x) (skipped colon ts (symbol_none colon 58 c)
      ∙ rests r (or_right (is_reserved profile w.text) (reserves profile s) free))
  lines (defines w equals {e = e} {ts = ts} k q d) free =
      taken w (equals ∷ ts) (word_named w k (or_left (is_reserved profile w.text) (term_reserves profile e) free))
      ∙ ap (λ (x : List (List ℕ)). w.text ∷ x) (skipped equals ts (symbol_none equals 61 q)
      ∙ derived d (or_right (is_reserved profile w.text) (term_reserves profile e) free))

  record WasRead (ts : List Lexeme) (l : Line) : Type 0 where
    is : line_of profile ts ≡ Some l
    free : line_reserves profile l ≡ false

  was_read : (ts : List Lexeme) (l : Line) (o : Option Line) → line_of profile ts ≡ o → unreserved profile o ≡ Ok l → WasRead ts l
  was_read ts l None is h = cc
  was_read ts l (Some x) is h = by (line_reserves profile x) refl h
    where
      by : (b : Bool) → line_reserves profile x ≡ b → (if b then Err
          Rattle.model.specs.declared.source_fault.AsmFaultKind.TheVariants.ReservedName else Ok x) ≡ Ok l → WasRead ts l
      by true e k = cc
      by false e k =
          let same : x ≡ l = cc in
          record { is = is ∙ ap (λ (y : Line). Some y) same; free = subst (λ (y : Line). line_reserves profile y ≡ false) same e }

  module _ (law : EachReadLineIsALine) where
    found : (number : ℕ) (l : Line) (a b : Bool) (ts : Option (List Lexeme))
        → (if a then Err LineTooLong else if b then Err NotAscii else unreserved profile (option_and_then (line_of profile) ts)) ≡ Ok l
        → map (λ u. u.text) (uses_by profile number (Ok l) ts) ≡ names_in_line l
    found number l true b ts h = cc
    found number l false true ts h = cc
    found number l false false None h = cc
    found number l false false (Some ts) h =
        let read = was_read ts l (line_of profile ts) refl h in
        texts_are number (defines_first l) ts ∙ lines (law profile l ts read.is) read.free

    line_found : (number : ℕ) (line : List ℕ) (l : Line) → read_line profile line ≡ Ok l → map (λ u. u.text) (line_uses profile number line) ≡ names_in_line l
    unfolding line_uses read_line
    line_found number line l h = rw h (found number l (nat_lt 255 (length line)) (not (list_all is_source_byte line)) (tokens_of line) h)

pub each_line : EachReadLineIsALine → NamesAreTheGrammars
each_line law profile number line l h = line_found profile law number line l h
