-- What is read is a line of the grammar.
use Rattle.std.proofs.Common.{◌≡◌, ℕ, zero, suc, Bool, true, false, List, [], ◌∷◌, ◌++◌, length, Option, Some, None, refl, sym, ap, ◌∙◌, subst, append-nil}
use Rattle.std.specs.Prelude.{codes, ◌&&◌, IfSome, IfNone, if◌then◌else◌}
use Rattle.std.specs.Option.{option_and_then, option_map}
use Rattle.model.specs.declared.expression.TokenKind.{TokenKind}
use Rattle.model.specs.declared.expression.TokenKind.TheVariants.{Word, Directive, Number, Char, Str, Symbol}
use Rattle.model.specs.declared.instruction.Profile.{Profile}
use Rattle.model.specs.declared.line.Index.{Index}
use Rattle.model.specs.Mnemonics.{mnemonic_named}
use Rattle.model.specs.Token.{Lexeme}
use Rattle.model.specs.Expression.{Term, IsExpression, Longest}
use Rattle.model.specs.Reading.{ReadsLongest, is_symbol, expression_of}
use Rattle.model.specs.SourceLine.{Operand, absent, accumulator, immediate, direct, pointer, pointer_by_x, pointer_by_y, Item, value, string, Statement, nothing, origin, bytes, words, words_high_first, reserve, finish, instruction, is_word, is_alone, alone, whole_expression, direct_after, pointer_after, direct_operand, operand_of, list_after, list_within, string_in, item_or, item_of, items_of, expressions_of, finish_alone, is_directive, directive_of, origin_after, operation_by, statement_of, Line, labelled, definition, unlabelled, word_line, line_by, line_of}
use Rattle.model.specs.Grammar.{IsIndex, unindexed, by_x, by_y, IsOperand, none, letter_a, after_hash, plain, after_mark, in_brackets, in_brackets_by_x, in_brackets_by_y, AreListed, last, more, IsItem, expression, quoted, IsOperation, by_mnemonic, sets_address, byte_directive, word_directive, dbyte_directive, res_directive, end_directive, IsRest, nothing_more, operation, IsDirective, IsLine, no_label, label, defines, is_a, IsSymbol, EachReadLineIsALine}
use Rattle.asm_line.proofs.SymbolsOutside.{symbol_back}

-- ---- tests that hold

record Both (a b : Bool) : Type 0 where
  first : a ≡ true
  second : b ≡ true

both : (a b : Bool) → (a && b) ≡ true → Both a b
both true b h = record { first = refl; second = h }
both false b h = cc

both3 : (a b c : Bool) → (a && b && c) ≡ true → (a ≡ true) × (b ≡ true) × (c ≡ true)
both3 true b c h = let p = both b c h in (refl, p.first, p.second)
both3 false b c h = cc

-- ---- an option that is mapped

record Mapped {A B : Type 0} (f : A → B) (o : Option A) (b : B) : Type 0 where
  from : A
  is : o ≡ Some from
  to : f from ≡ b

mapped : {A B : Type 0} (f : A → B) (o : Option A) (b : B) → option_map f o ≡ Some b → Mapped f o b
mapped f None b h = cc
mapped f (Some a) b h = let same : f a ≡ b = cc in record { from = a; is = refl; to = same }

record Bound {A B : Type 0} (f : A → Option B) (o : Option A) (b : B) : Type 0 where
  from : A
  is : o ≡ Some from
  to : f from ≡ Some b

bound : {A B : Type 0} (f : A → Option B) (o : Option A) (b : B) → option_and_then f o ≡ Some b → Bound f o b
bound f None b h = cc
bound f (Some a) b h = record { from = a; is = refl; to = h }

-- ---- what is read of a beginning

-- the tokens are a part, and those left after it
record Part {A : Type 0} (Is : A → List Lexeme → Type 0) (ts : List Lexeme) (a : A) (left : List Lexeme) : Type 0 where
  front : List Lexeme
  cut : ts ≡ front ++ left
  is : Is a front

-- ---- an index

index_is : (marked : Bool) (e : Term) (us : List Lexeme) (o : Operand) → direct_after marked e us ≡ Some o → (by : Index) × (o ≡ direct marked e by)
    × IsIndex by us
index_is marked e [] o h = (_, sym (some_is _ _ h), unindexed)
  where
    some_is : (a b : Operand) → Some a ≡ Some b → a ≡ b
    some_is a b k = cc
index_is marked e (c ∷ []) o h = cc
index_is marked e (c ∷ w ∷ []) o h = by (is_symbol 44 c && is_word (codes "X") w) (is_symbol 44 c && is_word (codes "Y") w) refl refl h
  where
    by : (x y : Bool) → (is_symbol 44 c && is_word (codes "X") w) ≡ x → (is_symbol 44 c && is_word (codes "Y") w) ≡ y
        → (if x then Some (direct marked e Rattle.model.specs.declared.line.Index.TheVariants.X) else if y then Some
        (direct marked e Rattle.model.specs.declared.line.Index.TheVariants.Y) else None) ≡ Some o
        → (by : Index) × (o ≡ direct marked e by) × IsIndex by (c ∷ w ∷ [])
    by true y hx hy k =
        let b = both (is_symbol 44 c) (is_word (codes "X") w) hx in
        let same : o ≡ direct marked e Rattle.model.specs.declared.line.Index.TheVariants.X = cc in
        (_, same, by_x c w (symbol_back c 44 b.first) b.second)
    by false true hx hy k =
        let b = both (is_symbol 44 c) (is_word (codes "Y") w) hy in
        let same : o ≡ direct marked e Rattle.model.specs.declared.line.Index.TheVariants.Y = cc in
        (_, same, by_y c w (symbol_back c 44 b.first) b.second)
    by false false hx hy k = cc
index_is marked e (c ∷ w ∷ t ∷ ts) o h = cc

-- ---- lists

pub record Reads {A : Type 0} (Is : A → List Lexeme → Type 0) (read : List Lexeme → Option (A × List Lexeme)) : Type 0 where
  part : (ts : List Lexeme) (p : A × List Lexeme) → read ts ≡ Some p → Part Is ts p.0 p.1

-- a list whose first part was read: the last one, or one before a comma
after_is : {A : Type 0} (Is : A → List Lexeme → Type 0) (rest : List Lexeme → Option (List A))
    → ((ts : List Lexeme) (xs : List A) → rest ts ≡ Some xs → AreListed Is xs ts)
    → (ts : List Lexeme) (a : A) (left : List Lexeme) (xs : List A) → Part Is ts a left → list_after rest a left ≡ Some xs → AreListed Is xs ts
after_is {A} Is rest again ts a [] xs p h =
    let one : a ∷ [] ≡ xs = cc in
    let all : ts ≡ p.front = p.cut ∙ append-nil p.front in
    subst (λ l. AreListed Is l ts) one (subst (λ l. AreListed Is (a ∷ []) l) (sym all) (last p.is))
after_is {A} Is rest again ts a (c ∷ left) xs p h = by (is_symbol 44 c) refl h where
  by : (b : Bool) → is_symbol 44 c ≡ b → (if b then option_map (λ more. a ∷ more) (rest left) else None) ≡ Some xs → AreListed Is xs ts
  by true e k =
      let m = mapped (λ more. a ∷ more) (rest left) xs k in
      subst (λ l. AreListed Is l ts) m.to (subst (λ l. AreListed Is (a ∷ m.from) l) (sym p.cut) (more c p.is (symbol_back c 44 e) (again left m.from m.is)))
  by false e k = cc

list_is : {A : Type 0} (Is : A → List Lexeme → Type 0) (read : List Lexeme → Option (A × List Lexeme)) → Reads Is read
    → (n : ℕ) (ts : List Lexeme) (xs : List A) → list_within read n ts ≡ Some xs → AreListed Is xs ts
unfolding list_within
list_is Is read r zero ts xs h = cc
list_is Is read r (suc n) ts xs h =
    let b = bound (λ p. list_after (λ more. list_within read n more) p.0 p.1) (read ts) xs h in
    after_is Is (λ more. list_within read n more) (list_is Is read r n) ts b.from.0 b.from.1 xs (r.part ts b.from b.is) b.to

module _ (profile : Profile) (longest : ReadsLongest) where
  -- ---- expressions

  begins_by : (ts : List Lexeme) (r : Option (Term × List Lexeme))
      → IfSome r (λ p. Longest ts p.0 p.1) × IfNone r ((e : Term) (front more : List Lexeme) → ts ≡ front ++ more → IsExpression e front → ⊥)
      → (p : Term × List Lexeme) → r ≡ Some p → Part IsExpression ts p.0 p.1
  begins_by ts None h p e = cc
  begins_by ts (Some q) h p e =
      let same : q ≡ p = cc in
      subst (λ (x : Term × List Lexeme). Part IsExpression ts x.0 x.1) same (record { front = h.0.front; cut = h.0.cut; is = h.0.derived })

  expression_part : (ts : List Lexeme) (p : Term × List Lexeme) → expression_of ts ≡ Some p → Part IsExpression ts p.0 p.1
  expression_part ts p e = begins_by ts (expression_of ts) (longest ts) p e

  expressions : Reads IsExpression expression_of
  expressions = record { part = expression_part }

  alone_is : (ts : List Lexeme) (e d : Term) (left : List Lexeme) → Part IsExpression ts e left → alone e left ≡ Some d → IsExpression d ts
  alone_is ts e d [] p h =
      let same : e ≡ d = cc in
      let all : ts ≡ p.front = p.cut ∙ append-nil p.front in
      subst (λ (x : Term). IsExpression x ts) same (subst (λ (l : List Lexeme). IsExpression e l) (sym all) p.is)
  alone_is ts e d (t ∷ left) p h = cc

  whole_is : (ts : List Lexeme) (e : Term) → whole_expression ts ≡ Some e → IsExpression e ts
  unfolding whole_expression
  whole_is ts e h =
      let b = bound (λ p. alone p.0 p.1) (expression_of ts) e h in
      alone_is ts b.from.0 e b.from.1 (expression_part ts b.from b.is) b.to

  -- ---- items

  item_by : (t : Lexeme) (ts : List Lexeme) (text : Option (List ℕ)) → string_in t.kind t.text ≡ text
      → (p : Item × List Lexeme) → item_or text ts (expression_of (t ∷ ts)) ≡ Some p → Part IsItem (t ∷ ts) p.0 p.1
  item_by t ts (Some text) is p e =
      let same : (string text, ts) ≡ p = cc in
      subst (λ (x : Item × List Lexeme). Part IsItem (t ∷ ts) x.0 x.1) same (record { front = t ∷ []; cut = refl; is = quoted t is })
  item_by t ts None is p e =
      let m = mapped (λ (q : Term × List Lexeme). (value q.0, q.1)) (expression_of (t ∷ ts)) p e in
      let read = expression_part (t ∷ ts) m.from m.is in
      subst (λ (x : Item × List Lexeme). Part IsItem (t ∷ ts) x.0 x.1) m.to (record { front = read.front; cut = read.cut; is = expression read.is })

  item_part : (ts : List Lexeme) (p : Item × List Lexeme) → item_of ts ≡ Some p → Part IsItem ts p.0 p.1
  item_part [] p e = cc
  item_part (t ∷ ts) p e = item_by t ts (string_in t.kind t.text) refl p e

  items : Reads IsItem item_of
  items = record { part = item_part }

  -- ---- operands

  plain_is : (ts : List Lexeme) (o : Operand) → is_a ts ≡ false → direct_operand false ts ≡ Some o → IsOperand o ts
  plain_is ts o a h =
      let b = bound (λ p. direct_after false p.0 p.1) (expression_of ts) o h in
      let read = expression_part ts b.from b.is in
      let index = index_is false b.from.0 b.from.1 o b.to in
      let not_a : is_a (read.front ++ b.from.1) ≡ false = ap is_a (sym read.cut) ∙ a in
      subst (λ (x : Operand). IsOperand x ts) (sym index.1)
      (subst (λ (l : List Lexeme). IsOperand (direct false b.from.0 index.0) l) (sym read.cut) (plain not_a read.is index.2))

  marked_is : (t : Lexeme) (ts : List Lexeme) (o : Operand) → IsSymbol 33 t → direct_operand true ts ≡ Some o → IsOperand o (t ∷ ts)
  marked_is t ts o mark h =
      let b = bound (λ p. direct_after true p.0 p.1) (expression_of ts) o h in
      let read = expression_part ts b.from b.is in
      let index = index_is true b.from.0 b.from.1 o b.to in
      subst (λ (x : Operand). IsOperand x (t ∷ ts)) (sym index.1)
      (subst (λ (l : List Lexeme). IsOperand (direct true b.from.0 index.0) (t ∷ l)) (sym read.cut) (after_mark t mark read.is index.2))

  -- what closes a bracket
  closed_is : (t : Lexeme) (front : List Lexeme) (e : Term) (left : List Lexeme) (o : Operand) → IsSymbol 40 t → IsExpression e front
      → pointer_after e left ≡ Some o
      → IsOperand o (t ∷ (front ++ left))
  closed_is t front e [] o opens d h = cc
  closed_is t front e (c ∷ []) o opens d h = by (is_symbol 41 c) refl h where
    by : (b : Bool) → is_symbol 41 c ≡ b → (if b then Some (pointer e) else None) ≡ Some o → IsOperand o (t ∷ (front ++ c ∷ []))
    by true x k = let same : pointer e ≡ o = cc in subst (λ (p : Operand). IsOperand p (t ∷ (front ++ c ∷ []))) same
        (in_brackets t c opens d (symbol_back c 41 x))
    by false x k = cc
  closed_is t front e (a ∷ b ∷ []) o opens d h = cc
  closed_is t front e (a ∷ b ∷ c ∷ []) o opens d h =
      by (is_symbol 44 a && is_word (codes "X") b && is_symbol 41 c) (is_symbol 41 a && is_symbol 44 b && is_word (codes "Y") c) refl refl h where
        by : (x y : Bool) → (is_symbol 44 a && is_word (codes "X") b && is_symbol 41 c) ≡ x → (is_symbol 41 a && is_symbol 44 b && is_word (codes "Y") c) ≡ y
            → (if x then Some (pointer_by_x e) else if y then Some (pointer_by_y e) else None) ≡ Some o → IsOperand o (t ∷ (front ++ a ∷ b ∷ c ∷ []))
        by true y hx hy k =
            let p = both3 (is_symbol 44 a) (is_word (codes "X") b) (is_symbol 41 c) hx in
            let same : pointer_by_x e ≡ o = cc in
            subst (λ (q : Operand). IsOperand q (t ∷ (front ++ a ∷ b ∷ c ∷ []))) same
            (in_brackets_by_x t a b c opens d (symbol_back a 44 p.0) p.1 (symbol_back c 41 p.2))
        by false true hx hy k =
            let p = both3 (is_symbol 41 a) (is_symbol 44 b) (is_word (codes "Y") c) hy in
            let same : pointer_by_y e ≡ o = cc in
            subst (λ (q : Operand). IsOperand q (t ∷ (front ++ a ∷ b ∷ c ∷ []))) same
            (in_brackets_by_y t a b c opens d (symbol_back a 41 p.0) (symbol_back b 44 p.1) p.2)
        by false false hx hy k = cc
  closed_is t front e (a ∷ b ∷ c ∷ u ∷ us) o opens d h = cc

  bracket_is : (t : Lexeme) (ts : List Lexeme) (o : Operand) → IsSymbol 40 t
      → option_and_then (λ p. pointer_after p.0 p.1) (expression_of ts) ≡ Some o → IsOperand o (t ∷ ts)
  bracket_is t ts o opens h =
      let b = bound (λ p. pointer_after p.0 p.1) (expression_of ts) o h in
      let read = expression_part ts b.from b.is in
      subst (λ (l : List Lexeme). IsOperand o (t ∷ l)) (sym read.cut) (closed_is t read.front b.from.0 b.from.1 o opens read.is b.to)

  -- the word A and nothing after it
  letter_is : (t : Lexeme) (ts : List Lexeme) (o : Operand) → (is_alone ts && is_word (codes "A") t) ≡ true → accumulator ≡ o → IsOperand o (t ∷ ts)
  letter_is t [] o h same = subst (λ (x : Operand). IsOperand x (t ∷ [])) same (letter_a t h)
  letter_is t (u ∷ ts) o h same = cc

  operand_by : (t : Lexeme) (ts : List Lexeme) (o : Operand) (a hash opening mark : Bool)
      → (is_alone ts && is_word (codes "A") t) ≡ a → is_symbol 35 t ≡ hash → is_symbol 40 t ≡ opening → is_symbol 33 t ≡ mark
      → (if a then Some accumulator
      else if hash then option_map immediate (whole_expression ts)
      else if opening then option_and_then (λ p. pointer_after p.0 p.1) (expression_of ts)
      else if mark then direct_operand true ts
      else direct_operand false (t ∷ ts)) ≡ Some o
      → IsOperand o (t ∷ ts)
  operand_by t ts o true hash opening mark ha hh ho hm h = let same : accumulator ≡ o = cc in letter_is t ts o ha same
  operand_by t ts o false true opening mark ha hh ho hm h =
      let m = mapped immediate (whole_expression ts) o h in
      subst (λ (x : Operand). IsOperand x (t ∷ ts)) m.to (after_hash t (symbol_back t 35 hh) (whole_is ts m.from m.is))
  operand_by t ts o false false true mark ha hh ho hm h = bracket_is t ts o (symbol_back t 40 ho) h
  operand_by t ts o false false false true ha hh ho hm h = marked_is t ts o (symbol_back t 33 hm) h
  operand_by t ts o false false false false ha hh ho hm h = plain_is (t ∷ ts) o ha h

  operand_is : (ts : List Lexeme) (o : Operand) → operand_of ts ≡ Some o → IsOperand o ts
  unfolding operand_of
  operand_is [] o h = let same : absent ≡ o = cc in subst (λ (x : Operand). IsOperand x []) same none
  operand_is (t ∷ ts) o h = operand_by t ts o (is_alone ts && is_word (codes "A") t) (is_symbol 35 t) (is_symbol 40 t) (is_symbol 33 t) refl refl refl refl h

  -- ---- operations

  finish_is : (t : Lexeme) (ts : List Lexeme) (s : Statement) → IsDirective (codes ".END") t → finish_alone ts ≡ Some s → IsOperation profile s (t ∷ ts)
  finish_is t [] s d h = let same : finish ≡ s = cc in subst (λ (x : Statement). IsOperation profile x (t ∷ [])) same (end_directive t d)
  finish_is t (u ∷ ts) s d h = cc

  directive_by : (t : Lexeme) (ts : List Lexeme) (s : Statement) (a b c d e : Bool) → t.kind ≡ Directive
      → is_directive t.text (codes ".BYTE") ≡ a → is_directive t.text (codes ".WORD") ≡ b → is_directive t.text (codes ".DBYTE") ≡ c
      → is_directive t.text (codes ".RES") ≡ d
      → is_directive t.text (codes ".END") ≡ e
      → (if a then option_map bytes (items_of ts)
      else if b then option_map words (expressions_of ts)
      else if c then option_map words_high_first (expressions_of ts)
      else if d then option_map reserve (whole_expression ts)
      else if e then finish_alone ts
      else None) ≡ Some s
      → IsOperation profile s (t ∷ ts)
  directive_by t ts s true b c d e k ha hb hc hd he h =
      let m = mapped bytes (items_of ts) s h in
      subst (λ (x : Statement). IsOperation profile x (t ∷ ts)) m.to
      (byte_directive t (record { kind = k; letters = ha }) (list_is IsItem item_of items (length ts) ts m.from m.is))
  directive_by t ts s false true c d e k ha hb hc hd he h =
      let m = mapped words (expressions_of ts) s h in
      subst (λ (x : Statement). IsOperation profile x (t ∷ ts)) m.to
      (word_directive t (record { kind = k; letters = hb }) (list_is IsExpression expression_of expressions (length ts) ts m.from m.is))
  directive_by t ts s false false true d e k ha hb hc hd he h =
      let m = mapped words_high_first (expressions_of ts) s h in
      subst (λ (x : Statement). IsOperation profile x (t ∷ ts)) m.to
      (dbyte_directive t (record { kind = k; letters = hc }) (list_is IsExpression expression_of expressions (length ts) ts m.from m.is))
  directive_by t ts s false false false true e k ha hb hc hd he h =
      let m = mapped reserve (whole_expression ts) s h in
      subst (λ (x : Statement). IsOperation profile x (t ∷ ts)) m.to (res_directive t (record { kind = k; letters = hd }) (whole_is ts m.from m.is))
  directive_by t ts s false false false false true k ha hb hc hd he h = finish_is t ts s (record { kind = k; letters = he }) h
  directive_by t ts s false false false false false k ha hb hc hd he h = cc

  directive_read : (t : Lexeme) (ts : List Lexeme) (s : Statement) → t.kind ≡ Directive → directive_of t.text ts ≡ Some s → IsOperation profile s (t ∷ ts)
  unfolding directive_of
  directive_read t ts s k h = directive_by t ts s _ _ _ _ _ k refl refl refl refl refl h

  origin_is : (t : Lexeme) (ts : List Lexeme) (s : Statement) → IsSymbol 42 t → origin_after ts ≡ Some s → IsOperation profile s (t ∷ ts)
  origin_is t [] s star h = cc
  origin_is t (u ∷ ts) s star h = by (is_symbol 61 u) refl h where
    by : (b : Bool) → is_symbol 61 u ≡ b → (if b then option_map origin (whole_expression ts) else None) ≡ Some s → IsOperation profile s (t ∷ u ∷ ts)
    by true x k =
        let m = mapped origin (whole_expression ts) s k in
        subst (λ (y : Statement). IsOperation profile y (t ∷ u ∷ ts)) m.to (sets_address t u star (symbol_back u 61 x) (whole_is ts m.from m.is))
    by false x k = cc

  star_is : (t : Lexeme) (ts : List Lexeme) (s : Statement) (b : Bool) → is_symbol 42 t ≡ b → (if b then origin_after ts else None) ≡ Some s
      → IsOperation profile s (t ∷ ts)
  star_is t ts s true x h = origin_is t ts s (symbol_back t 42 x) h
  star_is t ts s false x h = cc

  instruction_is : (t : Lexeme) (ts : List Lexeme) (s : Statement) → t.kind ≡ Word
      → option_and_then (λ m. option_map (instruction m) (operand_of ts)) (mnemonic_named profile t.text) ≡ Some s
      → IsOperation profile s (t ∷ ts)
  instruction_is t ts s k h =
      let b = bound (λ m. option_map (instruction m) (operand_of ts)) (mnemonic_named profile t.text) s h in
      let m = mapped (instruction b.from) (operand_of ts) s b.to in
      subst (λ (x : Statement). IsOperation profile x (t ∷ ts)) m.to (by_mnemonic t k b.is (operand_is ts m.from m.is))

  operation_is : (t : Lexeme) (ts : List Lexeme) (s : Statement) (kind : TokenKind) → t.kind ≡ kind → operation_by profile kind t ts ≡ Some s
      → IsOperation profile s (t ∷ ts)
  operation_is t ts s Word k h = instruction_is t ts s k h
  operation_is t ts s Directive k h = directive_read t ts s k h
  operation_is t ts s Symbol k h = star_is t ts s (is_symbol 42 t) refl h
  operation_is t ts s Number k h = cc
  operation_is t ts s Char k h = cc
  operation_is t ts s Str k h = cc

  rest_is : (ts : List Lexeme) (s : Statement) → statement_of profile ts ≡ Some s → IsRest profile s ts
  unfolding statement_of
  rest_is [] s h = let same : nothing ≡ s = cc in subst (λ (x : Statement). IsRest profile x []) same nothing_more
  rest_is (t ∷ ts) s h = operation (operation_is t ts s t.kind refl h)

  -- ---- lines

  unlabelled_is : (l : Line) (ts : List Lexeme) → unlabelled profile ts ≡ Some l → IsLine profile l ts
  unlabelled_is l ts h =
      let m = mapped (labelled None) (statement_of profile ts) l h in
      subst (λ (x : Line). IsLine profile x ts) m.to (no_label (rest_is ts m.from m.is))

  word_by : (w s : Lexeme) (ts : List Lexeme) (l : Line) (colon equals : Bool) → w.kind ≡ Word → is_symbol 58 s ≡ colon → is_symbol 61 s ≡ equals
      → (if colon then option_map (labelled (Some w.text)) (statement_of profile ts)
      else if equals then option_map (definition w.text) (whole_expression ts)
      else unlabelled profile (w ∷ s ∷ ts)) ≡ Some l
      → IsLine profile l (w ∷ s ∷ ts)
  word_by w s ts l true equals k hc he h =
      let m = mapped (labelled (Some w.text)) (statement_of profile ts) l h in
      subst (λ (x : Line). IsLine profile x (w ∷ s ∷ ts)) m.to (label w s k (symbol_back s 58 hc) (rest_is ts m.from m.is))
  word_by w s ts l false true k hc he h =
      let m = mapped (definition w.text) (whole_expression ts) l h in
      subst (λ (x : Line). IsLine profile x (w ∷ s ∷ ts)) m.to (defines w s k (symbol_back s 61 he) (whole_is ts m.from m.is))
  word_by w s ts l false false k hc he h = unlabelled_is l (w ∷ s ∷ ts) h

  word_is : (w : Lexeme) (ts : List Lexeme) (l : Line) → w.kind ≡ Word → word_line profile w ts ≡ Some l → IsLine profile l (w ∷ ts)
  word_is w [] l k h = unlabelled_is l (w ∷ []) h
  word_is w (s ∷ ts) l k h = word_by w s ts l (is_symbol 58 s) (is_symbol 61 s) k refl refl h

  kind_is : (t : Lexeme) (ts : List Lexeme) (l : Line) (kind : TokenKind) → t.kind ≡ kind → line_by profile kind t ts ≡ Some l → IsLine profile l (t ∷ ts)
  kind_is t ts l Word k h = word_is t ts l k h
  kind_is t ts l Directive k h = unlabelled_is l (t ∷ ts) h
  kind_is t ts l Number k h = unlabelled_is l (t ∷ ts) h
  kind_is t ts l Char k h = unlabelled_is l (t ∷ ts) h
  kind_is t ts l Str k h = unlabelled_is l (t ∷ ts) h
  kind_is t ts l Symbol k h = unlabelled_is l (t ∷ ts) h

  read_is_line : (l : Line) (ts : List Lexeme) → line_of profile ts ≡ Some l → IsLine profile l ts
  unfolding line_of
  read_is_line l [] h = let same : labelled None nothing ≡ l = cc in subst (λ (x : Line). IsLine profile x []) same (no_label nothing_more)
  read_is_line l (t ∷ ts) h = kind_is t ts l t.kind refl h

pub each_read : ReadsLongest → EachReadLineIsALine
each_read longest profile l ts h = read_is_line profile longest l ts h
