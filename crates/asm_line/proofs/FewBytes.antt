-- A line that was read denotes few bytes, since it has few itself: a string is as long as its token
-- at most, and there are no more expressions than tokens.
use Rattle.std.proofs.Common.{◌≡◌, ℕ, zero, suc, ◌+◌, ◌-◌, ◌<◌, ◌≤◌, Bool, true, false, List, [], ◌∷◌, ◌++◌, length, take, drop, Option, Some, None, Result, Ok, Err, refl, ap, subst, arith, length-drop}
use Rattle.std.specs.Prelude.{codes, nat_lt, not, ⊤, if◌then◌else◌, IfOk, IfSome}
use Rattle.std.specs.List.{list_all}
use Rattle.std.specs.Option.{option_map, option_and_then}
use Rattle.std.proofs.lemmas.Bool.{ltb-false}
use Rattle.std.proofs.lemmas.List.{length-take}
use Rattle.model.specs.declared.expression.TokenKind.{TokenKind}
use Rattle.model.specs.declared.expression.TokenKind.TheVariants.{Word, Directive, Number, Char, Str, Symbol}
use Rattle.model.specs.declared.instruction.Profile.{Profile}
use Rattle.model.specs.declared.instruction.Mnemonic.{Mnemonic}
use Rattle.model.specs.declared.source_fault.AsmFaultKind.{AsmFaultKind}
use Rattle.model.specs.declared.source_fault.AsmFaultKind.TheVariants.{LineTooLong, NotAscii, ReservedName}
use Rattle.model.specs.Mnemonics.{mnemonic_named}
use Rattle.model.specs.Token.{Lexeme, Tokens, AreSlices, TokensAreSlices, is_source_byte, tokens_of}
use Rattle.model.specs.Expression.{Term, Longest}
use Rattle.model.specs.Reading.{ReadsLongest, is_symbol, expression_of}
use Rattle.model.specs.SourceLine.{Operand, Item, value, Statement, origin, bytes, words, words_high_first, reserve, instruction, Line, labelled, definition, list_after, list_within, expressions_of, item_of, item_or, items_of, string_in, is_directive, directive_of, finish_alone, origin_after, operand_of, operation_by, statement_of, whole_expression, unlabelled, word_line, line_by, line_of, line_reserves, unreserved, read_line}
use Rattle.model.specs.Layout.{item_size, items_size}
use Rattle.line_parts.specs.declared.fault.LineError.{LineError}
use Rattle.line_parts.specs.declared.statement.Line as code
use Rattle.line_parts.specs.LineViews.{Gives, line_view}
use Rattle.line_parts.specs.FewBytes.{IsSmall, IsSmallLine}

-- ---- tokens

-- how many bytes the tokens have
abbrev weight : List Lexeme → ℕ
weight [] = 0
weight (t ∷ ts) = length t.text + weight ts

weight_append : (ls rs : List Lexeme) → weight (ls ++ rs) ≡ weight ls + weight rs
weight_append [] rs = omega arith
weight_append (l ∷ ls) rs = let rest = weight_append ls rs in omega arith

-- a slice of a line ends in it
slice_ends : (n start : ℕ) (line text : List ℕ) → 0 < n → n ≡ length text → take n (drop start line) ≡ text → start + n ≤ length line
slice_ends n start line text some long same =
    let e : length (take n (drop start line)) ≡ length text = ap length same in
    omega (arith, e, length-take n (drop start line), length-drop start line)

-- no two tokens share a byte, and each has one
slices_few : (line : List ℕ) (place : ℕ) (ts : List Lexeme) → place ≤ length line → AreSlices line place ts → (weight ts + place ≤ length line)
    × (length ts ≤ weight ts)
slices_few line place [] below h = (omega arith, omega arith)
slices_few line place (t ∷ ts) below h =
    let ends = slice_ends (length t.text) t.start line t.text h.1 refl h.2 in
    let rest = slices_few line (t.start + length t.text) ts ends h.3 in
    let after = h.0 in
    let some = h.1 in
    (omega (arith, rest.0), omega (arith, rest.1))

-- ---- lists

-- few elements
abbrev Within : {A : Type 0} → ℕ → Option (List A) → Type 0
Within n None = ⊤
Within n (Some xs) = length xs ≤ n

-- items of few bytes
abbrev Light : ℕ → Option (List Item) → Type 0
Light n None = ⊤
Light n (Some items) = items_size items ≤ n

within_map : {A : Type 0} (n : ℕ) (x : A) (o : Option (List A)) → Within n o → Within (suc n) (option_map (λ xs. x ∷ xs) o)
within_map n x None h = h
within_map n x (Some xs) h = omega arith

within_after : {A : Type 0} (n : ℕ) (more : List Lexeme → Option (List A)) (x : A) (ts : List Lexeme) → ((us : List Lexeme) → Within n (more us))
    → Within (suc n) (list_after more x ts)
within_after n more x [] h = omega arith
within_after n more x (c ∷ ts) h = by (is_symbol 44 c)
  where
    by : (b : Bool) → Within (suc n) (if b then option_map (λ rest. x ∷ rest) (more ts) else None)
    by true = within_map n x (more ts) (h ts)
    by false = tt

within_read : {A : Type 0} (n : ℕ) (more : List Lexeme → Option (List A)) (r : Option (A × List Lexeme)) → ((us : List Lexeme) → Within n (more us))
    → Within (suc n) (option_and_then (λ p. list_after more p.0 p.1) r)
within_read n more None h = tt
within_read n more (Some p) h = within_after n more p.0 p.1 h

list_few : {A : Type 0} (read : List Lexeme → Option (A × List Lexeme)) (n : ℕ) (ts : List Lexeme) → Within n (list_within read n ts)
unfolding list_within
list_few read zero ts = tt
list_few read (suc n) ts = within_read n (λ more. list_within read n more) (read ts) (λ us. list_few read n us)

-- ---- items

-- an expression, and after it no more bytes than there were
abbrev TermFits : List Lexeme → Option (Term × List Lexeme) → Type 0
TermFits ts None = ⊤
TermFits ts (Some p) = weight p.1 ≤ weight ts

-- an item, and after it so many bytes fewer, but for one
abbrev ItemFits : List Lexeme → Option (Item × List Lexeme) → Type 0
ItemFits ts None = ⊤
ItemFits ts (Some p) = item_size p.0 + weight p.1 ≤ 1 + weight ts

-- the bytes between quotes are no more than the token's
abbrev TextFits : List ℕ → Option (List ℕ) → Type 0
TextFits text None = ⊤
TextFits text (Some inside) = length inside ≤ length text

text_fits : (kind : TokenKind) (text : List ℕ) → TextFits text (string_in kind text)
text_fits Str text = omega (arith, length-take (length text - 2) (drop 1 text), length-drop 1 text)
text_fits Word text = tt
text_fits Directive text = tt
text_fits Number text = tt
text_fits Char text = tt
text_fits Symbol text = tt

module _ (profile : Profile) (longest : ReadsLongest) where
  term_fits : (ts : List Lexeme) → TermFits ts (expression_of ts)
  term_fits ts = by (expression_of ts) (longest ts).0
    where
      by : (r : Option (Term × List Lexeme)) → IfSome r (λ p. Longest ts p.0 p.1) → TermFits ts r
      by None h = tt
      by (Some p) h = let e : weight ts ≡ weight (h.front ++ p.1) = ap weight h.cut in omega (arith, e, weight_append h.front p.1)

  value_fits : (ts : List Lexeme) (r : Option (Term × List Lexeme)) → TermFits ts r → ItemFits ts (option_map (λ p. (value p.0, p.1)) r)
  value_fits ts None h = tt
  value_fits ts (Some p) h = omega arith

  or_fits : (t : Lexeme) (ts : List Lexeme) (inside : Option (List ℕ)) → TextFits t.text inside → ItemFits (t ∷ ts) (item_or inside ts (expression_of (t ∷ ts)))
  or_fits t ts None h = value_fits (t ∷ ts) (expression_of (t ∷ ts)) (term_fits (t ∷ ts))
  or_fits t ts (Some inside) h = omega arith

  item_fits : (ts : List Lexeme) → ItemFits ts (item_of ts)
  item_fits [] = tt
  item_fits (t ∷ ts) = or_fits t ts (string_in t.kind t.text) (text_fits t.kind t.text)

  light_map : (n w : ℕ) (i : Item) (c : Lexeme) (ts : List Lexeme) (o : Option (List Item)) → item_size i + weight (c ∷ ts) ≤ 1 + w → Light (n + weight ts) o
      → Light (suc n + w) (option_map (λ rest. i ∷ rest) o)
  light_map n w i c ts None fits h = tt
  light_map n w i c ts (Some items) fits h = omega arith

  light_after : (n w : ℕ) (more : List Lexeme → Option (List Item)) (i : Item) (ts : List Lexeme) → item_size i + weight ts ≤ 1 + w
      → ((us : List Lexeme) → Light (n + weight us) (more us))
      → Light (suc n + w) (list_after more i ts)
  light_after n w more i [] fits h = omega arith
  light_after n w more i (c ∷ ts) fits h = by (is_symbol 44 c)
    where
      by : (b : Bool) → Light (suc n + w) (if b then option_map (λ rest. i ∷ rest) (more ts) else None)
      by true = light_map n w i c ts (more ts) fits (h ts)
      by false = tt

  light_read : (n : ℕ) (ts : List Lexeme) (more : List Lexeme → Option (List Item)) (r : Option (Item × List Lexeme)) → ItemFits ts r
      → ((us : List Lexeme) → Light (n + weight us) (more us))
      → Light (suc n + weight ts) (option_and_then (λ p. list_after more p.0 p.1) r)
  light_read n ts more None fits h = tt
  light_read n ts more (Some p) fits h = light_after n (weight ts) more p.0 p.1 fits h

  items_light : (n : ℕ) (ts : List Lexeme) → Light (n + weight ts) (list_within item_of n ts)
  unfolding list_within
  items_light zero ts = tt
  items_light (suc n) ts = light_read n ts (λ more. list_within item_of n more) (item_of ts) (item_fits ts) (λ us. items_light n us)

  -- ---- statements

  abbrev Small : Option Statement → Type 0
  Small None = ⊤
  Small (Some s) = IsSmall s

  small_if : (b : Bool) (x y : Option Statement) → Small x → Small y → Small (if b then x else y)
  small_if true x y h k = h
  small_if false x y h k = k

  small_bytes : (n : ℕ) (o : Option (List Item)) → n ≤ 510 → Light n o → Small (option_map bytes o)
  small_bytes n None le h = tt
  small_bytes n (Some items) le h = omega arith

  small_words : (n : ℕ) (o : Option (List Term)) → n ≤ 255 → Within n o → Small (option_map words o)
  small_words n None le h = tt
  small_words n (Some es) le h = omega arith

  small_words_high_first : (n : ℕ) (o : Option (List Term)) → n ≤ 255 → Within n o → Small (option_map words_high_first o)
  small_words_high_first n None le h = tt
  small_words_high_first n (Some es) le h = omega arith

  small_origin : (o : Option Term) → Small (option_map origin o)
  small_origin None = tt
  small_origin (Some e) = tt

  small_reserve : (o : Option Term) → Small (option_map reserve o)
  small_reserve None = tt
  small_reserve (Some e) = tt

  small_finish : (ts : List Lexeme) → Small (finish_alone ts)
  small_finish [] = tt
  small_finish (t ∷ ts) = tt

  small_instruction : (m : Mnemonic) (o : Option Operand) → Small (option_map (instruction m) o)
  small_instruction m None = tt
  small_instruction m (Some x) = tt

  small_named : (m : Option Mnemonic) (o : Option Operand) → Small (option_and_then (λ x. option_map (instruction x) o) m)
  small_named None o = tt
  small_named (Some m) o = small_instruction m o

  small_directive : (text : List ℕ) (ts : List Lexeme) → length ts ≤ 255 → weight ts ≤ 255 → Small (directive_of text ts)
  unfolding directive_of
  small_directive text ts few light =
      small_if (is_directive text (codes ".BYTE")) (option_map bytes (items_of ts)) _
      (small_bytes (length ts + weight ts) (items_of ts) (omega arith) (items_light (length ts) ts))
      (small_if (is_directive text (codes ".WORD")) (option_map words (expressions_of ts)) _
      (small_words (length ts) (expressions_of ts) few (list_few expression_of (length ts) ts))
      (small_if (is_directive text (codes ".DBYTE")) (option_map words_high_first (expressions_of ts)) _
      (small_words_high_first (length ts) (expressions_of ts) few (list_few expression_of (length ts) ts))
      (small_if (is_directive text (codes ".RES")) (option_map reserve (whole_expression ts)) _ (small_reserve (whole_expression ts))
      (small_if (is_directive text (codes ".END")) (finish_alone ts) None (small_finish ts) tt))))

  small_after : (ts : List Lexeme) → Small (origin_after ts)
  small_after [] = tt
  small_after (t ∷ ts) = small_if (is_symbol 61 t) (option_map origin (whole_expression ts)) None (small_origin (whole_expression ts)) tt

  small_operation : (kind : TokenKind) (t : Lexeme) (ts : List Lexeme) → length ts ≤ 255 → weight ts ≤ 255 → Small (operation_by profile kind t ts)
  small_operation Word t ts few light = small_named (mnemonic_named profile t.text) (operand_of ts)
  small_operation Directive t ts few light = small_directive t.text ts few light
  small_operation Symbol t ts few light = small_if (is_symbol 42 t) (origin_after ts) None (small_after ts) tt
  small_operation Number t ts few light = tt
  small_operation Char t ts few light = tt
  small_operation Str t ts few light = tt

  small_statement : (ts : List Lexeme) → length ts ≤ 255 → weight ts ≤ 255 → Small (statement_of profile ts)
  unfolding statement_of
  small_statement [] few light = tt
  small_statement (t ∷ ts) few light = small_operation t.kind t ts (omega arith) (omega arith)

  -- ---- the line

  abbrev SmallLine : Option Line → Type 0
  SmallLine None = ⊤
  SmallLine (Some l) = IsSmallLine l

  small_labelled : (label : Option (List ℕ)) (o : Option Statement) → Small o → SmallLine (option_map (labelled label) o)
  small_labelled label None h = tt
  small_labelled label (Some s) h = h

  small_definition : (text : List ℕ) (o : Option Term) → SmallLine (option_map (definition text) o)
  small_definition text None = tt
  small_definition text (Some e) = tt

  line_if : (b : Bool) (x y : Option Line) → SmallLine x → SmallLine y → SmallLine (if b then x else y)
  line_if true x y h k = h
  line_if false x y h k = k

  small_unlabelled : (ts : List Lexeme) → length ts ≤ 255 → weight ts ≤ 255 → SmallLine (unlabelled profile ts)
  small_unlabelled ts few light = small_labelled None (statement_of profile ts) (small_statement ts few light)

  small_word : (w : Lexeme) (ts : List Lexeme) → length (w ∷ ts) ≤ 255 → weight (w ∷ ts) ≤ 255 → SmallLine (word_line profile w ts)
  small_word w [] few light = small_unlabelled (w ∷ []) few light
  small_word w (s ∷ ts) few light =
      line_if (is_symbol 58 s) (option_map (labelled (Some w.text)) (statement_of profile ts)) _
      (small_labelled (Some w.text) (statement_of profile ts) (small_statement ts (omega arith) (omega arith)))
      (line_if (is_symbol 61 s) (option_map (definition w.text) (whole_expression ts)) (unlabelled profile (w ∷ s ∷ ts))
      (small_definition w.text (whole_expression ts)) (small_unlabelled (w ∷ s ∷ ts) few light))

  small_by : (kind : TokenKind) (t : Lexeme) (ts : List Lexeme) → length (t ∷ ts) ≤ 255 → weight (t ∷ ts) ≤ 255 → SmallLine (line_by profile kind t ts)
  small_by Word t ts few light = small_word t ts few light
  small_by Directive t ts few light = small_unlabelled (t ∷ ts) few light
  small_by Number t ts few light = small_unlabelled (t ∷ ts) few light
  small_by Char t ts few light = small_unlabelled (t ∷ ts) few light
  small_by Str t ts few light = small_unlabelled (t ∷ ts) few light
  small_by Symbol t ts few light = small_unlabelled (t ∷ ts) few light

  small_line : (ts : List Lexeme) → length ts ≤ 255 → weight ts ≤ 255 → SmallLine (line_of profile ts)
  unfolding line_of
  small_line [] few light = tt
  small_line (t ∷ ts) few light = small_by t.kind t ts few light

  small_tokens : TokensAreSlices → (line : List ℕ) → length line ≤ 255 → (o : Tokens) → tokens_of line ≡ o → SmallLine (option_and_then (line_of profile) o)
  small_tokens slices line short None found = tt
  small_tokens slices line short (Some ts) found =
      let few = slices_few line 0 ts (omega arith) (slices line ts found) in
      small_line ts (omega (arith, few.0, few.1)) (omega (arith, few.0))

  abbrev Right : Result Line AsmFaultKind → Type 0
  Right (Ok l) = IsSmallLine l
  Right (Err k) = ⊤

  right_if : (b : Bool) (k : AsmFaultKind) (r : Result Line AsmFaultKind) → (b ≡ false → Right r) → Right (if b then Err k else r)
  right_if true k r h = tt
  right_if false k r h = h refl

  right_unreserved : (o : Option Line) → SmallLine o → Right (unreserved profile o)
  right_unreserved None h = tt
  right_unreserved (Some l) h = right_if (line_reserves profile l) ReservedName (Ok l) (λ _. h)

  right_line : TokensAreSlices → (line : List ℕ) → Right (read_line profile line)
  unfolding read_line
  right_line slices line =
      right_if (nat_lt 255 (length line)) LineTooLong _
      (λ short. right_if (not (list_all is_source_byte line)) NotAscii _
      (λ ascii. right_unreserved (option_and_then (line_of profile) (tokens_of line))
      (small_tokens slices line (ltb-false 255 (length line) short) (tokens_of line) refl)))

  -- what was read is small
  pub small_read : TokensAreSlices → (line : List ℕ) (r : Result code.Line LineError) → Gives line_view r (read_line profile line)
      → IfOk r (λ l. IsSmallLine (line_view l))
  small_read slices line (Ok l) same = let all = right_line slices line in subst Right same all
  small_read slices line (Err e) same = tt
