-- What the text of each kind of row says.
use Rattle.std.proofs.Common.{◌≡◌, ℕ, List, [], ◌∷◌, ◌++◌, true, false, refl, ap, ◌∙◌}
use Rattle.std.specs.Prelude.{Some, None, Ok, codes}
use Rattle.std.specs.List.{list_all}
use Rattle.model.specs.Token.{Lexeme, Tokens, is_source_byte, tokens_of, tokens_from, token_at}
use Rattle.model.specs.Mnemonics.{mnemonic_text}
use Rattle.model.specs.SourceLine.{absent, accumulator, immediate, direct, pointer, pointer_by_x, pointer_by_y}
use Rattle.model.specs.declared.instruction.Profile.{Profile}
use Rattle.model.specs.declared.instruction.Mnemonic.{Mnemonic}
use Rattle.model.specs.declared.line.Index.TheVariants.{Unindexed, X, Y}
use Rattle.model.specs.SourceLine.{instruction, bytes, value, labelled, list_within, directive_of, statement_of, line_of, read_line}
use Rattle.model.specs.Reading.{expression_of}
use Rattle.model.specs.declared.expression.TokenKind.TheVariants.{Directive}
use Rattle.law_texts.proofs.Letters.{Capital, Named, Letters, letters}
use Rattle.law_texts.proofs.Digits.{Digit}
use Rattle.law_texts.proofs.Steps.{word, number, symbol, before, word_first, byte_first, address_first}
use Rattle.law_texts.proofs.Said.{written, absent_read, accumulator_read, immediate_read, direct_read, direct_by_x_read, direct_by_y_read, marked_read, marked_by_x_read, marked_by_y_read, pointer_read, pointer_by_x_read, pointer_by_y_read, alone_line, number_line, word_line, hash_line, marked_line, bracket_line, line_read}

abbrev mnemonic : ℕ → ℕ → ℕ → Lexeme
mnemonic a b c = word 0 (a ∷ b ∷ c ∷ [])

pub implied_said : (profile : Profile) (m : Mnemonic) (named : Named profile m)
    → read_line profile (mnemonic_text m ++ []) ≡ Ok (labelled None (instruction m absent))
unfolding tokens_from
implied_said profile m named =
    let L : Letters profile m = letters profile m named in
    rw L.spelled (line_read profile m L.a L.b L.c [] (mnemonic L.a L.b L.c ∷ []) absent L.first L.second L.third refl refl
    (word_first L.a L.b L.c [] L.first L.second L.third refl)
    (alone_line profile m 0 (L.a ∷ L.b ∷ L.c ∷ []) absent L.named absent_read) refl)

accumulator_tokens : (a b c : ℕ) → Capital a → Capital b → Capital c
    → tokens_from 0 0 (a ∷ b ∷ c ∷ 32 ∷ 65 ∷ []) ≡ Some (mnemonic a b c ∷ word 4 (65 ∷ []) ∷ [])
unfolding tokens_from token_at
accumulator_tokens a b c A B C = word_first a b c (32 ∷ 65 ∷ []) A B C refl

pub accumulator_said : (profile : Profile) (m : Mnemonic) (named : Named profile m)
    → read_line profile (mnemonic_text m ++ 32 ∷ 65 ∷ [])
    ≡ Ok (labelled None (instruction m accumulator))
accumulator_said profile m named =
    let L : Letters profile m = letters profile m named in
    rw L.spelled (line_read profile m L.a L.b L.c (32 ∷ 65 ∷ []) (mnemonic L.a L.b L.c ∷ word 4 (65 ∷ []) ∷ []) accumulator L.first L.second L.third
    refl refl (accumulator_tokens L.a L.b L.c L.first L.second L.third)
    (word_line profile m 0 4 (L.a ∷ L.b ∷ L.c ∷ []) (65 ∷ []) [] accumulator L.named (accumulator_read 4)) refl)

immediate_tokens : (a b c d e h l : ℕ) → Capital a → Capital b → Capital c → Digit d h → Digit e l
    → tokens_from 0 0 (a ∷ b ∷ c ∷ 32 ∷ 35 ∷ 36 ∷ h ∷ l ∷ [])
    ≡ Some (mnemonic a b c ∷ symbol 4 35 ∷ number 5 (36 ∷ h ∷ l ∷ []) ∷ [])
unfolding tokens_from token_at
immediate_tokens a b c d e h l A B C D E =
    word_first a b c (32 ∷ 35 ∷ 36 ∷ h ∷ l ∷ []) A B C refl
    ∙ ap (λ (t : Tokens). before (mnemonic a b c) (before (symbol 4 35) t)) (byte_first 5 d e h l ([]) D E refl refl)

pub immediate_said : (profile : Profile) (m : Mnemonic) (named : Named profile m) (d e h l : ℕ)
    → Digit d h → Digit e l
    → read_line profile (mnemonic_text m ++ 32 ∷ 35 ∷ 36 ∷ h ∷ l ∷ [])
    ≡ Ok (labelled None (instruction m (immediate (written (36 ∷ h ∷ l ∷ [])))))
immediate_said profile m named d e h l D E =
    let L : Letters profile m = letters profile m named in
    let t : List ℕ = 36 ∷ h ∷ l ∷ [] in
    let source : list_all is_source_byte (32 ∷ 35 ∷ 36 ∷ h ∷ l ∷ []) ≡ true = rw (D.source, E.source) refl in
    rw L.spelled (line_read profile m L.a L.b L.c (32 ∷ 35 ∷ 36 ∷ h ∷ l ∷ []) (mnemonic L.a L.b L.c ∷ symbol 4 35 ∷ number 5 (36 ∷ h ∷ l ∷ []) ∷ [])
    (immediate (written t)) L.first L.second L.third refl source
    (immediate_tokens L.a L.b L.c d e h l L.first L.second L.third D E)
    (hash_line profile m 0 4 (L.a ∷ L.b ∷ L.c ∷ []) (number 5 (36 ∷ h ∷ l ∷ []) ∷ []) (immediate (written t)) L.named (immediate_read 4 5 t)) refl)

zero_page_tokens : (a b c d e h l : ℕ) → Capital a → Capital b → Capital c → Digit d h → Digit e l
    → tokens_from 0 0 (a ∷ b ∷ c ∷ 32 ∷ 36 ∷ h ∷ l ∷ [])
    ≡ Some (mnemonic a b c ∷ number 4 (36 ∷ h ∷ l ∷ []) ∷ [])
unfolding tokens_from token_at
zero_page_tokens a b c d e h l A B C D E =
    word_first a b c (32 ∷ 36 ∷ h ∷ l ∷ []) A B C refl
    ∙ ap (λ (t : Tokens). before (mnemonic a b c) t) (byte_first 4 d e h l ([]) D E refl refl)

pub zero_page_said : (profile : Profile) (m : Mnemonic) (named : Named profile m) (d e h l : ℕ)
    → Digit d h → Digit e l
    → read_line profile (mnemonic_text m ++ 32 ∷ 36 ∷ h ∷ l ∷ [])
    ≡ Ok (labelled None (instruction m (direct false (written (36 ∷ h ∷ l ∷ [])) Unindexed)))
zero_page_said profile m named d e h l D E =
    let L : Letters profile m = letters profile m named in
    let t : List ℕ = 36 ∷ h ∷ l ∷ [] in
    let source : list_all is_source_byte (32 ∷ 36 ∷ h ∷ l ∷ []) ≡ true = rw (D.source, E.source) refl in
    rw L.spelled (line_read profile m L.a L.b L.c (32 ∷ 36 ∷ h ∷ l ∷ []) (mnemonic L.a L.b L.c ∷ number 4 (36 ∷ h ∷ l ∷ []) ∷ [])
    (direct false (written t) Unindexed) L.first L.second L.third refl source
    (zero_page_tokens L.a L.b L.c d e h l L.first L.second L.third D E)
    (number_line profile m 0 4 (L.a ∷ L.b ∷ L.c ∷ []) (36 ∷ h ∷ l ∷ []) ([]) (direct false (written t) Unindexed) L.named (direct_read 4 t)) refl)

zero_page_by_x_tokens : (a b c d e h l : ℕ) → Capital a → Capital b → Capital c → Digit d h
    → Digit e l
    → tokens_from 0 0 (a ∷ b ∷ c ∷ 32 ∷ 36 ∷ h ∷ l ∷ 44 ∷ 88 ∷ [])
    ≡ Some (mnemonic a b c ∷ number 4 (36 ∷ h ∷ l ∷ []) ∷ symbol 7 44 ∷ word 8 (88 ∷ []) ∷ [])
unfolding tokens_from token_at
zero_page_by_x_tokens a b c d e h l A B C D E =
    word_first a b c (32 ∷ 36 ∷ h ∷ l ∷ 44 ∷ 88 ∷ []) A B C refl
    ∙ ap (λ (t : Tokens). before (mnemonic a b c) t) (byte_first 4 d e h l (44 ∷ 88 ∷ []) D E refl refl)

pub zero_page_by_x_said : (profile : Profile) (m : Mnemonic) (named : Named profile m) (d e h l : ℕ)
    → Digit d h → Digit e l
    → read_line profile (mnemonic_text m ++ 32 ∷ 36 ∷ h ∷ l ∷ 44 ∷ 88 ∷ [])
    ≡ Ok (labelled None (instruction m (direct false (written (36 ∷ h ∷ l ∷ [])) X)))
zero_page_by_x_said profile m named d e h l D E =
    let L : Letters profile m = letters profile m named in
    let t : List ℕ = 36 ∷ h ∷ l ∷ [] in
    let source : list_all is_source_byte (32 ∷ 36 ∷ h ∷ l ∷ 44 ∷ 88 ∷ []) ≡ true = rw (D.source, E.source) refl in
    rw L.spelled (line_read profile m L.a L.b L.c (32 ∷ 36 ∷ h ∷ l ∷ 44 ∷ 88 ∷ [])
    (mnemonic L.a L.b L.c ∷ number 4 (36 ∷ h ∷ l ∷ []) ∷ symbol 7 44 ∷ word 8 (88 ∷ []) ∷ []) (direct false (written t) X) L.first L.second
    L.third refl source
    (zero_page_by_x_tokens L.a L.b L.c d e h l L.first L.second L.third D E)
    (number_line profile m 0 4 (L.a ∷ L.b ∷ L.c ∷ []) (36 ∷ h ∷ l ∷ []) (symbol 7 44 ∷ word 8 (88 ∷ []) ∷ []) (direct false (written t) X) L.named
    (direct_by_x_read 4 7 8 t)) refl)

zero_page_by_y_tokens : (a b c d e h l : ℕ) → Capital a → Capital b → Capital c → Digit d h
    → Digit e l
    → tokens_from 0 0 (a ∷ b ∷ c ∷ 32 ∷ 36 ∷ h ∷ l ∷ 44 ∷ 89 ∷ [])
    ≡ Some (mnemonic a b c ∷ number 4 (36 ∷ h ∷ l ∷ []) ∷ symbol 7 44 ∷ word 8 (89 ∷ []) ∷ [])
unfolding tokens_from token_at
zero_page_by_y_tokens a b c d e h l A B C D E =
    word_first a b c (32 ∷ 36 ∷ h ∷ l ∷ 44 ∷ 89 ∷ []) A B C refl
    ∙ ap (λ (t : Tokens). before (mnemonic a b c) t) (byte_first 4 d e h l (44 ∷ 89 ∷ []) D E refl refl)

pub zero_page_by_y_said : (profile : Profile) (m : Mnemonic) (named : Named profile m) (d e h l : ℕ)
    → Digit d h → Digit e l
    → read_line profile (mnemonic_text m ++ 32 ∷ 36 ∷ h ∷ l ∷ 44 ∷ 89 ∷ [])
    ≡ Ok (labelled None (instruction m (direct false (written (36 ∷ h ∷ l ∷ [])) Y)))
zero_page_by_y_said profile m named d e h l D E =
    let L : Letters profile m = letters profile m named in
    let t : List ℕ = 36 ∷ h ∷ l ∷ [] in
    let source : list_all is_source_byte (32 ∷ 36 ∷ h ∷ l ∷ 44 ∷ 89 ∷ []) ≡ true = rw (D.source, E.source) refl in
    rw L.spelled (line_read profile m L.a L.b L.c (32 ∷ 36 ∷ h ∷ l ∷ 44 ∷ 89 ∷ [])
    (mnemonic L.a L.b L.c ∷ number 4 (36 ∷ h ∷ l ∷ []) ∷ symbol 7 44 ∷ word 8 (89 ∷ []) ∷ []) (direct false (written t) Y) L.first L.second
    L.third refl source
    (zero_page_by_y_tokens L.a L.b L.c d e h l L.first L.second L.third D E)
    (number_line profile m 0 4 (L.a ∷ L.b ∷ L.c ∷ []) (36 ∷ h ∷ l ∷ []) (symbol 7 44 ∷ word 8 (89 ∷ []) ∷ []) (direct false (written t) Y) L.named
    (direct_by_y_read 4 7 8 t)) refl)

absolute_tokens : (a b c d e f g h i j k : ℕ) → Capital a → Capital b → Capital c → Digit d h
    → Digit e i → Digit f j → Digit g k
    → tokens_from 0 0 (a ∷ b ∷ c ∷ 32 ∷ 36 ∷ h ∷ i ∷ j ∷ k ∷ [])
    ≡ Some (mnemonic a b c ∷ number 4 (36 ∷ h ∷ i ∷ j ∷ k ∷ []) ∷ [])
unfolding tokens_from token_at
absolute_tokens a b c d e f g h i j k A B C D E F G =
    word_first a b c (32 ∷ 36 ∷ h ∷ i ∷ j ∷ k ∷ []) A B C refl
    ∙ ap (λ (t : Tokens). before (mnemonic a b c) t) (address_first 4 d e f g h i j k ([]) D E F G refl refl)

pub absolute_said : (profile : Profile) (m : Mnemonic) (named : Named profile m)
    (d e f g h i j k : ℕ) → Digit d h → Digit e i → Digit f j → Digit g k
    → read_line profile (mnemonic_text m ++ 32 ∷ 36 ∷ h ∷ i ∷ j ∷ k ∷ [])
    ≡ Ok (labelled None (instruction m (direct false (written (36 ∷ h ∷ i ∷ j ∷ k ∷ [])) Unindexed)))
absolute_said profile m named d e f g h i j k D E F G =
    let L : Letters profile m = letters profile m named in
    let t : List ℕ = 36 ∷ h ∷ i ∷ j ∷ k ∷ [] in
    let source : list_all is_source_byte (32 ∷ 36 ∷ h ∷ i ∷ j ∷ k ∷ []) ≡ true = rw (D.source, E.source, F.source, G.source) refl in
    rw L.spelled (line_read profile m L.a L.b L.c (32 ∷ 36 ∷ h ∷ i ∷ j ∷ k ∷ []) (mnemonic L.a L.b L.c ∷ number 4 (36 ∷ h ∷ i ∷ j ∷ k ∷ []) ∷ [])
    (direct false (written t) Unindexed) L.first L.second L.third refl source
    (absolute_tokens L.a L.b L.c d e f g h i j k L.first L.second L.third D E F G)
    (number_line profile m 0 4 (L.a ∷ L.b ∷ L.c ∷ []) (36 ∷ h ∷ i ∷ j ∷ k ∷ []) ([]) (direct false (written t) Unindexed) L.named (direct_read 4 t)) refl)

absolute_by_x_tokens : (a b c d e f g h i j k : ℕ) → Capital a → Capital b → Capital c → Digit d h
    → Digit e i → Digit f j → Digit g k
    → tokens_from 0 0 (a ∷ b ∷ c ∷ 32 ∷ 36 ∷ h ∷ i ∷ j ∷ k ∷ 44 ∷ 88 ∷ [])
    ≡ Some (mnemonic a b c ∷ number 4 (36 ∷ h ∷ i ∷ j ∷ k ∷ []) ∷ symbol 9 44 ∷ word 10 (88 ∷ []) ∷ [])
unfolding tokens_from token_at
absolute_by_x_tokens a b c d e f g h i j k A B C D E F G =
    word_first a b c (32 ∷ 36 ∷ h ∷ i ∷ j ∷ k ∷ 44 ∷ 88 ∷ []) A B C refl
    ∙ ap (λ (t : Tokens). before (mnemonic a b c) t) (address_first 4 d e f g h i j k (44 ∷ 88 ∷ []) D E F G refl refl)

pub absolute_by_x_said : (profile : Profile) (m : Mnemonic) (named : Named profile m)
    (d e f g h i j k : ℕ) → Digit d h → Digit e i → Digit f j → Digit g k
    → read_line profile (mnemonic_text m ++ 32 ∷ 36 ∷ h ∷ i ∷ j ∷ k ∷ 44 ∷ 88 ∷ [])
    ≡ Ok (labelled None (instruction m (direct false (written (36 ∷ h ∷ i ∷ j ∷ k ∷ [])) X)))
absolute_by_x_said profile m named d e f g h i j k D E F G =
    let L : Letters profile m = letters profile m named in
    let t : List ℕ = 36 ∷ h ∷ i ∷ j ∷ k ∷ [] in
    let source : list_all is_source_byte (32 ∷ 36 ∷ h ∷ i ∷ j ∷ k ∷ 44 ∷ 88 ∷ []) ≡ true = rw (D.source, E.source, F.source, G.source) refl in
    rw L.spelled (line_read profile m L.a L.b L.c (32 ∷ 36 ∷ h ∷ i ∷ j ∷ k ∷ 44 ∷ 88 ∷ [])
    (mnemonic L.a L.b L.c ∷ number 4 (36 ∷ h ∷ i ∷ j ∷ k ∷ []) ∷ symbol 9 44 ∷ word 10 (88 ∷ []) ∷ []) (direct false (written t) X) L.first
    L.second L.third refl source
    (absolute_by_x_tokens L.a L.b L.c d e f g h i j k L.first L.second L.third D E F G)
    (number_line profile m 0 4 (L.a ∷ L.b ∷ L.c ∷ []) (36 ∷ h ∷ i ∷ j ∷ k ∷ []) (symbol 9 44 ∷ word 10 (88 ∷ []) ∷ []) (direct false (written t) X)
    L.named (direct_by_x_read 4 9 10 t)) refl)

absolute_by_y_tokens : (a b c d e f g h i j k : ℕ) → Capital a → Capital b → Capital c → Digit d h
    → Digit e i → Digit f j → Digit g k
    → tokens_from 0 0 (a ∷ b ∷ c ∷ 32 ∷ 36 ∷ h ∷ i ∷ j ∷ k ∷ 44 ∷ 89 ∷ [])
    ≡ Some (mnemonic a b c ∷ number 4 (36 ∷ h ∷ i ∷ j ∷ k ∷ []) ∷ symbol 9 44 ∷ word 10 (89 ∷ []) ∷ [])
unfolding tokens_from token_at
absolute_by_y_tokens a b c d e f g h i j k A B C D E F G =
    word_first a b c (32 ∷ 36 ∷ h ∷ i ∷ j ∷ k ∷ 44 ∷ 89 ∷ []) A B C refl
    ∙ ap (λ (t : Tokens). before (mnemonic a b c) t) (address_first 4 d e f g h i j k (44 ∷ 89 ∷ []) D E F G refl refl)

pub absolute_by_y_said : (profile : Profile) (m : Mnemonic) (named : Named profile m)
    (d e f g h i j k : ℕ) → Digit d h → Digit e i → Digit f j → Digit g k
    → read_line profile (mnemonic_text m ++ 32 ∷ 36 ∷ h ∷ i ∷ j ∷ k ∷ 44 ∷ 89 ∷ [])
    ≡ Ok (labelled None (instruction m (direct false (written (36 ∷ h ∷ i ∷ j ∷ k ∷ [])) Y)))
absolute_by_y_said profile m named d e f g h i j k D E F G =
    let L : Letters profile m = letters profile m named in
    let t : List ℕ = 36 ∷ h ∷ i ∷ j ∷ k ∷ [] in
    let source : list_all is_source_byte (32 ∷ 36 ∷ h ∷ i ∷ j ∷ k ∷ 44 ∷ 89 ∷ []) ≡ true = rw (D.source, E.source, F.source, G.source) refl in
    rw L.spelled (line_read profile m L.a L.b L.c (32 ∷ 36 ∷ h ∷ i ∷ j ∷ k ∷ 44 ∷ 89 ∷ [])
    (mnemonic L.a L.b L.c ∷ number 4 (36 ∷ h ∷ i ∷ j ∷ k ∷ []) ∷ symbol 9 44 ∷ word 10 (89 ∷ []) ∷ []) (direct false (written t) Y) L.first
    L.second L.third refl source
    (absolute_by_y_tokens L.a L.b L.c d e f g h i j k L.first L.second L.third D E F G)
    (number_line profile m 0 4 (L.a ∷ L.b ∷ L.c ∷ []) (36 ∷ h ∷ i ∷ j ∷ k ∷ []) (symbol 9 44 ∷ word 10 (89 ∷ []) ∷ []) (direct false (written t) Y)
    L.named (direct_by_y_read 4 9 10 t)) refl)

marked_tokens : (a b c d e f g h i j k : ℕ) → Capital a → Capital b → Capital c → Digit d h
    → Digit e i → Digit f j → Digit g k
    → tokens_from 0 0 (a ∷ b ∷ c ∷ 32 ∷ 33 ∷ 36 ∷ h ∷ i ∷ j ∷ k ∷ [])
    ≡ Some (mnemonic a b c ∷ symbol 4 33 ∷ number 5 (36 ∷ h ∷ i ∷ j ∷ k ∷ []) ∷ [])
unfolding tokens_from token_at
marked_tokens a b c d e f g h i j k A B C D E F G =
    word_first a b c (32 ∷ 33 ∷ 36 ∷ h ∷ i ∷ j ∷ k ∷ []) A B C refl
    ∙ ap (λ (t : Tokens). before (mnemonic a b c) (before (symbol 4 33) t)) (address_first 5 d e f g h i j k ([]) D E F G refl refl)

pub marked_said : (profile : Profile) (m : Mnemonic) (named : Named profile m) (d e f g h i j k : ℕ)
    → Digit d h → Digit e i → Digit f j → Digit g k
    → read_line profile (mnemonic_text m ++ 32 ∷ 33 ∷ 36 ∷ h ∷ i ∷ j ∷ k ∷ [])
    ≡ Ok (labelled None (instruction m (direct true (written (36 ∷ h ∷ i ∷ j ∷ k ∷ [])) Unindexed)))
marked_said profile m named d e f g h i j k D E F G =
    let L : Letters profile m = letters profile m named in
    let t : List ℕ = 36 ∷ h ∷ i ∷ j ∷ k ∷ [] in
    let source : list_all is_source_byte (32 ∷ 33 ∷ 36 ∷ h ∷ i ∷ j ∷ k ∷ []) ≡ true = rw (D.source, E.source, F.source, G.source) refl in
    rw L.spelled (line_read profile m L.a L.b L.c (32 ∷ 33 ∷ 36 ∷ h ∷ i ∷ j ∷ k ∷ [])
    (mnemonic L.a L.b L.c ∷ symbol 4 33 ∷ number 5 (36 ∷ h ∷ i ∷ j ∷ k ∷ []) ∷ []) (direct true (written t) Unindexed) L.first L.second L.third refl source
    (marked_tokens L.a L.b L.c d e f g h i j k L.first L.second L.third D E F G)
    (marked_line profile m 0 4 (L.a ∷ L.b ∷ L.c ∷ []) (number 5 (36 ∷ h ∷ i ∷ j ∷ k ∷ []) ∷ []) (direct true (written t) Unindexed) L.named
    (marked_read 4 5 t)) refl)

marked_by_x_tokens : (a b c d e f g h i j k : ℕ) → Capital a → Capital b → Capital c → Digit d h
    → Digit e i → Digit f j → Digit g k
    → tokens_from 0 0 (a ∷ b ∷ c ∷ 32 ∷ 33 ∷ 36 ∷ h ∷ i ∷ j ∷ k ∷ 44 ∷ 88 ∷ [])
    ≡ Some (mnemonic a b c ∷ symbol 4 33 ∷ number 5 (36 ∷ h ∷ i ∷ j ∷ k ∷ []) ∷ symbol 10 44 ∷ word 11 (88 ∷ []) ∷ [])
unfolding tokens_from token_at
marked_by_x_tokens a b c d e f g h i j k A B C D E F G =
    word_first a b c (32 ∷ 33 ∷ 36 ∷ h ∷ i ∷ j ∷ k ∷ 44 ∷ 88 ∷ []) A B C refl
    ∙ ap (λ (t : Tokens). before (mnemonic a b c) (before (symbol 4 33) t)) (address_first 5 d e f g h i j k (44 ∷ 88 ∷ []) D E F G refl refl)

pub marked_by_x_said : (profile : Profile) (m : Mnemonic) (named : Named profile m)
    (d e f g h i j k : ℕ) → Digit d h → Digit e i → Digit f j → Digit g k
    → read_line profile (mnemonic_text m ++ 32 ∷ 33 ∷ 36 ∷ h ∷ i ∷ j ∷ k ∷ 44 ∷ 88 ∷ [])
    ≡ Ok (labelled None (instruction m (direct true (written (36 ∷ h ∷ i ∷ j ∷ k ∷ [])) X)))
marked_by_x_said profile m named d e f g h i j k D E F G =
    let L : Letters profile m = letters profile m named in
    let t : List ℕ = 36 ∷ h ∷ i ∷ j ∷ k ∷ [] in
    let source : list_all is_source_byte (32 ∷ 33 ∷ 36 ∷ h ∷ i ∷ j ∷ k ∷ 44 ∷ 88 ∷ []) ≡ true = rw (D.source, E.source, F.source, G.source) refl in
    rw L.spelled (line_read profile m L.a L.b L.c (32 ∷ 33 ∷ 36 ∷ h ∷ i ∷ j ∷ k ∷ 44 ∷ 88 ∷ [])
    (mnemonic L.a L.b L.c ∷ symbol 4 33 ∷ number 5 (36 ∷ h ∷ i ∷ j ∷ k ∷ []) ∷ symbol 10 44 ∷ word 11 (88 ∷ []) ∷ []) (direct true (written t) X)
    L.first L.second L.third refl source
    (marked_by_x_tokens L.a L.b L.c d e f g h i j k L.first L.second L.third D E F G)
    (marked_line profile m 0 4 (L.a ∷ L.b ∷ L.c ∷ []) (number 5 (36 ∷ h ∷ i ∷ j ∷ k ∷ []) ∷ symbol 10 44 ∷ word 11 (88 ∷ []) ∷ [])
    (direct true (written t) X) L.named (marked_by_x_read 4 5 10 11 t)) refl)

marked_by_y_tokens : (a b c d e f g h i j k : ℕ) → Capital a → Capital b → Capital c → Digit d h
    → Digit e i → Digit f j → Digit g k
    → tokens_from 0 0 (a ∷ b ∷ c ∷ 32 ∷ 33 ∷ 36 ∷ h ∷ i ∷ j ∷ k ∷ 44 ∷ 89 ∷ [])
    ≡ Some (mnemonic a b c ∷ symbol 4 33 ∷ number 5 (36 ∷ h ∷ i ∷ j ∷ k ∷ []) ∷ symbol 10 44 ∷ word 11 (89 ∷ []) ∷ [])
unfolding tokens_from token_at
marked_by_y_tokens a b c d e f g h i j k A B C D E F G =
    word_first a b c (32 ∷ 33 ∷ 36 ∷ h ∷ i ∷ j ∷ k ∷ 44 ∷ 89 ∷ []) A B C refl
    ∙ ap (λ (t : Tokens). before (mnemonic a b c) (before (symbol 4 33) t)) (address_first 5 d e f g h i j k (44 ∷ 89 ∷ []) D E F G refl refl)

pub marked_by_y_said : (profile : Profile) (m : Mnemonic) (named : Named profile m)
    (d e f g h i j k : ℕ) → Digit d h → Digit e i → Digit f j → Digit g k
    → read_line profile (mnemonic_text m ++ 32 ∷ 33 ∷ 36 ∷ h ∷ i ∷ j ∷ k ∷ 44 ∷ 89 ∷ [])
    ≡ Ok (labelled None (instruction m (direct true (written (36 ∷ h ∷ i ∷ j ∷ k ∷ [])) Y)))
marked_by_y_said profile m named d e f g h i j k D E F G =
    let L : Letters profile m = letters profile m named in
    let t : List ℕ = 36 ∷ h ∷ i ∷ j ∷ k ∷ [] in
    let source : list_all is_source_byte (32 ∷ 33 ∷ 36 ∷ h ∷ i ∷ j ∷ k ∷ 44 ∷ 89 ∷ []) ≡ true = rw (D.source, E.source, F.source, G.source) refl in
    rw L.spelled (line_read profile m L.a L.b L.c (32 ∷ 33 ∷ 36 ∷ h ∷ i ∷ j ∷ k ∷ 44 ∷ 89 ∷ [])
    (mnemonic L.a L.b L.c ∷ symbol 4 33 ∷ number 5 (36 ∷ h ∷ i ∷ j ∷ k ∷ []) ∷ symbol 10 44 ∷ word 11 (89 ∷ []) ∷ []) (direct true (written t) Y)
    L.first L.second L.third refl source
    (marked_by_y_tokens L.a L.b L.c d e f g h i j k L.first L.second L.third D E F G)
    (marked_line profile m 0 4 (L.a ∷ L.b ∷ L.c ∷ []) (number 5 (36 ∷ h ∷ i ∷ j ∷ k ∷ []) ∷ symbol 10 44 ∷ word 11 (89 ∷ []) ∷ [])
    (direct true (written t) Y) L.named (marked_by_y_read 4 5 10 11 t)) refl)

pointer_by_x_tokens : (a b c d e h l : ℕ) → Capital a → Capital b → Capital c → Digit d h
    → Digit e l
    → tokens_from 0 0 (a ∷ b ∷ c ∷ 32 ∷ 40 ∷ 36 ∷ h ∷ l ∷ 44 ∷ 88 ∷ 41 ∷ [])
    ≡ Some (mnemonic a b c ∷ symbol 4 40 ∷ number 5 (36 ∷ h ∷ l ∷ []) ∷ symbol 8 44 ∷ word 9 (88 ∷ []) ∷ symbol 10 41 ∷ [])
unfolding tokens_from token_at
pointer_by_x_tokens a b c d e h l A B C D E =
    word_first a b c (32 ∷ 40 ∷ 36 ∷ h ∷ l ∷ 44 ∷ 88 ∷ 41 ∷ []) A B C refl
    ∙ ap (λ (t : Tokens). before (mnemonic a b c) (before (symbol 4 40) t)) (byte_first 5 d e h l (44 ∷ 88 ∷ 41 ∷ []) D E refl refl)

pub pointer_by_x_said : (profile : Profile) (m : Mnemonic) (named : Named profile m) (d e h l : ℕ)
    → Digit d h → Digit e l
    → read_line profile (mnemonic_text m ++ 32 ∷ 40 ∷ 36 ∷ h ∷ l ∷ 44 ∷ 88 ∷ 41 ∷ [])
    ≡ Ok (labelled None (instruction m (pointer_by_x (written (36 ∷ h ∷ l ∷ [])))))
pointer_by_x_said profile m named d e h l D E =
    let L : Letters profile m = letters profile m named in
    let t : List ℕ = 36 ∷ h ∷ l ∷ [] in
    let source : list_all is_source_byte (32 ∷ 40 ∷ 36 ∷ h ∷ l ∷ 44 ∷ 88 ∷ 41 ∷ []) ≡ true = rw (D.source, E.source) refl in
    rw L.spelled (line_read profile m L.a L.b L.c (32 ∷ 40 ∷ 36 ∷ h ∷ l ∷ 44 ∷ 88 ∷ 41 ∷ [])
    (mnemonic L.a L.b L.c ∷ symbol 4 40 ∷ number 5 (36 ∷ h ∷ l ∷ []) ∷ symbol 8 44 ∷ word 9 (88 ∷ []) ∷ symbol 10 41 ∷ [])
    (pointer_by_x (written t)) L.first L.second L.third refl source
    (pointer_by_x_tokens L.a L.b L.c d e h l L.first L.second L.third D E)
    (bracket_line profile m 0 4 (L.a ∷ L.b ∷ L.c ∷ []) (number 5 (36 ∷ h ∷ l ∷ []) ∷ symbol 8 44 ∷ word 9 (88 ∷ []) ∷ symbol 10 41 ∷ [])
    (pointer_by_x (written t)) L.named (pointer_by_x_read 4 5 8 9 10 t)) refl)

pointer_by_y_tokens : (a b c d e h l : ℕ) → Capital a → Capital b → Capital c → Digit d h
    → Digit e l
    → tokens_from 0 0 (a ∷ b ∷ c ∷ 32 ∷ 40 ∷ 36 ∷ h ∷ l ∷ 41 ∷ 44 ∷ 89 ∷ [])
    ≡ Some (mnemonic a b c ∷ symbol 4 40 ∷ number 5 (36 ∷ h ∷ l ∷ []) ∷ symbol 8 41 ∷ symbol 9 44 ∷ word 10 (89 ∷ []) ∷ [])
unfolding tokens_from token_at
pointer_by_y_tokens a b c d e h l A B C D E =
    word_first a b c (32 ∷ 40 ∷ 36 ∷ h ∷ l ∷ 41 ∷ 44 ∷ 89 ∷ []) A B C refl
    ∙ ap (λ (t : Tokens). before (mnemonic a b c) (before (symbol 4 40) t)) (byte_first 5 d e h l (41 ∷ 44 ∷ 89 ∷ []) D E refl refl)

pub pointer_by_y_said : (profile : Profile) (m : Mnemonic) (named : Named profile m) (d e h l : ℕ)
    → Digit d h → Digit e l
    → read_line profile (mnemonic_text m ++ 32 ∷ 40 ∷ 36 ∷ h ∷ l ∷ 41 ∷ 44 ∷ 89 ∷ [])
    ≡ Ok (labelled None (instruction m (pointer_by_y (written (36 ∷ h ∷ l ∷ [])))))
pointer_by_y_said profile m named d e h l D E =
    let L : Letters profile m = letters profile m named in
    let t : List ℕ = 36 ∷ h ∷ l ∷ [] in
    let source : list_all is_source_byte (32 ∷ 40 ∷ 36 ∷ h ∷ l ∷ 41 ∷ 44 ∷ 89 ∷ []) ≡ true = rw (D.source, E.source) refl in
    rw L.spelled (line_read profile m L.a L.b L.c (32 ∷ 40 ∷ 36 ∷ h ∷ l ∷ 41 ∷ 44 ∷ 89 ∷ [])
    (mnemonic L.a L.b L.c ∷ symbol 4 40 ∷ number 5 (36 ∷ h ∷ l ∷ []) ∷ symbol 8 41 ∷ symbol 9 44 ∷ word 10 (89 ∷ []) ∷ [])
    (pointer_by_y (written t)) L.first L.second L.third refl source
    (pointer_by_y_tokens L.a L.b L.c d e h l L.first L.second L.third D E)
    (bracket_line profile m 0 4 (L.a ∷ L.b ∷ L.c ∷ []) (number 5 (36 ∷ h ∷ l ∷ []) ∷ symbol 8 41 ∷ symbol 9 44 ∷ word 10 (89 ∷ []) ∷ [])
    (pointer_by_y (written t)) L.named (pointer_by_y_read 4 5 8 9 10 t)) refl)

zero_page_pointer_tokens : (a b c d e h l : ℕ) → Capital a → Capital b → Capital c → Digit d h
    → Digit e l
    → tokens_from 0 0 (a ∷ b ∷ c ∷ 32 ∷ 40 ∷ 36 ∷ h ∷ l ∷ 41 ∷ [])
    ≡ Some (mnemonic a b c ∷ symbol 4 40 ∷ number 5 (36 ∷ h ∷ l ∷ []) ∷ symbol 8 41 ∷ [])
unfolding tokens_from token_at
zero_page_pointer_tokens a b c d e h l A B C D E =
    word_first a b c (32 ∷ 40 ∷ 36 ∷ h ∷ l ∷ 41 ∷ []) A B C refl
    ∙ ap (λ (t : Tokens). before (mnemonic a b c) (before (symbol 4 40) t)) (byte_first 5 d e h l (41 ∷ []) D E refl refl)

pub zero_page_pointer_said : (profile : Profile) (m : Mnemonic) (named : Named profile m)
    (d e h l : ℕ) → Digit d h → Digit e l
    → read_line profile (mnemonic_text m ++ 32 ∷ 40 ∷ 36 ∷ h ∷ l ∷ 41 ∷ [])
    ≡ Ok (labelled None (instruction m (pointer (written (36 ∷ h ∷ l ∷ [])))))
zero_page_pointer_said profile m named d e h l D E =
    let L : Letters profile m = letters profile m named in
    let t : List ℕ = 36 ∷ h ∷ l ∷ [] in
    let source : list_all is_source_byte (32 ∷ 40 ∷ 36 ∷ h ∷ l ∷ 41 ∷ []) ≡ true = rw (D.source, E.source) refl in
    rw L.spelled (line_read profile m L.a L.b L.c (32 ∷ 40 ∷ 36 ∷ h ∷ l ∷ 41 ∷ [])
    (mnemonic L.a L.b L.c ∷ symbol 4 40 ∷ number 5 (36 ∷ h ∷ l ∷ []) ∷ symbol 8 41 ∷ []) (pointer (written t)) L.first L.second L.third refl source
    (zero_page_pointer_tokens L.a L.b L.c d e h l L.first L.second L.third D E)
    (bracket_line profile m 0 4 (L.a ∷ L.b ∷ L.c ∷ []) (number 5 (36 ∷ h ∷ l ∷ []) ∷ symbol 8 41 ∷ []) (pointer (written t)) L.named
    (pointer_read 4 5 8 t)) refl)

pointer_tokens : (a b c d e f g h i j k : ℕ) → Capital a → Capital b → Capital c → Digit d h
    → Digit e i → Digit f j → Digit g k
    → tokens_from 0 0 (a ∷ b ∷ c ∷ 32 ∷ 40 ∷ 36 ∷ h ∷ i ∷ j ∷ k ∷ 41 ∷ [])
    ≡ Some (mnemonic a b c ∷ symbol 4 40 ∷ number 5 (36 ∷ h ∷ i ∷ j ∷ k ∷ []) ∷ symbol 10 41 ∷ [])
unfolding tokens_from token_at
pointer_tokens a b c d e f g h i j k A B C D E F G =
    word_first a b c (32 ∷ 40 ∷ 36 ∷ h ∷ i ∷ j ∷ k ∷ 41 ∷ []) A B C refl
    ∙ ap (λ (t : Tokens). before (mnemonic a b c) (before (symbol 4 40) t)) (address_first 5 d e f g h i j k (41 ∷ []) D E F G refl refl)

pub pointer_said : (profile : Profile) (m : Mnemonic) (named : Named profile m)
    (d e f g h i j k : ℕ) → Digit d h → Digit e i → Digit f j → Digit g k
    → read_line profile (mnemonic_text m ++ 32 ∷ 40 ∷ 36 ∷ h ∷ i ∷ j ∷ k ∷ 41 ∷ [])
    ≡ Ok (labelled None (instruction m (pointer (written (36 ∷ h ∷ i ∷ j ∷ k ∷ [])))))
pointer_said profile m named d e f g h i j k D E F G =
    let L : Letters profile m = letters profile m named in
    let t : List ℕ = 36 ∷ h ∷ i ∷ j ∷ k ∷ [] in
    let source : list_all is_source_byte (32 ∷ 40 ∷ 36 ∷ h ∷ i ∷ j ∷ k ∷ 41 ∷ []) ≡ true = rw (D.source, E.source, F.source, G.source) refl in
    rw L.spelled (line_read profile m L.a L.b L.c (32 ∷ 40 ∷ 36 ∷ h ∷ i ∷ j ∷ k ∷ 41 ∷ [])
    (mnemonic L.a L.b L.c ∷ symbol 4 40 ∷ number 5 (36 ∷ h ∷ i ∷ j ∷ k ∷ []) ∷ symbol 10 41 ∷ []) (pointer (written t)) L.first L.second L.third refl source
    (pointer_tokens L.a L.b L.c d e f g h i j k L.first L.second L.third D E F G)
    (bracket_line profile m 0 4 (L.a ∷ L.b ∷ L.c ∷ []) (number 5 (36 ∷ h ∷ i ∷ j ∷ k ∷ []) ∷ symbol 10 41 ∷ []) (pointer (written t)) L.named
    (pointer_read 4 5 10 t)) refl)

-- ---- `.BYTE`

abbrev directive : List Lexeme → List Lexeme
directive ts = record { kind = Directive; start = 0; text = codes ".BYTE" } ∷ ts

directive_first : (rest : List ℕ) → tokens_from 0 0 (46 ∷ 66 ∷ 89 ∷ 84 ∷ 69 ∷ 32 ∷ rest)
    ≡ before (record { kind = Directive; start = 0; text = codes ".BYTE" }) (tokens_from 6 0 rest)
unfolding tokens_from token_at
directive_first rest = refl

byte_line_read : (profile : Profile) (t : List ℕ) → line_of profile (directive (number 6 t ∷ []))
    ≡ Some (labelled None (bytes (value (written t) ∷ [])))
unfolding line_of statement_of directive_of list_within expression_of
byte_line_read profile t = refl

pub byte_said : (profile : Profile) (d e h l : ℕ) → Digit d h → Digit e l
    → read_line profile (46 ∷ 66 ∷ 89 ∷ 84 ∷ 69 ∷ 32 ∷ 36 ∷ h ∷ l ∷ [])
    ≡ Ok (labelled None (bytes (value (written (36 ∷ h ∷ l ∷ [])) ∷ [])))
unfolding read_line tokens_of tokens_from
byte_said profile d e h l D E = rw (
  D.source,
  E.source,
  directive_first (36 ∷ h ∷ l ∷ []),
  byte_first 6 d e h l [] D E refl refl,
  byte_line_read
      profile (36 ∷ h ∷ l ∷ []),
) refl
