-- The tokens of a row's text, one after another.
use Rattle.std.proofs.Common.{◌≡◌, ℕ, ◌+◌, List, [], ◌∷◌, false, refl, ap, ◌∙◌}
use Rattle.std.specs.Prelude.{Some}
use Rattle.std.specs.Option.{option_map}
use Rattle.model.specs.Token.{Lexeme, Tokens, is_hex_byte, is_word_byte, run_of, begins, tokens_from, token_at}
use Rattle.model.specs.declared.expression.TokenKind.TheVariants.{Word, Number, Symbol}
use Rattle.law_texts.proofs.Letters.{Capital}
use Rattle.law_texts.proofs.Digits.{Digit}

abbrev pub word : ℕ → List ℕ → Lexeme
word place text = record { kind = Word; start = place; text = text }

abbrev pub number : ℕ → List ℕ → Lexeme
number place text = record { kind = Number; start = place; text = text }

abbrev pub symbol : ℕ → ℕ → Lexeme
symbol place b = record { kind = Symbol; start = place; text = b ∷ [] }

abbrev pub before : Lexeme → Tokens → Tokens
before t behind = option_map (λ ts. t ∷ ts) behind

-- ---- single tokens

word_token : (a b c : ℕ) (rest : List ℕ) → Capital a → Capital b → Capital c
    → run_of is_word_byte rest ≡ [] → token_at (a ∷ b ∷ c ∷ rest) ≡ Some (Word, a ∷ b ∷ c ∷ [])
unfolding token_at
word_token a b c rest A B C no_more = rw (A.letter, B.word, C.word, no_more) refl

byte_token : (d e h l : ℕ) (rest : List ℕ) → Digit d h → Digit e l → run_of is_hex_byte rest ≡ []
    → begins is_word_byte rest ≡ false
    → token_at (36 ∷ h ∷ l ∷ rest) ≡ Some (Number, 36 ∷ h ∷ l ∷ [])
unfolding token_at
byte_token d e h l rest H L no_more behind = rw (H.hex, L.hex, no_more, behind) refl

address_token : (d e f g h i j k : ℕ) (rest : List ℕ) → Digit d h → Digit e i → Digit f j
    → Digit g k → run_of is_hex_byte rest ≡ [] → begins is_word_byte rest ≡ false
    → token_at (36 ∷ h ∷ i ∷ j ∷ k ∷ rest) ≡ Some (Number, 36 ∷ h ∷ i ∷ j ∷ k ∷ [])
unfolding token_at
address_token d e f g h i j k rest D E F G no_more behind = rw (D.hex, E.hex, F.hex, G.hex, no_more, behind) refl

-- ---- a token and those after it

pub word_first : (a b c : ℕ) (rest : List ℕ) → Capital a → Capital b → Capital c
    → run_of is_word_byte rest ≡ []
    → tokens_from 0 0 (a ∷ b ∷ c ∷ rest) ≡ before (word 0 (a ∷ b ∷ c ∷ [])) (tokens_from 3 0 rest)
unfolding tokens_from
word_first a b c rest A B C no_more = rw (A.blank, A.comment, word_token a b c rest A B C no_more) refl

pub byte_first : (p d e h l : ℕ) (rest : List ℕ) → Digit d h → Digit e l
    → run_of is_hex_byte rest ≡ [] → begins is_word_byte rest ≡ false
    → tokens_from p 0 (36 ∷ h ∷ l ∷ rest) ≡ before (number p (36 ∷ h ∷ l ∷ []))
    (tokens_from (p + 1 + 1 + 1) 0 rest)
unfolding tokens_from
byte_first p d e h l rest D E no_more behind = rw (byte_token d e h l rest D E no_more behind) refl

pub address_first : (p d e f g h i j k : ℕ) (rest : List ℕ) → Digit d h → Digit e i → Digit f j
    → Digit g k → run_of is_hex_byte rest ≡ [] → begins is_word_byte rest ≡ false
    → tokens_from p 0 (36 ∷ h ∷ i ∷ j ∷ k ∷ rest) ≡ before (number p (36 ∷ h ∷ i ∷ j ∷ k ∷ []))
    (tokens_from (p + 1 + 1 + 1 + 1 + 1) 0 rest)
unfolding tokens_from
address_first p d e f g h i j k rest D E F G no_more behind = rw (address_token d e f g h i j k rest D E F G no_more behind) refl

-- ---- the tokens of each kind of row

pub implied_tokens : (a b c : ℕ) → Capital a → Capital b → Capital c
    → tokens_from 0 0 (a ∷ b ∷ c ∷ []) ≡ Some (word 0 (a ∷ b ∷ c ∷ []) ∷ [])
unfolding tokens_from
implied_tokens a b c A B C = word_first a b c [] A B C refl

pub accumulator_tokens : (a b c : ℕ) → Capital a → Capital b → Capital c
    → tokens_from 0 0 (a ∷ b ∷ c ∷ 32 ∷ 65 ∷ [])
    ≡ Some (word 0 (a ∷ b ∷ c ∷ []) ∷ word 4 (65 ∷ []) ∷ [])
unfolding tokens_from token_at
accumulator_tokens a b c A B C = word_first a b c (32 ∷ 65 ∷ []) A B C refl

pub immediate_tokens : (a b c d e h l : ℕ) → Capital a → Capital b → Capital c → Digit d h
    → Digit e l
    → tokens_from 0 0 (a ∷ b ∷ c ∷ 32 ∷ 35 ∷ 36 ∷ h ∷ l ∷ [])
    ≡ Some (word 0 (a ∷ b ∷ c ∷ []) ∷ symbol 4 35 ∷ number 5 (36 ∷ h ∷ l ∷ []) ∷ [])
unfolding tokens_from token_at
immediate_tokens a b c d e h l A B C D E = word_first a b c (32 ∷ 35 ∷ 36 ∷ h ∷ l ∷ []) A B C refl
    ∙ ap (λ (t : Tokens). before (word 0 (a ∷ b ∷ c ∷ [])) (before (symbol 4 35) t)) (byte_first 5 d e h l [] D E refl refl)

pub byte_tokens : (a b c d e h l : ℕ) (rest : List ℕ) → Capital a → Capital b → Capital c
    → Digit d h → Digit e l → run_of is_hex_byte rest ≡ [] → begins is_word_byte rest ≡ false
    → tokens_from 0 0 (a ∷ b ∷ c ∷ 32 ∷ 36 ∷ h ∷ l ∷ rest) ≡ before (word 0 (a ∷ b ∷ c ∷ []))
    (before (number 4 (36 ∷ h ∷ l ∷ [])) (tokens_from 7 0 rest))
unfolding tokens_from
byte_tokens a b c d e h l rest A B C D E no_more behind = word_first a b c (32 ∷ 36 ∷ h ∷ l ∷ rest) A B C refl
    ∙ ap (before (word 0 (a ∷ b ∷ c ∷ []))) (byte_first 4 d e h l rest D E no_more behind)

pub address_tokens : (a b c d e f g h i j k : ℕ) (rest : List ℕ) → Capital a → Capital b → Capital c
    → Digit d h → Digit e i → Digit f j → Digit g k → run_of is_hex_byte rest ≡ []
    → begins is_word_byte rest ≡ false
    → tokens_from 0 0 (a ∷ b ∷ c ∷ 32 ∷ 36 ∷ h ∷ i ∷ j ∷ k ∷ rest)
    ≡ before (word 0 (a ∷ b ∷ c ∷ []))
    (before (number 4 (36 ∷ h ∷ i ∷ j ∷ k ∷ [])) (tokens_from 9 0 rest))
unfolding tokens_from
address_tokens a b c d e f g h i j k rest A B C D E F G no_more behind =
    word_first a b c (32 ∷ 36 ∷ h ∷ i ∷ j ∷ k ∷ rest) A B C refl
    ∙ ap (before (word 0 (a ∷ b ∷ c ∷ []))) (address_first 4 d e f g h i j k rest D E F G no_more behind)

pub marked_tokens : (a b c d e f g h i j k : ℕ) (rest : List ℕ) → Capital a → Capital b → Capital c
    → Digit d h → Digit e i → Digit f j → Digit g k → run_of is_hex_byte rest ≡ []
    → begins is_word_byte rest ≡ false
    → tokens_from 0 0 (a ∷ b ∷ c ∷ 32 ∷ 33 ∷ 36 ∷ h ∷ i ∷ j ∷ k ∷ rest)
    ≡ before (word 0 (a ∷ b ∷ c ∷ []))
    (before (symbol 4 33) (before (number 5 (36 ∷ h ∷ i ∷ j ∷ k ∷ [])) (tokens_from 10 0 rest)))
unfolding tokens_from token_at
marked_tokens a b c d e f g h i j k rest A B C D E F G no_more behind =
    word_first a b c (32 ∷ 33 ∷ 36 ∷ h ∷ i ∷ j ∷ k ∷ rest) A B C refl
    ∙ ap (λ (t : Tokens). before (word 0 (a ∷ b ∷ c ∷ [])) (before (symbol 4 33) t)) (address_first 5 d e f g h i j k rest D E F G no_more behind)
