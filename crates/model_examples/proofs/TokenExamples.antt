-- Worked examples of the tokens of lines.
use Rattle.std.proofs.Common.{◌≡◌, ℕ, List, [], ◌∷◌, refl, codes, replicate}
use Rattle.std.specs.Prelude.{Some, None}
use Rattle.model.specs.declared.expression.TokenKind.{TokenKind}
use Rattle.model.specs.declared.expression.TokenKind.TheVariants.{Word, Directive, Number, Char, Str, Symbol}
use Rattle.model.specs.Token.{Lexeme, token_at, tokens_from, tokens_of}

abbrev token : TokenKind → ℕ → List ℕ → Lexeme
token kind start text = record { kind = kind; start = start; text = text }

no_tokens : tokens_of (codes " \t ") ≡ Some []
unfolding tokens_of tokens_from token_at
no_tokens = refl

instruction : tokens_of (codes "LDA #$41 ; x") ≡ Some (token Word 0 (codes "LDA") ∷ token Symbol 4 (codes "#") ∷ token Number 5 (codes "$41") ∷ [])
unfolding tokens_of tokens_from token_at
instruction = refl

-- a directive ends at a digit
directive_then_number : tokens_of (codes ".BYTE1,2") ≡ Some (token Directive 0 (codes ".BYTE") ∷ token Number 5 (codes "1")
    ∷ token Symbol 6 (codes ",") ∷ token Number 7 (codes "2") ∷ [])
unfolding tokens_of tokens_from token_at
directive_then_number = refl

quote_as_char : tokens_of (codes "'''") ≡ Some (token Char 0 (codes "'''") ∷ [])
unfolding tokens_of tokens_from token_at
quote_as_char = refl

-- no comment begins in a char or a string
semicolon_as_char : tokens_of (codes "';'\t;") ≡ Some (token Char 0 (codes "';'") ∷ [])
unfolding tokens_of tokens_from token_at
semicolon_as_char = refl

semicolon_in_string : tokens_of (codes "\"a;b\"") ≡ Some (token Str 0 (codes "\"a;b\"") ∷ [])
unfolding tokens_of tokens_from token_at
semicolon_in_string = refl

char_after_number : tokens_of (codes "5'a'") ≡ Some (token Number 0 (codes "5") ∷ token Char 1 (codes "'a'") ∷ [])
unfolding tokens_of tokens_from token_at
char_after_number = refl

-- 31 letters are a word, and 32 are none
longest_word : tokens_of (replicate 31 97) ≡ Some (token Word 0 (replicate 31 97) ∷ [])
unfolding tokens_of tokens_from token_at
longest_word = refl

word_too_long : tokens_of (replicate 32 97) ≡ None
unfolding tokens_of tokens_from token_at
word_too_long = refl

-- what follows a number's digits
binary_then_digit : tokens_of (codes "%2") ≡ None
unfolding tokens_of tokens_from token_at
binary_then_digit = refl

hex_then_letter : tokens_of (codes "$1G") ≡ None
unfolding tokens_of tokens_from token_at
hex_then_letter = refl

mark_alone : tokens_of (codes "$") ≡ None
unfolding tokens_of tokens_from token_at
mark_alone = refl

open_char : tokens_of (codes "LDA #';") ≡ None
unfolding tokens_of tokens_from token_at
open_char = refl

empty_string : tokens_of (codes "\"\"") ≡ None
unfolding tokens_of tokens_from token_at
empty_string = refl

-- a byte that may not stand in a line, in a comment
delete_in_comment : tokens_of (59 ∷ 127 ∷ []) ≡ None
unfolding tokens_of tokens_from token_at
delete_in_comment = refl
