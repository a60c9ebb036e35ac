-- The way over a line, from token to token.
use Rattle.std.proofs.Common.{◌≡◌, ℕ, zero, suc, ◌+◌, ◌-◌, ◌<◌, ◌≤◌, true, false, List, [], ◌∷◌, ◌++◌, length, drop, get_or, refl, ap, sym, ◌∙◌, arith, append_assoc, append-nil, length-drop, length-append}
use Rattle.std.specs.Prelude.{◌==◌, None, Some}
use Rattle.std.specs.List.{list_all}
use Rattle.std.specs.Option.{option_map}
use Rattle.std.proofs.lemmas.Bool.{ne_eqb}
use Rattle.std.proofs.lemmas.List.{drop_more, drop_all, drop-drop}
use Rattle.model.specs.declared.expression.TokenKind.{TokenKind}
use Rattle.model.specs.Token.{Lexeme, Tokens, is_blank, is_source_byte, token_at, tokens_from, tokens_of}
use Rattle.lexer.specs.Lexing.{then_tokens}
use Rattle.lexer.proofs.Fronts.{Front, token_front}

-- bytes that the last token covers are passed over
pub covered : (place n : ℕ) (bytes : List ℕ) → n ≤ length bytes → tokens_from place n bytes ≡ tokens_from (place + n) 0 (drop n bytes)
unfolding tokens_from
covered place zero bytes h = ap (λ p. tokens_from p 0 bytes) (omega arith)
covered place (suc n) [] h = absurd (omega arith)
covered place (suc n) (b ∷ bytes) h =
    let e : place + 1 + n ≡ place + suc n = omega arith in
    covered (place + 1) n bytes (omega arith) ∙ ap (λ p. tokens_from p 0 (drop n bytes)) e

pub blank_passed : (front : List Lexeme) (line : List ℕ) (start : ℕ) → start < length line → is_blank (get_or line start 0) ≡ true
    → then_tokens front (tokens_from (start + 1) 0 (drop (start + 1) line)) ≡ then_tokens front (tokens_from start 0 (drop start line))
unfolding tokens_from
blank_passed front line start below blank = sym (rw (drop_more line start 0 below, blank) refl)

pub at_end : (front : List Lexeme) (line : List ℕ) (start : ℕ) → length line ≤ start → then_tokens front (tokens_from start 0 (drop start line)) ≡ Some front
unfolding tokens_from then_tokens
at_end front line start past = rw (drop_all start line past) (ap (λ (x : List Lexeme). Some x) (append-nil front))

pub at_comment : (front : List Lexeme) (line : List ℕ) (start : ℕ) → start < length line → get_or line start 0 ≡ 59
    → then_tokens front (tokens_from start 0 (drop start line)) ≡ Some front
unfolding tokens_from then_tokens
at_comment front line start below semicolon = rw (drop_more line start 0 below, semicolon) (ap (λ (x : List Lexeme). Some x) (append-nil front))

pub none_found : (front : List Lexeme) (line : List ℕ) (start : ℕ) → start < length line → is_blank (get_or line start 0) ≡ false
    → (get_or line start 0 ≡ 59 → ⊥) → token_at (drop start line) ≡ None
    → then_tokens front (tokens_from start 0 (drop start line)) ≡ None
unfolding tokens_from then_tokens
none_found front line start below dark semicolon none =
    let at = drop_more line start 0 below in
    let h = rw at at none in
    rw (at, dark, ne_eqb (get_or line start 0) 59 semicolon, h) refl

then_push : (front : List Lexeme) (t : Lexeme) (behind : Tokens) → then_tokens front (option_map (λ ts. t ∷ ts) behind) ≡ then_tokens (front ++ t ∷ []) behind
unfolding then_tokens
then_push front t None = refl
then_push front t (Some ts) = ap (λ (x : List Lexeme). Some x) (sym (append_assoc front (t ∷ []) ts))

-- what a token's bytes say of the line
pub token_inside : (line : List ℕ) (start : ℕ) (kind : TokenKind) (text : List ℕ) → token_at (drop start line) ≡ Some (kind, text)
    → (start + length text ≤ length line) × (0 < length text)
token_inside line start kind text h =
    let f : Front (drop start line) text = token_front (drop start line) (kind, text) h in
    (omega (arith, f.some, length-drop start line, ap length f.spelled, length-append text f.behind), f.some)

token_after : (place b : ℕ) (bytes : List ℕ) (kind : TokenKind) (text : List ℕ) → is_blank b ≡ false → (b == 59) ≡ false
    → token_at (b ∷ bytes) ≡ Some (kind, text) → length text - 1 ≤ length bytes
    → tokens_from place 0 (b ∷ bytes) ≡ option_map (λ ts. record { kind = kind; start = place; text = text } ∷ ts)
    (tokens_from (place + 1 + (length text - 1)) 0 (drop (length text - 1) bytes))
unfolding tokens_from
token_after place b bytes kind text dark other found le = rw (dark, other, found)
    (ap (λ (x : Tokens). option_map (λ ts. record { kind = kind; start = place; text = text } ∷ ts) x) (covered (place + 1) (length text - 1) bytes le))

pub token_passed : (front : List Lexeme) (line : List ℕ) (start : ℕ) (kind : TokenKind) (text : List ℕ) → start < length line
    → is_blank (get_or line start 0) ≡ false → (get_or line start 0 ≡ 59 → ⊥)
    → token_at (drop start line) ≡ Some (kind, text)
    → then_tokens (front ++ record { kind = kind; start = start; text = text } ∷ [])
    (tokens_from (start + length text) 0 (drop (start + length text) line)) ≡ then_tokens front (tokens_from start 0 (drop start line))
token_passed front line start kind text below dark semicolon found =
    let inside = token_inside line start kind text found in
    let at = drop_more line start 0 below in
    let h = rw at at found in
    let t : Lexeme = record { kind = kind; start = start; text = text } in
    let p : start + 1 + (length text - 1) ≡ start + length text = omega (arith, inside.1) in
    let d : drop (length text - 1) (drop (start + 1) line) ≡ drop (start + length text) line =
    drop-drop (length text - 1) (start + 1) line ∙ ap (λ n. drop n line) p in
    sym (
    ap (λ (x : List ℕ). then_tokens front (tokens_from start 0 x)) at
    ∙ ap (then_tokens front) (token_after start (get_or line start 0) (drop (start + 1) line) kind text dark
    (ne_eqb (get_or line start 0) 59 semicolon) h (omega (arith, inside.0, length-drop (start + 1) line)))
    ∙ then_push front t (tokens_from (start + 1 + (length text - 1)) 0 (drop (length text - 1) (drop (start + 1) line)))
    ∙ ap (λ n. then_tokens (front ++ t ∷ []) (tokens_from n 0 (drop (length text - 1) (drop (start + 1) line)))) p
    ∙ ap (λ (x : List ℕ). then_tokens (front ++ t ∷ []) (tokens_from (start + length text) 0 x)) d
    )

-- a line whose bytes may all stand
pub whole : (line : List ℕ) → list_all is_source_byte line ≡ true → tokens_of line ≡ tokens_from 0 0 line
unfolding tokens_of
whole line stand = rw stand refl

pub refused : (line : List ℕ) → list_all is_source_byte line ≡ false → tokens_of line ≡ None
unfolding tokens_of
refused line stands = rw stands refl

pub at_start : (front : List Lexeme) (line : List ℕ) → front ≡ [] → then_tokens front (tokens_from 0 0 line) ≡ tokens_from 0 0 line
unfolding then_tokens
at_start front line empty = rw empty (go (tokens_from 0 0 line))
  where
    go : (ts : Tokens) → option_map (λ ts. [] ++ ts) ts ≡ ts
    go None = refl
    go (Some ts) = refl
