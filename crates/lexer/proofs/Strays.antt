-- The way over a line, to the first place where no token begins.
use Rattle.std.proofs.Common.{◌≡◌, ℕ, zero, suc, ◌+◌, ◌-◌, ◌<◌, ◌≤◌, true, false, List, [], ◌∷◌, length, drop, get_or, refl, ap, sym, ◌∙◌, arith, length-drop}
use Rattle.std.specs.Prelude.{◌==◌, None, Some}
use Rattle.std.proofs.lemmas.Bool.{ne_eqb}
use Rattle.std.proofs.lemmas.List.{drop_more, drop_all, drop-drop}
use Rattle.model.specs.declared.expression.TokenKind.{TokenKind}
use Rattle.model.specs.Token.{is_blank, token_at}
use Rattle.lexer.specs.Stray.{stray_from}
use Rattle.lexer.proofs.Steps.{token_inside}

-- bytes that the last token covers are passed over
covered : (place n : ℕ) (bytes : List ℕ) → n ≤ length bytes → stray_from place n bytes ≡ stray_from (place + n) 0 (drop n bytes)
unfolding stray_from
covered place zero bytes h = ap (λ p. stray_from p 0 bytes) (omega arith)
covered place (suc n) [] h = absurd (omega arith)
covered place (suc n) (b ∷ bytes) h =
    let e : place + 1 + n ≡ place + suc n = omega arith in
    covered (place + 1) n bytes (omega arith) ∙ ap (λ p. stray_from p 0 (drop n bytes)) e

pub blank_passed : (line : List ℕ) (start : ℕ) → start < length line → is_blank (get_or line start 0) ≡ true
    → stray_from (start + 1) 0 (drop (start + 1) line) ≡ stray_from start 0 (drop start line)
unfolding stray_from
blank_passed line start below blank = sym (rw (drop_more line start 0 below, blank) refl)

pub at_end : (line : List ℕ) (start : ℕ) → length line ≤ start → stray_from start 0 (drop start line) ≡ None
unfolding stray_from
at_end line start past = rw (drop_all start line past) refl

pub at_comment : (line : List ℕ) (start : ℕ) → start < length line → get_or line start 0 ≡ 59 → stray_from start 0 (drop start line) ≡ None
unfolding stray_from
at_comment line start below semicolon = rw (drop_more line start 0 below, semicolon) refl

pub none_found : (line : List ℕ) (start : ℕ) → start < length line → is_blank (get_or line start 0) ≡ false → (get_or line start 0 ≡ 59 → ⊥)
    → token_at (drop start line) ≡ None
    → stray_from start 0 (drop start line) ≡ Some start
unfolding stray_from
none_found line start below dark semicolon none =
    let at = drop_more line start 0 below in
    let h = rw at at none in
    rw (at, dark, ne_eqb (get_or line start 0) 59 semicolon, h) refl

token_after : (place b : ℕ) (bytes : List ℕ) (kind : TokenKind) (text : List ℕ) → is_blank b ≡ false → (b == 59) ≡ false
    → token_at (b ∷ bytes) ≡ Some (kind, text) → length text - 1 ≤ length bytes
    → stray_from place 0 (b ∷ bytes) ≡ stray_from (place + 1 + (length text - 1)) 0 (drop (length text - 1) bytes)
unfolding stray_from
token_after place b bytes kind text dark other found le = rw (dark, other, found) (covered (place + 1) (length text - 1) bytes le)

pub token_passed : (line : List ℕ) (start : ℕ) (kind : TokenKind) (text : List ℕ) → start < length line → is_blank (get_or line start 0) ≡ false
    → (get_or line start 0 ≡ 59 → ⊥)
    → token_at (drop start line) ≡ Some (kind, text)
    → stray_from (start + length text) 0 (drop (start + length text) line) ≡ stray_from start 0 (drop start line)
token_passed line start kind text below dark semicolon found =
    let inside = token_inside line start kind text found in
    let at = drop_more line start 0 below in
    let h = rw at at found in
    let p : start + 1 + (length text - 1) ≡ start + length text = omega (arith, inside.1) in
    let d : drop (length text - 1) (drop (start + 1) line) ≡ drop (start + length text) line =
    drop-drop (length text - 1) (start + 1) line ∙ ap (λ n. drop n line) p in
    sym (
    ap (λ (x : List ℕ). stray_from start 0 x) at
    ∙ token_after start (get_or line start 0) (drop (start + 1) line) kind text dark (ne_eqb (get_or line start 0) 59 semicolon) h
    (omega (arith, inside.0, length-drop (start + 1) line))
    ∙ ap (λ n. stray_from n 0 (drop (length text - 1) (drop (start + 1) line))) p
    ∙ ap (λ (x : List ℕ). stray_from (start + length text) 0 x) d
    )
