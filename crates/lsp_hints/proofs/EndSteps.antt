-- The way to the end of the last token of a line.
use Rattle.std.proofs.Common.{◌≡◌, ◌∙◌, ℕ, ◌+◌, ◌<◌, ◌≤◌, List, ◌∷◌, length, take, drop, refl, sym, ap, subst, get_or, add-one, drop-cons, arith}
use Rattle.std.specs.Prelude.{min}
use Rattle.std.proofs.lemmas.List.{drop_all, length-drop, length-take}
use Rattle.line_parts.specs.Lexemes.{lexeme_of, lexemes}
use Rattle.line_parts.specs.declared.token.Token.{Token}
use Rattle.lsp_hints.specs.Painted.{code_end}
use Rattle.model.specs.Token.{AreSlices, Lexeme}

cut : (tokens : List Token) (i : ℕ) (d : Token) → i < length tokens → drop i tokens ≡ get_or tokens i d ∷ drop (i + 1) tokens
cut tokens i d within = rw (add-one, drop-cons tokens i d) refl

pub next_slices : (line : List ℕ) (place i : ℕ) (tokens : List Token) (d : Token) → i < length tokens → AreSlices line place (lexemes (drop i tokens))
    → AreSlices line place (lexeme_of (get_or tokens i d) ∷ lexemes (drop (i + 1) tokens))
next_slices line place i tokens d within slices = subst (λ (ts : List Token). AreSlices line place (lexemes ts)) (cut tokens i d within) slices

pub token_within : (line : List ℕ) (t : Lexeme) → 0 < length t.text → take (length t.text) (drop t.start line) ≡ t.text → t.start + length t.text ≤ length line
token_within line t some at =
    let all : min (length t.text) (length (drop t.start line)) ≡ length t.text =
    sym (length-take (length t.text) (drop t.start line)) ∙ ap (λ (bytes : List ℕ). length bytes) at in
    omega (arith, some, all, length-drop t.start line)

pub next_within : (line : List ℕ) (place i : ℕ) (tokens : List Token) (d : Token) → i < length tokens → AreSlices line place (lexemes (drop i tokens))
    → (get_or tokens i d).start + length (get_or tokens i d).text.now ≤ length line
next_within line place i tokens d within slices =
    let opened = next_slices line place i tokens d within slices in
    token_within line (lexeme_of (get_or tokens i d)) opened.1 opened.2

pub next_end : (place i : ℕ) (tokens : List Token) (d : Token) (whole : ℕ) → i < length tokens → code_end place (lexemes (drop i tokens)) ≡ whole
    → code_end ((get_or tokens i d).start + length (get_or tokens i d).text.now) (lexemes (drop (i + 1) tokens)) ≡ whole
unfolding code_end
next_end place i tokens d whole within so_far = sym (ap (λ (ts : List Token). code_end place (lexemes ts)) (cut tokens i d within)) ∙ so_far

pub last_end : (place i : ℕ) (tokens : List Token) (whole : ℕ) → length tokens ≤ i → code_end place (lexemes (drop i tokens)) ≡ whole → place ≡ whole
unfolding code_end
last_end place i tokens whole past so_far =
    let at : code_end place (lexemes (drop i tokens)) ≡ place = rw (drop_all i tokens past) refl in
    sym at ∙ so_far
