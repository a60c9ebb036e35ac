-- The way along the tokens of a line, the lines of a source, and what is painted.
use Rattle.std.proofs.Common.{◌≡◌, ℕ, ◌+◌, ◌<◌, ◌≤◌, Bool, false, List, [], ◌∷◌, ◌++◌, length, drop, Option, refl, ap, get_or, add-one, drop-cons}
use Rattle.std.proofs.lemmas.List.{drop_all}
use Rattle.std.specs.Borrow.{Bor}
use Rattle.line_parts.specs.Lexemes.{lexeme_of, lexemes}
use Rattle.line_parts.specs.declared.token.Token.{Token}
use Rattle.lsp_hints.specs.Painted.{asked_paints, counted, paint_counts, paints_from, token_paints, tokens_paints}
use Rattle.lsp_hints.specs.declared.paint.Paint.{Paint}
use Rattle.model.specs.declared.instruction.Profile.{Profile}
use Rattle.serde_json.specs.Data.{Data}
use Rattle.source_notes.specs.Lines.{texts_of}

cut : {A : Type 0} (xs : List A) (i : ℕ) (d : A) → i < length xs → drop i xs ≡ get_or xs i d ∷ drop (i + 1) xs
cut xs i d within = rw (add-one, drop-cons xs i d) refl

-- ---- tokens

abbrev pub tokens_left : Profile → ℕ → Bool → List Token → ℕ → List Paint
tokens_left profile line defines tokens i = tokens_paints profile line defines (lexemes (drop i tokens))

pub token_next : (profile : Profile) (line i : ℕ) (defines : Bool) (tokens : List Token) (d : Token) → i < length tokens
    → tokens_left profile line defines tokens i ≡ token_paints profile line defines (lexeme_of (get_or tokens i d))
    ++ tokens_left profile line false tokens (i + 1)
unfolding tokens_paints
token_next profile line i defines tokens d within = ap (λ (ts : List Token). tokens_paints profile line defines (lexemes ts)) (cut tokens i d within)

pub tokens_end : (profile : Profile) (line i : ℕ) (defines : Bool) (tokens : List Token) → length tokens ≤ i → tokens_left profile line defines tokens i ≡ []
unfolding tokens_paints
tokens_end profile line i defines tokens past = rw (drop_all i tokens past) refl

-- ---- lines

abbrev pub lines_left : Profile → Option (ℕ × ℕ) → List (Bor (List ℕ)) → ℕ → List Paint
lines_left profile between lines i = paints_from profile between i (texts_of (drop i lines))

pub line_next : (profile : Profile) (between : Option (ℕ × ℕ)) (i : ℕ) (lines : List (Bor (List ℕ))) (d : Bor (List ℕ)) → i < length lines
    → lines_left profile between lines i ≡ asked_paints profile between i (get_or lines i d).now ++ lines_left profile between lines (i + 1)
unfolding paints_from
line_next profile between i lines d within = ap (λ (ls : List (Bor (List ℕ))). paints_from profile between i (texts_of ls)) (cut lines i d within)

pub lines_end : (profile : Profile) (between : Option (ℕ × ℕ)) (i : ℕ) (lines : List (Bor (List ℕ))) → length lines ≤ i
    → lines_left profile between lines i ≡ []
unfolding paints_from
lines_end profile between i lines past = rw (drop_all i lines past) refl

-- ---- numbers

abbrev pub counts_left : ℕ → ℕ → List Paint → ℕ → List Data
counts_left line start paints i = counted line start (drop i paints)

pub paint_next : (line start i : ℕ) (paints : List Paint) (d : Paint) → i < length paints
    → counts_left line start paints i ≡ paint_counts line start (get_or paints i d)
    ++ counts_left (get_or paints i d).line (get_or paints i d).start paints (i + 1)
unfolding counted
paint_next line start i paints d within = ap (λ (ps : List Paint). counted line start ps) (cut paints i d within)

pub paints_end : (line start i : ℕ) (paints : List Paint) → length paints ≤ i → counts_left line start paints i ≡ []
unfolding counted
paints_end line start i paints past = rw (drop_all i paints past) refl
