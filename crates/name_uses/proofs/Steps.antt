-- The way along the tokens of a line, and along the lines of a source.
use Rattle.std.proofs.Common.{◌≡◌, ◌∙◌, ℕ, ◌+◌, ◌<◌, ◌≤◌, Bool, true, false, List, [], ◌∷◌, ◌++◌, length, drop, refl, sym, ap, append_assoc, append-nil, get_or, add-one, drop-cons}
use Rattle.std.proofs.lemmas.List.{drop_all, map-append, nil_from_length}
use Rattle.line_parts.specs.Lexemes.{lexeme_of, lexemes}
use Rattle.line_parts.specs.declared.token.Token.{Token}
use Rattle.model.specs.Source.{is_end, read_lines, up_to_end}
use Rattle.model.specs.SourceLine.{read_line}
use Rattle.model.specs.TextLines.{lines_from, lines_of}
use Rattle.model.specs.declared.instruction.Profile.{Profile}
use Rattle.name_uses.specs.Uses.{Use, is_name_token, line_uses, use_of, uses_from, uses_in, uses_of}
use Rattle.name_uses.specs.Views.{use_view, use_views}
use Rattle.name_uses.specs.declared.name_use.NameUse.{NameUse}

-- ---- tokens

-- the names among the tokens from an index on
abbrev pub uses_left : Profile → ℕ → Bool → List Token → ℕ → List Use
uses_left profile number defines tokens i = uses_in profile number defines (lexemes (drop i tokens))

opened : (profile : Profile) (number i : ℕ) (defines : Bool) (tokens : List Token) (d : Token) → i < length tokens
    → uses_left profile number defines tokens i ≡ uses_in profile number defines (lexeme_of (get_or tokens i d) ∷ lexemes (drop (i + 1) tokens))
opened profile number i defines tokens d within =
    let cut : drop i tokens ≡ get_or tokens i d ∷ drop (i + 1) tokens = rw (add-one, drop-cons tokens i d) refl in
    ap (λ (ts : List Token). uses_in profile number defines (lexemes ts)) cut

-- a token that is no name
pub no_name : (profile : Profile) (number i : ℕ) (defines : Bool) (tokens : List Token) (d : Token) (found whole : List Use) → i < length tokens
    → is_name_token profile (lexeme_of (get_or tokens i d)) ≡ false → found ++ uses_left profile number defines tokens i ≡ whole
    → found ++ uses_left profile number defines tokens (i + 1) ≡ whole
unfolding uses_in
no_name profile number i defines tokens d found whole within other so_far =
    let at : uses_left profile number defines tokens i ≡ uses_left profile number defines tokens (i + 1) =
    opened profile number i defines tokens d within ∙ rw other refl in
    sym (ap (λ (us : List Use). found ++ us) at) ∙ so_far

-- a name
pub one_name : (profile : Profile) (number i : ℕ) (defines : Bool) (tokens : List Token) (d : Token) (old new : List NameUse) (u : NameUse)
    (whole : List Use) → i < length tokens
    → is_name_token profile (lexeme_of (get_or tokens i d)) ≡ true → new ≡ old ++ u ∷ [] → use_view u ≡ use_of number defines (lexeme_of (get_or tokens i d))
    → use_views old ++ uses_left profile number defines tokens i ≡ whole → use_views new ++ uses_left profile number false tokens (i + 1) ≡ whole
unfolding uses_in
one_name profile number i defines tokens d old new u whole within named put same so_far =
    let at : uses_left profile number defines tokens i ≡ use_of number defines (lexeme_of (get_or tokens i d))
    ∷ uses_left profile number false tokens (i + 1) = opened profile number i defines tokens d within ∙ rw named refl in
    let left = uses_left profile number false tokens (i + 1) in
    let pushed : use_views new ≡ use_views old ++ use_view u ∷ [] = ap use_views put ∙ map-append use_view old (u ∷ []) in
    ap (λ (us : List Use). us ++ left) pushed ∙ append_assoc (use_views old) (use_view u ∷ []) left
    ∙ ap (λ (x : Use). use_views old ++ x ∷ left) same ∙ sym (ap (λ (us : List Use). use_views old ++ us) at) ∙ so_far

pub tokens_done : (profile : Profile) (number i : ℕ) (defines : Bool) (tokens : List Token) (found whole : List Use) → length tokens ≤ i
    → found ++ uses_left profile number defines tokens i ≡ whole → found ≡ whole
unfolding uses_in
tokens_done profile number i defines tokens found whole past so_far =
    let none : uses_left profile number defines tokens i ≡ [] = rw (drop_all i tokens past) refl in
    sym (append-nil found) ∙ sym (ap (λ (us : List Use). found ++ us) none) ∙ so_far

-- ---- lines

-- the names of the lines that are still to be read
abbrev pub lines_left : Profile → ℕ → List ℕ → List Use
lines_left profile number rest = uses_from profile number (up_to_end profile (lines_of rest))

pub starts : (profile : Profile) (source : List ℕ) (found : List NameUse) → found ≡ [] → use_views found ++ lines_left profile 1 source ≡ uses_of profile source
unfolding uses_of read_lines
starts profile source found none = rw none refl

-- a line that others follow
pub line_more : (profile : Profile) (number : ℕ) (rest text behind : List ℕ) (old new whole : List Use) → lines_of rest ≡ text ∷ lines_of behind
    → is_end (read_line profile text) ≡ false
    → new ≡ old ++ line_uses profile number text → old ++ lines_left profile number rest ≡ whole → new ++ lines_left profile (number + 1) behind ≡ whole
unfolding uses_from
line_more profile number rest text behind old new whole cut more put so_far =
    let at : lines_left profile number rest ≡ line_uses profile number text ++ lines_left profile (number + 1) behind = rw (cut, more) refl in
    ap (λ (us : List Use). us ++ lines_left profile (number + 1) behind) put
    ∙ append_assoc old (line_uses profile number text) (lines_left profile (number + 1) behind)
    ∙ sym (ap (λ (us : List Use). old ++ us) at) ∙ so_far

-- the line of `.END`
pub line_last : (profile : Profile) (number : ℕ) (rest text behind : List ℕ) (old new whole : List Use) → lines_of rest ≡ text ∷ lines_of behind
    → is_end (read_line profile text) ≡ true
    → new ≡ old ++ line_uses profile number text → old ++ lines_left profile number rest ≡ whole → new ≡ whole
unfolding uses_from
line_last profile number rest text behind old new whole cut last put so_far =
    let at : lines_left profile number rest ≡ line_uses profile number text ++ [] = rw (cut, last) refl in
    put ∙ sym (ap (λ (us : List Use). old ++ us) (append-nil (line_uses profile number text))) ∙ sym (ap (λ (us : List Use). old ++ us) at) ∙ so_far

no_lines : (text : List ℕ) → length text ≡ 0 → lines_of text ≡ []
unfolding lines_from
no_lines text empty = rw (nil_from_length text empty) refl

pub lines_done : (profile : Profile) (number : ℕ) (rest : List ℕ) (found whole : List Use) → length rest ≡ 0
    → found ++ lines_left profile number rest ≡ whole → found ≡ whole
unfolding uses_from
lines_done profile number rest found whole empty so_far =
    let none : lines_left profile number rest ≡ [] = rw (no_lines rest empty) refl in
    sym (append-nil found) ∙ sym (ap (λ (us : List Use). found ++ us) none) ∙ so_far
