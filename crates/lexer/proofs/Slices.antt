-- The tokens of a line are slices of it.
use Rattle.std.proofs.Common.{◌≡◌, ℕ, zero, suc, ◌+◌, ◌-◌, ◌≤◌, List, [], ◌∷◌, length, take, drop, refl, ap, sym, ◌∙◌, subst, arith, inl, inr}
use Rattle.std.specs.Prelude.{◌==◌, None, Some}
use Rattle.std.specs.List.{list_all}
use Rattle.std.specs.Option.{option_map}
use Rattle.std.proofs.lemmas.Bool.{cases_Bool}
use Rattle.std.proofs.lemmas.List.{drop-drop, take_at}
use Rattle.model.specs.Token.{Lexeme, Found, Tokens, AreSlices, TokensAreSlices, is_blank, is_source_byte, found_before, token_at, tokens_from, tokens_of}
use Rattle.lexer.proofs.Fronts.{Front, token_front}

-- tokens from a place on stand also from an earlier place on
earlier : (line : List ℕ) (place other : ℕ) (ts : List Lexeme) → other ≤ place → AreSlices line place ts → AreSlices line other ts
earlier line place other [] le slices = tt
earlier line place other (t ∷ ts) le slices = (omega (arith, slices.0), slices.1, slices.2, slices.3)

ended : (line : List ℕ) (place : ℕ) (ts : List Lexeme) → Some [] ≡ Some ts → AreSlices line place ts
ended line place [] h = tt
ended line place (t ∷ ts) h = absurd cc

next_bytes : (line : List ℕ) (place b : ℕ) (bytes : List ℕ) → drop place line ≡ b ∷ bytes → drop (place + 1) line ≡ bytes
next_bytes line place b bytes at = sym (drop-drop 1 place line) ∙ ap (λ (x : List ℕ). drop 1 x) at

-- a token in front of those that follow it
token_then : (line : List ℕ) (place : ℕ) (t : Lexeme) (behind : Tokens) (ts : List Lexeme) → place ≤ t.start → Front (drop t.start line) t.text
    → option_map (λ us. t ∷ us) behind ≡ Some ts
    → ((us : List Lexeme) → behind ≡ Some us → AreSlices line (t.start + length t.text) us)
    → AreSlices line place ts
token_then line place t None ts le front h next = absurd cc
token_then line place t (Some us) [] le front h next = absurd cc
token_then line place t (Some us) (u ∷ vs) le front h next =
    let same : t ∷ us ≡ u ∷ vs = cc in
    let text : take (length t.text) (drop t.start line) ≡ t.text =
    ap (λ (x : List ℕ). take (length t.text) x) front.spelled ∙ take_at t.text front.behind (length t.text) refl in
    subst (λ x. AreSlices line place x) same (le, front.some, text, next us refl)

at_token : (line : List ℕ) (place : ℕ) (bytes rest : List ℕ) (found : Found) (ts : List Lexeme) → drop place line ≡ bytes → token_at bytes ≡ found
    → found_before place (λ covered. tokens_from (place + 1) covered rest) found ≡ Some ts
    → ((covered : ℕ) (us : List Lexeme) → tokens_from (place + 1) covered rest ≡ Some us → AreSlices line (place + 1 + covered) us)
    → AreSlices line place ts
at_token line place bytes rest None ts at token h next = absurd cc
at_token line place bytes rest (Some (kind, text)) ts at token h next =
    let front : Front bytes text = token_front bytes (kind, text) token in
    let e : place + 1 + (length text - 1) ≡ place + length text = omega (arith, front.some) in
    token_then line place (record { kind = kind; start = place; text = text }) (tokens_from (place + 1) (length text - 1) rest) ts (omega arith)
    (subst (λ x. Front x text) (sym at) front) h
    (λ us k. subst (λ n. AreSlices line n us) e (next (length text - 1) us k))

slices_from : (line : List ℕ) (place covered : ℕ) (bytes : List ℕ) (ts : List Lexeme) → drop place line ≡ bytes
    → tokens_from place covered bytes ≡ Some ts → AreSlices line (place + covered) ts
unfolding tokens_from
slices_from line place covered [] ts at h = ended line (place + covered) ts h
slices_from line place (suc covered) (b ∷ bytes) ts at h =
    let e : place + 1 + covered ≡ place + suc covered = omega arith in
    subst (λ n. AreSlices line n ts) e (slices_from line (place + 1) covered bytes ts (next_bytes line place b bytes at) h)
slices_from line place zero (b ∷ bytes) ts at h =
    let next = next_bytes line place b bytes at in
    elim (cases_Bool (is_blank b)) [
      | inl t ↦ let k = rw t at h in earlier line (place + 1 + 0) (place + 0) ts (omega arith) (slices_from line (place + 1) 0 bytes ts next k)
      | inr f ↦
          let k = rw f at h in
          elim (cases_Bool (b == 59)) [
            | inl t ↦ let m = rw t at k in ended line (place + 0) ts m
            | inr g ↦
                let m = rw g at k in
                earlier line place (place + 0) ts (omega arith)
                (at_token line place (b ∷ bytes) bytes (token_at (b ∷ bytes)) ts at refl m
                (λ covered us i. slices_from line (place + 1) covered bytes us next i))
          ]
    ]

pub all_slices : TokensAreSlices
unfolding tokens_of
all_slices line ts h =
    elim (cases_Bool (list_all is_source_byte line)) [
      | inl t ↦ let k = rw t at h in slices_from line 0 0 line ts refl k
      | inr f ↦ let k : None ≡ Some ts = rw f at h in absurd cc
    ]
