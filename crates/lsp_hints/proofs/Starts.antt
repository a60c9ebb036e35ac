-- How a line begins.
use Rattle.std.proofs.Common.{◌≡◌, ◌<◌, ◌≤◌, Bool, true, false, List, [], ◌∷◌, length, refl, sym, ◌∙◌, arith, get_or}
use Rattle.line_parts.specs.Lexemes.{lexeme_of, lexemes}
use Rattle.line_parts.specs.declared.token.Token.{Token}
use Rattle.lsp_hints.specs.Folds.{is_label}
use Rattle.lsp_hints.specs.Painted.{starts_definition}
use Rattle.model.specs.declared.instruction.Profile.{Profile}
use Rattle.name_uses.specs.Uses.{is_name_token}
use Rattle.source_notes.specs.Operands.{is_symbol}

pub no_label : (profile : Profile) (tokens : List Token) → length tokens < 2 → false ≡ is_label profile (lexemes tokens)
no_label profile [] few = refl
no_label profile (t ∷ []) few = refl
no_label profile (t ∷ mark ∷ ts) few = absurd (omega (arith, few))

pub label_then : (profile : Profile) (tokens : List Token) (c d : Token) (named is : Bool) → 2 ≤ length tokens
    → named ≡ is_name_token profile (lexeme_of (get_or tokens 0 c)) → named ≡ true
    → is ≡ is_symbol (get_or tokens 1 d) 58 → is ≡ is_label profile (lexemes tokens)
label_then profile [] c d named is enough h p k = absurd (omega (arith, enough))
label_then profile (t ∷ []) c d named is enough h p k = absurd (omega (arith, enough))
label_then profile (t ∷ mark ∷ ts) c d named is enough h p k = rw (sym h ∙ p) k

pub label_else : (profile : Profile) (tokens : List Token) (c : Token) (named : Bool) → 2 ≤ length tokens
    → named ≡ is_name_token profile (lexeme_of (get_or tokens 0 c)) → named ≡ false
    → named ≡ is_label profile (lexemes tokens)
label_else profile [] c named enough h p = absurd (omega (arith, enough))
label_else profile (t ∷ []) c named enough h p = absurd (omega (arith, enough))
label_else profile (t ∷ mark ∷ ts) c named enough h p = rw (sym h ∙ p) p

pub no_definition : (tokens : List Token) → length tokens < 2 → false ≡ starts_definition (lexemes tokens)
no_definition [] few = refl
no_definition (t ∷ []) few = refl
no_definition (t ∷ mark ∷ ts) few = absurd (omega (arith, few))

pub definition_then : (tokens : List Token) (c : Token) (is : Bool) → 2 ≤ length tokens → is ≡ is_symbol (get_or tokens 1 c) 58 → is ≡ true
    → is ≡ starts_definition (lexemes tokens)
definition_then [] c is enough h p = absurd (omega (arith, enough))
definition_then (t ∷ []) c is enough h p = absurd (omega (arith, enough))
definition_then (t ∷ mark ∷ ts) c is enough h p = rw (sym h ∙ p) p

pub definition_else : (tokens : List Token) (c d : Token) (is last : Bool) → 2 ≤ length tokens → is ≡ is_symbol (get_or tokens 1 c) 58 → is ≡ false
    → last ≡ is_symbol (get_or tokens 1 d) 61
    → last ≡ starts_definition (lexemes tokens)
definition_else [] c d is last enough h p k = absurd (omega (arith, enough))
definition_else (t ∷ []) c d is last enough h p k = absurd (omega (arith, enough))
definition_else (t ∷ mark ∷ ts) c d is last enough h p k = rw (sym h ∙ p) k
