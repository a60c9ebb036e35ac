-- A token's bytes stand at the front.
use Rattle.std.proofs.Common.{◌≡◌, ℕ, ◌<◌, Bool, true, List, [], ◌∷◌, ◌++◌, length, length-append, drop, refl, ap, sym, ◌∙◌, subst, arith, append_assoc, inl, inr}
use Rattle.std.specs.Prelude.{◌==◌, ◌&&◌, nat_le, if◌then◌else◌, None, Some}
use Rattle.std.proofs.lemmas.Bool.{cases_Bool, false≢true, and_parts, eqb-true, eqb-false}
use Rattle.model.specs.declared.expression.TokenKind.{TokenKind}
use Rattle.model.specs.declared.expression.TokenKind.TheVariants.{Word, Directive, Number, Char, Str, Symbol}
use Rattle.model.specs.Digits.{is_hex_byte}
use Rattle.model.specs.Token.{Found, run_of, begins, is_printable, is_symbol_byte, is_word_byte, is_letter, is_digit, is_binary_byte, is_string_byte, word_token, number_token, directive_token, char_token, string_token, token_at}

-- some bytes, at least one, that others begin with
pub record Front (bytes text : List ℕ) : Type 0 where
  pub behind : List ℕ
  pub spelled : bytes ≡ text ++ behind
  pub some : 0 < length text

abbrev Result : Type 0
Result = TokenKind × List ℕ

run_front : (passes : ℕ → Bool) (bytes : List ℕ) → bytes ≡ run_of passes bytes ++ drop (length (run_of passes bytes)) bytes
run_front passes [] = refl
run_front passes (b ∷ bytes) =
    elim (cases_Bool (passes b)) [
      | inl t ↦ rw t (ap (λ (x : List ℕ). b ∷ x) (run_front passes bytes))
      | inr f ↦ rw f refl
    ]

at_text : (kind : TokenKind) (bytes text : List ℕ) (found : Result) → Some (kind, text) ≡ Some found → Front bytes text → Front bytes found.1
at_text kind bytes text found h front =
    let e : text ≡ found.1 = cc in
    subst (λ x. Front bytes x) e front

not_found : (bytes : List ℕ) (found : Result) → None ≡ Some found → Front bytes found.1
not_found bytes found h = absurd cc

word_front : (bytes : List ℕ) (found : Result) → 0 < length (run_of is_word_byte bytes) → word_token bytes ≡ Some found → Front bytes found.1
word_front bytes found some h =
    elim (cases_Bool (nat_le (length (run_of is_word_byte bytes)) 31)) [
      | inl t ↦
          let k = rw t at h in
          at_text Word bytes (run_of is_word_byte bytes) found k
          (record { behind = drop (length (run_of is_word_byte bytes)) bytes; spelled = run_front is_word_byte bytes; some = some })
      | inr f ↦ let k = rw f at h in not_found bytes found k
    ]

number_front : (mark : List ℕ) (passes : ℕ → Bool) (bytes : List ℕ) (found : Result) → number_token mark passes bytes ≡ Some found
    → Front (mark ++ bytes) found.1
number_front mark passes bytes found h =
    let digits : List ℕ = run_of passes bytes in
    elim (cases_Bool (length digits == 0)) [
      | inl t ↦ let k = rw t at h in not_found (mark ++ bytes) found k
      | inr f ↦
          let k = rw f at h in
          elim (cases_Bool (begins is_word_byte (drop (length digits) bytes))) [
            | inl t ↦ let m = rw t at k in not_found (mark ++ bytes) found m
            | inr g ↦
                let m = rw g at k in
                at_text Number (mark ++ bytes) (mark ++ digits) found m (record {
                  behind = drop (length digits) bytes;
                  spelled = ap (λ (x : List ℕ). mark ++ x) (run_front passes bytes) ∙ sym (append_assoc mark digits (drop (length digits) bytes));
                  some = omega (arith, length-append mark digits, eqb-false _ _ f);
                })
          ]
    ]

directive_front : (bytes : List ℕ) (found : Result) → directive_token bytes ≡ Some found → Front (46 ∷ bytes) found.1
directive_front bytes found h =
    let letters : List ℕ = run_of is_letter bytes in
    elim (cases_Bool (length letters == 0)) [
      | inl t ↦ let k = rw t at h in not_found (46 ∷ bytes) found k
      | inr f ↦
          let k = rw f at h in
          at_text Directive (46 ∷ bytes) (46 ∷ letters) found k (record {
            behind = drop (length letters) bytes;
            spelled = ap (λ (x : List ℕ). 46 ∷ x) (run_front is_letter bytes);
            some = omega arith;
          })
    ]

char_front : (bytes : List ℕ) (found : Result) → char_token bytes ≡ Some found → Front (39 ∷ bytes) found.1
char_front [] found h = not_found (39 ∷ []) found h
char_front (b ∷ []) found h = not_found (39 ∷ b ∷ []) found h
char_front (b ∷ c ∷ bytes) found h =
    elim (cases_Bool (is_printable b && (c == 39))) [
      | inl t ↦
          let k = rw t at h in
          at_text Char (39 ∷ b ∷ c ∷ bytes) (39 ∷ b ∷ 39 ∷ []) found k (record {
            behind = bytes;
            spelled = ap (λ (x : ℕ). 39 ∷ b ∷ x ∷ bytes) (eqb-true c 39 (and_parts (is_printable b) (c == 39) t).1);
            some = omega arith;
          })
      | inr f ↦ let k = rw f at h in not_found (39 ∷ b ∷ c ∷ bytes) found k
    ]

begins_quote : (bytes : List ℕ) → begins (λ b. b == 34) bytes ≡ true → bytes ≡ 34 ∷ drop 1 bytes
begins_quote [] h = absurd (false≢true h)
begins_quote (b ∷ bytes) h = ap (λ (x : ℕ). x ∷ bytes) (eqb-true b 34 h)

string_front : (bytes : List ℕ) (found : Result) → string_token bytes ≡ Some found → Front (34 ∷ bytes) found.1
string_front bytes found h =
    let inside : List ℕ = run_of is_string_byte bytes in
    let rest : List ℕ = drop (length inside) bytes in
    elim (cases_Bool (length inside == 0)) [
      | inl t ↦ let k = rw t at h in not_found (34 ∷ bytes) found k
      | inr f ↦
          let k = rw f at h in
          elim (cases_Bool (begins (λ b. b == 34) rest)) [
            | inl t ↦
                let m = rw t at k in
                at_text Str (34 ∷ bytes) (34 ∷ (inside ++ 34 ∷ [])) found m (record {
                  behind = drop 1 rest;
                  spelled = ap (λ (x : List ℕ). 34 ∷ x) (run_front is_string_byte bytes ∙ ap (λ (x : List ℕ). inside ++ x) (begins_quote rest t)
                      ∙ sym (append_assoc inside (34 ∷ []) (drop 1 rest)));
                  some = omega arith;
                })
            | inr g ↦ let m = rw g at k in not_found (34 ∷ bytes) found m
          ]
    ]

marked : (mark b : ℕ) (bytes text : List ℕ) → (b == mark) ≡ true → Front (mark ∷ bytes) text → Front (b ∷ bytes) text
marked mark b bytes text t front = subst (λ x. Front (x ∷ bytes) text) (sym (eqb-true b mark t)) front

letter_run : (b : ℕ) (bytes : List ℕ) → is_letter b ≡ true → 0 < length (run_of is_word_byte (b ∷ bytes))
letter_run b bytes t = rw t (omega arith)

if_true : (t : Bool) (x y z : Found) → t ≡ true → (if t then x else y) ≡ z → x ≡ z
if_true t x y z e h = rw e at h

symbol_front : (b : ℕ) (bytes : List ℕ) (found : Result) → (if is_symbol_byte b then Some (Symbol, b ∷ []) else None) ≡ Some found → Front (b ∷ bytes) found.1
symbol_front b bytes found h =
    elim (cases_Bool (is_symbol_byte b)) [
      | inl t ↦ let k = rw t at h in at_text Symbol (b ∷ bytes) (b ∷ []) found k (record { behind = bytes; spelled = refl; some = omega arith })
      | inr f ↦ let k = rw f at h in not_found (b ∷ bytes) found k
    ]

-- a token that begins with a mark, or with none
other_front : (b : ℕ) (bytes : List ℕ) (found : Result)
    → (if b == 36 then number_token (36 ∷ []) is_hex_byte bytes
    else if b == 37 then number_token (37 ∷ []) is_binary_byte bytes
    else if b == 46 then directive_token bytes
    else if b == 39 then char_token bytes
    else if b == 34 then string_token bytes
    else if is_symbol_byte b then Some (Symbol, b ∷ [])
    else None) ≡ Some found
    → Front (b ∷ bytes) found.1
other_front b bytes found h =
    elim (cases_Bool (b == 36)) [
      | inl t ↦ let k = rw t at h in marked 36 b bytes found.1 t (number_front (36 ∷ []) is_hex_byte bytes found k)
      | inr f ↦
          let h1 = rw f at h in
          elim (cases_Bool (b == 37)) [
            | inl t ↦ let k = rw t at h1 in marked 37 b bytes found.1 t (number_front (37 ∷ []) is_binary_byte bytes found k)
            | inr f ↦
                let h2 = rw f at h1 in
                elim (cases_Bool (b == 46)) [
                  | inl t ↦ let k = rw t at h2 in marked 46 b bytes found.1 t (directive_front bytes found k)
                  | inr f ↦
                      let h3 = rw f at h2 in
                      elim (cases_Bool (b == 39)) [
                        | inl t ↦ let k = rw t at h3 in marked 39 b bytes found.1 t (char_front bytes found k)
                        | inr f ↦
                            let h4 = rw f at h3 in
                            elim (cases_Bool (b == 34)) [
                              | inl t ↦ let k = rw t at h4 in marked 34 b bytes found.1 t (string_front bytes found k)
                              | inr f ↦ let h5 = rw f at h4 in symbol_front b bytes found h5
                            ]
                      ]
                ]
          ]
    ]

pub token_front : (bytes : List ℕ) (found : Result) → token_at bytes ≡ Some found → Front bytes found.1
unfolding token_at
token_front [] found h = not_found [] found h
token_front (b ∷ bytes) found h =
    elim (cases_Bool (is_letter b)) [
      | inl t ↦ word_front (b ∷ bytes) found (letter_run b bytes t) (if_true (is_letter b) (word_token (b ∷ bytes)) _ (Some found) t h)
      | inr f ↦
          let k = rw f at h in
          elim (cases_Bool (is_digit b)) [
            | inl t ↦ number_front [] is_digit (b ∷ bytes) found (if_true (is_digit b) (number_token [] is_digit (b ∷ bytes)) _ (Some found) t k)
            | inr f ↦ let m = rw f at k in other_front b bytes found m
          ]
    ]
