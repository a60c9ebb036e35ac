-- What is separated by commas, one at a time, whatever is read between them.
use Rattle.std.proofs.Common.{◌≡◌, ℕ, zero, suc, ◌+◌, Bool, true, false, cond, List, [], ◌∷◌, ◌++◌, refl, ap, sym, append_assoc, drop}
use Rattle.std.specs.Prelude.{Option, Some, None}
use Rattle.std.specs.Option.{option_map, option_and_then}
use Rattle.std.proofs.lemmas.List.{drop-drop}
use Rattle.model.specs.Token.{Lexeme}
use Rattle.model.specs.Reading.{is_symbol}
use Rattle.model.specs.SourceLine.{list_within, list_after}
use Rattle.asm_line.specs.Lists.{goes_on}

-- what is read of the beginning of some tokens, and the tokens after it
abbrev pub Reader : Type 0 → Type 0
Reader A = List Lexeme → Option (A × List Lexeme)

-- what was read before what is read
abbrev pub before : {A : Type 0} → List A → Option (List A) → Option (List A)
before front rest = option_map (λ xs. front ++ xs) rest

pub none_before : {A : Type 0} (rest : Option (List A)) → before [] rest ≡ rest
none_before None = refl
none_before (Some xs) = refl

-- one, and what is read after it
abbrev pub then_read : {A : Type 0} → (List Lexeme → Option (List A)) → A → List Lexeme → Bool → Option (List A)
then_read more a ts false = Some (a ∷ [])
then_read more a ts true = option_map (λ rest. a ∷ rest) (more (drop 1 ts))

list_after_is : {A : Type 0} (more : List Lexeme → Option (List A)) (a : A) (ts : List Lexeme)
    → list_after more a ts ≡ option_and_then (λ go. then_read more a ts go) (goes_on ts)
list_after_is more a [] = refl
list_after_is more a (c ∷ ts) = by (is_symbol 44 c)
  where
    by : (t : Bool) → cond t (option_map (λ rest. a ∷ rest) (more ts)) None ≡ option_and_then (λ go. then_read more a (c ∷ ts) go) (cond t (Some true) None)
    by true = refl
    by false = refl

one_more : {A : Type 0} (front : List A) (a : A) (rest : Option (List A)) → before front (option_map (λ xs. a ∷ xs) rest) ≡ before (front ++ a ∷ []) rest
one_more front a None = refl
one_more front a (Some xs) = ap Some (sym (append_assoc front (a ∷ []) xs))

-- nothing is read
pub none_read : {A : Type 0} (read : Reader A) (front : List A) (n : ℕ) (ts : List Lexeme) → read ts ≡ None → before front (list_within read n ts) ≡ None
unfolding list_within
none_read read front zero ts none = refl
none_read read front (suc n) ts none = rw none refl

-- tokens after those that were taken
taken_after : (at taken : ℕ) (ls : List Lexeme) → drop taken (drop at ls) ≡ drop (at + taken) ls
taken_after at taken ls = drop-drop taken at ls

after_comma : (at : ℕ) (ls : List Lexeme) → drop 1 (drop at ls) ≡ drop (at + 1) ls
after_comma at ls = taken_after at 1 ls

-- the last one
pub last_read : {A : Type 0} (read : Reader A) (front : List A) (n m at taken : ℕ) (ls : List Lexeme) (a : A)
    → n ≡ suc m → read (drop at ls) ≡ Some (a, drop taken (drop at ls)) → goes_on (drop (at + taken) ls) ≡ Some false
    → before front (list_within read n (drop at ls)) ≡ Some (front ++ a ∷ [])
unfolding list_within
last_read read front n m at taken ls a count found last = rw (count, found, list_after_is, taken_after, last) refl

-- one that another follows
pub more_read : {A : Type 0} (read : Reader A) (front : List A) (n m at taken : ℕ) (ls : List Lexeme) (a : A)
    → n ≡ suc m → read (drop at ls) ≡ Some (a, drop taken (drop at ls)) → goes_on (drop (at + taken) ls) ≡ Some true
    → before front (list_within read n (drop at ls)) ≡ before (front ++ a ∷ []) (list_within read m (drop (at + taken + 1) ls))
unfolding list_within
more_read read front n m at taken ls a count found more = rw (count, found, list_after_is, taken_after, more, after_comma)
    (one_more front a (list_within read m (drop (at + taken + 1) ls)))

-- one that another token follows
pub wrong_read : {A : Type 0} (read : Reader A) (front : List A) (n m at taken : ℕ) (ls : List Lexeme) (a : A)
    → n ≡ suc m → read (drop at ls) ≡ Some (a, drop taken (drop at ls)) → goes_on (drop (at + taken) ls) ≡ None
    → before front (list_within read n (drop at ls)) ≡ None
unfolding list_within
wrong_read read front n m at taken ls a count found wrong = rw (count, found, list_after_is, taken_after, wrong) refl

-- none of none
pub zero_read : {A : Type 0} (read : Reader A) (front : List A) (n : ℕ) (ts : List Lexeme) → n ≡ 0 → before front (list_within read n ts) ≡ None
unfolding list_within
zero_read read front n ts none = rw none refl
