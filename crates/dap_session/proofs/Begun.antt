-- What begins with a word, one after another, and which bytes of a text are ASCII.
use Rattle.std.proofs.Common.{◌≡◌, ◌∙◌, ℕ, zero, suc, ◌+◌, ◌<◌, ◌≤◌, Bool, true, false, List, [], ◌∷◌, ◌++◌, length, drop, get_or, map, refl, sym, ap, append_assoc, append-nil, add-one, arith, drop-cons}
use Rattle.std.proofs.lemmas.Bool.{le-ltb, lt-ltb}
use Rattle.std.proofs.lemmas.List.{drop_all}
use Rattle.std.specs.List.{flat_map}
use Rattle.std.specs.Prelude.{nat_lt, ◌&&◌}
use Rattle.std.specs.Str.{IsAscii, IsNotAscii}
use Rattle.dap_messages.specs.SeenAnswers.{SeenItem}
use Rattle.dap_session.specs.Completions.{is_ascii}

module _ {A B : Type 0} (f : B → List SeenItem) (seen : A → B) where
  -- what is still to come
  unfoldable pub coming : List A → ℕ → List SeenItem
  coming all i = flat_map f (map seen (drop i all))

  pub coming_all : (all : List A) → coming all 0 ≡ flat_map f (map seen all)
  unfolding coming
  coming_all all = refl

  -- one more
  pub coming_more : (all : List A) (i : ℕ) (e : A) (found whole : List SeenItem) → i < length all → found ++ coming all i ≡ whole
      → (found ++ f (seen (get_or all i e))) ++ coming all (i + 1) ≡ whole
  unfolding coming
  coming_more all i e found whole within so_far =
      let cut : drop i all ≡ get_or all i e ∷ drop (i + 1) all = rw (add-one, drop-cons all i e) refl in
      append_assoc found (f (seen (get_or all i e))) (coming all (i + 1))
      ∙ sym (ap (λ (xs : List A). found ++ flat_map f (map seen xs)) cut) ∙ so_far

  pub coming_done : (all : List A) (i : ℕ) (found whole : List SeenItem) → length all ≤ i → found ++ coming all i ≡ whole → found ≡ whole
  unfolding coming
  coming_done all i found whole past so_far =
      let none : coming all i ≡ [] = ap (λ (xs : List A). flat_map f (map seen xs)) (drop_all i all past) in
      sym (append-nil found) ∙ sym (ap (λ (ds : List SeenItem). found ++ ds) none) ∙ so_far

-- ---- ASCII

pub all_ascii : (text : List ℕ) → IsAscii text → is_ascii text ≡ true
all_ascii [] ascii = refl
all_ascii (byte ∷ text) ascii = (λ i. lt-ltb byte 128 (ascii 0) i && is_ascii text) ∙ all_ascii text (λ i. ascii (suc i))

behind_ascii : (b rest : Bool) → rest ≡ false → (b && rest) ≡ false
behind_ascii true rest e = e
behind_ascii false rest e = refl

pub not_ascii : (text : List ℕ) → IsNotAscii text → is_ascii text ≡ false
not_ascii [] (i, past) = absurd (omega (arith, past))
not_ascii (byte ∷ text) (zero, past) = λ i. le-ltb byte 128 past i && is_ascii text
not_ascii (byte ∷ text) (suc i, past) = behind_ascii (nat_lt byte 128) (is_ascii text) (not_ascii text (i, past))
