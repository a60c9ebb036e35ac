-- What is found piece by piece: what was found, with what is left, is the whole.
use Rattle.std.proofs.Common.{◌≡◌, ◌∙◌, List, [], ◌++◌, sym, ap, append_assoc, append-nil}

module _ {A : Type 0} where
  -- one piece more
  pub gathered : (old new piece left behind whole : List A) → new ≡ old ++ piece → left ≡ piece ++ behind → old ++ left ≡ whole → new ++ behind ≡ whole
  gathered old new piece left behind whole put at so_far =
      ap (λ (xs : List A). xs ++ behind) put ∙ append_assoc old piece behind ∙ sym (ap (λ (xs : List A). old ++ xs) at) ∙ so_far

  -- nothing is left
  pub gathered_all : (found left whole : List A) → left ≡ [] → found ++ left ≡ whole → found ≡ whole
  gathered_all found left whole none so_far = sym (append-nil found) ∙ sym (ap (λ (xs : List A). found ++ xs) none) ∙ so_far

  -- the last piece
  pub gathered_last : (old new piece left whole : List A) → new ≡ old ++ piece → left ≡ piece → old ++ left ≡ whole → new ≡ whole
  gathered_last old new piece left whole put at so_far = put ∙ sym (ap (λ (xs : List A). old ++ xs) at) ∙ so_far

  -- no piece here
  pub passed : (found left behind whole : List A) → left ≡ behind → found ++ left ≡ whole → found ++ behind ≡ whole
  passed found left behind whole at so_far = sym (ap (λ (xs : List A). found ++ xs) at) ∙ so_far
