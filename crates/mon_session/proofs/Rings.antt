-- Lists that a ring holds.
use Rattle.std.proofs.Common.{◌≡◌, ℕ, ◌+◌, ◌-◌, ◌<◌, ◌≤◌, min, suc, List, [], ◌∷◌, ◌++◌, length, take, drop, get_or, refl, sym, ap, ◌∙◌, arith, replicate, inl, inr, Some, None, slice_get, append_assoc, length-append, length-drop, drop-cons, add-one, append-nil}
use Rattle.std.proofs.lemmas.List.{drop-append-le, drop-drop, drop-replicate, length-replicate, length-take, replicate-append-replicate, take-append-drop, take-take, take_all}
use Rattle.std.proofs.lemmas.Bool.Decides.{leb_tells}
use Rattle.std.proofs.lemmas.Option.{get_or_from_slice_get, slice_get-get_or, slice_get_within}
use Rattle.std.proofs.Math.Seq.{drop-append-add, drop-length}
use Rattle.circular_buffer.specs.Buffer.{buffer, keep_last}

module _ {X : Type 0} where
  -- Items that are appended one after another to a ring are the last of all.
  pub keep_last-keep_last : (n : ℕ) (xs ys : List X)
      → keep_last n (keep_last n xs ++ ys) ≡ keep_last n (xs ++ ys)
  keep_last-keep_last n xs ys =
      let front = length xs - n in
      let is_front : keep_last n xs ++ ys ≡ drop front (xs ++ ys)
      = sym (drop-append-le front xs ys (omega arith)) in
      let count : length (drop front (xs ++ ys)) ≡ length (xs ++ ys) - front
      = length-drop front (xs ++ ys) in
      let both : front + (length (drop front (xs ++ ys)) - n) ≡ length (xs ++ ys) - n
      = omega (arith, length-append xs ys) in
      ap (keep_last n) is_front ∙ drop-drop (length (drop front (xs ++ ys)) - n) front (xs ++ ys)
      ∙ ap (λ k. drop k (xs ++ ys)) both

  pub replicate-more : (n : ℕ) (x : X) → replicate n x ++ x ∷ [] ≡ replicate (n + 1) x
  replicate-more n x = replicate-append-replicate n 1 x

  pub keep_last-replicate_more : (n k : ℕ) (xs : List X) (x : X)
      → keep_last n (keep_last n (xs ++ replicate k x) ++ x ∷ [])
      ≡ keep_last n (xs ++ replicate (k + 1) x)
  keep_last-replicate_more n k xs x =
      keep_last-keep_last n (xs ++ replicate k x) (x ∷ [])
      ∙ ap (keep_last n) (append_assoc xs (replicate k x) (x ∷ []) ∙ ap (λ ys. xs ++ ys) (replicate-more k x))

  -- A ring that takes as many equal items as it has room for, or more, holds only these.
  pub keep_last-replicate : (n m : ℕ) (xs : List X) (x : X) → n ≤ m
      → keep_last n (xs ++ replicate m x) ≡ replicate n x
  keep_last-replicate n m xs x h =
      let seam : length (xs ++ replicate m x) - n ≡ length xs + (m - n)
      = omega (arith, length-append xs (replicate m x), length-replicate m x) in
      let left : m - (m - n) ≡ n = omega arith in
      ap (λ k. drop k (xs ++ replicate m x)) seam ∙ drop-append-add xs (replicate m x) (m - n)
      ∙ drop-replicate (m - n) m x ∙ ap (λ k. replicate k x) left

  -- So the number of equal items beyond the room does not matter.
  pub keep_last-min : (n m : ℕ) (xs : List X) (x : X)
      → keep_last n (xs ++ replicate (min m n) x) ≡ keep_last n (xs ++ replicate m x)
  keep_last-min n m xs x = elim (leb_tells n m) [
    | inr few ↦ let is_all : min m n ≡ m = omega arith in ap (λ k. keep_last n (xs ++ replicate k x)) is_all
    | inl enough ↦ let many : n ≤ m = enough.1 in
        let is_room : min m n ≡ n = omega arith in
        ap (λ k. keep_last n (xs ++ replicate k x)) is_room
        ∙ keep_last-replicate n n xs x (omega arith) ∙ sym (keep_last-replicate n m xs x many)
  ]

  -- A ring that has room for its items keeps them.
  pub keep_last-all : (n : ℕ) (xs : List X) → length xs ≤ n → keep_last n (xs ++ []) ≡ xs
  keep_last-all n xs h = let none : length (xs ++ []) - n ≡ 0 = omega (arith, length-append xs []) in
      ap (λ k. drop k (xs ++ [])) none ∙ append-nil xs

  -- The last item of a list, if there is one, and the end of the list from it on.
  pub drop-last : (xs : List X) (x : X) → slice_get xs (length xs - 1) ≡ Some x
      → drop (length xs - 1) xs ≡ x ∷ []
  drop-last xs x h =
      let within : length xs - 1 < length xs = slice_get_within xs (length xs - 1) x h in
      let behind : suc (length xs - 1) ≡ length xs = omega arith in
      drop-cons xs (length xs - 1) x within
      ∙ ap (λ y. y ∷ drop (suc (length xs - 1)) xs) (get_or_from_slice_get xs (length xs - 1) x x h)
      ∙ ap (λ j. x ∷ drop j xs) behind ∙ ap (λ ys. x ∷ ys) (drop-length xs)

  pub drop-none : (xs : List X) → slice_get xs (length xs - 1) ≡ None
      → drop (length xs - 1) xs ≡ []
  drop-none [] h = refl
  drop-none (x ∷ xs) h =
      let last = length (x ∷ xs) - 1 in
      let found : slice_get (x ∷ xs) last ≡ Some (get_or (x ∷ xs) last x)
      = slice_get-get_or (x ∷ xs) last x (omega arith) in
      cc

  -- One item more that moves from the end of a list to the front of another.
  pub take-one_more : (k : ℕ) (xs : List X)
      → take (length (take (length xs - k) xs) - 1) (take (length xs - k) xs)
      ≡ take (length xs - (k + 1)) xs
  take-one_more k xs =
      let m = length xs - k in
      let less : length (take m xs) - 1 ≡ length xs - (k + 1) = omega (arith, length-take m xs) in
      ap (λ j. take j (take m xs)) less ∙ take-take (length xs - (k + 1)) m xs (omega arith)

  pub drop-one_more : (k : ℕ) (xs us : List X)
      → drop (length (take (length xs - k) xs) - 1) (take (length xs - k) xs)
      ++ (drop (length xs - k) xs ++ us)
      ≡ drop (length xs - (k + 1)) xs ++ us
  drop-one_more k xs us =
      let m = length xs - k in
      let ys = take m xs in
      let less : length ys - 1 ≡ length xs - (k + 1) = omega (arith, length-take m xs) in
      let joined : drop (length ys - 1) ys ++ drop m xs ≡ drop (length ys - 1) xs
      = sym (drop-append-le (length ys - 1) ys (drop m xs) (omega arith))
      ∙ ap (drop (length ys - 1)) (take-append-drop m xs) in
      sym (append_assoc (drop (length ys - 1) ys) (drop m xs) us)
      ∙ ap (λ zs. zs ++ us) (joined ∙ ap (λ j. drop j xs) less)

  -- The last item of one list before another, in a ring with room for both.
  pub moved_one : (room : ℕ) (xs us : List X) (x : X) → slice_get xs (length xs - 1) ≡ Some x
      → length xs + length us ≤ room
      → buffer (take room (x ∷ us)) room ≡ buffer (drop (length xs - 1) xs ++ us) room
  moved_one room xs us x h fits =
      let within : length xs - 1 < length xs = slice_get_within xs (length xs - 1) x h in
      ap (λ ys. buffer ys room)
      (take_all room (x ∷ us) (omega arith) ∙ ap (λ ys. ys ++ us) (sym (drop-last xs x h)))
