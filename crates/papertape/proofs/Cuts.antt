-- The cuts of an image write the image.
use Rattle.std.proofs.Common.{◌≡◌, ℕ, zero, suc, ◌+◌, ◌-◌, ◌≤◌, List, [], ◌∷◌, ◌++◌, map, length, take, replicate, set, Option, None, Some, refl, sym, ap, ◌∙◌, arith, append_assoc}
use Rattle.std.proofs.lemmas.List.{set_at, length-append}
use Rattle.model.specs.Image.{empty_image, with_bytes}
use Rattle.papertape.specs.Writing.{front_bytes, cuts, cut_writes}

abbrev none : ℕ → List (Option ℕ)
none n = replicate n None

-- the image with no byte, whose size is met here alone
empty_is : (n : ℕ) → n ≡ 65536 → none n ≡ empty_image
unfolding empty_image
empty_is n e = ap none e

abbrev some : List ℕ → List (Option ℕ)
some bytes = map (λ b. Some b) bytes

front-take : (n : ℕ) (cells : List (Option ℕ)) → some (front_bytes n cells) ≡ take (length (front_bytes n cells)) cells
front-take zero cells = refl
front-take (suc n) [] = refl
front-take (suc n) (None ∷ cells) = refl
front-take (suc n) (Some b ∷ cells) = ap (λ (x : List (Option ℕ)). Some b ∷ x) (front-take n cells)

pub front_short : (n : ℕ) (cells : List (Option ℕ)) → length (front_bytes n cells) ≤ length cells
front_short zero cells = omega arith
front_short (suc n) [] = omega arith
front_short (suc n) (None ∷ cells) = omega arith
front_short (suc n) (Some b ∷ cells) = let h = front_short n cells in omega (arith, h)

-- bytes with_bytes where nothing is
stored_front : (bytes : List ℕ) (front : List (Option ℕ)) (n address : ℕ) → length front ≡ address
    → with_bytes (front ++ none (length bytes + n)) address bytes ≡ front ++ (some bytes ++ none n)
stored_front [] front n address h = ap (λ k. front ++ none k) (omega arith)
stored_front (b ∷ bytes) front n address h =
    let k : length (b ∷ bytes) + n ≡ suc (length bytes + n) = omega arith in
    let one : set (front ++ none (length (b ∷ bytes) + n)) address (Some b) ≡ (front ++ Some b ∷ []) ++ none (length bytes + n) =
    ap (λ m. set (front ++ none m) address (Some b)) k ∙ set_at front None (none (length bytes + n)) (Some b) address h
    ∙ sym (append_assoc front (Some b ∷ []) (none (length bytes + n))) in
    ap (λ (x : List (Option ℕ)). with_bytes x (address + 1) bytes) one
    ∙ stored_front bytes (front ++ Some b ∷ []) n (address + 1) (omega (arith, length-append front (Some b ∷ [])))
    ∙ append_assoc front (Some b ∷ []) (some bytes ++ none n)

-- the first cells are there already
pub cuts_write : (cells front : List (Option ℕ)) (address covered : ℕ) → length front ≡ address → covered ≤ length cells
    → cut_writes (front ++ (take covered cells ++ none (length cells - covered))) (cuts address covered cells) ≡ front ++ cells
cuts_write [] front address covered h le =
    let z : covered ≡ 0 = omega arith in
    rw z refl
cuts_write (c ∷ cells) front address (suc n) h le =
    let k : length (c ∷ cells) - suc n ≡ length cells - n = omega arith in
    ap (λ m. cut_writes (front ++ (c ∷ (take n cells ++ none m))) (cuts (address + 1) n cells)) k
    ∙ ap (λ (x : List (Option ℕ)). cut_writes x (cuts (address + 1) n cells)) (sym (append_assoc front (c ∷ []) (take n cells ++ none (length cells - n))))
    ∙ cuts_write cells (front ++ c ∷ []) (address + 1) n (omega (arith, length-append front (c ∷ []))) (omega arith)
    ∙ append_assoc front (c ∷ []) cells
cuts_write (None ∷ cells) front address zero h le =
    let nothing : Option ℕ = None in
    let k : length (nothing ∷ cells) - 0 ≡ suc (length cells - 0) = omega arith in
    ap (λ m. cut_writes (front ++ none m) (cuts (address + 1) 0 cells)) k
    ∙ ap (λ (x : List (Option ℕ)). cut_writes x (cuts (address + 1) 0 cells)) (sym (append_assoc front (None ∷ []) (none (length cells - 0))))
    ∙ cuts_write cells (front ++ None ∷ []) (address + 1) 0 (omega (arith, length-append front (None ∷ []))) (omega arith)
    ∙ append_assoc front (None ∷ []) cells
cuts_write (Some b ∷ cells) front address zero h le =
    let f = front_bytes 23 cells in
    let short = front_short 23 cells in
    let n = length cells - length f in
    let k : length (Some b ∷ cells) - 0 ≡ length (b ∷ f) + n = omega arith in
    let wrote : with_bytes (front ++ none (length (Some b ∷ cells) - 0)) address (b ∷ f) ≡ (front ++ Some b ∷ []) ++ (take (length f) cells ++ none n) =
    ap (λ m. with_bytes (front ++ none m) address (b ∷ f)) k ∙ stored_front (b ∷ f) front n address h
    ∙ ap (λ (x : List (Option ℕ)). front ++ (Some b ∷ (x ++ none n))) (front-take 23 cells)
    ∙ sym (append_assoc front (Some b ∷ []) (take (length f) cells ++ none n)) in
    ap (λ (x : List (Option ℕ)). cut_writes x (cuts (address + 1) (length f) cells)) wrote
    ∙ cuts_write cells (front ++ Some b ∷ []) (address + 1) (length f) (omega (arith, length-append front (Some b ∷ []))) short
    ∙ append_assoc front (Some b ∷ []) cells

-- the cuts of a whole image write it
pub whole_write : (cells : List (Option ℕ)) → length cells ≡ 65536 → cut_writes empty_image (cuts 0 0 cells) ≡ cells
whole_write cells h =
    ap (λ (x : List (Option ℕ)). cut_writes x (cuts 0 0 cells)) (sym (empty_is (length cells - 0) (omega arith)))
    ∙ cuts_write cells [] 0 0 refl (omega arith)
