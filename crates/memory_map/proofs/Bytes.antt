-- The bytes of the memory that an image fills, one after another.
use Rattle.std.proofs.Common.{◌≡◌, ℕ, ◌+◌, ◌<◌, List, [], ◌∷◌, ◌++◌, length, take, sym, ap, ◌∙◌, get_or, add-one}
use Rattle.std.specs.Prelude.{Option, None, unwrap_or, map}
use Rattle.std.proofs.lemmas.List.{get_or-map, length-map}
use Rattle.std.proofs.Math.Seq.{take-suc}
use Rattle.model.specs.State.{memory_of}

-- an image fills as many bytes as it has cells
pub memory_size : (image : List (Option ℕ)) → length (memory_of image) ≡ length image
unfolding memory_of
memory_size image = length-map image (λ cell. unwrap_or cell 0)

-- one byte more
pub next_byte : (image : List (Option ℕ)) (i : ℕ) (cell : Option ℕ) → i < length image → cell ≡ get_or image i None
    → take (i + 1) (memory_of image) ≡ take i (memory_of image) ++ (unwrap_or cell 0 ∷ [])
unfolding memory_of
next_byte image i cell within is =
    let size : i < length (map (λ (c : Option ℕ). unwrap_or c 0) image) = rw (length-map image (λ (c : Option ℕ). unwrap_or c 0)) within in
    rw add-one (take-suc (map (λ (c : Option ℕ). unwrap_or c 0) image) i 0 size
    ∙ ap (λ (b : ℕ). take i (map (λ (c : Option ℕ). unwrap_or c 0) image) ++ (b ∷ []))
    (get_or-map (λ (c : Option ℕ). unwrap_or c 0) image i None 0 within ∙ ap (λ (c : Option ℕ). unwrap_or c 0) (sym is)))
