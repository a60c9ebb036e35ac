-- Memory filled with the bytes of an image.
use Rattle.std.proofs.Common.{◌≡◌, ℕ, ◌+◌, ◌<◌, List, [], ◌∷◌, ◌++◌, length, take, get_or, ap, ◌∙◌, sym, arith, Option, Some, None, unwrap_or, add-one}
use Rattle.std.specs.Prelude.{slice_index, slice_set, slice_get}
use Rattle.std.proofs.Math.ListN.{get_or-map}
use Rattle.std.proofs.Math.Seq.{take-suc}
use Rattle.std.proofs.lemmas.List.{take_more_set, length-map, take_all}
use Rattle.std.proofs.lemmas.Option.{get_or_from_slice_get}
use Rattle.model.specs.State.{memory_of}

-- what a cell is filled with
abbrev filled : Option ℕ → ℕ
filled cell = unwrap_or cell 0

-- the byte at each address
pub memory_at : (image : List (Option ℕ)) (k : ℕ) → slice_index (memory_of image) k ≡ unwrap_or (get_or image k None) 0
unfolding memory_of
memory_at image k = get_or-map filled image k None

pub length-memory_of : (image : List (Option ℕ)) → length (memory_of image) ≡ length image
unfolding memory_of
length-memory_of image = length-map image filled

-- one more byte filled in
pub filled_more : (image : List (Option ℕ)) (memory : List ℕ) (k : ℕ) (cell : Option ℕ) → slice_get image k ≡ Some cell → k < length memory → k < length image
    → take k memory ≡ take k (memory_of image) → take (k + 1) (slice_set memory k (unwrap_or cell 0)) ≡ take (k + 1) (memory_of image)
filled_more image memory k cell is below within so_far =
    let byte : unwrap_or cell 0 ≡ get_or (memory_of image) k 0 = sym (memory_at image k ∙ ap filled (get_or_from_slice_get image k cell None is)) in
    let room : k < length (memory_of image) = omega (arith, length-memory_of image) in
    take_more_set memory k (unwrap_or cell 0) below
    ∙ ap (λ xs. xs ++ unwrap_or cell 0 ∷ []) so_far
    ∙ ap (λ b. take k (memory_of image) ++ b ∷ []) byte
    ∙ sym (rw add-one (take-suc (memory_of image) k 0 room))

-- all of it filled in
pub filled_all : (image : List (Option ℕ)) (memory : List ℕ) (k : ℕ) → length memory ≡ k → length image ≡ k
    → take k memory ≡ take k (memory_of image) → memory ≡ memory_of image
filled_all image memory k same size so_far =
    let left : take k memory ≡ memory = take_whole memory k same in
    let right : take k (memory_of image) ≡ memory_of image = take_whole (memory_of image) k (length-memory_of image ∙ size) in
    sym left ∙ so_far ∙ right
  where
    take_whole : (xs : List ℕ) (n : ℕ) → length xs ≡ n → take n xs ≡ xs
    take_whole xs n e = take_all n xs (omega arith)
