-- Bytes of an image, one after another.
use Rattle.std.proofs.Common.{◌≡◌, ◌∙◌, ℕ, suc, ◌+◌, ◌-◌, ◌<◌, ◌≤◌, List, [], ◌++◌, Option, append_assoc, append-nil, arith, ap, sym, add_assoc}
use Rattle.remarked_source.specs.Rows.{byte_column, byte_columns}

pub columns_more : (image : List (Option ℕ)) (n address i : ℕ) (out new whole : List ℕ) → i < n → new ≡ out ++ byte_column image (address + i)
    → out ++ byte_columns image (n - i) (address + i) ≡ whole → new ++ byte_columns image (n - (i + 1)) (address + (i + 1)) ≡ whole
unfolding byte_columns
columns_more image n address i out new whole h put w =
    let one : n - i ≡ suc (n - (i + 1)) = omega (arith, h) in
    let next : address + (i + 1) ≡ address + i + 1 = omega arith in
    rw (put, next) (append_assoc out (byte_column image (address + i)) (byte_columns image (n - (i + 1)) (address + i + 1)) ∙ rw one at w)

pub columns_end : (image : List (Option ℕ)) (n address i : ℕ) (out : List ℕ) → n ≤ i → out ++ byte_columns image (n - i) (address + i) ≡ out
unfolding byte_columns
columns_end image n address i out h = let none : n - i ≡ 0 = omega (arith, h) in rw none (append-nil out)
