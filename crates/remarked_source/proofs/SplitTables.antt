-- Lines with labels in tables, one after another.
use Rattle.std.proofs.Common.{◌≡◌, ◌∙◌, ℕ, zero, suc, ◌+◌, ◌-◌, ◌<◌, ◌≤◌, List, [], ◌∷◌, ◌++◌, length, drop, Bool, true, false, Option, Some, None, append_assoc, append-nil, add-one, arith, ap, refl, drop_of_length-le}
use Rattle.std.specs.Prelude.{is_some, slice_get}
use Rattle.assembler.specs.Lines.{LineView}
use Rattle.marks_files.specs.declared.marks.Split.{Split}
use Rattle.remarked_source.proofs.Lines.{cut}
use Rattle.remarked_source.specs.Splits.{byte_line, byte_lines, entry_at, has_entry, leads_by, leads_in, split_from, split_row, target_at}

-- ---- lines

pub line_more : (image : List (Option ℕ)) (splits : List Split) (lines : List LineView) (before : Option LineView) (i : ℕ) (ls : List LineView)
    (l : LineView) (out new whole : List ℕ) → slice_get ls i ≡ Some l → new ≡ out ++ split_row image splits lines before l
    → out ++ split_from image splits lines before (drop i ls) ≡ whole → new ++ split_from image splits lines (Some l) (drop (i + 1) ls) ≡ whole
unfolding split_from
line_more image splits lines before i ls l out new whole is put w =
    rw (put, add-one) (append_assoc out (split_row image splits lines before l) (split_from image splits lines (Some l) (drop (suc i) ls))
    ∙ rw (cut ls i l is) at w)

pub lines_end : (image : List (Option ℕ)) (splits : List Split) (lines : List LineView) (before : Option LineView) (i : ℕ) (ls : List LineView)
    (out : List ℕ) → length ls ≤ i → out ++ split_from image splits lines before (drop i ls) ≡ out
unfolding split_from
lines_end image splits lines before i ls out h = rw (drop_of_length-le ls h) (append-nil out)

-- ---- bytes

pub bytes_more : (image : List (Option ℕ)) (splits : List Split) (lines : List LineView) (n address i : ℕ) (out new whole : List ℕ) → i < n
    → new ≡ out ++ byte_line image lines (address + i) (entry_at image splits (address + i))
    → out ++ byte_lines image splits lines (n - i) (address + i) ≡ whole → new ++ byte_lines image splits lines (n - (i + 1)) (address + (i + 1)) ≡ whole
unfolding byte_lines
bytes_more image splits lines n address i out new whole h put w =
    let one : n - i ≡ suc (n - (i + 1)) = omega (arith, h) in
    let next : address + (i + 1) ≡ address + i + 1 = omega arith in
    rw (put, next) (append_assoc out (byte_line image lines (address + i) (entry_at image splits (address + i)))
    (byte_lines image splits lines (n - (i + 1)) (address + i + 1)) ∙ rw one at w)

pub bytes_end : (image : List (Option ℕ)) (splits : List Split) (lines : List LineView) (n address i : ℕ) (out : List ℕ) → n ≤ i
    → out ++ byte_lines image splits lines (n - i) (address + i) ≡ out
unfolding byte_lines
bytes_end image splits lines n address i out h = let none : n - i ≡ 0 = omega (arith, h) in rw none (append-nil out)

-- ---- whether an address is in a table

pub entry_here : (image : List (Option ℕ)) (splits : List Split) (n address i : ℕ) (whole : Bool) → i < n
    → is_some (entry_at image splits (address + i)) ≡ true → has_entry image splits (n - i) (address + i) ≡ whole → true ≡ whole
unfolding has_entry
entry_here image splits n address i whole h is so_far =
    let one : n - i ≡ suc (n - (i + 1)) = omega (arith, h) in
    rw (one, is) at so_far

pub entry_more : (image : List (Option ℕ)) (splits : List Split) (n address i : ℕ) (whole : Bool) → i < n
    → is_some (entry_at image splits (address + i)) ≡ false → has_entry image splits (n - i) (address + i) ≡ whole
    → has_entry image splits (n - (i + 1)) (address + (i + 1)) ≡ whole
unfolding has_entry
entry_more image splits n address i whole h is so_far =
    let one : n - i ≡ suc (n - (i + 1)) = omega (arith, h) in
    let next : address + (i + 1) ≡ address + i + 1 = omega arith in
    rw next (rw (one, is) at so_far)

pub no_entry : (image : List (Option ℕ)) (splits : List Split) (n address i : ℕ) (whole : Bool) → n ≤ i
    → has_entry image splits (n - i) (address + i) ≡ whole → false ≡ whole
unfolding has_entry
no_entry image splits n address i whole h so_far = let none : n - i ≡ 0 = omega (arith, h) in rw none at so_far

-- ---- whether a word leads between two addresses

pub leads_here : (image : List (Option ℕ)) (split : Split) (low high left : ℕ) (whole : Bool) → 0 < left
    → leads_in low high (target_at image split (left - 1)) ≡ true → leads_by image split left low high ≡ whole → true ≡ whole
unfolding leads_by
leads_here image split low high zero whole some is so_far = absurd (omega (arith, some))
leads_here image split low high (suc n) whole some is so_far = let one : suc n - 1 ≡ n = omega arith in rw (rw one at is) at so_far

pub leads_more : (image : List (Option ℕ)) (split : Split) (low high left : ℕ) (whole : Bool) → 0 < left
    → leads_in low high (target_at image split (left - 1)) ≡ false → leads_by image split left low high ≡ whole
    → leads_by image split (left - 1) low high ≡ whole
unfolding leads_by
leads_more image split low high zero whole some is so_far = absurd (omega (arith, some))
leads_more image split low high (suc n) whole some is so_far = let one : suc n - 1 ≡ n = omega arith in rw one (rw (rw one at is) at so_far)

pub leads_none : (image : List (Option ℕ)) (split : Split) (low high : ℕ) (whole : Bool) → leads_by image split 0 low high ≡ whole → false ≡ whole
unfolding leads_by
leads_none image split low high whole so_far = so_far
