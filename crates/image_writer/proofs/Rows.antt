-- The rows of an image are records, and put the image.
use Rattle.std.proofs.Common.{◌≡◌, ℕ, zero, suc, ◌+◌, ◌-◌, ◌<◌, ◌≤◌, eqb, cond, Bool, true, false, List, [], ◌∷◌, ◌++◌, map, length, replicate, set, Option, None, Some, refl, sym, ap, ◌∙◌, arith, inl, inr, append_assoc}
use Rattle.std.specs.List.{All, AllByRecursion}
use Rattle.std.proofs.lemmas.Bool.{cases_Bool, eqb-true, eqb-false}
use Rattle.std.proofs.lemmas.List.{append-nil, length-append, length-map, map-append, set_at}
use Rattle.std.proofs.lemmas.List.Elements.{All-head, All-tail}
use Rattle.model.specs.Image.{IsCell, IsImage, empty_image, with_bytes}
use Rattle.model.specs.TapeText.{Stretch}
use Rattle.papertape.proofs.Lines.{AreBytes}
use Rattle.image_writer.specs.Rows.{ended, put_rows, rows}

abbrev Cells : Type 0
Cells = List (Option ℕ)

-- a row that a record holds
pub record IsRow (row : Stretch) : Type 0 where
  pub few : length row.1 ≤ 16
  pub bytes : AreBytes row.1
  pub fits : row.0 + length row.1 ≤ 65536
  pub inside : row.0 < 65536

abbrev AreCells : Cells → Type 0
AreCells [] = Unit {0}
AreCells (c ∷ cells) = IsCell c × AreCells cells

AreCells-image : (cells : Cells) → All IsCell cells → AreCells cells
AreCells-image [] h = tt
AreCells-image (c ∷ cells) h = (All-head IsCell c cells h, AreCells-image cells (All-tail IsCell c cells h))

pub AreBytes-append : (xs ys : List ℕ) → AreBytes xs → AreBytes ys → AreBytes (xs ++ ys)
AreBytes-append [] ys h k = k
AreBytes-append (x ∷ xs) ys h k = (h.0, AreBytes-append xs ys h.1 k)

both : (xs ys : List Stretch) → AllByRecursion IsRow xs → AllByRecursion IsRow ys → AllByRecursion IsRow (xs ++ ys)
both [] ys h k = k
both (x ∷ xs) ys h k = (h.0, both xs ys h.1 k)

ended_is : (address : ℕ) (begun : List ℕ) → AreBytes begun → length begun ≤ 16 → length begun ≤ address → address ≤ 65536
    → AllByRecursion IsRow (ended address begun)
ended_is address [] bytes few after inside = tt
ended_is address (b ∷ begun) bytes few after inside =
    (record { few = few; bytes = bytes; fits = omega (arith, after, inside); inside = omega (arith, after, inside) }, tt)

are_rows : (cells : Cells) (address : ℕ) (begun : List ℕ) → AreCells cells → AreBytes begun → length begun < 16 → length begun ≤ address
    → address + length cells ≤ 65536
    → AllByRecursion IsRow (rows address begun cells)
are_rows [] address begun h bytes few after inside = ended_is address begun bytes (omega (arith, few)) after (omega (arith, inside))
are_rows (None ∷ cells) address begun h bytes few after inside =
    both (ended address begun) (rows (address + 1) [] cells) (ended_is address begun bytes (omega (arith, few)) after (omega (arith, inside)))
    (are_rows cells (address + 1) [] h.1 tt (omega arith) (omega arith) (omega (arith, inside)))
are_rows (Some b ∷ cells) address begun h bytes few after inside =
    let n = length-append begun (b ∷ []) in
    let more = AreBytes-append begun (b ∷ []) bytes (h.0, tt) in
    elim (cases_Bool (eqb (length begun) 15)) [
      | inl full ↦ rw full (both (ended (address + 1) (begun ++ b ∷ [])) (rows (address + 1) [] cells)
          (ended_is (address + 1) (begun ++ b ∷ []) more (omega (arith, few, n)) (omega (arith, after, n)) (omega (arith, inside)))
          (are_rows cells (address + 1) [] h.1 tt (omega arith) (omega arith) (omega (arith, inside))))
      | inr room ↦ rw room (are_rows cells (address + 1) (begun ++ b ∷ []) h.1 more (omega (arith, few, n, eqb-false (length begun) 15 room))
          (omega (arith, after, n)) (omega (arith, inside)))
    ]

-- the rows of an image
pub image_rows : (cells : Cells) → IsImage cells → AllByRecursion IsRow (rows 0 [] cells)
image_rows cells image = are_rows cells 0 [] (AreCells-image cells image.each) tt (omega arith) (omega arith) (omega (arith, image.size))

-- ---- what they put

abbrev none : ℕ → Cells
none n = replicate n None

abbrev some : List ℕ → Cells
some bytes = map (λ b. Some b) bytes

empty_is : (n : ℕ) → n ≡ 65536 → none n ≡ empty_image
unfolding empty_image
empty_is n e = ap none e

-- bytes where nothing is
stored_front : (bytes : List ℕ) (front : Cells) (n address : ℕ) → length front ≡ address
    → with_bytes (front ++ none (length bytes + n)) address bytes ≡ front ++ (some bytes ++ none n)
stored_front [] front n address h = ap (λ k. front ++ none k) (omega arith)
stored_front (b ∷ bytes) front n address h =
    let k : length (b ∷ bytes) + n ≡ suc (length bytes + n) = omega arith in
    let one : set (front ++ none (length (b ∷ bytes) + n)) address (Some b) ≡ (front ++ Some b ∷ []) ++ none (length bytes + n) =
    ap (λ m. set (front ++ none m) address (Some b)) k ∙ set_at front None (none (length bytes + n)) (Some b) address h
    ∙ sym (append_assoc front (Some b ∷ []) (none (length bytes + n))) in
    ap (λ (x : Cells). with_bytes x (address + 1) bytes) one
    ∙ stored_front bytes (front ++ Some b ∷ []) n (address + 1) (omega (arith, length-append front (Some b ∷ [])))
    ∙ append_assoc front (Some b ∷ []) (some bytes ++ none n)

length_some : (bytes : List ℕ) → length (some bytes) ≡ length bytes
length_some bytes = length-map bytes (λ b. Some b)

some_more : (bytes : List ℕ) (b : ℕ) → some (bytes ++ b ∷ []) ≡ some bytes ++ Some b ∷ []
some_more bytes b = map-append (λ (k : ℕ). Some k) bytes (b ∷ [])

put-append : (xs ys : List Stretch) (cells : Cells) → put_rows cells (xs ++ ys) ≡ put_rows (put_rows cells xs) ys
put-append [] ys cells = refl
put-append (x ∷ xs) ys cells = put-append xs ys (with_bytes cells x.0 x.1)

ended_put : (begun : List ℕ) (front : Cells) (n address : ℕ) → length front + length begun ≡ address
    → put_rows (front ++ none (length begun + n)) (ended address begun) ≡ (front ++ some begun) ++ none n
ended_put [] front n address h = ap (λ k. front ++ none k) (omega arith) ∙ ap (λ (x : Cells). x ++ none n) (sym (append-nil front))
ended_put (b ∷ begun) front n address h =
    stored_front (b ∷ begun) front n (address - length (b ∷ begun)) (omega (arith, h)) ∙ sym (append_assoc front (some (b ∷ begun)) (none n))

rows_put : (cells : Cells) (address : ℕ) (begun : List ℕ) (front : Cells) → length front + length begun ≡ address
    → put_rows (front ++ none (length begun + length cells)) (rows address begun cells) ≡ (front ++ some begun) ++ cells
rows_put [] address begun front h = ended_put begun front 0 address h
rows_put (None ∷ cells) address begun front h =
    let nothing : Option ℕ = None in
    let done : Cells = front ++ some begun in
    let zero_more : length cells ≡ 0 + length cells = omega arith in
    let there : length (done ++ nothing ∷ []) + 0 ≡ address + 1 =
    omega (arith, h, length-append done (nothing ∷ []), length-append front (some begun), length_some begun) in
    let ended_here : put_rows (front ++ none (length begun + suc (length cells))) (ended address begun) ≡ (done ++ nothing ∷ []) ++ none (length cells) =
    ended_put begun front (suc (length cells)) address h ∙ sym (append_assoc done (nothing ∷ []) (none (length cells))) in
    put-append (ended address begun) (rows (address + 1) [] cells) (front ++ none (length begun + suc (length cells)))
    ∙ ap (λ (x : Cells). put_rows x (rows (address + 1) [] cells)) ended_here
    ∙ ap (λ (k : ℕ). put_rows ((done ++ nothing ∷ []) ++ none k) (rows (address + 1) [] cells)) zero_more
    ∙ rows_put cells (address + 1) [] (done ++ nothing ∷ []) there
    ∙ ap (λ (x : Cells). x ++ cells) (append-nil (done ++ nothing ∷ []))
    ∙ append_assoc done (nothing ∷ []) cells
rows_put (Some b ∷ cells) address begun front h =
    let byte : Option ℕ = Some b in
    let more : List ℕ = begun ++ b ∷ [] in
    let l = length-append begun (b ∷ []) in
    let next : length begun + length (byte ∷ cells) ≡ length more + length cells = omega (arith, l) in
    let zero_more : length cells ≡ 0 + length cells = omega arith in
    let back : (front ++ some more) ++ cells ≡ (front ++ some begun) ++ (byte ∷ cells) =
    ap (λ (x : Cells). (front ++ x) ++ cells) (some_more begun b) ∙ ap (λ (x : Cells). x ++ cells) (sym (append_assoc front (some begun) (byte ∷ [])))
    ∙ append_assoc (front ++ some begun) (byte ∷ []) cells in
    let there : length (front ++ some more) + 0 ≡ address + 1 = omega (arith, h, l, length-append front (some more), length_some more) in
    let ended_here = ended_put more front (length cells) (address + 1) (omega (arith, h, l)) in
    let behind = rows_put cells (address + 1) [] (front ++ some more) there in
    let later = rows_put cells (address + 1) more front (omega (arith, h, l)) in
    let full_row : put_rows (front ++ none (length more + length cells)) (ended (address + 1) more ++ rows (address + 1) [] cells)
    ≡ (front ++ some begun) ++ (byte ∷ cells) =
    put-append (ended (address + 1) more) (rows (address + 1) [] cells) (front ++ none (length more + length cells))
    ∙ ap (λ (x : Cells). put_rows x (rows (address + 1) [] cells)) ended_here
    ∙ ap (λ (k : ℕ). put_rows ((front ++ some more) ++ none k) (rows (address + 1) [] cells)) zero_more
    ∙ behind
    ∙ ap (λ (x : Cells). x ++ cells) (append-nil (front ++ some more))
    ∙ back in
    let step : put_rows (front ++ none (length more + length cells)) (rows address begun (byte ∷ cells)) ≡ (front ++ some begun) ++ (byte ∷ cells) =
    elim (cases_Bool (eqb (length begun) 15)) [
      | inl full ↦ rw full full_row
      | inr room ↦ rw room (later ∙ back)
    ] in
    ap (λ (k : ℕ). put_rows (front ++ none k) (rows address begun (byte ∷ cells))) next ∙ step

-- the rows of a whole image put it
pub whole_put : (cells : Cells) → length cells ≡ 65536 → put_rows empty_image (rows 0 [] cells) ≡ cells
whole_put cells h =
    let zero_more : length cells ≡ 0 + length cells = omega arith in
    ap (λ (x : Cells). put_rows x (rows 0 [] cells)) (sym (empty_is (length cells) h) ∙ ap none zero_more)
    ∙ rows_put cells 0 [] [] refl
