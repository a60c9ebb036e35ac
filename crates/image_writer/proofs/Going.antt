-- The records of an image, cell by cell.
use Rattle.std.proofs.Common.{◌≡◌, ℕ, ◌+◌, ◌-◌, ◌<◌, ◌≤◌, eqb, Bool, true, false, List, [], ◌∷◌, ◌++◌, length, drop, get_or, Option, None, Some, Result, Ok, Err, IfOk, refl, sym, ap, ◌∙◌, arith, append_assoc}
use Rattle.std.specs.List.{flat_map}
use Rattle.std.proofs.lemmas.List.{append-nil, drop_all, drop_more}
use Rattle.std.proofs.lemmas.Bool.{eq-eqb, ne_eqb}
use Rattle.model.specs.TapeText.{Stretch}
use Rattle.image_reader.specs.declared.form.TextForm.{TextForm}
use Rattle.image_writer.specs.ImageTexts.{end_text, front_text, image_text, row_text}
use Rattle.image_writer.specs.Rows.{ended, rows}

-- what is written of stretches
abbrev pub texts : TextForm → List Stretch → List ℕ
texts form rs = flat_map (row_text form) rs

texts_append : (form : TextForm) (xs ys : List Stretch) → texts form (xs ++ ys) ≡ texts form xs ++ texts form ys
texts_append form [] ys = refl
texts_append form (x ∷ xs) ys = ap (λ (t : List ℕ). row_text form x ++ t) (texts_append form xs ys)
    ∙ sym (append_assoc (row_text form x) (texts form xs) (texts form ys))

pub ended_none : (form : TextForm) (address : ℕ) (row out : List ℕ) → length row ≡ 0 → out ≡ out ++ texts form (ended address row)
ended_none form address [] out e = sym (append-nil out)
ended_none form address (b ∷ row) out e = absurd (omega (arith, e))

pub ended_some : (form : TextForm) (address start : ℕ) (row slice out new : List ℕ) → new ≡ out ++ row_text form (start, slice) → slice ≡ row
    → 0 < length row → start ≡ address - length row
    → new ≡ out ++ texts form (ended address row)
ended_some form address start [] slice out new h same some e = absurd (omega (arith, some))
ended_some form address start (b ∷ row) slice out new h same some e =
    h ∙ ap (λ (k : ℕ). out ++ row_text form (k, slice)) e ∙ ap (λ (r : List ℕ). out ++ row_text form (address - length (b ∷ row), r)) same
    ∙ ap (λ (t : List ℕ). out ++ t) (sym (append-nil (row_text form (address - length (b ∷ row), b ∷ row))))

-- a cell with nothing
pub none_taken : (form : TextForm) (address : ℕ) (row row_then out new : List ℕ) (cells : List (Option ℕ))
    → new ≡ out ++ texts form (ended address row) → row_then ≡ []
    → new ++ texts form (rows (address + 1) row_then cells) ≡ out ++ texts form (rows address row (None ∷ cells))
none_taken form address row row_then out new cells e none =
    ap (λ (r : List ℕ). new ++ texts form (rows (address + 1) r cells)) none
    ∙ ap (λ (t : List ℕ). t ++ texts form (rows (address + 1) [] cells)) e
    ∙ append_assoc out (texts form (ended address row)) (texts form (rows (address + 1) [] cells))
    ∙ ap (λ (t : List ℕ). out ++ t) (sym (texts_append form (ended address row) (rows (address + 1) [] cells)))

-- a byte that fills a row
pub last_taken : (form : TextForm) (address b : ℕ) (row more row_then out new : List ℕ) (cells : List (Option ℕ)) → length row ≡ 15 → more ≡ row ++ b ∷ []
    → new ≡ out ++ texts form (ended (address + 1) more) → row_then ≡ []
    → new ++ texts form (rows (address + 1) row_then cells) ≡ out ++ texts form (rows address row (Some b ∷ cells))
last_taken form address b row more row_then out new cells full pushed e none =
    rw (eq-eqb (length row) 15 full) (
    ap (λ (r : List ℕ). new ++ texts form (rows (address + 1) r cells)) none
    ∙ ap (λ (t : List ℕ). t ++ texts form (rows (address + 1) [] cells)) (e ∙ ap (λ (m : List ℕ). out ++ texts form (ended (address + 1) m)) pushed)
    ∙ append_assoc out (texts form (ended (address + 1) (row ++ b ∷ []))) (texts form (rows (address + 1) [] cells))
    ∙ ap (λ (t : List ℕ). out ++ t) (sym (texts_append form (ended (address + 1) (row ++ b ∷ [])) (rows (address + 1) [] cells))))

-- another byte
pub byte_taken : (form : TextForm) (address b : ℕ) (row more out : List ℕ) (cells : List (Option ℕ)) → (length row ≡ 15 → ⊥) → more ≡ row ++ b ∷ []
    → out ++ texts form (rows (address + 1) more cells) ≡ out ++ texts form (rows address row (Some b ∷ cells))
byte_taken form address b row more out cells other pushed =
    rw (ne_eqb (length row) 15 other) (ap (λ (m : List ℕ). out ++ texts form (rows (address + 1) m cells)) pushed)

-- ---- the same by what a call returned

pub none_result : {E : Type 0} (r : Result Unit E) (form : TextForm) (address : ℕ) (cell : Option ℕ) (row row_then out new : List ℕ) → cell ≡ None
    → IfOk r (λ _. new ≡ out ++ texts form (ended address row)) → IfOk r (λ _. row_then ≡ [])
    → IfOk r (λ _. (cells : List (Option ℕ)) → new ++ texts form (rows (address + 1) row_then cells) ≡ out ++ texts form (rows address row (cell ∷ cells)))
none_result (Err e) form address cell row row_then out new is h k = tt
none_result (Ok u) form address cell row row_then out new is h k = λ cells.
    none_taken form address row row_then out new cells h k ∙ ap (λ (x : Option ℕ). out ++ texts form (rows address row (x ∷ cells))) (sym is)

pub some_result : {E : Type 0} (r : Result Unit E) (form : TextForm) (address b : ℕ) (cell : Option ℕ) (row row_then out new : List ℕ) → cell ≡ Some b
    → IfOk r (λ _. (cells : List (Option ℕ)) → new ++ texts form (rows (address + 1) row_then cells) ≡ out ++ texts form (rows address row (Some b ∷ cells)))
    → IfOk r (λ _. (cells : List (Option ℕ)) → new ++ texts form (rows (address + 1) row_then cells) ≡ out ++ texts form (rows address row (cell ∷ cells)))
some_result (Err e) form address b cell row row_then out new is h = tt
some_result (Ok u) form address b cell row row_then out new is h = λ cells.
    h cells ∙ ap (λ (x : Option ℕ). out ++ texts form (rows address row (x ∷ cells))) (sym is)

pub last_result : {E : Type 0} (r : Result Unit E) (form : TextForm) (address b : ℕ) (row more row_then out new : List ℕ) → length row ≡ 15
    → more ≡ row ++ b ∷ []
    → IfOk r (λ _. new ≡ out ++ texts form (ended (address + 1) more)) → IfOk r (λ _. row_then ≡ [])
    → IfOk r (λ _. (cells : List (Option ℕ)) → new ++ texts form (rows (address + 1) row_then cells) ≡ out ++ texts form (rows address row (Some b ∷ cells)))
last_result (Err e) form address b row more row_then out new full pushed h k = tt
last_result (Ok u) form address b row more row_then out new full pushed h k = λ cells. last_taken form address b row more row_then out new cells full pushed h k

pub no_row : {E : Type 0} (r : Result Unit E) (n : ℕ) (row_then : List ℕ) → IfOk r (λ _. row_then ≡ []) → IfOk r (λ _. length row_then ≤ n)
no_row (Err e) n row_then h = tt
no_row (Ok u) n row_then h = omega (arith, ap length h)

pub few_row : {E : Type 0} (r : Result Unit E) (row_then : List ℕ) → IfOk r (λ _. row_then ≡ []) → IfOk r (λ _. length row_then < 16)
few_row (Err e) row_then h = tt
few_row (Ok u) row_then h = omega (arith, ap length h)

-- one cell more of an image
pub cell_done : (form : TextForm) (cells : List (Option ℕ)) (i : ℕ) (cell d : Option ℕ) (row row_then out new start : List ℕ) → i < length cells
    → cell ≡ get_or cells i d
    → ((later : List (Option ℕ)) → new ++ texts form (rows (i + 1) row_then later) ≡ out ++ texts form (rows i row (cell ∷ later)))
    → out ++ texts form (rows i row (drop i cells)) ≡ start → new ++ texts form (rows (i + 1) row_then (drop (i + 1) cells)) ≡ start
cell_done form cells i cell d row row_then out new start below is taken so_far =
    taken (drop (i + 1) cells)
    ∙ ap (λ (c : Option ℕ). out ++ texts form (rows i row (c ∷ drop (i + 1) cells))) is
    ∙ ap (λ (cs : List (Option ℕ)). out ++ texts form (rows i row cs)) (sym (drop_more cells i d below))
    ∙ so_far

-- all cells
pub cells_done : {E : Type 0} (r : Result Unit E) (form : TextForm) (cells : List (Option ℕ)) (row out new start : List ℕ) (i end : ℕ) → end ≡ i
    → length cells ≤ i
    → out ++ texts form (rows i row (drop i cells)) ≡ start → IfOk r (λ _. new ≡ out ++ texts form (ended end row)) → IfOk r (λ _. new ≡ start)
cells_done (Err e) form cells row out new start i end same size so_far h = tt
cells_done (Ok u) form cells row out new start i end same size so_far h =
    let none : drop i cells ≡ [] = drop_all i cells size in
    h ∙ ap (λ (k : ℕ). out ++ texts form (ended k row)) same
    ∙ ap (λ (cs : List (Option ℕ)). out ++ texts form (rows i row cs)) (sym none) ∙ so_far

-- the parts of a text
pub whole_text : (form : TextForm) (cells read : List (Option ℕ)) (a b c d : List ℕ) → a ≡ [] → b ≡ a ++ front_text form → read ≡ cells
    → c ≡ b ++ texts form (rows 0 [] read) → d ≡ c ++ end_text form
    → d ≡ image_text form cells
unfolding image_text
whole_text form cells read a b c d ha hb same hc hd =
    hd ∙ ap (λ (t : List ℕ). t ++ end_text form)
    (hc ∙ ap (λ (cs : List (Option ℕ)). b ++ texts form (rows 0 [] cs)) same
    ∙ ap (λ (t : List ℕ). t ++ texts form (rows 0 [] cells)) (hb ∙ ap (λ (t : List ℕ). t ++ front_text form) ha))
