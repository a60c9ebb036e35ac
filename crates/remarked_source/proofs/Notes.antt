-- Comments behind a line, one after another.
use Rattle.std.proofs.Common.{◌≡◌, ◌∙◌, ℕ, suc, Bool, true, false, List, [], ◌∷◌, ◌++◌, ◌+◌, ◌<◌, ◌≤◌, length, drop, get_or, drop-cons, drop_of_length-le, add-one, append_assoc, append-nil, sym, refl}
use Rattle.marks_files.specs.Marks.{text_of}
use Rattle.marks_files.specs.declared.marks.Remark.{Remark}
use Rattle.remarked_source.specs.Rows.{is_note, note_front, notes}

-- one that stands there
pub here : (texts : List ℕ) (low high : ℕ) (first : Bool) (r : Remark) (rs : List Remark) (out new : List ℕ) → is_note low high r ≡ true
    → new ≡ (out ++ note_front first) ++ text_of texts r
    → new ++ notes texts low high false rs ≡ out ++ notes texts low high first (r ∷ rs)
unfolding notes
here texts low high first r rs out new is put =
    rw (put, is) (append_assoc (out ++ note_front first) (text_of texts r) (notes texts low high false rs)
    ∙ append_assoc out (note_front first) (text_of texts r ++ notes texts low high false rs))

-- one that stands elsewhere
pub elsewhere : (texts : List ℕ) (low high : ℕ) (first : Bool) (r : Remark) (rs : List Remark) (out : List ℕ) → is_note low high r ≡ false
    → out ++ notes texts low high first rs ≡ out ++ notes texts low high first (r ∷ rs)
unfolding notes
elsewhere texts low high first r rs out is = rw is refl

-- one more of them
pub one_more : (texts : List ℕ) (low high : ℕ) (first next : Bool) (remarks : List Remark) (i : ℕ) (d : Remark) (out new whole : List ℕ) → i < length remarks
    → ((rs : List Remark) → new ++ notes texts low high next rs ≡ out ++ notes texts low high first (get_or remarks i d ∷ rs))
    → out ++ notes texts low high first (drop i remarks) ≡ whole → new ++ notes texts low high next (drop (i + 1) remarks) ≡ whole
one_more texts low high first next remarks i d out new whole h put w = rw add-one (put (drop (suc i) remarks) ∙ rw (drop-cons remarks i d) at w)

-- none left
pub none_left : (texts : List ℕ) (low high : ℕ) (first : Bool) (remarks : List Remark) (i : ℕ) (out whole : List ℕ) → length remarks ≤ i
    → out ++ notes texts low high first (drop i remarks) ≡ whole → out ≡ whole
unfolding notes
none_left texts low high first remarks i out whole h w = sym (append-nil out) ∙ rw (drop_of_length-le remarks h) at w
