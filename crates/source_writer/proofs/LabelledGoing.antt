-- Along an image, a piece at a time.
use Rattle.std.proofs.Common.{◌≡◌, ℕ, suc, ◌+◌, List, [], ◌∷◌, ◌++◌, Bool, true, false, Option, Some, None, refl, sym, ap, append_assoc, append-nil}
use Rattle.std.specs.List.{flat_map}
use Rattle.model.specs.declared.instruction.Profile.{Profile}
use Rattle.model.specs.Image.{cell_at}
use Rattle.source_forms.specs.Rows.{opened, origin_line, ended}
use Rattle.source_forms.specs.declared.mark.Mark.{Mark}
use Rattle.source_forms.specs.Pieces.{Piece, piece_at, len_of, reach_of, refers, text_of}
use Rattle.source_forms.specs.Labels.{with_flag, flags_from, is_named, left_after, with_reach, table_from, label_line, labelled, labelled_lines}

-- ---- flags

pub flags_gap : (profile : Profile) (cells : List (Option ℕ)) (marks : List Mark) (n a : ℕ) (flags : List Bool) → cell_at cells a ≡ None
    → flags_from profile cells marks n (a + 1) flags ≡ flags_from profile cells marks (suc n) a flags
unfolding flags_from
flags_gap profile cells marks n a flags gap = rw gap refl

pub flags_piece : (profile : Profile) (cells : List (Option ℕ)) (marks : List Mark) (n a b len : ℕ) (p : Piece) (old new : List Bool)
    → cell_at cells a ≡ Some b → p ≡ piece_at profile cells marks [] a b
    → new ≡ with_flag old (refers a p) → len ≡ len_of p → flags_from profile cells marks n (a + len) new ≡ flags_from profile cells marks (suc n) a old
unfolding flags_from
flags_piece profile cells marks n a b len p old new here is put long = rw (here, put, long, is) refl

pub flags_end : (profile : Profile) (cells : List (Option ℕ)) (marks : List Mark) (a : ℕ) (flags : List Bool) → flags_from profile cells marks 0 a flags ≡ flags
unfolding flags_from
flags_end profile cells marks a flags = refl

-- ---- labels

pub table_gap : (profile : Profile) (cells : List (Option ℕ)) (marks : List Mark) (flags : List Bool) (n left a : ℕ) (table : List ℕ) → cell_at cells a ≡ None
    → table_from profile cells marks flags n left (a + 1) table ≡ table_from profile cells marks flags (suc n) left a table
unfolding table_from
table_gap profile cells marks flags n left a table gap = rw gap refl

pub table_piece : (profile : Profile) (cells : List (Option ℕ)) (marks : List Mark) (flags : List Bool) (n left a b len next : ℕ) (p : Piece)
    (named : Bool) (old new : List ℕ) → cell_at cells a ≡ Some b → p ≡ piece_at profile cells marks flags a b
    → named ≡ is_named flags left a p → new ≡ with_reach named old a (reach_of p) → len ≡ len_of p → next ≡ left_after named left
    → table_from profile cells marks flags n next (a + len) new ≡ table_from profile cells marks flags (suc n) left a old
unfolding table_from
table_piece profile cells marks flags n left a b len next p named old new here is has put long less = rw (here, put, less, long, has, is) refl

pub table_end : (profile : Profile) (cells : List (Option ℕ)) (marks : List Mark) (flags : List Bool) (left a : ℕ) (table : List ℕ)
    → table_from profile cells marks flags 0 left a table ≡ table
unfolding table_from
table_end profile cells marks flags left a table = refl

-- ---- lines

pub one_line : (line : List ℕ) → flat_map ended (line ∷ []) ≡ ended line
one_line line = append-nil (ended line)

abbrev pub text_from : Profile → List (Option ℕ) → List Mark → List Bool → List ℕ → ℕ → ℕ → ℕ → Bool → List ℕ
text_from profile cells marks flags table n left a ends = flat_map ended (labelled_lines profile cells marks flags table n left a ends)

pub lines_gap : (profile : Profile) (cells : List (Option ℕ)) (marks : List Mark) (flags : List Bool) (table : List ℕ) (n left a : ℕ) (ends : Bool)
    → cell_at cells a ≡ None
    → text_from profile cells marks flags table n left (a + 1) false ≡ text_from profile cells marks flags table (suc n) left a ends
unfolding labelled_lines
lines_gap profile cells marks flags table n left a ends gap = rw gap refl

opening : (ends : Bool) (a : ℕ) (lines : List (List ℕ)) → flat_map ended (opened ends a ++ lines) ≡ flat_map ended (opened ends a) ++ flat_map ended lines
opening true a lines = refl
opening false a lines = ap (λ (x : List ℕ). x ++ flat_map ended lines) (sym (append-nil (ended (origin_line a))))

label : (named : Bool) (a : ℕ) (lines : List (List ℕ)) → flat_map ended (labelled named a ++ lines) ≡ flat_map ended (labelled named a) ++ flat_map ended lines
label true a lines = ap (λ (x : List ℕ). x ++ flat_map ended lines) (sym (append-nil (ended (label_line a))))
label false a lines = refl

pub lines_piece : (profile : Profile) (cells : List (Option ℕ)) (marks : List Mark) (flags : List Bool) (table : List ℕ) (n left a b len next : ℕ)
    (ends named : Bool) (p : Piece) (old new : List ℕ) → cell_at cells a ≡ Some b
    → p ≡ piece_at profile cells marks flags a b → named ≡ is_named flags left a p
    → new ≡ ((old ++ flat_map ended (opened ends a)) ++ flat_map ended (labelled named a)) ++ ended (text_of profile table a p)
    → len ≡ len_of p → next ≡ left_after named left
    → new ++ text_from profile cells marks flags table n next (a + len) true ≡ old ++ text_from profile cells marks flags table (suc n) left a ends
unfolding labelled_lines
lines_piece profile cells marks flags table n left a b len next ends named p old new here is has written long less =
    rw (here, sym is, sym has) (rw (
      opening ends a (labelled named a ++ text_of profile table a p
          ∷ labelled_lines profile cells marks flags table n (left_after named left) (a + len_of p) true),
      label named a
          (text_of profile table a p ∷ labelled_lines profile cells marks flags table n (left_after named left) (a + len_of p) true),
      written,
      long,
      less,
    )
    (rw (append_assoc, append_assoc, append_assoc) refl))

pub lines_end : (profile : Profile) (cells : List (Option ℕ)) (marks : List Mark) (flags : List Bool) (table : List ℕ) (left a : ℕ) (ends : Bool)
    → text_from profile cells marks flags table 0 left a ends ≡ []
unfolding labelled_lines
lines_end profile cells marks flags table left a ends = refl
