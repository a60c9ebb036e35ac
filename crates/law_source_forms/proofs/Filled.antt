-- The lines of a source with labels fill the image, and are few enough for a source.
use Rattle.std.proofs.Common.{◌≡◌, ℕ, zero, suc, ◌+◌, ◌-◌, ◌*◌, ◌<◌, ◌≤◌, pos, List, [], ◌∷◌, ◌++◌, length, Bool, true, false, Option, Some, None, Ok, refl, sym, ap, ◌∙◌, arith, inl, inr, append-nil, append_assoc, length-append}
use Rattle.std.specs.Prelude.{◌⊎◌, ◌==◌, ◌&&◌, nat_lt}
use Rattle.std.specs.List.{flat_map}
use Rattle.std.proofs.lemmas.Bool.{cases_Bool, ltb-true, ltb-false}
use Rattle.std.proofs.lemmas.Bool.Decides.{eqb_tells}
use Rattle.std.proofs.lemmas.List.{get_or_past}
use Rattle.model.specs.declared.instruction.Profile.{Profile}
use Rattle.model.specs.State.{Map, has_port_byte}
use Rattle.model.specs.Image.{cell_at, IsImage}
use Rattle.model.specs.Token.{tokens_of, tokens_from, token_at}
use Rattle.model.specs.Names.{Definitions, number_in}
use Rattle.model.specs.SourceLine.{labelled, nothing, origin, read_line, line_of, statement_of}
use Rattle.model.specs.Layout.{no_bytes, Context, size_of, layout_of, named_line_at, statement_at, most_names}
use Rattle.model.specs.Source.{read_lines}
use Rattle.law_texts.proofs.Steps.{word, symbol, before}
use Rattle.law_texts.proofs.Forms.{of_number}
use Rattle.source_forms.specs.declared.mark.Mark.{Mark}
use Rattle.source_forms.specs.Rows.{origin_line, opened, by_cell, ended}
use Rattle.law_source_forms.proofs.Cells.{below, nothing_below, all_below, gap_below, Shows, shown_within, is_within, put_below}
use Rattle.law_source_forms.proofs.Stands.{Stands, Fills, fixed_at, placed_at, read_plain, row_right, origin_laid, nothing_wrong, no_bytes_there}
use Rattle.law_source_forms.proofs.Filling.{origin_said, lines_read}
use Rattle.source_forms.specs.Pieces.{Piece, piece_at, len_of, label_text, text_of, reach_at}
use Rattle.source_forms.specs.Labels.{is_named, left_after, table_of, no_labels, label_line, labelled as labelled_lines_of, labelled_lines, flagged_source, labelled_source, flags_of}
use Rattle.law_source_forms.specs.LabelsLaw.{FlaggedSourceDenotes, LabelledSourceDenotes}
use Rattle.law_source_forms.proofs.Places.{Near, behind_label, label_found, label_plain, free_label}
use Rattle.law_source_forms.proofs.Referring.{Final}
use Rattle.law_source_forms.proofs.Standing.{HasPiece, piece_here}
use Rattle.law_source_forms.proofs.Numbered.{defs, defs_more, defs_length, Below, below_later, below_more, near, fresh, known, In, named_here, names_from, reached, no_label}

-- ---- a label on a line of its own

colon : (p : ℕ) → tokens_from p 0 (58 ∷ []) ≡ Some (symbol p 58 ∷ [])
unfolding tokens_from token_at
colon p = refl

label_line_of : (profile : Profile) (t : List ℕ) (p : ℕ)
    → line_of profile (word 0 t ∷ symbol p 58 ∷ []) ≡ Some (labelled (Some t) nothing)
unfolding line_of statement_of
label_line_of profile t p = refl

label_said : (profile : Profile) (a : ℕ) → a < 65536
    → read_line profile (label_line a) ≡ Ok (labelled (Some (label_text a)) nothing)
unfolding read_line tokens_of
label_said profile a small =
    let found = label_found 0 a (58 ∷ []) small refl ∙ ap (before (word 0 (label_text a))) (colon (behind_label 0)) in
    rw (label_plain a (58 ∷ []) small refl, found, label_line_of profile (label_text a) (behind_label 0), free_label profile a) refl

label_laid : (profile : Profile) (a : ℕ) (names : Definitions) → a < 65536
    → number_in names (label_text a) ≡ None → (length names == most_names) ≡ false
    → layout_of (fixed_at profile a names) (label_line a)
    ≡ Ok (placed_at a no_bytes, fixed_at profile a (names ++ (label_text a, pos a) ∷ []))
unfolding layout_of named_line_at statement_at size_of
label_laid profile a names small new room =
    let same : a + 0 ≡ a = omega arith in
    rw (label_said profile a small, new, room, same) refl

-- ---- lines that fill an image, and the names that they define

-- the lines' names after those of before are these
pub record Filled (table : List ℕ) (m : Map) (cells : List (Option ℕ)) (a : ℕ) (before : Context) (lines : List (List ℕ)) (all : Definitions) : Type 0 where
  pub fills : Fills (Final table) m cells a before lines
  pub names : fills.after.names ≡ all

module _ (table : List ℕ) (m : Map) (cells : List (Option ℕ)) (image : IsImage cells) (spared : has_port_byte m cells ≡ false) where
  row_next : (line : List ℕ) (a : ℕ) (bytes : List ℕ) (names : Definitions) (lines : List (List ℕ)) (all : Definitions)
      → Stands Near (Final table) m.profile line a bytes → 0 < length bytes → Shows cells a bytes → Near names
      → Filled table m cells (a + length bytes) (fixed_at m.profile (a + length bytes) names) lines all
      → Filled table m cells a (fixed_at m.profile a names) (line ∷ lines) all
  row_next line a bytes names lines all s some shown near_names rest = record {
    fills = record {
      placed = placed_at a s.content ∷ rest.fills.placed;
      after = rest.fills.after;
      laid = (fixed_at m.profile (a + length bytes) names, s.laid names near_names, rest.fills.laid);
      made = λ numbers final. (
        row_right Near (Final table) m cells image.size spared line a bytes s some shown numbers final,
        rw
            (s.bytes_are numbers final, put_below cells a bytes shown) (rest.fills.made numbers final),
      );
      plain = (s.plain, rest.fills.plain);
      go_on = (s.goes_on, rest.fills.go_on);
    };
    names = rest.names;
  }

  origin_next : (a x : ℕ) (names : Definitions) (lines : List (List ℕ)) (all : Definitions) → a < 65536
      → Filled table m cells a (fixed_at m.profile a names) lines all → Filled table m cells a (fixed_at m.profile x names) (origin_line a ∷ lines) all
  origin_next a x names lines all small rest =
      let read = origin_said m.profile a small in
      record {
        fills = record {
          placed = placed_at x no_bytes ∷ rest.fills.placed;
          after = rest.fills.after;
          laid = (fixed_at m.profile a names, origin_laid m.profile (origin_line a) a x names read small, rest.fills.laid);
          made = λ numbers final. (nothing_wrong m numbers (below a cells) x, rw (no_bytes_there numbers x) (rest.fills.made numbers final));
          plain = (read_plain m.profile (origin_line a) (labelled None (origin (of_number a))) read, rest.fills.plain);
          go_on = (rw read refl, rest.fills.go_on);
        };
        names = rest.names;
      }

  label_next : (a : ℕ) (names : Definitions) (lines : List (List ℕ)) (all : Definitions) → a < 65536 → number_in names (label_text a) ≡ None
      → (length names == most_names) ≡ false
      → Filled table m cells a (fixed_at m.profile a (names ++ (label_text a, pos a) ∷ [])) lines all
      → Filled table m cells a (fixed_at m.profile a names) (label_line a ∷ lines) all
  label_next a names lines all small new room rest =
      let read = label_said m.profile a small in
      record {
        fills = record {
          placed = placed_at a no_bytes ∷ rest.fills.placed;
          after = rest.fills.after;
          laid = (fixed_at m.profile a (names ++ (label_text a, pos a) ∷ []), label_laid m.profile a names small new room, rest.fills.laid);
          made = λ numbers final. (nothing_wrong m numbers (below a cells) a, rw (no_bytes_there numbers a) (rest.fills.made numbers final));
          plain = (read_plain m.profile (label_line a) (labelled (Some (label_text a)) nothing) read, rest.fills.plain);
          go_on = (rw read refl, rest.fills.go_on);
        };
        names = rest.names;
      }

  gap_next : (a : ℕ) (before : Context) (lines : List (List ℕ)) (all : Definitions) → cell_at cells a ≡ None
      → Filled table m cells (a + 1) before lines all → Filled table m cells a before lines all
  gap_next a before lines all e rest =
      let one_more : suc a ≡ a + 1 = omega arith in
      let same : below (a + 1) cells ≡ below a cells = rw one_more at (gap_below a cells e) in
      record {
        fills = record {
          placed = rest.fills.placed;
          after = rest.fills.after;
          laid = rest.fills.laid;
          made = λ numbers final. rw same at (rest.fills.made numbers final);
          plain = rest.fills.plain;
          go_on = rest.fills.go_on;
        };
        names = rest.names;
      }

  opening_next : (a x : ℕ) (ends : Bool) (names : Definitions) (lines : List (List ℕ)) (all : Definitions) → a < 65536 → (ends ≡ true → x ≡ a)
      → Filled table m cells a (fixed_at m.profile a names) lines all → Filled table m cells a (fixed_at m.profile x names) (opened ends a ++ lines) all
  opening_next a x true names lines all small here rest = rw (here refl) rest
  opening_next a x false names lines all small here rest = origin_next a x names lines all small rest

-- ---- all lines

no_room : (n : ℕ) → n < most_names → (n == most_names) ≡ false
no_room n few = elim (eqb_tells n most_names) [
  | inl same ↦ absurd (omega (arith, few, same.1))
  | inr other ↦ other.0
]

and_first : (s t : Bool) → (s && t) ≡ true → s ≡ true
and_first true t h = refl
and_first false t h = absurd cc

module _ (m : Map) (cells : List (Option ℕ)) (marks : List Mark) (flags : List Bool) (table : List ℕ) (image : IsImage cells)
    (spared : has_port_byte m cells ≡ false) where
  abbrev Lines : ℕ → ℕ → ℕ → Bool → List (List ℕ)
  Lines n left a ends = labelled_lines m.profile cells marks flags table n left a ends

  abbrev Names : ℕ → ℕ → ℕ → List ℕ
  Names n left a = names_from m.profile cells marks flags n left a

  abbrev piece : ℕ → ℕ → Piece
  piece a b = piece_at m.profile cells marks flags a b

  inside : (a b : ℕ) → cell_at cells a ≡ Some b → a < 65536
  inside a b e = omega (arith, is_within a b cells e, image.size)

  has : (a b : ℕ) → cell_at cells a ≡ Some b → HasPiece table m.profile cells a (piece a b)
  has a b e = piece_here table m.profile cells marks flags image a b e (inside a b e)

  some_left : (left a : ℕ) (p : Piece) → is_named flags left a p ≡ true → 0 < left
  some_left left a p h = ltb-true 0 left (and_first _ _ h)

  abbrev Fill : ℕ → ℕ → List ℕ → List (List ℕ) → List ℕ → Type 0
  Fill a x ss lines all = Filled table m cells a (fixed_at m.profile x (defs ss)) lines (defs all)

  -- a label and a line
  label_filled : (left a b : ℕ) (ss rest_names : List ℕ) (lines : List (List ℕ)) (named : Bool) → is_named flags left a (piece a b) ≡ named
      → a < 65536 → Below a ss → length ss + left ≤ most_names
      → ((ts : List ℕ) → Below (a + len_of (piece a b)) ts → length ts + left_after named left ≤ most_names → Fill a a ts lines (ts ++ rest_names))
      → 0 < len_of (piece a b) → Fill a a ss (labelled_lines_of named a ++ lines) (ss ++ named_here m.profile cells marks flags named a rest_names)
  label_filled left a b ss rest_names lines false e small low count next some =
      next ss (below_later a (a + len_of (piece a b)) ss (omega arith) low) count
  label_filled left a b ss rest_names lines true e small low count next some =
      let left_some : 0 < left = some_left left a (piece a b) e in
      let size : length (ss ++ a ∷ []) ≡ length ss + 1 = length-append ss (a ∷ []) in
      let these = next (ss ++ a ∷ []) (below_more a (a + len_of (piece a b)) ss (omega (arith, some)) low) (omega (arith, size, count, left_some)) in
      let full : length (defs ss) < most_names = omega (arith, defs_length ss, count, left_some) in
      let joined : (ss ++ a ∷ []) ++ rest_names ≡ ss ++ a ∷ rest_names = append_assoc ss (a ∷ []) rest_names in
      label_next table m cells image spared a (defs ss) lines (defs (ss ++ a ∷ rest_names)) small (fresh ss a low small) (no_room (length (defs ss)) full)
      (rw (joined, defs_more ss a) at these)

  row_filled : (n left a b x : ℕ) (ss : List ℕ) (ends : Bool) → cell_at cells a ≡ Some b → (ends ≡ true → x ≡ a) → Below a ss → length ss + left ≤ most_names
      → ((k l : ℕ) (ts : List ℕ) → a < k → Below k ts → length ts + l ≤ most_names → Fill k k ts (Lines n l k true) (ts ++ Names n l k))
      → (named : Bool) → is_named flags left a (piece a b) ≡ named
      → Fill a x ss (opened ends a ++ (labelled_lines_of named a ++ text_of m.profile table a (piece a b)
      ∷ Lines n (left_after named left) (a + len_of (piece a b)) true))
      (ss ++ named_here m.profile cells marks flags named a (Names n (left_after named left) (a + len_of (piece a b))))
  row_filled n left a b x ss ends e here low count next named is =
      let r = has a b e in
      let small = inside a b e in
      let line = text_of m.profile table a (piece a b) in
      let after = a + len_of (piece a b) in
      let lines = Lines n (left_after named left) after true in
      opening_next table m cells image spared a x ends (defs ss) (labelled_lines_of named a ++ line ∷ lines)
      (defs (ss ++ named_here m.profile cells marks flags named a (Names n (left_after named left) after))) small here
      (label_filled left a b ss (Names n (left_after named left) after) (line ∷ lines) named is small low count
      (λ ts low_ts count_ts. row_next table m cells image spared line a r.bytes (defs ts) lines (defs (ts ++ Names n (left_after named left) after))
      r.stands (omega (arith, r.size, r.some)) r.shows
      (near ts after low_ts (omega (arith, shown_within cells a r.bytes (omega (arith, r.size, r.some)) r.shows, r.size, image.size)))
      (rw r.size (next after (left_after named left) ts (omega (arith, r.some)) low_ts count_ts)))
      r.some)

  fills : (n left a x : ℕ) (ss : List ℕ) (ends : Bool) → 65536 ≤ a + n → (ends ≡ true → x ≡ a) → Below a ss → length ss + left ≤ most_names
      → Fill a x ss (Lines n left a ends) (ss ++ Names n left a)
  unfolding labelled_lines names_from
  fills zero left a x ss ends enough here low count = record {
    fills = record {
      placed = [];
      after = fixed_at m.profile x (defs ss);
      laid = (refl, refl);
      made = λ numbers final. sym (all_below a cells (omega (arith, enough, image.size)));
      plain = tt;
      go_on = tt;
    };
    names = ap defs (sym (append-nil ss));
  }
  fills (suc n) left a x ss ends enough here low count =
      on (cell_at cells a) refl (fills n left (a + 1) x ss false (omega (arith, enough)) (λ (h : false ≡ true). absurd cc)
      (below_later a (a + 1) ss (omega arith) low) count)
      (λ k l ts later low_ts count_ts. fills n l k k ts true (omega (arith, enough, later)) (λ h. refl) low_ts count_ts)
    where
      on : (c : Option ℕ) → cell_at cells a ≡ c → Fill (a + 1) x ss (Lines n left (a + 1) false) (ss ++ Names n left (a + 1))
          → ((k l : ℕ) (ts : List ℕ) → a < k → Below k ts → length ts + l ≤ most_names → Fill k k ts (Lines n l k true) (ts ++ Names n l k))
          → Fill a x ss (by_cell c (Lines n left (a + 1) false)
          (λ b. let p = piece_at m.profile cells marks flags a b in let named = is_named flags left a p in
          opened ends a ++ (labelled_lines_of named a ++ text_of m.profile table a p ∷ Lines n (left_after named left) (a + len_of p) true)))
          (ss ++ by_cell c (Names n left (a + 1))
          (λ b. let p = piece_at m.profile cells marks flags a b in let named = is_named flags left a p in
          named_here m.profile cells marks flags named a (Names n (left_after named left) (a + len_of p))))
      on None e gap next = gap_next table m cells image spared a (fixed_at m.profile x (defs ss)) (Lines n left (a + 1) false)
          (defs (ss ++ Names n left (a + 1))) e gap
      on (Some b) e gap next = row_filled n left a b x ss ends e here low count next (is_named flags left a (piece a b)) refl

  -- ---- the names are in memory

  names_below : (n left a : ℕ) → Below 65536 (Names n left a)
  unfolding names_from
  names_below zero left a = tt
  names_below (suc n) left a = on (cell_at cells a) refl (names_below n left (a + 1)) (λ l k. names_below n l k)
    where
      put : (named : Bool) (rest : List ℕ) → a < 65536 → Below 65536 rest → Below 65536 (named_here m.profile cells marks flags named a rest)
      put true rest small h = (small, h)
      put false rest small h = h

      on : (c : Option ℕ) → cell_at cells a ≡ c → Below 65536 (Names n left (a + 1)) → ((l k : ℕ) → Below 65536 (Names n l k))
          → Below 65536 (by_cell c (Names n left (a + 1))
          (λ b. let p = piece_at m.profile cells marks flags a b in let named = is_named flags left a p in
          named_here m.profile cells marks flags named a (Names n (left_after named left) (a + len_of p))))
      on None e gap next = gap
      on (Some b) e gap next = put (is_named flags left a (piece a b)) _ (inside a b e)
          (next (left_after (is_named flags left a (piece a b)) left) (a + len_of (piece a b)))

  -- ---- their size

  past_end : (a : ℕ) → 65536 ≤ a → cell_at cells a ≡ None
  past_end a past = get_or_past cells a None (omega (arith, past, image.size))

  behind : (n left a : ℕ) (ends : Bool) → 65536 ≤ a → Lines n left a ends ≡ []
  unfolding labelled_lines
  behind zero left a ends past = refl
  behind (suc n) left a ends past = rw (past_end a past) (behind n left (a + 1) false (omega (arith, past)))

  abbrev extra : Bool → ℕ
  extra true = 0
  extra false = 8

  line_size : (line rest : List ℕ) → length (ended line ++ rest) ≡ length line + 1 + length rest
  line_size line rest = omega (arith, length-append (ended line) rest, length-append line (10 ∷ []))

  label_sized : (left a b : ℕ) (lines : List (List ℕ)) (named : Bool) → is_named flags left a (piece a b) ≡ named → (room : ℕ)
      → length (flat_map ended lines) ≤ room + 8 * left_after named left
      → length (flat_map ended (labelled_lines_of named a ++ lines)) ≤ room + 8 * left
  label_sized left a b lines false e room h = h
  label_sized left a b lines true e room h = omega (arith, h, some_left left a (piece a b) e)

  opening_sized : (a : ℕ) (ends : Bool) (lines : List (List ℕ)) (room : ℕ) → length (flat_map ended lines) ≤ room
      → length (flat_map ended (opened ends a ++ lines)) ≤ room + extra ends
  opening_sized a true lines room h = omega (arith, h)
  opening_sized a false lines room h = omega (arith, h)

  row_sized : (n left a b : ℕ) (ends : Bool) → cell_at cells a ≡ Some b
      → ((l k : ℕ) → length (flat_map ended (Lines n l k true)) ≤ 14 * (65536 - k) + 8 * l + 0) → (named : Bool) → is_named flags left a (piece a b) ≡ named
      → length (flat_map ended (opened ends a ++ (labelled_lines_of named a ++ text_of m.profile table a (piece a b)
      ∷ Lines n (left_after named left) (a + len_of (piece a b)) true))) ≤ 14 * (65536 - a) + 8 * left + extra ends
  row_sized n left a b ends e next named is =
      let r = has a b e in
      let after = a + len_of (piece a b) in
      let line = text_of m.profile table a (piece a b) in
      let lines = Lines n (left_after named left) after true in
      let fits : a + len_of (piece a b) ≤ 65536 = omega (arith, shown_within cells a r.bytes (omega (arith, r.size, r.some)) r.shows, r.size, image.size) in
      let these : length (flat_map ended (line ∷ lines)) ≤ 14 * (65536 - a) + 8 * left_after named left =
      omega (arith, line_size line (flat_map ended lines), next (left_after named left) after, r.short, fits) in
      opening_sized a ends (labelled_lines_of named a ++ line ∷ lines) (14 * (65536 - a) + 8 * left)
      (label_sized left a b (line ∷ lines) named is (14 * (65536 - a)) these)

  gap_sized : (n left a : ℕ) (ends : Bool) → length (flat_map ended (Lines n left (a + 1) false)) ≤ 14 * (65536 - (a + 1)) + 8 * left + 8
      → length (flat_map ended (Lines n left (a + 1) false)) ≤ 14 * (65536 - a) + 8 * left + extra ends
  gap_sized n left a ends rest = elim (cases_Bool (nat_lt a 65536)) [
    | inl t ↦ let small : a < 65536 = ltb-true a 65536 t in omega (arith, rest)
    | inr f ↦ let past : 65536 ≤ a = ltb-false a 65536 f in rw (behind n left (a + 1) false (omega (arith, past))) (omega arith)
  ]

  size : (n left a : ℕ) (ends : Bool) → length (flat_map ended (Lines n left a ends)) ≤ 14 * (65536 - a) + 8 * left + extra ends
  unfolding labelled_lines
  size zero left a ends = omega arith
  size (suc n) left a ends = on (cell_at cells a) refl (size n left (a + 1) false) (λ l k. size n l k true)
    where
      on : (c : Option ℕ) → cell_at cells a ≡ c → length (flat_map ended (Lines n left (a + 1) false)) ≤ 14 * (65536 - (a + 1)) + 8 * left + 8
          → ((l k : ℕ) → length (flat_map ended (Lines n l k true)) ≤ 14 * (65536 - k) + 8 * l + 0)
          → length (flat_map ended (by_cell c (Lines n left (a + 1) false)
          (λ b. let p = piece_at m.profile cells marks flags a b in let named = is_named flags left a p in
          opened ends a ++ (labelled_lines_of named a ++ text_of m.profile table a p ∷ Lines n (left_after named left) (a + len_of p) true)))) ≤ 14 *
          (65536 - a) + 8 * left + extra ends
      on None e gap next = gap_sized n left a ends gap
      on (Some b) e gap next = row_sized n left a b ends e next (is_named flags left a (piece a b)) refl

-- ---- the source

table_is : (profile : Profile) (cells : List (Option ℕ)) (marks : List Mark) (flags : List Bool) (s : ℕ)
    → 0 < reach_at (table_of profile cells marks flags) s
    → In s (names_from profile cells marks flags 65536 most_names 0)
unfolding table_of
table_is profile cells marks flags s reaches = on (reached profile cells marks flags 65536 most_names 0 s no_labels reaches)
  where
    on : (0 < reach_at no_labels s) ⊎ In s (names_from profile cells marks flags 65536 most_names 0)
        → In s (names_from profile cells marks flags 65536 most_names 0)
    on (inl some) = absurd (omega (arith, some, no_label s 65536 refl))
    on (inr there) = there

pub flagged_source_denotes : FlaggedSourceDenotes
unfolding flagged_source
flagged_source_denotes m cells marks flags image spared =
    let table : List ℕ = table_of m.profile cells marks flags in
    let f = fills m cells marks flags table image spared 65536 most_names 0 0 [] false (omega arith) (λ (h : false ≡ true). absurd cc) tt (omega arith) in
    let lines : List (List ℕ) = labelled_lines m.profile cells marks flags table 65536 most_names 0 false in
    let read : read_lines m.profile (flat_map ended lines) ≡ lines = lines_read m.profile lines f.fills.plain f.fills.go_on in
    let names : List ℕ = names_from m.profile cells marks flags 65536 most_names 0 in
    let final : Final table (number_in f.fills.after.names) =
    λ s small reaches. ap (λ (ds : Definitions). number_in ds (label_text s)) f.names
    ∙ known names 65536 s (names_below m cells marks flags table image spared 65536 most_names 0) (omega arith) small
    (table_is m.profile cells marks flags s reaches) in
    record {
      size = omega (arith, size m cells marks flags table image spared 65536 most_names 0 false);
      placed = f.fills.placed;
      all = f.fills.after;
      laid = rw read f.fills.laid;
      made = rw (nothing_below cells image.size) at (f.fills.made (number_in f.fills.after.names) final);
    }

pub labelled_source_denotes : LabelledSourceDenotes
unfolding labelled_source
labelled_source_denotes m cells marks image spared = flagged_source_denotes m cells marks (flags_of m.profile cells marks) image spared
