-- What a line stands for in its place, and lines that fill an image.
use Rattle.std.proofs.Common.{◌≡◌, ℕ, ◌+◌, ◌<◌, ◌≤◌, List, [], ◌∷◌, ◌++◌, length, Bool, true, false, Option, None, Ok, Err, refl, ◌∙◌, arith, append-nil}
use Rattle.std.specs.Prelude.{not, nat_lt, if◌then◌else◌}
use Rattle.std.specs.List.{list_all}
use Rattle.std.proofs.lemmas.Bool.{lt-ltb, le-ltb, le-leb}
use Rattle.model.specs.declared.instruction.Profile.{Profile}
use Rattle.model.specs.declared.source_fault.AsmFaultKind.{AsmFaultKind}
use Rattle.model.specs.declared.source_fault.AsmFaultKind.TheVariants.{LineTooLong, NotAscii}
use Rattle.std.specs.Option.{option_and_then}
use Rattle.model.specs.State.{Map, has_port_byte}
use Rattle.model.specs.Token.{is_source_byte, tokens_of}
use Rattle.model.specs.Value.{Numbers, eval_of}
use Rattle.model.specs.Names.{Definitions}
use Rattle.model.specs.SourceLine.{Line, labelled, origin, read_line, unreserved, line_of}
use Rattle.model.specs.Layout.{Content, no_bytes, Context, PlacedLine, size_of, layout_of, named_line_at, statement_at, IsLaidOut}
use Rattle.model.specs.Bytes.{pieces_of, line_bytes, kinds_in, lowest, lower, place_kinds, value_fault, Makes, has_port, has_bytes}
use Rattle.model.specs.Source.{is_end}
use Rattle.law_texts.proofs.Forms.{of_number}
use Rattle.law_source_forms.proofs.Cells.{below, Shows, put_below, shown_within, free_from, no_port}
use Rattle.law_source_forms.proofs.Cut.{IsPlain, ArePlain, GoOn}

abbrev pub fixed_at : Profile → ℕ → Definitions → Context
fixed_at profile a names = record { profile = profile; address = a; names = names }

abbrev pub placed_at : ℕ → Content → PlacedLine
placed_at a content = record { address = a; content = content }

-- a line that was read has only bytes of a source
pub read_plain : (profile : Profile) (line : List ℕ) (l : Line) → read_line profile line ≡ Ok l
    → IsPlain line
unfolding read_line
read_plain profile line l read = by (nat_lt 255 (length line)) (list_all is_source_byte line) refl read
  where
    by : (long plain : Bool) → list_all is_source_byte line ≡ plain
        → ((if long then Err LineTooLong else if not plain then Err NotAscii else unreserved profile
        (option_and_then (line_of profile) (tokens_of line))) ≡ Ok l) → plain ≡ true
    by true plain e h = absurd cc
    by false true e h = refl
    by false false e h = absurd cc

-- A line without a name stands for these bytes at an address: after all names that are near, and under all numbers that are final.
pub record Stands (Near : Definitions → Type 0) (Final : Numbers → Type 0) (profile : Profile) (line : List ℕ) (a : ℕ) (bytes : List ℕ) : Type 0 where
  pub content : Content
  pub plain : IsPlain line
  pub goes_on : is_end (read_line profile line) ≡ false
  pub laid : (names : Definitions) → Near names → layout_of (fixed_at profile a names) line
      ≡ Ok (placed_at a content, fixed_at profile (a + length bytes) names)
  pub size : size_of content ≡ length bytes
  pub right : (numbers : Numbers) → Final numbers → (more : List (Option AsmFaultKind)) → lowest (kinds_in (pieces_of numbers a content) ++ more) ≡ lowest more
  pub bytes_are : (numbers : Numbers) → Final numbers → line_bytes numbers (placed_at a content) ≡ bytes

-- These lines, after lines that fix so much, fill an image from an address on.
pub record Fills (Final : Numbers → Type 0) (m : Map) (cells : List (Option ℕ)) (a : ℕ) (before : Context) (lines : List (List ℕ)) : Type 0 where
  pub placed : List PlacedLine
  pub after : Context
  pub laid : IsLaidOut before lines placed after
  pub made : (numbers : Numbers) → Final numbers → Makes m numbers (below a cells) placed cells
  pub plain : ArePlain lines
  pub go_on : GoOn m.profile lines

-- ---- a row

place_right : (m : Map) (cells : List (Option ℕ)) (a : ℕ) (bytes : List ℕ) → length cells ≡ 65536
    → has_port_byte m cells ≡ false → 0 < length bytes → Shows cells a bytes
    → lowest (place_kinds m (below a cells) a (length bytes)) ≡ None
unfolding place_kinds lowest lower
place_right m cells a bytes size spared some shown =
    let within : a + length bytes ≤ 65536 = omega (arith, shown_within cells a bytes some shown, size) in
    rw (
      lt-ltb 0 (length bytes) some,
      le-ltb 65536 (a + length bytes) within,
      free_from (length bytes) a a cells (omega arith),
      no_port m cells a
          bytes spared shown,
    ) refl

module _ (Near : Definitions → Type 0) (Final : Numbers → Type 0) (m : Map) (cells : List (Option ℕ)) (size : length cells ≡ 65536)
    (spared : has_port_byte m cells ≡ false) where
  pub row_right : (line : List ℕ) (a : ℕ) (bytes : List ℕ) (s : Stands Near Final m.profile line a bytes) → 0 < length bytes → Shows cells a bytes
      → (numbers : Numbers) → Final numbers
      → value_fault m numbers (below a cells) (placed_at a s.content) ≡ None
  unfolding value_fault
  row_right line a bytes s some shown numbers final =
      s.right numbers final (place_kinds m (below a cells) a (size_of s.content)) ∙ rw s.size (place_right m cells a bytes size spared some shown)

  pub row_first : (line : List ℕ) (a : ℕ) (bytes : List ℕ) (names : Definitions) (lines : List (List ℕ)) → Stands Near Final m.profile line a bytes
      → 0 < length bytes → Shows cells a bytes → Near names
      → Fills Final m cells (a + length bytes) (fixed_at m.profile (a + length bytes) names) lines
      → Fills Final m cells a (fixed_at m.profile a names) (line ∷ lines)
  row_first line a bytes names lines s some shown near rest = record {
    placed = placed_at a s.content ∷ rest.placed;
    after = rest.after;
    laid = (fixed_at m.profile (a + length bytes) names, s.laid names near, rest.laid);
    made = λ numbers final. (
      row_right line a bytes s some shown numbers final,
      rw (s.bytes_are numbers final, put_below cells a bytes shown)
          (rest.made numbers final),
    );
    plain = (s.plain, rest.plain);
    go_on = (s.goes_on, rest.go_on);
  }

-- ---- `*=`

pub origin_laid : (profile : Profile) (line : List ℕ) (a b : ℕ) (names : Definitions)
    → read_line profile line ≡ Ok (labelled None (origin (of_number a))) → a < 65536
    → layout_of (fixed_at profile b names) line
    ≡ Ok (placed_at b no_bytes, fixed_at profile a names)
unfolding layout_of named_line_at statement_at eval_of
origin_laid profile line a b names read small = rw (read, le-leb a 65535 (omega (arith, small)), append-nil names) refl

pub nothing_wrong : (m : Map) (numbers : Numbers) (image : List (Option ℕ)) (b : ℕ)
    → value_fault m numbers image (placed_at b no_bytes) ≡ None
unfolding value_fault pieces_of size_of place_kinds has_bytes has_port lowest lower
nothing_wrong m numbers image b = refl

pub no_bytes_there : (numbers : Numbers) (b : ℕ) → line_bytes numbers (placed_at b no_bytes) ≡ []
unfolding line_bytes pieces_of
no_bytes_there numbers b = refl

pub origin_first : (Final : Numbers → Type 0) (m : Map) (cells : List (Option ℕ)) (line : List ℕ)
    (a b : ℕ) (names : Definitions) (lines : List (List ℕ))
    → read_line m.profile line ≡ Ok (labelled None (origin (of_number a))) → a < 65536
    → Fills Final m cells a (fixed_at m.profile a names) lines
    → Fills Final m cells a (fixed_at m.profile b names) (line ∷ lines)
origin_first Final m cells line a b names lines read small rest = record {
  placed = placed_at b no_bytes ∷ rest.placed;
  after = rest.after;
  laid = (fixed_at m.profile a names, origin_laid m.profile line a b names read small, rest.laid);
  made = λ numbers final. (nothing_wrong m numbers (below a cells) b, rw (no_bytes_there numbers b) (rest.made numbers final));
  plain = (read_plain m.profile line (labelled None (origin (of_number a))) read, rest.plain);
  go_on = (rw read refl, rest.go_on);
}
