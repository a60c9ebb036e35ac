-- The lines of an assembly: its source is one file, and its lines are numbered in order. So the
-- first row at a line or behind it is the one that is found by line, and each row has the name and
-- the texts of the file.
use Rattle.std.proofs.Common.{◌≡◌, ◌∙◌, ℕ, ◌+◌, ◌<◌, ◌≤◌, ◌++◌, Bool, true, false, List, [], ◌∷◌, Option, Some, None, codes, refl, sym, ap, subst, arith}
use Rattle.std.specs.Prelude.{◌==◌, ◌&&◌, ◌||◌, decimal, find, nat_le, nat_lt, if◌then◌else◌}
use Rattle.std.specs.Option.{option_map}
use Rattle.std.proofs.lemmas.Bool.{and_left, le-ltb, ne_eqb}
use Rattle.arguments.specs.Shown.{shown_bytes}
use Rattle.assembler.specs.Assembly.{AssemblyView, source_lines}
use Rattle.assembler.specs.Lines.{LineView, lines_with}
use Rattle.debug_records.specs.declared.record.LineKind.TheVariants.{Assembler}
use Rattle.model.specs.TextLines.{lines_of}
use Rattle.source_map.specs.Lines.{address_from, bytes_in, is_before, line_at, line_words, places_of, row_at, rows_of, site_from, site_of, sites_of, texts_at, texts_of, with_site}
use Rattle.source_map.specs.declared.rows.Row.{Row}
use Rattle.source_map.specs.declared.rows.Site.{Site}

-- ---- by line

-- The row of the first line with bytes at a line or behind it.
abbrev pub row_from : List Row → ℕ → Option Row
row_from lines line = find (λ row. nat_le line row.line) lines

abbrev line_row : List (Option ℕ) → LineView → Row
line_row image line = record {
  address = line.address;
  file = 0;
  line = line.number;
  kind = Assembler;
  depth = 0;
  count = line.count;
  bytes = bytes_in image line.address;
  is_instruction = line.is_instruction;
  is_whole_line = true;
  begins_line = true;
}

-- a line's row before others, if it has one
abbrev rows_before : Bool → Row → List Row → List Row
rows_before b row rest = (if b then row ∷ [] else []) ++ rest

false_last : (a b : Bool) → (a && b && false) ≡ false
false_last true true = refl
false_last true false = refl
false_last false true = refl
false_last false false = refl

later : (best site : Site) → best.line < site.line → is_before site (Some best) ≡ false
later best site h = ap (λ b. b || (site.line == best.line && nat_lt site.address best.address)) (le-ltb site.line best.line (omega (arith, h)))
    ∙ and_left (site.line == best.line) (nat_lt site.address best.address) (ne_eqb site.line best.line (λ e. omega (arith, e, h)))

behind : (line : ℕ) (best site : Site) → best.line < site.line → with_site 0 line (Some best) site ≡ Some best
behind line best site h =
    ap (λ b. if site.file == 0 && nat_le line site.line && b then Some site else Some best) (later best site h)
    ∙ ap (λ b. if b then Some site else Some best) (false_last (site.file == 0) (nat_le line site.line))

kept_by : (line : ℕ) (best : Site) (row : Row) (rest : List Row) (b : Bool) → best.line < row.line → site_from 0 line (Some best) (sites_of rest) ≡ Some best
    → site_from 0 line (Some best) (sites_of (rows_before b row rest)) ≡ Some best
kept_by line best row rest true h k = ap (λ o. site_from 0 line o (sites_of rest)) (behind line best (site_of row) h) ∙ k
kept_by line best row rest false h k = k

kept : (image : List (Option ℕ)) (line number : ℕ) (best : Site) (texts : List (List ℕ)) (places : List (ℕ × ℕ)) (instructions : List Bool) → best.line < number
    → site_from 0 line (Some best) (sites_of (rows_of image (lines_with number texts places instructions))) ≡ Some best
unfolding lines_with
kept image line number best [] places instructions h = refl
kept image line number best (text ∷ texts) [] instructions h = refl
kept image line number best (text ∷ texts) (place ∷ places) [] h = refl
kept image line number best (text ∷ texts) (place ∷ places) (is_code ∷ instructions) h =
    let l : LineView = record { number = number; address = place.0; count = place.1; text = text; is_instruction = is_code } in
    kept_by line best (line_row image l) (rows_of image (lines_with (number + 1) texts places instructions)) (nat_lt 0 place.1 && nat_le place.0 65535) h
    (kept image line (number + 1) best texts places instructions (omega (arith, h)))

first_there : (line : ℕ) (row : Row) (rest : List Row) (b : Bool) → row.file ≡ 0 → nat_le line row.line ≡ b
    → site_from 0 line (Some (site_of row)) (sites_of rest) ≡ Some (site_of row)
    → site_from 0 line None (sites_of rest) ≡ option_map site_of (row_from rest line)
    → site_from 0 line None (sites_of (row ∷ rest)) ≡ option_map site_of (row_from (row ∷ rest) line)
first_there line row rest true z e more next =
    ap (λ n. site_from 0 line (if n == 0 && nat_le line row.line && true then Some (site_of row) else None) (sites_of rest)) z
    ∙ (ap (λ b. site_from 0 line (if 0 == 0 && b && true then Some (site_of row) else None) (sites_of rest)) e
    ∙ (more ∙ sym (ap (λ b. option_map site_of (if b then Some row else row_from rest line)) e)))
first_there line row rest false z e more next =
    ap (λ n. site_from 0 line (if n == 0 && nat_le line row.line && true then Some (site_of row) else None) (sites_of rest)) z
    ∙ (ap (λ b. site_from 0 line (if 0 == 0 && b && true then Some (site_of row) else None) (sites_of rest)) e
    ∙ (next ∙ sym (ap (λ b. option_map site_of (if b then Some row else row_from rest line)) e)))

first_by : (line : ℕ) (row : Row) (rest : List Row) (b : Bool) → row.file ≡ 0
    → site_from 0 line (Some (site_of row)) (sites_of rest) ≡ Some (site_of row)
    → site_from 0 line None (sites_of rest) ≡ option_map site_of (row_from rest line)
    → site_from 0 line None (sites_of (rows_before b row rest)) ≡ option_map site_of (row_from (rows_before b row rest) line)
first_by line row rest true z more next = first_there line row rest (nat_le line row.line) z refl more next
first_by line row rest false z more next = next

first : (image : List (Option ℕ)) (line number : ℕ) (texts : List (List ℕ)) (places : List (ℕ × ℕ)) (instructions : List Bool)
    → site_from 0 line None (sites_of (rows_of image (lines_with number texts places instructions)))
    ≡ option_map site_of (row_from (rows_of image (lines_with number texts places instructions)) line)
unfolding lines_with
first image line number [] places instructions = refl
first image line number (text ∷ texts) [] instructions = refl
first image line number (text ∷ texts) (place ∷ places) [] = refl
first image line number (text ∷ texts) (place ∷ places) (is_code ∷ instructions) =
    let l : LineView = record { number = number; address = place.0; count = place.1; text = text; is_instruction = is_code } in
    first_by line (line_row image l) (rows_of image (lines_with (number + 1) texts places instructions)) (nat_lt 0 place.1 && nat_le place.0 65535) refl
    (kept image line (number + 1) (site_of (line_row image l)) texts places instructions (omega arith))
    (first image line (number + 1) texts places instructions)

address_there : (o : Option Row) → option_map (λ site. site.address) (option_map site_of o) ≡ option_map (λ row. row.address) o
address_there None = refl
address_there (Some row) = refl

-- A line of an assembly's file has the address of the first row at the line or behind it.
pub address_of_line : (file : List ℕ) (assembly : AssemblyView) (line : ℕ)
    → address_from (places_of file assembly).sites 0 line ≡ option_map (λ row. row.address) (row_from (places_of file assembly).lines line)
address_of_line file assembly line =
    ap (λ o. option_map (λ site. site.address) o) (first assembly.image line 1 (lines_of assembly.source) assembly.places assembly.instructions)
    ∙ address_there (row_from (rows_of assembly.image (source_lines assembly)) line)

-- ---- by address

-- A line of a file in a text, if there is one: `, hunt.a65:8`.
abbrev pub words_of : List ℕ → Option ℕ → List ℕ
words_of file None = []
words_of file (Some line) = codes ", " ++ (shown_bytes file ++ (codes ":" ++ decimal line))

abbrev one_file : List ℕ → List (List ℕ) → Option Row → Type 0
one_file file texts row = line_words (record { name = file; texts = texts } ∷ []) row ≡ words_of file (option_map (λ r. r.line) row)

one_file_by : (file : List ℕ) (texts : List (List ℕ)) (image : List (Option ℕ)) (l : LineView) (rest : List Row) (address : ℕ) (b found : Bool)
    → one_file file texts (row_at rest address)
    → one_file file texts (if b then (if found then Some (line_row image l) else row_at rest address) else row_at rest address)
one_file_by file texts image l rest address true true e = refl
one_file_by file texts image l rest address true false e = e
one_file_by file texts image l rest address false true e = e
one_file_by file texts image l rest address false false e = e

row_before : (row : Row) (rest : List Row) (address : ℕ) (b : Bool)
    → row_at (rows_before b row rest) address ≡ (if b then (if row.address == address then Some row else row_at rest address) else row_at rest address)
row_before row rest address true = refl
row_before row rest address false = refl

in_one_file : (file : List ℕ) (texts : List (List ℕ)) (image : List (Option ℕ)) (lines : List LineView) (address : ℕ)
    → one_file file texts (row_at (rows_of image lines) address)
in_one_file file texts image [] address = refl
in_one_file file texts image (l ∷ lines) address =
    let b = nat_lt 0 l.count && nat_le l.address 65535 in
    let rest = rows_of image lines in
    subst (λ (o : Option Row). one_file file texts o) (sym (row_before (line_row image l) rest address b))
    (one_file_by file texts image l rest address b (l.address == address) (in_one_file file texts image lines address))

-- Where a line of an assembly begins, its file's name and its number are said.
pub words_at : (file : List ℕ) (assembly : AssemblyView) (address : ℕ)
    → line_words (places_of file assembly).sources (row_at (places_of file assembly).lines address)
    ≡ words_of file (line_at (places_of file assembly).lines address)
words_at file assembly address = in_one_file file (texts_of (source_lines assembly)) assembly.image (source_lines assembly) address

-- The texts of an assembly's file are those of its lines.
pub texts_there : (file : List ℕ) (assembly : AssemblyView) → texts_at (places_of file assembly).sources 0 ≡ texts_of (source_lines assembly)
texts_there file assembly = refl
