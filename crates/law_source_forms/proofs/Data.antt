-- `.BYTE` with numbers, and with a string.
use Rattle.std.proofs.Common.{◌≡◌, ℕ, zero, suc, ◌+◌, ◌-◌, ◌*◌, ◌<◌, ◌≤◌, List, [], ◌∷◌, ◌++◌, length, map, take, drop, Bool, true, false, Option, Some, None, Ok, refl, ap, ◌∙◌, arith, append-nil, inl, inr}
use Rattle.std.specs.Prelude.{nat_le, not, ◌&&◌, ◌||◌, ⊤, codes, ◌==◌}
use Rattle.std.specs.List.{list_any, flat_map}
use Rattle.std.proofs.lemmas.Bool.{le-ltb}
use Rattle.std.proofs.lemmas.Bool.Decides.{eqb_tells}
use Rattle.model.specs.declared.instruction.Profile.{Profile}
use Rattle.model.specs.declared.source_fault.AsmFaultKind.{AsmFaultKind}
use Rattle.model.specs.declared.expression.TokenKind.TheVariants.{Directive, Str}
use Rattle.model.specs.Token.{Lexeme, Tokens, is_source_byte, is_string_byte, is_hex_byte, is_word_byte, tokens_of, tokens_from, token_at, run_of, begins}
use Rattle.model.specs.Reading.{expression_of}
use Rattle.model.specs.Value.{Numbers, eval_of}
use Rattle.model.specs.Names.{Definitions}
use Rattle.model.specs.SourceLine.{Item, value, string, bytes, labelled, read_line, line_of, statement_of, directive_of, list_within, item_of, item_reserves}
use Rattle.model.specs.Layout.{byte_list, items_size, size_of, layout_of, named_line_at, statement_at}
use Rattle.model.specs.Bytes.{item_piece, bytes_in, kinds_in, lowest, lower, pieces_of, line_bytes}
use Rattle.model.specs.InstructionText.{byte_text}
use Rattle.law_texts.proofs.Steps.{number, symbol, before, byte_first}
use Rattle.law_texts.proofs.Said.{written}
use Rattle.law_texts.proofs.Forms.{of_number}
use Rattle.law_texts.proofs.InstructionIsRead.{byte_number, high, low}
use Rattle.law_texts.proofs.Alone.{byte_again}
use Rattle.source_forms.specs.Rows.{more_bytes, data_text, string_text}
use Rattle.law_source_forms.proofs.Cut.{IsPlain}
use Rattle.law_source_forms.proofs.Stands.{Stands, fixed_at, placed_at}

abbrev pub AreSmall : List ℕ → Type 0
AreSmall [] = ⊤
AreSmall (b ∷ bs) = (b < 256) × AreSmall bs

-- ---- numbers: tokens

abbrev more_tokens : ℕ → List ℕ → List Lexeme
more_tokens p [] = []
more_tokens p (b ∷ bs) = symbol p 44 ∷ number (p + 1) (byte_text b) ∷ more_tokens (p + 1 + 1 + 1 + 1) bs

-- what may stand behind numbers, and says nothing
pub record IsNote (note : List ℕ) : Type 0 where
  pub none : (p : ℕ) → tokens_from p 0 note ≡ Some []
  pub no_digit : run_of is_hex_byte note ≡ []
  pub no_word : begins is_word_byte note ≡ false
  pub plain : IsPlain note
  pub few : length note ≤ 32

pub no_note : IsNote []
unfolding tokens_from
no_note = record { none = λ p. refl; no_digit = refl; no_word = refl; plain = refl; few = omega arith }

no_digit : (bs note : List ℕ) → IsNote note → run_of is_hex_byte (more_bytes bs ++ note) ≡ []
no_digit [] note is = is.no_digit
no_digit (b ∷ bs) note is = refl

no_word : (bs note : List ℕ) → IsNote note → begins is_word_byte (more_bytes bs ++ note) ≡ false
no_word [] note is = is.no_word
no_word (b ∷ bs) note is = refl

comma_first : (p : ℕ) (rest : List ℕ) → tokens_from p 0 (44 ∷ rest) ≡ before (symbol p 44)
    (tokens_from (p + 1) 0 rest)
unfolding tokens_from token_at
comma_first p rest = refl

number_first : (p b : ℕ) (bs note : List ℕ) → b < 256 → IsNote note
    → tokens_from p 0 (byte_text b ++ (more_bytes bs ++ note)) ≡ before (number p (byte_text b))
    (tokens_from (p + 1 + 1 + 1) 0 (more_bytes bs ++ note))
number_first p b bs note below is = byte_first p _ _ _ _ (more_bytes bs ++ note) (high b below) (low b) (no_digit bs note is) (no_word bs note is)

more_found : (p : ℕ) (bs note : List ℕ) → AreSmall bs → IsNote note
    → tokens_from p 0 (more_bytes bs ++ note) ≡ Some (more_tokens p bs)
more_found p [] note small is = is.none p
more_found p (b ∷ bs) note small is =
    comma_first p (byte_text b ++ (more_bytes bs ++ note))
    ∙ ap (before (symbol p 44)) (number_first (p + 1) b bs note small.0 is)
    ∙ ap (λ (t : Tokens). before (symbol p 44) (before (number (p + 1) (byte_text b)) t)) (more_found (p + 1 + 1 + 1 + 1) bs note small.1 is)

abbrev directive : Lexeme
directive = record { kind = Directive; start = 0; text = codes ".BYTE" }

directive_first : (rest : List ℕ)
    → tokens_from 0 0 (46 ∷ 66 ∷ 89 ∷ 84 ∷ 69 ∷ 32 ∷ rest) ≡ before directive (tokens_from 6 0 rest)
unfolding tokens_from token_at
directive_first rest = refl

-- ---- numbers: items

abbrev values : List ℕ → List Item
values [] = []
values (b ∷ bs) = value (written (byte_text b)) ∷ values bs

abbrev numbered : List ℕ → List Item
numbered [] = []
numbered (b ∷ bs) = value (of_number b) ∷ numbered bs

values_are : (bs : List ℕ) → AreSmall bs → values bs ≡ numbered bs
values_are [] small = refl
values_are (b ∷ bs) small = rw (byte_number b small.0, values_are bs small.1) refl

items_found : (bs : List ℕ) (n p q b : ℕ) → length bs < n
    → list_within item_of n (number p (byte_text b) ∷ more_tokens q bs) ≡ Some (values (b ∷ bs))
unfolding list_within expression_of
items_found bs zero p q b room = absurd (omega (arith, room))
items_found [] (suc n) p q b room = refl
items_found (c ∷ bs) (suc n) p q b room = rw (items_found bs n (q + 1) (q + 1 + 1 + 1 + 1) c (omega (arith, room))) refl

enough_tokens : (p : ℕ) (bs : List ℕ) → length bs ≤ length (more_tokens p bs)
enough_tokens p [] = omega arith
enough_tokens p (b ∷ bs) = omega (arith, enough_tokens (p + 1 + 1 + 1 + 1) bs)

line_found : (profile : Profile) (b : ℕ) (bs : List ℕ)
    → line_of profile (directive ∷ number 6 (byte_text b) ∷ more_tokens 9 bs)
    ≡ Some (labelled None (bytes (values (b ∷ bs))))
unfolding line_of statement_of directive_of
line_found profile b bs = rw (items_found bs (suc (length (more_tokens 9 bs))) 6 9 b (omega (arith, enough_tokens 9 bs))) refl

-- ---- numbers: the line

length_more : (bs note : List ℕ) → length (more_bytes bs ++ note) ≡ 4 * length bs + length note
length_more [] note = omega arith
length_more (b ∷ bs) note = omega (arith, length_more bs note)

more_plain : (bs note : List ℕ) → AreSmall bs → IsNote note → IsPlain (more_bytes bs ++ note)
more_plain [] note small is = is.plain
more_plain (b ∷ bs) note small is = rw ((high b small.0).source, (low b).source) (more_plain bs note small.1 is)

none_reserved : (profile : Profile) (bs : List ℕ) → list_any (item_reserves profile)
    (values bs) ≡ false
none_reserved profile [] = refl
none_reserved profile (b ∷ bs) = none_reserved profile bs

line_plain : (b : ℕ) (bs note : List ℕ) → b < 256 → AreSmall bs → IsNote note
    → IsPlain (data_text (b ∷ bs) note)
line_plain b bs note below small is = rw ((high b below).source, (low b).source) (more_plain bs note small is)

data_tokens : (b : ℕ) (bs note : List ℕ) → b < 256 → AreSmall bs → IsNote note
    → tokens_from 0 0 (data_text (b ∷ bs) note)
    ≡ Some (directive ∷ number 6 (byte_text b) ∷ more_tokens 9 bs)
data_tokens b bs note below small is =
    directive_first (byte_text b ++ (more_bytes bs ++ note)) ∙ ap (before directive) (number_first 6 b bs note below is)
    ∙ ap (λ (t : Tokens). before directive (before (number 6 (byte_text b)) t)) (more_found 9 bs note small is)

pub length_data : (b : ℕ) (bs note : List ℕ)
    → length (data_text (b ∷ bs) note) ≡ 9 + 4 * length bs + length note
length_data b bs note = omega (arith, length_more bs note)

data_said : (profile : Profile) (b : ℕ) (bs note : List ℕ) → b < 256 → AreSmall bs → length bs < 8
    → IsNote note
    → read_line profile (data_text (b ∷ bs) note) ≡ Ok (labelled None (bytes (numbered (b ∷ bs))))
unfolding read_line tokens_of
data_said profile b bs note below small few is =
    let fits : length (data_text (b ∷ bs) note) ≤ 255 = omega (arith, length_data b bs note, is.few) in
    rw (
      le-ltb 255 (length (data_text (b ∷ bs) note)) fits,
      line_plain b bs note below small is,
      data_tokens b bs note below small is,
      line_found
          profile b bs,
      none_reserved profile (b ∷ bs),
      values_are (b ∷ bs) (below, small),
    ) refl

-- ---- numbers: their bytes

size_numbered : (bs : List ℕ) → items_size (numbered bs) ≡ length bs
size_numbered [] = refl
size_numbered (b ∷ bs) = omega (arith, size_numbered bs)

piece_of : (numbers : Numbers) (a b : ℕ) → b < 256
    → item_piece numbers a (value (of_number b)) ≡ Ok (b ∷ [])
unfolding eval_of
piece_of numbers a b below = byte_again b below

numbered_right : (numbers : Numbers) (a : ℕ) (bs : List ℕ) → AreSmall bs
    → (more : List (Option AsmFaultKind))
    → lowest (kinds_in (map (λ i. item_piece numbers a i) (numbered bs)) ++ more) ≡ lowest more
unfolding lowest lower
numbered_right numbers a [] small more = refl
numbered_right numbers a (b ∷ bs) small more = rw (piece_of numbers a b small.0) (numbered_right numbers a bs small.1 more)

numbered_bytes : (numbers : Numbers) (a : ℕ) (bs : List ℕ) → AreSmall bs
    → flat_map bytes_in (map (λ i. item_piece numbers a i) (numbered bs)) ≡ bs
numbered_bytes numbers a [] small = refl
numbered_bytes numbers a (b ∷ bs) small = rw (piece_of numbers a b small.0) (ap (λ (x : List ℕ). b ∷ x) (numbered_bytes numbers a bs small.1))

bytes_laid : (profile : Profile) (line : List ℕ) (items : List Item) (a n : ℕ) (names : Definitions)
    → read_line profile line ≡ Ok (labelled None (bytes items)) → items_size items ≡ n
    → layout_of (fixed_at profile a names) line
    ≡ Ok (placed_at a (byte_list items), fixed_at profile (a + n) names)
unfolding layout_of named_line_at statement_at size_of
bytes_laid profile line items a n names read size = rw (read, append-nil names, size) refl

size_is : (items : List Item) → size_of (byte_list items) ≡ items_size items
unfolding size_of
size_is items = refl

pieces_are_right : (numbers : Numbers) (a : ℕ) (items : List Item)
    (more : List (Option AsmFaultKind))
    → lowest (kinds_in (map (λ i. item_piece numbers a i) items) ++ more) ≡ lowest more
    → lowest (kinds_in (pieces_of numbers a (byte_list items)) ++ more) ≡ lowest more
unfolding pieces_of
pieces_are_right numbers a items more right = right

pieces_bytes : (numbers : Numbers) (a : ℕ) (items : List Item) (bs : List ℕ)
    → flat_map bytes_in (map (λ i. item_piece numbers a i) items) ≡ bs
    → line_bytes numbers (placed_at a (byte_list items)) ≡ bs
unfolding line_bytes pieces_of
pieces_bytes numbers a items bs is = is

module _ (Near : Definitions → Type 0) (Final : Numbers → Type 0) (profile : Profile) (a : ℕ) where
  pub data_stands : (b : ℕ) (bs note : List ℕ) → b < 256 → AreSmall bs → length bs < 8 → IsNote note
      → Stands Near Final profile (data_text (b ∷ bs) note) a (b ∷ bs)
  data_stands b bs note below small few is =
      let read = data_said profile b bs note below small few is in
      record {
        content = byte_list (numbered (b ∷ bs));
        plain = line_plain b bs note below small is;
        goes_on = rw read refl;
        laid = λ names near. bytes_laid profile (data_text (b ∷ bs) note) (numbered (b ∷ bs)) a (length (b ∷ bs)) names read (size_numbered (b ∷ bs));
        size = size_is (numbered (b ∷ bs)) ∙ size_numbered (b ∷ bs);
        right = λ numbers final more. pieces_are_right numbers a (numbered (b ∷ bs)) more (numbered_right numbers a (b ∷ bs) (below, small) more);
        bytes_are = λ numbers final. pieces_bytes numbers a (numbered (b ∷ bs)) (b ∷ bs) (numbered_bytes numbers a (b ∷ bs) (below, small));
      }

-- ---- strings

abbrev pub AreLetters : List ℕ → Type 0
AreLetters [] = ⊤
AreLetters (b ∷ bs) = (is_string_byte b ≡ true) × AreLetters bs

abbrev quoted : List ℕ → List ℕ
quoted bs = 34 ∷ bs ++ 34 ∷ []

letters_run : (bs : List ℕ) → AreLetters bs → run_of is_string_byte (bs ++ 34 ∷ []) ≡ bs
letters_run [] letters = refl
letters_run (b ∷ bs) letters = rw letters.0 (ap (λ (x : List ℕ). b ∷ x) (letters_run bs letters.1))

quote_behind : (bs : List ℕ) → drop (length bs) (bs ++ 34 ∷ []) ≡ 34 ∷ []
quote_behind [] = refl
quote_behind (b ∷ bs) = quote_behind bs

some_length : (bs : List ℕ) → (suc (length bs) == 0) ≡ false
some_length bs = elim (eqb_tells (suc (length bs)) 0) [ inl same ↦ absurd (omega (arith, same.1)) | inr other ↦ other.0 ]

string_found : (b : ℕ) (bs : List ℕ) → AreLetters (b ∷ bs)
    → token_at (quoted (b ∷ bs)) ≡ Some (Str, quoted (b ∷ bs))
unfolding token_at
string_found b bs letters = rw (letters_run (b ∷ bs) letters, quote_behind (b ∷ bs), some_length bs) refl

covered : (p : ℕ) (bs : List ℕ) → tokens_from p (length bs) bs ≡ Some []
unfolding tokens_from
covered p [] = refl
covered p (b ∷ bs) = covered (p + 1) bs

abbrev string_token : List ℕ → Lexeme
string_token bs = record { kind = Str; start = 6; text = quoted bs }

string_first : (b : ℕ) (bs : List ℕ) → AreLetters (b ∷ bs)
    → tokens_from 6 0 (quoted (b ∷ bs)) ≡ Some (string_token (b ∷ bs) ∷ [])
unfolding tokens_from
string_first b bs letters =
    let rest : length (quoted (b ∷ bs)) - 1 ≡ length ((b ∷ bs) ++ 34 ∷ []) = omega arith in
    rw (string_found b bs letters, rest, covered 7 ((b ∷ bs) ++ 34 ∷ [])) refl

string_tokens : (b : ℕ) (bs : List ℕ) → AreLetters (b ∷ bs)
    → tokens_from 0 0 (string_text (b ∷ bs)) ≡ Some (directive ∷ string_token (b ∷ bs) ∷ [])
string_tokens b bs letters = directive_first (quoted (b ∷ bs)) ∙ ap (before directive) (string_first b bs letters)

inside : (bs : List ℕ) → take (length bs) (bs ++ 34 ∷ []) ≡ bs
inside [] = refl
inside (b ∷ bs) = ap (λ (x : List ℕ). b ∷ x) (inside bs)

pub length_quoted : (bs : List ℕ) → length (bs ++ 34 ∷ []) ≡ length bs + 1
length_quoted [] = refl
length_quoted (b ∷ bs) = omega (arith, length_quoted bs)

string_line_found : (profile : Profile) (bs : List ℕ)
    → line_of profile (directive ∷ string_token bs ∷ [])
    ≡ Some (labelled None (bytes (string bs ∷ [])))
unfolding line_of statement_of directive_of list_within
string_line_found profile bs =
    let long : length (quoted bs) - 2 ≡ length bs = omega (arith, length_quoted bs) in
    rw (long, inside bs) refl

letter_plain : (b : ℕ) → is_string_byte b ≡ true → is_source_byte b ≡ true
letter_plain b letter = by (nat_le 32 b && nat_le b 126) letter
  where
    by : (t : Bool) → (t && not (b == 34)) ≡ true → (t || (b == 9)) ≡ true
    by true h = refl
    by false h = absurd cc

letters_plain : (bs : List ℕ) → AreLetters bs → IsPlain (bs ++ 34 ∷ [])
letters_plain [] letters = refl
letters_plain (b ∷ bs) letters = rw (letter_plain b letters.0) (letters_plain bs letters.1)

pub length_string : (bs : List ℕ) → length (string_text bs) ≡ 8 + length bs
length_string bs = omega (arith, length_quoted bs)

string_said : (profile : Profile) (b : ℕ) (bs : List ℕ) → AreLetters (b ∷ bs) → length bs < 32
    → read_line profile (string_text (b ∷ bs))
    ≡ Ok (labelled None (bytes (string (b ∷ bs) ∷ [])))
unfolding read_line tokens_of
string_said profile b bs letters few =
    let fits : length (string_text (b ∷ bs)) ≤ 255 = omega (arith, length_string (b ∷ bs)) in
    rw (le-ltb 255 (length (string_text (b ∷ bs))) fits, letters_plain (b ∷ bs) letters, string_tokens b bs letters, string_line_found profile (b ∷ bs)) refl

string_right : (numbers : Numbers) (a : ℕ) (bs : List ℕ) (more : List (Option AsmFaultKind))
    → lowest (kinds_in (map (λ i. item_piece numbers a i) (string bs ∷ [])) ++ more) ≡ lowest more
unfolding lowest lower
string_right numbers a bs more = refl

string_bytes : (numbers : Numbers) (a : ℕ) (bs : List ℕ)
    → flat_map bytes_in (map (λ i. item_piece numbers a i) (string bs ∷ [])) ≡ bs
string_bytes numbers a bs = append-nil bs

string_size : (bs : List ℕ) → items_size (string bs ∷ []) ≡ length bs
string_size bs = omega arith

module _ (Near : Definitions → Type 0) (Final : Numbers → Type 0) (profile : Profile) (a : ℕ) where
  pub string_stands : (b : ℕ) (bs : List ℕ) → AreLetters (b ∷ bs) → length bs < 32 → Stands Near Final profile (string_text (b ∷ bs)) a (b ∷ bs)
  string_stands b bs letters few =
      let read = string_said profile b bs letters few in
      record {
        content = byte_list (string (b ∷ bs) ∷ []);
        plain = letters_plain (b ∷ bs) letters;
        goes_on = rw read refl;
        laid = λ names near. bytes_laid profile (string_text (b ∷ bs)) (string (b ∷ bs) ∷ []) a (length (b ∷ bs)) names read (string_size (b ∷ bs));
        size = size_is (string (b ∷ bs) ∷ []) ∙ string_size (b ∷ bs);
        right = λ numbers final more. pieces_are_right numbers a (string (b ∷ bs) ∷ []) more (string_right numbers a (b ∷ bs) more);
        bytes_are = λ numbers final. pieces_bytes numbers a (string (b ∷ bs) ∷ []) (b ∷ bs) (string_bytes numbers a (b ∷ bs));
      }
