-- The written text of an image denotes the image.
use Rattle.std.proofs.Common.{◌≡◌, ℕ, zero, suc, ◌+◌, ◌-◌, ◌*◌, ◌/◌, ◌%◌, ◌<◌, ◌≤◌, eqb, ltb, leb, cond, Bool, true, false, List, [], ◌∷◌, ◌++◌, map, sum, length, take, drop, slice_index, Option, Result, Ok, Err, unwrap_or, refl, sym, ap, subst, ◌∙◌, arith, inl, inr, append_assoc}
use Rattle.std.specs.Prelude.{codes}
use Rattle.std.specs.List.{AllByRecursion, flat_map, list_all, prefix_len}
use Rattle.std.specs.Io.BufRead.{strip_last}
use Rattle.std.proofs.lemmas.Bool.{and_parts, and_from, cases_Bool, eq-eqb, eqb-true, lt-ltb, le-ltb, ne_eqb, lt-leb}
use Rattle.std.proofs.lemmas.List.{append-nil, get_or_at, length-append, take_at}
use Rattle.hex.specs.Hex.{encode_with, encode_upper, upper_digits}
use Rattle.hex.proofs.HexLemmas.{IsDigits-upper_digits, length-encode_with}
use Rattle.model.specs.Digits.{is_hex_byte}
use Rattle.model.specs.Image.{IsImage, empty_image, with_bytes}
use Rattle.model.specs.Tape.{bytes_of_digits}
use Rattle.model.specs.TapeText.{Stretch, word}
use Rattle.model.specs.TextLines.{lines_from, lines_of, last_line}
use Rattle.papertape.proofs.Lines.{AreBytes, bytes_of-encode}
use Rattle.papertape.proofs.Texts.{sum-cons}
use Rattle.image_reader.specs.declared.fault.LineFault.{LineFault}
use Rattle.image_reader.specs.declared.fault.RecordFault.{RecordFault}
use Rattle.image_reader.specs.declared.form.TextForm.{TextForm}
use Rattle.image_reader.specs.declared.form.TextForm.TheVariants.{Hex, SRecord}
use Rattle.image_reader.specs.declared.reading.Place.TheVariants.{Open, Ended}
use Rattle.image_reader.specs.declared.s_records.Role.TheVariants.{Data, End, Header}
use Rattle.image_reader.specs.HexRecords.{after_hex, hex_line}
use Rattle.image_reader.specs.Progress.{Progress, start, stored, with_again}
use Rattle.image_reader.specs.Records.{◌>>=◌, record_bytes, record_digits, wanted, with_total}
use Rattle.image_reader.specs.SRecords.{after_s, one_more, s_line}
use Rattle.image_reader.specs.Texts.{after_lines, finished, form_line, next_line, numbered, read_line, text_image}
use Rattle.image_writer.specs.ImageTexts.{checksum, end_text, front_text, hex_end, hex_row, image_text, record_text, row_text, s_end, s_header, s_row}
use Rattle.image_writer.specs.Rows.{put_rows, rows}
use Rattle.image_writer.proofs.Records.{sum_append}
use Rattle.image_writer.proofs.Rows.{AreBytes-append, IsRow, image_rows, whole_put}

-- ---- the digits of a record

hex_of-encode : (bs : List ℕ) → AreBytes bs → list_all is_hex_byte (encode_upper bs) ≡ true
unfolding encode_with
hex_of-encode [] h = refl
hex_of-encode (b ∷ bs) h =
    let hi : is_hex_byte (slice_index upper_digits (b / 16)) ≡ true = rw (IsDigits-upper_digits (b / 16) (omega (arith, h.0))) refl in
    let lo : is_hex_byte (slice_index upper_digits (b % 16)) ≡ true = rw (IsDigits-upper_digits (b % 16) (omega arith)) refl in
    and_from _ _ hi (and_from _ _ lo (hex_of-encode bs h.1))

all_pass : (p : ℕ → Bool) (xs : List ℕ) → list_all p xs ≡ true → prefix_len p xs ≡ length xs
all_pass p [] h = refl
all_pass p (x ∷ xs) h =
    let t = and_parts (p x) (list_all p xs) h in
    let k = all_pass p xs t.1 in
    rw t.0 (omega (arith, k))

wanted-encode : (extra b : ℕ) (bs : List ℕ) → b < 256 → wanted extra (encode_upper (b ∷ bs)) ≡ 2 * (extra + b)
unfolding encode_with
wanted-encode extra b bs h =
    let hi = ap (λ (o : Option ℕ). unwrap_or o 0) (IsDigits-upper_digits (b / 16) (omega (arith, h))) in
    let lo = ap (λ (o : Option ℕ). unwrap_or o 0) (IsDigits-upper_digits (b % 16) (omega arith)) in
    rw (hi, lo) (omega arith)

digits_read : (front extra b : ℕ) (bs : List ℕ) → AreBytes (b ∷ bs) → length (b ∷ bs) ≡ extra + b
    → record_digits front extra (encode_upper (b ∷ bs)) ≡ Ok (b ∷ bs)
unfolding record_digits
digits_read front extra b bs h n =
    let digits = encode_upper (b ∷ bs) in
    let all = all_pass is_hex_byte digits (hex_of-encode (b ∷ bs) h) in
    let len : length digits ≡ 2 * length (b ∷ bs) = length-encode_with upper_digits (b ∷ bs) in
    let w = wanted-encode extra b bs h.0 in
    rw (
      le-ltb (prefix_len is_hex_byte digits) (wanted extra digits) (omega (arith, all, len, w, n)),
      le-ltb (wanted extra digits) (length digits)
          (omega (arith, len, w, n)),
    )
    (ap (λ (x : List ℕ). Ok x) (bytes_of-encode (b ∷ bs) h))

-- bytes with their checksum
abbrev pub whole : ℕ → List ℕ → List ℕ
whole total bytes = bytes ++ checksum total bytes ∷ []

checked : (total : ℕ) (bytes : List ℕ) → total < 256 → sum (whole total bytes) % 256 ≡ total
checked total bytes h =
    let s = sum_append bytes (checksum total bytes ∷ []) in
    let c = sum-cons (checksum total bytes) [] in
    omega (arith, s, c, h)

bytes_read : (front extra total b : ℕ) (bs : List ℕ) → total < 256 → AreBytes (b ∷ bs) → length (b ∷ bs) + 1 ≡ extra + b
    → record_bytes front extra total (encode_upper (whole total (b ∷ bs))) ≡ Ok (whole total (b ∷ bs))
unfolding record_bytes
bytes_read front extra total b bs small h n =
    let c = checksum total (b ∷ bs) in
    let fits : AreBytes (whole total (b ∷ bs)) = AreBytes-append (b ∷ bs) (c ∷ []) h (omega arith, tt) in
    let digits = digits_read front extra b (bs ++ c ∷ []) fits (omega (arith, n, length-append bs (c ∷ []))) in
    ap (λ (r : Result (List ℕ) LineFault). r >>= with_total (front + length (encode_upper (whole total (b ∷ bs))) - 1) total) digits
    ∙ rw (eq-eqb (sum (whole total (b ∷ bs)) % 256) total (checked total (b ∷ bs) small)) refl

-- ---- what the records do

abbrev Step : Type 0
Step = Result Progress LineFault

-- bytes are put from an address on
abbrev put : Progress → ℕ → List ℕ → Progress
put s address bytes = record s { cells = with_bytes s.cells address bytes; again = with_again s.cells s.again address bytes }

put_there : (column address : ℕ) (bytes : List ℕ) (s : Progress) → address + length bytes ≤ 65536 → stored column address bytes s ≡ Ok (put s address bytes)
unfolding stored
put_there column address [] s h = refl
put_there column address (b ∷ bytes) s h = rw (lt-ltb 0 (length (b ∷ bytes)) (omega arith), le-ltb 65536 (address + length (b ∷ bytes)) h) refl

-- the bytes of a written row
abbrev hex_bytes : Stretch → List ℕ
hex_bytes row = length row.1 ∷ word row.0 ++ 0 ∷ row.1

abbrev s_bytes : Stretch → List ℕ
s_bytes row = (length row.1 + 3) ∷ word row.0 ++ row.1

abbrev mark_of : TextForm → List ℕ
mark_of Hex = codes ":"
mark_of SRecord = codes "S1"

hex_stored : (row : Stretch) (s : Progress) → IsRow row → s.base ≡ 0 → after_hex s (whole 0 (hex_bytes row)) ≡ Ok (put s row.0 row.1)
unfolding after_hex
hex_stored row s h base =
    let c = checksum 0 (hex_bytes row) in
    let bytes : take (length row.1) (row.1 ++ c ∷ []) ≡ row.1 = take_at row.1 (c ∷ []) (length row.1) refl in
    let address : s.base + (row.0 / 256 * 256 + row.0 % 256) ≡ row.0 = omega (arith, base) in
    ap (λ (x : List ℕ). stored 4 (s.base + (row.0 / 256 * 256 + row.0 % 256)) x s) bytes
    ∙ ap (λ (a : ℕ). stored 4 a row.1 s) address
    ∙ put_there 4 row.0 row.1 s h.fits

hex_read : (row : Stretch) (s : Progress) → IsRow row → s.base ≡ 0 → hex_line s (codes ":" ++ encode_upper (whole 0 (hex_bytes row))) ≡ Ok (put s row.0 row.1)
unfolding hex_line
hex_read row s h base =
    let fits : AreBytes (hex_bytes row) = (omega (arith, h.few), (omega (arith, h.inside), (omega arith, (omega arith, h.bytes)))) in
    ap (λ (r : Result (List ℕ) LineFault). r >>= after_hex s)
    (bytes_read 1 5 0 (length row.1) (row.0 / 256 ∷ row.0 % 256 ∷ 0 ∷ row.1) (omega arith) fits (omega arith))
    ∙ hex_stored row s h base

s_stored : (row : Stretch) (s : Progress) → IsRow row → after_s Data 2 s (whole 255 (s_bytes row)) ≡ Ok (one_more (put s row.0 row.1))
unfolding after_s
s_stored row s h =
    let c = checksum 255 (s_bytes row) in
    let n : length row.1 + 3 - 3 ≡ length row.1 = omega arith in
    let bytes : take (length row.1 + 3 - 3) (row.1 ++ c ∷ []) ≡ row.1 =
    ap (λ (k : ℕ). take k (row.1 ++ c ∷ [])) n ∙ take_at row.1 (c ∷ []) (length row.1) refl in
    let address : row.0 / 256 * 256 + row.0 % 256 ≡ row.0 = omega arith in
    rw (le-ltb (length row.1 + 3) 3 (omega arith))
    (ap (λ (x : List ℕ). stored 5 (row.0 / 256 * 256 + row.0 % 256) x s >>= λ t. Ok (one_more t)) bytes
    ∙ ap (λ (a : ℕ). stored 5 a row.1 s >>= λ t. Ok (one_more t)) address
    ∙ ap (λ (r : Step). r >>= λ t. Ok (one_more t)) (put_there 5 row.0 row.1 s h.fits))

s_read : (row : Stretch) (s : Progress) → IsRow row → s_line s (codes "S1" ++ encode_upper (whole 255 (s_bytes row)))
    ≡ Ok (one_more (put s row.0 row.1))
unfolding s_line
s_read row s h =
    let fits : AreBytes (s_bytes row) = (omega (arith, h.few), (omega (arith, h.inside), (omega arith, h.bytes))) in
    ap (λ (r : Result (List ℕ) LineFault). r >>= after_s Data 2 s)
    (bytes_read 2 1 255 (length row.1 + 3) (row.0 / 256 ∷ row.0 % 256 ∷ row.1) (omega arith) fits (omega arith))
    ∙ s_stored row s h

-- ---- lines

abbrev no_end : ℕ → Bool
no_end b = cond (eqb b 10) false true

-- a line and its CR LF
cut : (line begun rest : List ℕ) → list_all no_end line ≡ true
    → lines_from last_line begun (line ++ 13 ∷ 10 ∷ rest) ≡ strip_last 13 ((begun ++ line) ++ 13 ∷ []) ∷ lines_from last_line [] rest
unfolding lines_from
cut [] begun rest plain = ap (λ (l : List ℕ). strip_last 13 (l ++ 13 ∷ []) ∷ lines_from last_line [] rest) (sym (append-nil begun))
cut (b ∷ line) begun rest plain =
    let p = and_parts (no_end b) (list_all no_end line) plain in
    let other : eqb b 10 ≡ false = not_end (eqb b 10) p.0 in
    rw other (cut line (begun ++ b ∷ []) rest p.1 ∙ ap (λ (l : List ℕ). strip_last 13 (l ++ 13 ∷ []) ∷ lines_from last_line [] rest)
    (append_assoc begun (b ∷ []) line)) where
      not_end : (t : Bool) → cond t false true ≡ true → t ≡ false
      not_end true e = absurd cc
      not_end false e = refl

stripped : (line : List ℕ) → strip_last 13 (line ++ 13 ∷ []) ≡ line
stripped line =
    let n = length-append line (13 ∷ []) in
    let last : slice_index (line ++ 13 ∷ []) (length (line ++ 13 ∷ []) - 1) ≡ 13 = get_or_at line 13 [] 0 (length (line ++ 13 ∷ []) - 1) (omega (arith, n)) in
    rw (lt-ltb 0 (length (line ++ 13 ∷ [])) (omega (arith, n)), eq-eqb _ 13 last)
    (ap (λ (k : ℕ). take k (line ++ 13 ∷ [])) (omega (arith, n)) ∙ take_at line (13 ∷ []) (length line) refl)

pub first_line : (line rest : List ℕ) → list_all no_end line ≡ true → lines_from last_line [] (line ++ 13 ∷ 10 ∷ rest) ≡ line ∷ lines_from last_line [] rest
first_line line rest plain = cut line [] rest plain ∙ ap (λ (l : List ℕ). l ∷ lines_from last_line [] rest) (stripped line)

hex_no_end : (xs : List ℕ) → list_all is_hex_byte xs ≡ true → list_all no_end xs ≡ true
hex_no_end [] h = refl
hex_no_end (x ∷ xs) h =
    let p = and_parts (is_hex_byte x) (list_all is_hex_byte xs) h in
    and_from (no_end x) (list_all no_end xs) (digit x p.0) (hex_no_end xs p.1) where
      digit : (x : ℕ) → is_hex_byte x ≡ true → no_end x ≡ true
      digit x h = elim (cases_Bool (eqb x 10)) [
        | inl e ↦ let ten : x ≡ 10 = eqb-true x 10 e in let never : is_hex_byte 10 ≡ true = subst (λ (k : ℕ). is_hex_byte k ≡ true) ten h in absurd cc
        | inr e ↦ rw e refl
      ]

-- the line of a record
abbrev line_of : List ℕ → ℕ → List ℕ → List ℕ
line_of mark total bytes = mark ++ encode_upper (whole total bytes)

record_cut : (mark : List ℕ) (total : ℕ) (bytes rest : List ℕ) → list_all no_end (line_of mark total bytes) ≡ true
    → lines_from last_line [] (record_text mark total bytes ++ rest) ≡ line_of mark total bytes ∷ lines_from last_line [] rest
record_cut mark total bytes rest plain =
    let digits = encode_upper (whole total bytes) in
    ap (lines_from last_line []) (append_assoc mark (digits ++ 13 ∷ 10 ∷ []) rest
    ∙ ap (λ (x : List ℕ). mark ++ x) (append_assoc digits (13 ∷ 10 ∷ []) rest) ∙ sym (append_assoc mark digits (13 ∷ 10 ∷ rest)))
    ∙ first_line (mark ++ digits) rest plain

-- ---- rows

read_open : (form : TextForm) (s : Progress) (line : List ℕ) → s.form ≡ form → s.place ≡ Open → read_line s line ≡ form_line form s line
unfolding read_line
read_open form s line e place = rw (place, e) refl

abbrev read_ok : Progress → Step
read_ok s = Ok s

-- a row was read
record RowRead (form : TextForm) (row : Stretch) (s : Progress) : Type 0 where
  line : List ℕ
  cut : (rest : List ℕ) → lines_from last_line [] (row_text form row ++ rest) ≡ line ∷ lines_from last_line [] rest
  next : Progress
  read : read_line s line ≡ Ok next
  same : next.form ≡ form
  place : next.place ≡ Open
  base : next.base ≡ 0
  cells : next.cells ≡ with_bytes s.cells row.0 row.1

row_read : (form : TextForm) (row : Stretch) (s : Progress) → IsRow row → s.form ≡ form → s.place ≡ Open → s.base ≡ 0 → RowRead form row s
row_read Hex row s h e place base =
    let fits : AreBytes (whole 0 (hex_bytes row)) = AreBytes-append (hex_bytes row) (checksum 0 (hex_bytes row) ∷ [])
    (omega (arith, h.few), (omega (arith, h.inside), (omega arith, (omega arith, h.bytes)))) (omega arith, tt) in
    record {
      line = line_of (codes ":") 0 (hex_bytes row);
      cut = λ rest. record_cut (codes ":") 0 (hex_bytes row) rest
          (hex_no_end (encode_upper (whole 0 (hex_bytes row))) (hex_of-encode (whole 0 (hex_bytes row)) fits));
      next = put s row.0 row.1;
      read = read_open Hex s _ e place ∙ hex_read row s h base;
      same = e;
      place = place;
      base = base;
      cells = refl;
    }
row_read SRecord row s h e place base =
    let fits : AreBytes (whole 255 (s_bytes row)) = AreBytes-append (s_bytes row) (checksum 255 (s_bytes row) ∷ [])
    (omega (arith, h.few), (omega (arith, h.inside), (omega arith, h.bytes))) (omega arith, tt) in
    record {
      line = line_of (codes "S1") 255 (s_bytes row);
      cut = λ rest. record_cut (codes "S1") 255 (s_bytes row) rest
          (hex_no_end (encode_upper (whole 255 (s_bytes row))) (hex_of-encode (whole 255 (s_bytes row)) fits));
      next = one_more (put s row.0 row.1);
      read = read_open SRecord s _ e place ∙ s_read row s h;
      same = e;
      place = refl;
      base = base;
      cells = refl;
    }

abbrev Read : Type 0
Read = Result (ℕ × Progress) RecordFault

abbrev run : ℕ → Progress → List ℕ → Read
run n s text = after_lines n s (lines_from last_line [] text)

-- where rows lead
record Led (form : TextForm) (n : ℕ) (s : Progress) (rs : List Stretch) (rest : List ℕ) : Type 0 where
  line : ℕ
  next : Progress
  ran : run n s (flat_map (row_text form) rs ++ rest) ≡ run line next rest
  same : next.form ≡ form
  place : next.place ≡ Open
  cells : next.cells ≡ put_rows s.cells rs

led : (form : TextForm) (rs : List Stretch) (n : ℕ) (s : Progress) (rest : List ℕ) → AllByRecursion IsRow rs → s.form ≡ form → s.place ≡ Open
    → s.base ≡ 0 → Led form n s rs rest
led form [] n s rest each e place base = record { line = n; next = s; ran = refl; same = e; place = place; cells = refl }
led form (row ∷ rs) n s rest each e place base =
    let r = row_read form row s each.0 e place base in
    let l = led form rs (next_line n) r.next rest each.1 r.same r.place r.base in
    let more : List ℕ = flat_map (row_text form) rs ++ rest in
    record {
      line = l.line;
      next = l.next;
      ran = ap (run n s) (append_assoc (row_text form row) (flat_map (row_text form) rs) rest)
          ∙ ap (after_lines n s) (r.cut more)
          ∙ ap (λ (x : Step). numbered n x >>= λ t. run (next_line n) t more) r.read
          ∙ l.ran;
      same = l.same;
      place = l.place;
      cells = l.cells ∙ ap (λ (x : List (Option ℕ)). put_rows x rs) r.cells;
    }

-- ---- the end

ended_at : (n : ℕ) (s : Progress) → s.place ≡ Ended → finished n s ≡ Ok s.cells
unfolding finished
ended_at n s e = rw e refl

hex_ends : (s : Progress) → hex_line s (line_of (codes ":") 0 (0 ∷ 0 ∷ 0 ∷ 1 ∷ [])) ≡ Ok (record s { place = Ended })
unfolding hex_line record_bytes record_digits after_hex encode_with
hex_ends s = refl

s_ends : (s : Progress) → s_line s (line_of (codes "S9") 255 (3 ∷ 0 ∷ 0 ∷ [])) ≡ Ok (record s { place = Ended })
unfolding s_line record_bytes record_digits after_s encode_with
s_ends s = refl

s_heads : (s : Progress) → s_line s (line_of (codes "S0") 255 (8 ∷ 0 ∷ 0 ∷ codes "mos65")) ≡ Ok (record s { place = Open })
unfolding s_line record_bytes record_digits after_s encode_with
s_heads s = refl

abbrev end_lines : ℕ × Progress → Result (List (Option ℕ)) RecordFault
end_lines t = finished t.0 t.1

end_read : (form : TextForm) (n : ℕ) (s : Progress) (line : List ℕ) → s.form ≡ form → s.place ≡ Open
    → lines_from last_line [] (end_text form ++ []) ≡ line ∷ lines_from last_line [] [] → form_line form s line ≡ Ok (record s { place = Ended })
    → (run n s (end_text form) >>= end_lines) ≡ Ok s.cells
unfolding lines_from
end_read form n s line e place cut read =
    ap (λ (x : List ℕ). run n s x >>= end_lines) (sym (append-nil (end_text form)))
    ∙ ap (λ (x : List (List ℕ)). after_lines n s x >>= end_lines) cut
    ∙ ap (λ (x : Step). (numbered n x >>= λ t. Ok (next_line n, t)) >>= end_lines) (read_open form s line e place ∙ read)
    ∙ ended_at (next_line n) (record s { place = Ended }) refl

form_ends : (form : TextForm) (n : ℕ) (s : Progress) → s.form ≡ form → s.place ≡ Open → (run n s (end_text form) >>= end_lines) ≡ Ok s.cells
unfolding encode_with
form_ends Hex n s e place = end_read Hex n s (line_of (codes ":") 0 (0 ∷ 0 ∷ 0 ∷ 1 ∷ [])) e place
    (record_cut (codes ":") 0 (0 ∷ 0 ∷ 0 ∷ 1 ∷ []) [] refl) (hex_ends s)
form_ends SRecord n s e place = end_read SRecord n s (line_of (codes "S9") 255 (3 ∷ 0 ∷ 0 ∷ [])) e place
    (record_cut (codes "S9") 255 (3 ∷ 0 ∷ 0 ∷ []) [] refl) (s_ends s)

-- ---- an image

-- rows and the end, from a state with no byte
rows_end : (form : TextForm) (cells : List (Option ℕ)) (n : ℕ) (s : Progress) → IsImage cells → s.form ≡ form → s.place ≡ Open → s.base ≡ 0
    → s.cells ≡ empty_image
    → (run n s (flat_map (row_text form) (rows 0 [] cells) ++ end_text form) >>= end_lines) ≡ Ok cells
rows_end form cells n s image e place base empty =
    let l = led form (rows 0 [] cells) n s (end_text form) (image_rows cells image) e place base in
    ap (λ (x : Read). x >>= end_lines) l.ran
    ∙ form_ends form l.line l.next l.same l.place
    ∙ ap (λ (x : List (Option ℕ)). Ok x) (l.cells ∙ ap (λ (x : List (Option ℕ)). put_rows x (rows 0 [] cells)) empty ∙ whole_put cells image.size)

pub written_denotes : (form : TextForm) (cells : List (Option ℕ)) → IsImage cells → text_image form (image_text form cells) ≡ Ok cells
unfolding text_image image_text encode_with
written_denotes Hex cells image = rows_end Hex cells 1 (start Hex) image refl refl refl refl
written_denotes SRecord cells image =
    let more : List ℕ = flat_map s_row (rows 0 [] cells) ++ s_end in
    ap (λ (x : List ℕ). run 1 (start SRecord) x >>= end_lines) (append_assoc s_header (flat_map s_row (rows 0 [] cells)) s_end)
    ∙ ap (λ (x : List (List ℕ)). after_lines 1 (start SRecord) x >>= end_lines) (record_cut (codes "S0") 255 (8 ∷ 0 ∷ 0 ∷ codes "mos65") more refl)
    ∙ ap (λ (x : Step). (numbered 1 x >>= λ t. run (next_line 1) t more) >>= end_lines)
    (read_open SRecord (start SRecord) _ refl refl ∙ s_heads (start SRecord))
    ∙ rows_end SRecord cells 2 (record (start SRecord) { place = Open }) image refl refl refl refl
