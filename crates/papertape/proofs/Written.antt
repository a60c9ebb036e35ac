-- The written text of an image denotes the image.
use Rattle.std.proofs.Common.{◌≡◌, ℕ, zero, suc, ◌+◌, ◌*◌, ◌/◌, ◌%◌, ◌<◌, ◌≤◌, true, List, [], ◌∷◌, ◌++◌, sum, length, slice_index, Option, Some, None, Ok, unwrap_or, refl, sym, ap, subst, ◌∙◌, arith, append_assoc}
use Rattle.std.specs.List.{list_all, flat_map, AllByRecursion}
use Rattle.std.proofs.lemmas.Bool.{and_from}
use Rattle.std.proofs.lemmas.List.{length-append}
use Rattle.hex.specs.Hex.{encode_with, encode_upper, upper_digits}
use Rattle.hex.proofs.HexLemmas.{IsDigits-upper_digits, length-encode_with}
use Rattle.model.specs.Digits.{is_hex_byte}
use Rattle.model.specs.Image.{empty_image, with_bytes}
use Rattle.model.specs.Tape.{Claim, claim_in, claim_of, bytes_of_digits, needed, AreAllDigits, Part, gap, record_of, IsPiece, front_of, count_of, with_records, TapeDenotes}
use Rattle.std.specs.List.{All}
use Rattle.std.proofs.lemmas.List.Elements.{All-head, All-tail}
use Rattle.model.specs.Image.{IsCell, IsImage}
use Rattle.model.specs.TapeText.{Stretch, with_sum, word, line, end_line, data_line, tape_text}
use Rattle.papertape.specs.Writing.{front_bytes, cuts, cut_writes}
use Rattle.papertape.proofs.Runs.{cuts_pieces}
use Rattle.papertape.proofs.Lines.{AreBytes, bytes_of-encode, claim_line}
use Rattle.papertape.specs.Reading.{read_of}
use Rattle.papertape.proofs.GrammarIsRead.{read_again}
use Rattle.papertape.proofs.Cuts.{whole_write, front_short}

-- what is written in capital digits
hex_of-encode : (bs : List ℕ) → AreBytes bs → list_all is_hex_byte (encode_upper bs) ≡ true
unfolding encode_with
hex_of-encode [] h = refl
hex_of-encode (b ∷ bs) h =
    let hi : is_hex_byte (slice_index upper_digits (b / 16)) ≡ true = rw (IsDigits-upper_digits (b / 16) (omega (arith, h.0))) refl in
    let lo : is_hex_byte (slice_index upper_digits (b % 16)) ≡ true = rw (IsDigits-upper_digits (b % 16) (omega arith)) refl in
    and_from _ _ hi (and_from _ _ lo (hex_of-encode bs h.1))

-- the first byte of a record says how many digits there are
needed-encode : (b : ℕ) (bs : List ℕ) → b < 256 → needed (encode_upper (b ∷ bs)) ≡ 10 + 2 * b
unfolding encode_with
needed-encode b bs h =
    let hi = ap (λ (o : Option ℕ). unwrap_or o 0) (IsDigits-upper_digits (b / 16) (omega (arith, h))) in
    let lo = ap (λ (o : Option ℕ). unwrap_or o 0) (IsDigits-upper_digits (b % 16) (omega arith)) in
    rw (hi, lo) (omega arith)

AreBytes-append : (xs ys : List ℕ) → AreBytes xs → AreBytes ys → AreBytes (xs ++ ys)
AreBytes-append [] ys h k = k
AreBytes-append (x ∷ xs) ys h k = (h.0, AreBytes-append xs ys h.1 k)

abbrev head_of : ℕ → ℕ → List ℕ → List ℕ
head_of n a bs = n ∷ a / 256 ∷ a % 256 ∷ bs

abbrev digits_of : ℕ → ℕ → List ℕ → List ℕ
digits_of n a bs = encode_upper (with_sum (head_of n a bs))

-- the digits of a written record
pub record IsLine (n a : ℕ) (bs digits : List ℕ) : Type 0 where
  pub all : AreAllDigits digits
  pub length : (claim_of digits).length ≡ n
  pub address : (claim_of digits).address ≡ a
  pub bytes : (claim_of digits).bytes ≡ bs
  pub checked : (claim_of digits).sum ≡ (claim_of digits).checksum

pub is_line : (n a : ℕ) (bs : List ℕ) → n < 256 → n ≡ length bs → a < 65536 → AreBytes bs → IsLine n a bs (digits_of n a bs)
unfolding claim_of
is_line n a bs small e lt h =
    let w = with_sum (head_of n a bs) in
    let s = sum (head_of n a bs) % 65536 in
    let fits : AreBytes w = (small, (omega (arith, lt), (omega arith, AreBytes-append bs (word s) h (omega arith, (omega arith, tt))))) in
    let same : bytes_of_digits (digits_of n a bs) ≡ w = bytes_of-encode w fits in
    let c = ap claim_in same ∙ claim_line n (a / 256) (a % 256) bs e in
    let count : length w ≡ 5 + n = omega (arith, e, length-append bs (word s)) in
    let digits : length (digits_of n a bs) ≡ 2 * length w = length-encode_with upper_digits w in
    record {
      all = (hex_of-encode w fits, omega (arith, digits, count, needed-encode n (a / 256 ∷ a % 256 ∷ (bs ++ word s)) small));
      length = ap (λ (x : Claim). x.length) c;
      address = ap (λ (x : Claim). x.address) c ∙ omega arith;
      bytes = ap (λ (x : Claim). x.bytes) c;
      checked = ap (λ (x : Claim). x.sum) c ∙ omega arith ∙ sym (ap (λ (x : Claim). x.checksum) c);
    }

-- ---- the cuts

abbrev AreCells : List (Option ℕ) → Type 0
AreCells [] = Unit {0}
AreCells (c ∷ cells) = IsCell c × AreCells cells

-- a cut that has a record
pub record IsCut (cut : ℕ × List ℕ) : Type 0 where
  pub some : 0 < length cut.1
  pub few : length cut.1 ≤ 24
  pub bytes : AreBytes cut.1
  pub fits : cut.0 + length cut.1 ≤ 65536

front_fits : (n : ℕ) (cells : List (Option ℕ)) → AreCells cells → AreBytes (front_bytes n cells)
front_fits zero cells h = tt
front_fits (suc n) [] h = tt
front_fits (suc n) (None ∷ cells) h = tt
front_fits (suc n) (Some b ∷ cells) h = (h.0, front_fits n cells h.1)

front_few : (n : ℕ) (cells : List (Option ℕ)) → length (front_bytes n cells) ≤ n
front_few zero cells = omega arith
front_few (suc n) [] = omega arith
front_few (suc n) (None ∷ cells) = omega arith
front_few (suc n) (Some b ∷ cells) = let h = front_few n cells in omega (arith, h)

are_cuts : (cells : List (Option ℕ)) (address covered : ℕ) → AreCells cells → address + length cells ≤ 65536 → AllByRecursion IsCut (cuts address covered cells)
are_cuts [] address covered h le = tt
are_cuts (c ∷ cells) address (suc n) h le = are_cuts cells (address + 1) n h.1 (omega arith)
are_cuts (None ∷ cells) address zero h le = are_cuts cells (address + 1) 0 h.1 (omega arith)
are_cuts (Some b ∷ cells) address zero h le =
    let short = front_short 23 cells in
    let few = front_few 23 cells in (
      record { some = omega arith; few = omega (arith, few); bytes = (h.0, front_fits 23 cells h.1); fits = omega (arith, short) },
      are_cuts cells
          (address + 1) (length (front_bytes 23 cells)) h.1 (omega arith),
    )

-- there are at most as many cuts as cells that are not covered
cuts_few : (cells : List (Option ℕ)) (address covered : ℕ) → covered ≤ length cells → length (cuts address covered cells) + covered ≤ length cells
cuts_few [] address covered h = omega arith
cuts_few (c ∷ cells) address (suc n) h = let k = cuts_few cells (address + 1) n (omega arith) in omega (arith, k)
cuts_few (None ∷ cells) address zero h = let k = cuts_few cells (address + 1) 0 (omega arith) in omega (arith, k)
cuts_few (Some b ∷ cells) address zero h =
    let short = front_short 23 cells in
    let k = cuts_few cells (address + 1) (length (front_bytes 23 cells)) short in omega (arith, k)

-- and fewer than cells, where there are two
cuts_fewer : (x y : Option ℕ) (cells : List (Option ℕ)) (address : ℕ) → length (cuts address 0 (x ∷ y ∷ cells)) + 1 ≤ length (x ∷ y ∷ cells)
cuts_fewer None y cells address = let k = cuts_few (y ∷ cells) (address + 1) 0 (omega arith) in omega (arith, k)
cuts_fewer (Some b) None cells address = let k = cuts_few cells (address + 1 + 1) 0 (omega arith) in omega (arith, k)
cuts_fewer (Some b) (Some e) cells address =
    let short = front_short 22 cells in
    let k = cuts_few cells (address + 1 + 1) (length (front_bytes 22 cells)) short in omega (arith, k)

pub cuts_count : (cells : List (Option ℕ)) → length cells ≡ 65536 → length (cuts 0 0 cells) < 65536
cuts_count [] h = absurd (omega arith)
cuts_count (x ∷ []) h = absurd (omega arith)
cuts_count (x ∷ y ∷ cells) h = let k = cuts_fewer x y cells 0 in omega (arith, k)

-- ---- the text

abbrev piece_digits : ℕ × List ℕ → List ℕ
piece_digits cut = digits_of (length cut.1) cut.0 cut.1

abbrev pieces_of : List (ℕ × List ℕ) → List Part
pieces_of [] = []
pieces_of (c ∷ cs) = record_of (piece_digits c) ∷ gap 13 ∷ gap 10 ∷ pieces_of cs

line_of_cut : (c : ℕ × List ℕ) → IsCut c → IsLine (length c.1) c.0 c.1 (piece_digits c)
line_of_cut c h = is_line (length c.1) c.0 c.1 (omega (arith, h.few)) refl (omega (arith, h.fits, h.some)) h.bytes

pieces_each : (cs : List (ℕ × List ℕ)) → AllByRecursion IsCut cs → AllByRecursion IsPiece (pieces_of cs)
pieces_each [] h = tt
pieces_each (c ∷ cs) h =
    let l = line_of_cut c h.0 in (
      record { all = l.all; some = omega (arith, l.length, h.0.some); checked = l.checked; fits = omega (arith, l.address, l.length, h.0.fits) },
      (refl, (refl, pieces_each cs h.1)),
    )

pieces_count : (cs : List (ℕ × List ℕ)) → count_of (pieces_of cs) ≡ length cs
pieces_count [] = refl
pieces_count (c ∷ cs) = let k = pieces_count cs in omega (arith, k)

pieces_write : (cs : List (ℕ × List ℕ)) (cells : List (Option ℕ)) → AllByRecursion IsCut cs → with_records cells (pieces_of cs) ≡ cut_writes cells cs
pieces_write [] cells h = refl
pieces_write (c ∷ cs) cells h =
    let l = line_of_cut c h.0 in
    ap (λ (a : ℕ). with_records (with_bytes cells a (claim_of (piece_digits c)).bytes) (pieces_of cs)) l.address
    ∙ ap (λ (bs : List ℕ). with_records (with_bytes cells c.0 bs) (pieces_of cs)) l.bytes
    ∙ pieces_write cs (with_bytes cells c.0 c.1) h.1

pieces_front : (cs : List (ℕ × List ℕ)) → front_of (pieces_of cs) ≡ flat_map data_line cs
pieces_front [] = refl
pieces_front (c ∷ cs) =
    ap (λ (t : List ℕ). 59 ∷ (piece_digits c ++ (13 ∷ 10 ∷ t))) (pieces_front cs)
    ∙ sym (append_assoc (59 ∷ piece_digits c) (13 ∷ 10 ∷ []) (flat_map data_line cs))

-- ---- an image

AreCells-image : (cells : List (Option ℕ)) → All IsCell cells → AreCells cells
AreCells-image [] h = tt
AreCells-image (c ∷ cells) h = (All-head IsCell c cells h, AreCells-image cells (All-tail IsCell c cells h))

-- the text by the writer's cuts
abbrev pub cut_text : List Stretch → List ℕ
cut_text cs = flat_map data_line cs ++ end_line (length cs)

cut_denotes : (cells : List (Option ℕ)) → IsImage cells → TapeDenotes (cut_text (cuts 0 0 cells)) cells
cut_denotes cells h =
    let cs = cuts 0 0 cells in
    let each = are_cuts cells 0 0 (AreCells-image cells h.each) (omega (arith, h.size)) in
    let l = is_line 0 (length cs) [] (omega arith) refl (cuts_count cells h.size) tt in
    record {
      pieces = pieces_of cs;
      digits = digits_of 0 (length cs) [];
      tail = 13 ∷ 10 ∷ [];
      spelled = ap (λ (t : List ℕ). t ++ line (0 ∷ word (length cs))) (sym (pieces_front cs));
      each = pieces_each cs each;
      end = record { all = l.all; none = l.length; checked = l.checked; counted = l.address ∙ sym (pieces_count cs) };
      rest = refl;
      union = sym (pieces_write cs empty_image each ∙ whole_write cells h.size);
    }

pub written_denotes : (cells : List (Option ℕ)) → IsImage cells → TapeDenotes (tape_text cells) cells
written_denotes cells h = subst (λ (cs : List Stretch). TapeDenotes (cut_text cs) cells) (cuts_pieces cells) (cut_denotes cells h)

pub written_again : (cells : List (Option ℕ)) → IsImage cells → read_of (tape_text cells) ≡ Ok cells
written_again cells h = read_again (tape_text cells) cells (written_denotes cells h)
