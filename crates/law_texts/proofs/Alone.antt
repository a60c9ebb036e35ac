-- What a line that was read denotes alone.
use Rattle.std.proofs.Common.{◌≡◌, ℕ, ◌+◌, ◌*◌, ◌/◌, ◌%◌, ◌≤◌, ◌<◌, pos, List, [], ◌∷◌, ◌++◌, Bool, true, false, refl, inl, inr, arith}
use Rattle.std.specs.Prelude.{Some, None, Ok, nat_lt, zero, suc, ◌-◌, ◌-ℤ◌}
use Rattle.std.proofs.lemmas.Bool.{cases_Bool, le-leb, lt-leb, le-ltb, ltb-true, ltb-false}
use Rattle.model.specs.declared.instruction.Profile.{Profile}
use Rattle.model.specs.declared.instruction.Mnemonic.{Mnemonic}
use Rattle.model.specs.declared.instruction.Mode.{Mode}
use Rattle.model.specs.Expression.{Term}
use Rattle.model.specs.Value.{eval_of}
use Rattle.model.specs.SourceLine.{Operand}
use Rattle.model.specs.Layout.{form_of, term_of, code_for, length_in}
use Rattle.model.specs.Bytes.{operand_piece, byte_piece, zero_page_piece, address_piece, lowest, lower, modulo, branch_piece, distance_piece}
use Rattle.model.specs.Operand.{distance}
use Rattle.model.specs.InstructionText.{target_of}
use Rattle.model.specs.SourceLine.{instruction, bytes, value, labelled, read_line}
use Rattle.model.specs.Layout.{statement_at, named_line_at, size_of}
use Rattle.model.specs.Bytes.{line_bytes, pieces_of}
use Rattle.model.specs.OneLineAssembly.{one_line, no_numbers}
use Rattle.law_texts.proofs.Forms.{as_coded}

pub with_operand : (profile : Profile) (m : Mnemonic) (mode : Mode) (operand : Operand) (e : Term)
    (a op : ℕ) (text front : List ℕ)
    → read_line profile text ≡ Ok (labelled None (instruction m operand)) → term_of operand ≡ Some e
    → code_for no_numbers a (Some e) (form_of profile m operand) ≡ Ok (as_coded op mode)
    → length_in mode ≤ 3 → a + length_in mode ≤ 65536
    → operand_piece a mode (eval_of no_numbers (pos a) e) ≡ Ok front
    → one_line profile a text ≡ Ok (op ∷ front ++ [])
unfolding one_line named_line_at statement_at size_of line_bytes pieces_of lowest lower
with_operand profile m mode operand e a op text front read term taken small fits piece =
    rw (read, term, taken, le-leb (length_in mode) 3 small, le-leb (a + length_in mode) 65536 fits, piece) refl

pub without_operand : (profile : Profile) (m : Mnemonic) (mode : Mode) (operand : Operand)
    (a op : ℕ) (text : List ℕ)
    → read_line profile text ≡ Ok (labelled None (instruction m operand)) → term_of operand ≡ None
    → code_for no_numbers a None (form_of profile m operand) ≡ Ok (as_coded op mode)
    → length_in mode ≤ 3 → a + length_in mode ≤ 65536
    → one_line profile a text ≡ Ok (op ∷ [])
unfolding one_line named_line_at statement_at size_of line_bytes pieces_of lowest lower
without_operand profile m mode operand a op text read term taken small fits =
    rw (read, term, taken, le-leb (length_in mode) 3 small, le-leb (a + length_in mode) 65536 fits) refl

-- ---- operands

pub byte_again : (b : ℕ) → b < 256 → byte_piece (Ok (pos b)) ≡ Ok (b ∷ [])
unfolding byte_piece
byte_again b below =
    let n : b % 256 ≡ b = omega (arith, below) in
    rw (le-ltb 255 b (omega (arith, below)), n) refl

pub zero_page_again : (b : ℕ) → b < 256 → zero_page_piece (Ok (pos b)) ≡ Ok (b ∷ [])
unfolding zero_page_piece
zero_page_again b below =
    let n : b % 256 ≡ b = omega (arith, below) in
    rw (le-ltb b 0 (omega arith), le-ltb 255 b (omega (arith, below)), n) refl

pub address_again : (b c : ℕ) → b < 256 → c < 256
    → address_piece (Ok (pos (b + 256 * c))) ≡ Ok (b ∷ c ∷ [])
unfolding address_piece
address_again b c low high =
    let n : (b + 256 * c) % 65536 ≡ b + 256 * c = omega (arith, low, high) in
    let l : (b + 256 * c) % 256 ≡ b = omega (arith, low, high) in
    let h : (b + 256 * c) / 256 ≡ c = omega (arith, low, high) in
    rw (le-ltb (b + 256 * c) 0 (omega arith), le-ltb 65535 (b + 256 * c) (omega (arith, low, high)), n, l, h) refl

-- ---- branches

-- the difference of two addresses modulo 65536
difference : (t s d : ℕ) → t < 65536 → s < 65538 → d < 65536 → t ≡ (s + d) % 65536
    → modulo (pos t -ℤ pos s) 65536 ≡ d
difference t zero d tb sb db e =
    let n : (t + 0) % 65536 ≡ d = omega (arith, tb, db, e) in
    n
difference t (suc s) d tb sb db e = by (nat_lt t (suc s)) refl
  where
    by : (b : Bool) → nat_lt t (suc s) ≡ b → modulo (pos t -ℤ pos (suc s)) 65536 ≡ d
    by true h =
        let less : t < suc s = ltb-true t (suc s) h in
        let n : 65535 - (suc s - suc t) % 65536 ≡ d = omega (arith, less, tb, sb, db, e) in
        rw h n
    by false h =
        let more : suc s ≤ t = ltb-false t (suc s) h in
        let n : (t - suc s) % 65536 ≡ d = omega (arith, more, tb, sb, db, e) in
        rw h n

pub distance_small : (b : ℕ) → b < 256 → distance b < 65536
distance_small b below = elim (cases_Bool (nat_lt b 128)) [
  | inl t ↦ rw t (omega (arith, below))
  | inr f ↦ rw f (omega (arith, below))
]

distance_again : (b : ℕ) → b < 256 → distance_piece (distance b) ≡ Ok (b ∷ [])
distance_again b below = elim (cases_Bool (nat_lt b 128)) [
  | inl t ↦
      let small : b < 128 = ltb-true b 128 t in
      let n : b % 256 ≡ b = omega (arith, below) in
      rw (t, le-leb b 127 (omega (arith, small)), n) refl
  | inr f ↦
      let large : 128 ≤ b = ltb-false b 128 f in
      let n : (b + 65280) % 256 ≡ b = omega (arith, below) in
      rw (f, lt-leb (b + 65280) 127 (omega (arith, large)), le-leb 65408 (b + 65280) (omega (arith, large)), n) refl
]

pub branch_again : (a b : ℕ) → a < 65536 → b < 256
    → branch_piece a (Ok (pos (target_of a b))) ≡ Ok (b ∷ [])
unfolding branch_piece
branch_again a b here below =
    let t : ℕ = target_of a b in
    let tb : t < 65536 = omega arith in
    rw (
      le-ltb t 0 (omega arith),
      le-ltb 65535 t (omega (arith, tb)),
      difference t (a + 2) (distance b) tb (omega (arith, here))
          (distance_small b below) refl,
    ) (distance_again b below)

-- ---- `.BYTE`

pub byte_line : (profile : Profile) (a b : ℕ) (e : Term) (text : List ℕ)
    → read_line profile text ≡ Ok (labelled None (bytes (value e ∷ [])))
    → eval_of no_numbers (pos a) e ≡ Ok (pos b) → b < 256 → a < 65536
    → one_line profile a text ≡ Ok (b ∷ [])
unfolding one_line named_line_at statement_at size_of line_bytes pieces_of lowest lower
byte_line profile a b e text read valued below here =
    rw (read, le-leb (a + 1) 65536 (omega (arith, here)), valued, byte_again b below) refl
