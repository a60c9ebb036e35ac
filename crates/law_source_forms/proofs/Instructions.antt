-- The text of a row, read at its address, stands for the row's bytes.
use Rattle.std.proofs.Common.{◌≡◌, ℕ, suc, ◌+◌, ◌*◌, ◌≤◌, ◌<◌, pos, List, [], ◌∷◌, ◌++◌, length, Bool, true, false, Option, Some, None, Ok, Err, refl, ap, ◌∙◌, arith, append-nil}
use Rattle.std.proofs.lemmas.Bool.{lt-leb}
use Rattle.model.specs.declared.instruction.Profile.{Profile}
use Rattle.model.specs.declared.instruction.Mnemonic.{Mnemonic}
use Rattle.model.specs.declared.instruction.Mode.{Mode}
use Rattle.model.specs.declared.instruction.Mode.TheVariants.{Imp, Acc, Imm, IndX, IndY, Ind, Rel, IndZ}
use Rattle.model.specs.declared.line.Index.{Index}
use Rattle.model.specs.declared.line.Index.TheVariants.{Unindexed, X, Y}
use Rattle.model.specs.declared.source_fault.AsmFaultKind.{AsmFaultKind}
use Rattle.model.specs.declared.expression.ExprFault.TheVariants as expression
use Rattle.model.specs.OpcodeTable.{opcode_of}
use Rattle.model.specs.Expression.{Term}
use Rattle.model.specs.Value.{Numbers, eval_of}
use Rattle.model.specs.Names.{Definitions, number_in}
use Rattle.model.specs.SourceLine.{Operand, absent, accumulator, immediate, direct, pointer, pointer_by_x, pointer_by_y, instruction, labelled}
use Rattle.model.specs.Layout.{Form, one, by_size, Encoding, form_of, term_of, code_for, code, length_in, zero_page_mode, absolute_mode, size_of, layout_of, named_line_at, statement_at}
use Rattle.model.specs.Bytes.{operand_piece, kinds_in, lowest, lower, pieces_of, line_bytes}
use Rattle.model.specs.InstructionText.{target_of}
use Rattle.law_texts.proofs.Forms as forms
use Rattle.law_texts.proofs.Forms.{of_number, as_coded}
use Rattle.law_texts.proofs.Alone.{byte_again, zero_page_again, address_again, branch_again}
use Rattle.law_texts.proofs.InstructionIsRead.{Read}
use Rattle.law_source_forms.proofs.Stands.{Stands, fixed_at, placed_at, read_plain}

-- ---- an instruction with an operand

operand_laid : (profile : Profile) (m : Mnemonic) (mode : Mode) (operand : Operand) (e : Term)
    (text : List ℕ) (a op n : ℕ) (names : Definitions)
    → Read profile text m operand → term_of operand ≡ Some e → code_for (number_in names) a (Some e)
    (form_of profile m operand) ≡ Ok (as_coded op mode) → length_in mode ≡ n
    → layout_of (fixed_at profile a names) text
    ≡ Ok (placed_at a (code op mode (Some e)), fixed_at profile (a + n) names)
unfolding layout_of named_line_at statement_at size_of
operand_laid profile m mode operand e text a op n names read term coded size = rw (read, append-nil names, term, coded, size) refl

operand_right : (numbers : Numbers) (a op : ℕ) (mode : Mode) (e : Term) (front : List ℕ)
    (more : List (Option AsmFaultKind))
    → operand_piece a mode (eval_of numbers (pos a) e) ≡ Ok front
    → lowest (kinds_in (pieces_of numbers a (code op mode (Some e))) ++ more) ≡ lowest more
unfolding pieces_of lowest lower
operand_right numbers a op mode e front more piece = rw piece refl

operand_bytes : (numbers : Numbers) (a op : ℕ) (mode : Mode) (e : Term) (front : List ℕ)
    → operand_piece a mode (eval_of numbers (pos a) e) ≡ Ok front
    → line_bytes numbers (placed_at a (code op mode (Some e))) ≡ op ∷ front
unfolding line_bytes pieces_of
operand_bytes numbers a op mode e front piece = rw piece (ap (λ (x : List ℕ). op ∷ x) (append-nil front))

size_is : (op : ℕ) (mode : Mode) (e : Option Term) → size_of (code op mode e) ≡ length_in mode
unfolding size_of
size_is op mode e = refl

alone_laid : (profile : Profile) (m : Mnemonic) (mode : Mode) (operand : Operand) (text : List ℕ)
    (a op n : ℕ) (names : Definitions)
    → Read profile text m operand → term_of operand ≡ None
    → code_for (number_in names) a None (form_of profile m operand) ≡ Ok (as_coded op mode)
    → length_in mode ≡ n
    → layout_of (fixed_at profile a names) text
    ≡ Ok (placed_at a (code op mode None), fixed_at profile (a + n) names)
unfolding layout_of named_line_at statement_at size_of
alone_laid profile m mode operand text a op n names read term coded size = rw (read, append-nil names, term, coded, size) refl

alone_right : (numbers : Numbers) (a op : ℕ) (mode : Mode) (more : List (Option AsmFaultKind))
    → lowest (kinds_in (pieces_of numbers a (code op mode None)) ++ more) ≡ lowest more
unfolding pieces_of lowest lower
alone_right numbers a op mode more = refl

alone_bytes : (numbers : Numbers) (a op : ℕ) (mode : Mode)
    → line_bytes numbers (placed_at a (code op mode None)) ≡ op ∷ []
unfolding line_bytes pieces_of
alone_bytes numbers a op mode = refl

-- ---- values

pub of_number_is : (numbers : Numbers) (a v : ℕ) → eval_of numbers (pos a)
    (of_number v) ≡ Ok (pos v)
unfolding eval_of
of_number_is numbers a v = refl

-- what an instruction is encoded as hangs on its operand's value alone
pub same_coded : (numbers : Numbers) (a : ℕ) (d e : Term) (f : Option Form)
    → eval_of numbers (pos a) e ≡ eval_of numbers (pos a) d
    → code_for numbers a (Some e) f ≡ code_for numbers a (Some d) f
same_coded numbers a d e None same = refl
same_coded numbers a d e (Some (one c)) same = refl
same_coded numbers a d e (Some (by_size short long)) same = rw same refl

-- a name that is not known takes the long form, as a large value does
pub far_coded : (numbers : Numbers) (a v : ℕ) (e : Term) (f : Option Form) (c : Encoding)
    → eval_of numbers (pos a) e ≡ Err expression.UnknownName → 256 ≤ v
    → code_for numbers a (Some (of_number v)) f ≡ Ok c
    → code_for numbers a (Some e) f ≡ Ok c
unfolding eval_of
far_coded numbers a v e None c unknown large h = h
far_coded numbers a v e (Some (one d)) c unknown large h = h
far_coded numbers a v e (Some (by_size short long)) c unknown large h = let long_is = rw (lt-leb v 255 (omega (arith, large))) at h in rw unknown long_is

pub same_form : (profile : Profile) (m : Mnemonic) (marked : Bool) (d e : Term) (by : Index)
    → form_of profile m (direct marked d by) ≡ form_of profile m (direct marked e by)
unfolding form_of
same_form profile m true d e by = refl
same_form profile m false d e by = refl

absolute_piece_of : (a : ℕ) (by : Index) (b c : ℕ) → b < 256 → c < 256
    → operand_piece a (absolute_mode by) (Ok (pos (b + 256 * c))) ≡ Ok (b ∷ c ∷ [])
unfolding operand_piece
absolute_piece_of a Unindexed b c l h = address_again b c l h
absolute_piece_of a X b c l h = address_again b c l h
absolute_piece_of a Y b c l h = address_again b c l h

zero_page_piece_of : (a : ℕ) (by : Index) (b : ℕ) → b < 256 → operand_piece a (zero_page_mode by)
    (Ok (pos b)) ≡ Ok (b ∷ [])
unfolding operand_piece
zero_page_piece_of a Unindexed b below = zero_page_again b below
zero_page_piece_of a X b below = zero_page_again b below
zero_page_piece_of a Y b below = zero_page_again b below

immediate_piece : (a b : ℕ) → b < 256 → operand_piece a Imm (Ok (pos b)) ≡ Ok (b ∷ [])
unfolding operand_piece
immediate_piece a b below = byte_again b below

by_x_piece : (a b : ℕ) → b < 256 → operand_piece a IndX (Ok (pos b)) ≡ Ok (b ∷ [])
unfolding operand_piece
by_x_piece a b below = zero_page_again b below

by_y_piece : (a b : ℕ) → b < 256 → operand_piece a IndY (Ok (pos b)) ≡ Ok (b ∷ [])
unfolding operand_piece
by_y_piece a b below = zero_page_again b below

pointer_piece : (a b : ℕ) → b < 256 → operand_piece a IndZ (Ok (pos b)) ≡ Ok (b ∷ [])
unfolding operand_piece
pointer_piece a b below = zero_page_again b below

far_pointer_piece : (a b c : ℕ) → b < 256 → c < 256
    → operand_piece a Ind (Ok (pos (b + 256 * c))) ≡ Ok (b ∷ c ∷ [])
unfolding operand_piece
far_pointer_piece a b c l h = address_again b c l h

branch_piece : (a b : ℕ) → a < 65536 → b < 256
    → operand_piece a Rel (Ok (pos (target_of a b))) ≡ Ok (b ∷ [])
unfolding operand_piece
branch_piece a b here below = branch_again a b here below

short_length : (by : Index) → length_in (zero_page_mode by) ≡ 2
short_length Unindexed = refl
short_length X = refl
short_length Y = refl

long_length : (by : Index) → length_in (absolute_mode by) ≡ 3
long_length Unindexed = refl
long_length X = refl
long_length Y = refl

-- ---- instructions whose operand is any expression of a value

module _ (Near : Definitions → Type 0) (Final : Numbers → Type 0) (profile : Profile) (m : Mnemonic) (a op : ℕ) where
  -- what it is where the line stands, and under the numbers of all names
  abbrev pub Here : Term → ℕ → Type 0
  Here e v = (names : Definitions) → Near names → eval_of (number_in names) (pos a) e ≡ Ok (pos v)

  abbrev pub Last : Term → ℕ → Type 0
  Last e v = (numbers : Numbers) → Final numbers → eval_of numbers (pos a) e ≡ Ok (pos v)

  -- how it is encoded where the line stands
  abbrev pub Encodes : Operand → Term → Mode → Type 0
  Encodes operand e mode = (names : Definitions) → Near names → code_for (number_in names) a (Some e) (form_of profile m operand) ≡ Ok (as_coded op mode)

  with_operand : (mode : Mode) (operand : Operand) (e : Term) (text front : List ℕ) → Read profile text m operand → term_of operand ≡ Some e
      → Encodes operand e mode
      → ((numbers : Numbers) → Final numbers → operand_piece a mode (eval_of numbers (pos a) e) ≡ Ok front) → length_in mode ≡ suc (length front)
      → Stands Near Final profile text a (op ∷ front)
  with_operand mode operand e text front read term coded piece size = record {
    content = code op mode (Some e);
    plain = read_plain profile text (labelled None (instruction m operand)) read;
    goes_on = rw read refl;
    laid = λ names near. operand_laid profile m mode operand e text a op (length (op ∷ front)) names read term (coded names near) size;
    size = size_is op mode (Some e) ∙ size;
    right = λ numbers final more. operand_right numbers a op mode e front more (piece numbers final);
    bytes_are = λ numbers final. operand_bytes numbers a op mode e front (piece numbers final);
  }

  without_operand : (mode : Mode) (operand : Operand) (text : List ℕ) → Read profile text m operand → term_of operand ≡ None
      → ((names : Definitions) → code_for (number_in names) a None (form_of profile m operand) ≡ Ok (as_coded op mode)) → length_in mode ≡ 1
      → Stands Near Final profile text a (op ∷ [])
  without_operand mode operand text read term coded size = record {
    content = code op mode None;
    plain = read_plain profile text (labelled None (instruction m operand)) read;
    goes_on = rw read refl;
    laid = λ names near. alone_laid profile m mode operand text a op 1 names read term (coded names) size;
    size = size_is op mode None ∙ size;
    right = λ numbers final more. alone_right numbers a op mode more;
    bytes_are = λ numbers final. alone_bytes numbers a op mode;
  }

  pub short_stands : (by : Index) (e : Term) (b : ℕ) (text : List ℕ) → Read profile text m (direct false e by)
      → Encodes (direct false e by) e (zero_page_mode by) → Last e b → b < 256
      → Stands Near Final profile text a (op ∷ b ∷ [])
  short_stands by e b text read coded last below =
      with_operand (zero_page_mode by) (direct false e by) e text (b ∷ []) read refl coded
      (λ numbers final. rw (last numbers final) (zero_page_piece_of a by b below)) (short_length by)

  pub long_stands : (by : Index) (marked : Bool) (e : Term) (b c : ℕ) (text : List ℕ) → Read profile text m (direct marked e by)
      → Encodes (direct marked e by) e (absolute_mode by) → Last e (b + 256 * c)
      → b < 256 → c < 256 → Stands Near Final profile text a (op ∷ b ∷ c ∷ [])
  long_stands by marked e b c text read coded last l h =
      with_operand (absolute_mode by) (direct marked e by) e text (b ∷ c ∷ []) read refl coded
      (λ numbers final. rw (last numbers final) (absolute_piece_of a by b c l h)) (long_length by)

  pub branch_stands : (e : Term) (b : ℕ) (text : List ℕ) → Read profile text m (direct false e Unindexed) → opcode_of profile m Rel ≡ Some op
      → Last e (target_of a b) → a < 65536 → b < 256
      → Stands Near Final profile text a (op ∷ b ∷ [])
  branch_stands e b text read found last here below =
      with_operand Rel (direct false e Unindexed) e text (b ∷ []) read refl (λ names near. forms.branch_code profile m (number_in names) a op e found)
      (λ numbers final. rw (last numbers final) (branch_piece a b here below)) refl

  pub immediate_stands : (e : Term) (b : ℕ) (text : List ℕ) → Read profile text m (immediate e) → opcode_of profile m Imm ≡ Some op → Last e b
      → b < 256 → Stands Near Final profile text a (op ∷ b ∷ [])
  immediate_stands e b text read found last below =
      with_operand Imm (immediate e) e text (b ∷ []) read refl (λ names near. forms.immediate_code profile m (number_in names) a op e found)
      (λ numbers final. rw (last numbers final) (immediate_piece a b below)) refl

  pub by_x_stands : (e : Term) (b : ℕ) (text : List ℕ) → Read profile text m (pointer_by_x e) → opcode_of profile m IndX ≡ Some op → Last e b
      → b < 256 → Stands Near Final profile text a (op ∷ b ∷ [])
  by_x_stands e b text read found last below =
      with_operand IndX (pointer_by_x e) e text (b ∷ []) read refl (λ names near. forms.pointer_by_x_code profile m (number_in names) a op e found)
      (λ numbers final. rw (last numbers final) (by_x_piece a b below)) refl

  pub by_y_stands : (e : Term) (b : ℕ) (text : List ℕ) → Read profile text m (pointer_by_y e) → opcode_of profile m IndY ≡ Some op → Last e b
      → b < 256 → Stands Near Final profile text a (op ∷ b ∷ [])
  by_y_stands e b text read found last below =
      with_operand IndY (pointer_by_y e) e text (b ∷ []) read refl (λ names near. forms.pointer_by_y_code profile m (number_in names) a op e found)
      (λ numbers final. rw (last numbers final) (by_y_piece a b below)) refl

  pub near_pointer_stands : (e : Term) (b : ℕ) (text : List ℕ) → Read profile text m (pointer e) → opcode_of profile m IndZ ≡ Some op → Last e b
      → b < 256 → Stands Near Final profile text a (op ∷ b ∷ [])
  near_pointer_stands e b text read found last below =
      with_operand IndZ (pointer e) e text (b ∷ []) read refl (λ names near. forms.zero_page_pointer_code profile m (number_in names) a op e found)
      (λ numbers final. rw (last numbers final) (pointer_piece a b below)) refl

  pub far_pointer_stands : (e : Term) (b c : ℕ) (text : List ℕ) → Read profile text m (pointer e) → opcode_of profile m Ind ≡ Some op
      → Last e (b + 256 * c) → b < 256 → c < 256
      → Stands Near Final profile text a (op ∷ b ∷ c ∷ [])
  far_pointer_stands e b c text read found last l h =
      with_operand Ind (pointer e) e text (b ∷ c ∷ []) read refl (λ names near. forms.pointer_code profile m (number_in names) a op e found)
      (λ numbers final. rw (last numbers final) (far_pointer_piece a b c l h)) refl

  pub implied_stands : (text : List ℕ) → Read profile text m absent → opcode_of profile m Imp ≡ Some op → Stands Near Final profile text a (op ∷ [])
  implied_stands text read found = without_operand Imp absent text read refl (λ names. forms.implied_code profile m (number_in names) a op found) refl

  pub accumulator_stands : (text : List ℕ) → Read profile text m accumulator → opcode_of profile m Acc ≡ Some op → Stands Near Final profile text a (op ∷ [])
  accumulator_stands text read found = without_operand Acc accumulator text read refl
      (λ names. forms.accumulator_code profile m (number_in names) a op found) refl
