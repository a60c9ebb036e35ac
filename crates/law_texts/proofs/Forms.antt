-- How the assembler encodes what a row's text says.
use Rattle.std.proofs.Common.{◌≡◌, ℕ, ◌≤◌, ◌<◌, pos, Bool, true, false, map, refl, arith}
use Rattle.std.specs.Prelude.{Option, Some, None, is_some, option_map, Ok, ◌||◌, ◌&&◌}
use Rattle.std.proofs.lemmas.Bool.{le-leb, lt-leb}
use Rattle.model.specs.declared.instruction.Profile.{Profile}
use Rattle.model.specs.declared.instruction.Profile.TheVariants.{N, C}
use Rattle.model.specs.declared.instruction.Mnemonic.{Mnemonic}
use Rattle.model.specs.declared.instruction.Mode.{Mode}
use Rattle.model.specs.declared.instruction.Mode.TheVariants.{Imp, Acc, Imm, Zp, Abs, IndX, IndY, Ind, Rel, IndZ}
use Rattle.model.specs.declared.line.Index.{Index}
use Rattle.model.specs.declared.line.Index.TheVariants.{Unindexed, X, Y}
use Rattle.model.specs.OpcodeTable.{opcode_of, find_opcode, table, documented_opcodes, added_opcodes}
use Rattle.model.specs.InstructionText.{has_row}
use Rattle.model.specs.Expression.{Term, literal}
use Rattle.model.specs.Value.{Numbers, eval_of}
use Rattle.model.specs.SourceLine.{absent, accumulator, immediate, direct, pointer, pointer_by_x, pointer_by_y}
use Rattle.model.specs.Layout.{form_of, Encoding, in_mode, either, branch_form, code_for, zero_page_mode, absolute_mode}
use Rattle.law_opcodes.proofs.Encoding.{all_mnemonics, all_modes, same_at_each}

-- a number as an expression
abbrev pub of_number : ℕ → Term
of_number v = literal (Some (pos v))

-- no branch has a zero page mode or an absolute one, and no mnemonic has both modes of a pointer
-- without an index
abbrev both : Profile → Mnemonic → Mode → Bool
both profile m d = (has_row profile m Zp || has_row profile m Abs) && has_row profile m Rel

abbrev both_pointers : Profile → Mnemonic → Mode → Bool
both_pointers profile m d = has_row profile m IndZ && has_row profile m Ind

never_both : (profile : Profile) → map (λ m. map (both profile m) all_modes) all_mnemonics
    ≡ map (λ (m : Mnemonic). map (λ (d : Mode). false) all_modes) all_mnemonics
unfolding has_row opcode_of find_opcode table documented_opcodes added_opcodes
never_both N = refl
never_both C = refl

never_both_pointers : (profile : Profile)
    → map (λ m. map (both_pointers profile m) all_modes) all_mnemonics
    ≡ map (λ (m : Mnemonic). map (λ (d : Mode). false) all_modes) all_mnemonics
unfolding has_row opcode_of find_opcode table documented_opcodes added_opcodes
never_both_pointers N = refl
never_both_pointers C = refl

apart : (profile : Profile) (m : Mnemonic) → both profile m Imp ≡ false
apart profile m = same_at_each (both profile) (λ m d. false) (never_both profile) m Imp

-- an opcode in a mode
abbrev pub as_coded : ℕ → Mode → Encoding
as_coded op mode = record { opcode = op; mode = mode }

pub has_code : (profile : Profile) (m : Mnemonic) (d : Mode) (op : ℕ)
    → opcode_of profile m d ≡ Some op → has_row profile m d ≡ true
unfolding has_row
has_code profile m d op code = rw code refl

no_code : (profile : Profile) (m : Mnemonic) (d : Mode) → has_row profile m d ≡ false
    → opcode_of profile m d ≡ None
unfolding has_row
no_code profile m d h = by (opcode_of profile m d) h
  where
    by : (code : Option ℕ) → is_some code ≡ false → code ≡ None
    by None e = refl
    by (Some op) e = absurd cc

no_pointer : (profile : Profile) (m : Mnemonic) (op : ℕ) → opcode_of profile m IndZ ≡ Some op
    → opcode_of profile m Ind ≡ None
no_pointer profile m op code = no_code profile m Ind (rw (has_code profile m IndZ op code) at
    (same_at_each (both_pointers profile) (λ m d. false) (never_both_pointers profile) m Imp))

no_branch : (profile : Profile) (m : Mnemonic) (op : ℕ) → opcode_of profile m Zp ≡ Some op
    → opcode_of profile m Rel ≡ None
no_branch profile m op code = no_code profile m Rel (rw (has_code profile m Zp op code) at (apart profile m))

no_branch_long : (profile : Profile) (m : Mnemonic) (op : ℕ) → opcode_of profile m Abs ≡ Some op
    → opcode_of profile m Rel ≡ None
no_branch_long profile m op code = no_code profile m Rel (by (has_row profile m Zp) (has_row profile m Abs) (has_row profile m Rel)
    (has_code profile m Abs op code) (apart profile m))
  where
    by : (a b c : Bool) → b ≡ true → ((a || b) && c) ≡ false → c ≡ false
    by true b c h e = e
    by false true c h e = e
    by false false c h e = absurd cc

-- ---- one mode

pub implied_code : (profile : Profile) (m : Mnemonic) (n : Numbers) (a op : ℕ)
    → opcode_of profile m Imp ≡ Some op
    → code_for n a None (form_of profile m absent) ≡ Ok (as_coded op Imp)
unfolding form_of
implied_code profile m n a op code = rw code refl

pub accumulator_code : (profile : Profile) (m : Mnemonic) (n : Numbers) (a op : ℕ)
    → opcode_of profile m Acc ≡ Some op
    → code_for n a None (form_of profile m accumulator) ≡ Ok (as_coded op Acc)
unfolding form_of
accumulator_code profile m n a op code = rw code refl

pub immediate_code : (profile : Profile) (m : Mnemonic) (n : Numbers) (a op : ℕ) (e : Term)
    → opcode_of profile m Imm ≡ Some op → code_for n a (Some e)
    (form_of profile m (immediate e)) ≡ Ok (as_coded op Imm)
unfolding form_of
immediate_code profile m n a op e code = rw code refl

pub pointer_code : (profile : Profile) (m : Mnemonic) (n : Numbers) (a op : ℕ) (e : Term)
    → opcode_of profile m Ind ≡ Some op → code_for n a (Some e)
    (form_of profile m (pointer e)) ≡ Ok (as_coded op Ind)
unfolding form_of
pointer_code profile m n a op e code = rw code refl

pub zero_page_pointer_code : (profile : Profile) (m : Mnemonic) (n : Numbers) (a op : ℕ) (e : Term)
    → opcode_of profile m IndZ ≡ Some op → code_for n a (Some e)
    (form_of profile m (pointer e)) ≡ Ok (as_coded op IndZ)
unfolding form_of
zero_page_pointer_code profile m n a op e code = rw (no_pointer profile m op code, code) refl

pub pointer_by_x_code : (profile : Profile) (m : Mnemonic) (n : Numbers) (a op : ℕ) (e : Term)
    → opcode_of profile m IndX ≡ Some op → code_for n a (Some e)
    (form_of profile m (pointer_by_x e)) ≡ Ok (as_coded op IndX)
unfolding form_of
pointer_by_x_code profile m n a op e code = rw code refl

pub pointer_by_y_code : (profile : Profile) (m : Mnemonic) (n : Numbers) (a op : ℕ) (e : Term)
    → opcode_of profile m IndY ≡ Some op → code_for n a (Some e)
    (form_of profile m (pointer_by_y e)) ≡ Ok (as_coded op IndY)
unfolding form_of
pointer_by_y_code profile m n a op e code = rw code refl

pub branch_code : (profile : Profile) (m : Mnemonic) (n : Numbers) (a op : ℕ) (e : Term)
    → opcode_of profile m Rel ≡ Some op → code_for n a (Some e)
    (form_of profile m (direct false e Unindexed)) ≡ Ok (as_coded op Rel)
unfolding form_of
branch_code profile m n a op e code = rw code refl

pub marked_code : (profile : Profile) (m : Mnemonic) (n : Numbers) (a op : ℕ) (e : Term)
    (by : Index) → opcode_of profile m (absolute_mode by) ≡ Some op → code_for n a (Some e)
    (form_of profile m (direct true e by)) ≡ Ok (as_coded op (absolute_mode by))
unfolding form_of
marked_code profile m n a op e by code = rw code refl

-- ---- two modes

short_code : (n : Numbers) (a v : ℕ) (short : Encoding) (long : Option Encoding) → v < 256
    → code_for n a (Some (of_number v)) (either (Some short) long) ≡ Ok short
unfolding eval_of
short_code n a v short None small = refl
short_code n a v short (Some long) small = rw (le-leb v 255 (omega (arith, small))) refl

long_code : (n : Numbers) (a v : ℕ) (short : Option Encoding) (long : Encoding)
    → (is_some short ≡ true → 256 ≤ v) → code_for n a (Some (of_number v))
    (either short (Some long)) ≡ Ok long
unfolding eval_of
long_code n a v None long large = refl
long_code n a v (Some short) long large = rw (lt-leb v 255 (omega (arith, large refl))) refl

no_branch_here : (profile : Profile) (m : Mnemonic) (by : Index) (op : ℕ)
    → opcode_of profile m (zero_page_mode by) ≡ Some op → branch_form profile m by ≡ None
no_branch_here profile m Unindexed op code = rw (no_branch profile m op code) refl
no_branch_here profile m X op code = refl
no_branch_here profile m Y op code = refl

no_branch_far : (profile : Profile) (m : Mnemonic) (by : Index) (op : ℕ)
    → opcode_of profile m (absolute_mode by) ≡ Some op → branch_form profile m by ≡ None
no_branch_far profile m Unindexed op code = rw (no_branch_long profile m op code) refl
no_branch_far profile m X op code = refl
no_branch_far profile m Y op code = refl

pub zero_page_code : (profile : Profile) (m : Mnemonic) (n : Numbers) (a v op : ℕ) (by : Index)
    → v < 256 → opcode_of profile m (zero_page_mode by) ≡ Some op
    → code_for n a (Some (of_number v))
    (form_of profile m (direct false (of_number v) by)) ≡ Ok (as_coded op (zero_page_mode by))
unfolding form_of
zero_page_code profile m n a v op by small code =
    rw (no_branch_here profile m by op code, code) (short_code n a v (as_coded op (zero_page_mode by)) (in_mode profile m (absolute_mode by)) small)

large_code : (profile : Profile) (m : Mnemonic) (v : ℕ) (mode : Mode)
    → (has_row profile m mode ≡ true → 256 ≤ v) → is_some (in_mode profile m mode) ≡ true → 256 ≤ v
unfolding has_row
large_code profile m v mode large h = by (opcode_of profile m mode) large h
  where
    by : (code : Option ℕ) → (is_some code ≡ true → 256 ≤ v) → is_some (option_map (λ o. as_coded o mode) code) ≡ true → 256 ≤ v
    by None l e = absurd cc
    by (Some op) l e = l refl

pub absolute_code : (profile : Profile) (m : Mnemonic) (n : Numbers) (a v op : ℕ) (by : Index)
    → (has_row profile m (zero_page_mode by) ≡ true → 256 ≤ v)
    → opcode_of profile m (absolute_mode by) ≡ Some op
    → code_for n a (Some (of_number v))
    (form_of profile m (direct false (of_number v) by)) ≡ Ok (as_coded op (absolute_mode by))
unfolding form_of
absolute_code profile m n a v op by large code =
    rw (no_branch_far profile m by op code, code) (long_code n a v (in_mode profile m (zero_page_mode by)) (as_coded op (absolute_mode by))
    (large_code profile m v (zero_page_mode by) large))
