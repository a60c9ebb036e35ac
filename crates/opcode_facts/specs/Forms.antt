-- How operands are written, and in which order forms are listed. Source: mos65.
use Rattle.std.specs.Prelude.{ℕ, List, [], codes}
use Rattle.model.specs.declared.instruction.Mode.{Mode}
use Rattle.model.specs.declared.instruction.Mode.TheVariants.{Imp, Acc, Imm, Zp, ZpX, ZpY, Abs, AbsX, AbsY, IndX, IndY, Ind, Rel, IndZ}
use Rattle.opcode_facts.specs.declared.forms.TheConstants.{MODES}
use Rattle.opcode_facts.specs.declared.wording.TheConstants.{FORM_ABS, FORM_ABSX, FORM_ABSY, FORM_ACC, FORM_IMM, FORM_IND, FORM_INDX, FORM_INDY, FORM_INDZ, FORM_REL, FORM_ZP, FORM_ZPX, FORM_ZPY}

-- The modes, in the order in which forms are listed.
unfoldable pub all_modes : List Mode
all_modes = MODES

-- How an operand is written, behind a blank.
abbrev pub operand_form : Mode → List ℕ
operand_form Imp = []
operand_form Acc = FORM_ACC.now
operand_form Imm = FORM_IMM.now
operand_form Zp = FORM_ZP.now
operand_form ZpX = FORM_ZPX.now
operand_form ZpY = FORM_ZPY.now
operand_form Abs = FORM_ABS.now
operand_form AbsX = FORM_ABSX.now
operand_form AbsY = FORM_ABSY.now
operand_form IndX = FORM_INDX.now
operand_form IndY = FORM_INDY.now
operand_form Ind = FORM_IND.now
operand_form Rel = FORM_REL.now
operand_form IndZ = FORM_INDZ.now

-- What an operand is called: its form, with a word for its number.
abbrev pub operand_name : Mode → List ℕ
operand_name Imp = codes "no operand"
operand_name Acc = codes "A"
operand_name Imm = codes "#n"
operand_name Zp = codes "zp"
operand_name ZpX = codes "zp,X"
operand_name ZpY = codes "zp,Y"
operand_name Abs = codes "abs"
operand_name AbsX = codes "abs,X"
operand_name AbsY = codes "abs,Y"
operand_name IndX = codes "(zp,X)"
operand_name IndY = codes "(zp),Y"
operand_name Ind = codes "(abs)"
operand_name Rel = codes "target"
operand_name IndZ = codes "(zp)"
