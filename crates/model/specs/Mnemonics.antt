-- The mnemonics as a source writes them.
use Rattle.std.specs.Prelude.{ℕ, List, [], ◌∷◌, ◌++◌, Option, Some, None, if◌then◌else◌, codes}
use Rattle.std.specs.Str.{bytes_eq, str_to_ascii_uppercase}
use Rattle.model.specs.declared.instruction.Profile.{Profile}
use Rattle.model.specs.declared.instruction.Profile.TheVariants.{N, C}
use Rattle.model.specs.declared.instruction.Mnemonic.{Mnemonic}
use Rattle.model.specs.declared.instruction.Mnemonic.TheVariants.{Adc, And, Asl, Bcc, Bcs, Beq, Bit, Bmi, Bne, Bpl, Brk, Bvc, Bvs, Clc, Cld, Cli, Clv, Cmp, Cpx, Cpy, Dec, Dex, Dey, Eor, Inc, Inx, Iny, Jmp, Jsr, Lda, Ldx, Ldy, Lsr, Nop, Ora, Pha, Php, Pla, Plp, Rol, Ror, Rti, Rts, Sbc, Sec, Sed, Sei, Sta, Stx, Sty, Tax, Tay, Tsx, Txa, Txs, Tya, Bra, Phx, Phy, Plx, Ply, Stz}

-- The mnemonics of the documented instructions. Source: MCS6500 manual, appendix B.
abbrev pub documented_mnemonics : List Mnemonic
documented_mnemonics =
    Adc ∷ And ∷ Asl ∷ Bcc ∷ Bcs ∷ Beq ∷ Bit ∷ Bmi ∷
    Bne ∷ Bpl ∷ Brk ∷ Bvc ∷ Bvs ∷ Clc ∷ Cld ∷ Cli ∷
    Clv ∷ Cmp ∷ Cpx ∷ Cpy ∷ Dec ∷ Dex ∷ Dey ∷ Eor ∷
    Inc ∷ Inx ∷ Iny ∷ Jmp ∷ Jsr ∷ Lda ∷ Ldx ∷ Ldy ∷
    Lsr ∷ Nop ∷ Ora ∷ Pha ∷ Php ∷ Pla ∷ Plp ∷ Rol ∷
    Ror ∷ Rti ∷ Rts ∷ Sbc ∷ Sec ∷ Sed ∷ Sei ∷ Sta ∷
    Stx ∷ Sty ∷ Tax ∷ Tay ∷ Tsx ∷ Txa ∷ Txs ∷ Tya ∷
    []

-- Those that profile C adds. Source: mos65.
abbrev pub added_mnemonics : List Mnemonic
added_mnemonics = Bra ∷ Phx ∷ Phy ∷ Plx ∷ Ply ∷ Stz ∷ []

-- The mnemonics of each profile.
unfoldable pub mnemonics : Profile → List Mnemonic
mnemonics N = documented_mnemonics
mnemonics C = documented_mnemonics ++ added_mnemonics

-- The three letters of each mnemonic, in capitals. Source: MCS6500 manual, appendix B; mos65 for
-- the last six.
unfoldable pub mnemonic_text : Mnemonic → List ℕ
mnemonic_text Adc = codes "ADC"
mnemonic_text And = codes "AND"
mnemonic_text Asl = codes "ASL"
mnemonic_text Bcc = codes "BCC"
mnemonic_text Bcs = codes "BCS"
mnemonic_text Beq = codes "BEQ"
mnemonic_text Bit = codes "BIT"
mnemonic_text Bmi = codes "BMI"
mnemonic_text Bne = codes "BNE"
mnemonic_text Bpl = codes "BPL"
mnemonic_text Brk = codes "BRK"
mnemonic_text Bvc = codes "BVC"
mnemonic_text Bvs = codes "BVS"
mnemonic_text Clc = codes "CLC"
mnemonic_text Cld = codes "CLD"
mnemonic_text Cli = codes "CLI"
mnemonic_text Clv = codes "CLV"
mnemonic_text Cmp = codes "CMP"
mnemonic_text Cpx = codes "CPX"
mnemonic_text Cpy = codes "CPY"
mnemonic_text Dec = codes "DEC"
mnemonic_text Dex = codes "DEX"
mnemonic_text Dey = codes "DEY"
mnemonic_text Eor = codes "EOR"
mnemonic_text Inc = codes "INC"
mnemonic_text Inx = codes "INX"
mnemonic_text Iny = codes "INY"
mnemonic_text Jmp = codes "JMP"
mnemonic_text Jsr = codes "JSR"
mnemonic_text Lda = codes "LDA"
mnemonic_text Ldx = codes "LDX"
mnemonic_text Ldy = codes "LDY"
mnemonic_text Lsr = codes "LSR"
mnemonic_text Nop = codes "NOP"
mnemonic_text Ora = codes "ORA"
mnemonic_text Pha = codes "PHA"
mnemonic_text Php = codes "PHP"
mnemonic_text Pla = codes "PLA"
mnemonic_text Plp = codes "PLP"
mnemonic_text Rol = codes "ROL"
mnemonic_text Ror = codes "ROR"
mnemonic_text Rti = codes "RTI"
mnemonic_text Rts = codes "RTS"
mnemonic_text Sbc = codes "SBC"
mnemonic_text Sec = codes "SEC"
mnemonic_text Sed = codes "SED"
mnemonic_text Sei = codes "SEI"
mnemonic_text Sta = codes "STA"
mnemonic_text Stx = codes "STX"
mnemonic_text Sty = codes "STY"
mnemonic_text Tax = codes "TAX"
mnemonic_text Tay = codes "TAY"
mnemonic_text Tsx = codes "TSX"
mnemonic_text Txa = codes "TXA"
mnemonic_text Txs = codes "TXS"
mnemonic_text Tya = codes "TYA"
mnemonic_text Bra = codes "BRA"
mnemonic_text Phx = codes "PHX"
mnemonic_text Phy = codes "PHY"
mnemonic_text Plx = codes "PLX"
mnemonic_text Ply = codes "PLY"
mnemonic_text Stz = codes "STZ"

-- The first of some mnemonics whose letters a text has, in any letter case.
unfoldable pub named_among : List ℕ → List Mnemonic → Option Mnemonic
named_among text [] = None
named_among text (m ∷ ms) = if bytes_eq (mnemonic_text m) (str_to_ascii_uppercase text) then Some m
    else named_among text ms

-- The mnemonic of a profile that a text names, in any letter case, if it names one. Source: mos65.
unfoldable pub mnemonic_named : Profile → List ℕ → Option Mnemonic
mnemonic_named profile text = named_among text (mnemonics profile)
