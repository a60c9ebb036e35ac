-- The letters of mnemonics.
use Rattle.std.proofs.Common.{◌≡◌, ℕ, [], ◌∷◌, true, false, refl}
use Rattle.std.specs.Prelude.{Some, ◌==◌}
use Rattle.model.specs.Token.{is_letter, is_blank, is_source_byte, is_word_byte}
use Rattle.model.specs.Mnemonics.{mnemonic_text, mnemonic_named}
use Rattle.model.specs.declared.instruction.Profile.{Profile}
use Rattle.model.specs.declared.instruction.Mnemonic.{Mnemonic}
use Rattle.model.specs.declared.instruction.Mnemonic.TheVariants.{Adc, And, Asl, Bcc, Bcs, Beq, Bit, Bmi, Bne, Bpl, Brk, Bvc, Bvs, Clc, Cld, Cli, Clv, Cmp, Cpx, Cpy, Dec, Dex, Dey, Eor, Inc, Inx, Iny, Jmp, Jsr, Lda, Ldx, Ldy, Lsr, Nop, Ora, Pha, Php, Pla, Plp, Rol, Ror, Rti, Rts, Sbc, Sec, Sed, Sei, Sta, Stx, Sty, Tax, Tay, Tsx, Txa, Txs, Tya, Bra, Phx, Phy, Plx, Ply, Stz}

-- what the tokens of a line ask of a capital
pub record Capital (a : ℕ) : Type 0 where
  pub letter : is_letter a ≡ true
  pub blank : is_blank a ≡ false
  pub comment : (a == 59) ≡ false
  pub source : is_source_byte a ≡ true
  pub word : is_word_byte a ≡ true

capital_a : Capital 65
capital_a = record { letter = refl; blank = refl; comment = refl; source = refl; word = refl }

capital_b : Capital 66
capital_b = record { letter = refl; blank = refl; comment = refl; source = refl; word = refl }

capital_c : Capital 67
capital_c = record { letter = refl; blank = refl; comment = refl; source = refl; word = refl }

capital_d : Capital 68
capital_d = record { letter = refl; blank = refl; comment = refl; source = refl; word = refl }

capital_e : Capital 69
capital_e = record { letter = refl; blank = refl; comment = refl; source = refl; word = refl }

capital_h : Capital 72
capital_h = record { letter = refl; blank = refl; comment = refl; source = refl; word = refl }

capital_i : Capital 73
capital_i = record { letter = refl; blank = refl; comment = refl; source = refl; word = refl }

capital_j : Capital 74
capital_j = record { letter = refl; blank = refl; comment = refl; source = refl; word = refl }

capital_k : Capital 75
capital_k = record { letter = refl; blank = refl; comment = refl; source = refl; word = refl }

capital_l : Capital 76
capital_l = record { letter = refl; blank = refl; comment = refl; source = refl; word = refl }

capital_m : Capital 77
capital_m = record { letter = refl; blank = refl; comment = refl; source = refl; word = refl }

capital_n : Capital 78
capital_n = record { letter = refl; blank = refl; comment = refl; source = refl; word = refl }

capital_o : Capital 79
capital_o = record { letter = refl; blank = refl; comment = refl; source = refl; word = refl }

capital_p : Capital 80
capital_p = record { letter = refl; blank = refl; comment = refl; source = refl; word = refl }

capital_q : Capital 81
capital_q = record { letter = refl; blank = refl; comment = refl; source = refl; word = refl }

capital_r : Capital 82
capital_r = record { letter = refl; blank = refl; comment = refl; source = refl; word = refl }

capital_s : Capital 83
capital_s = record { letter = refl; blank = refl; comment = refl; source = refl; word = refl }

capital_t : Capital 84
capital_t = record { letter = refl; blank = refl; comment = refl; source = refl; word = refl }

capital_v : Capital 86
capital_v = record { letter = refl; blank = refl; comment = refl; source = refl; word = refl }

capital_x : Capital 88
capital_x = record { letter = refl; blank = refl; comment = refl; source = refl; word = refl }

capital_y : Capital 89
capital_y = record { letter = refl; blank = refl; comment = refl; source = refl; word = refl }

capital_z : Capital 90
capital_z = record { letter = refl; blank = refl; comment = refl; source = refl; word = refl }

-- its letters name a mnemonic in a profile
abbrev pub Named : Profile → Mnemonic → Type 0
Named profile m = mnemonic_named profile (mnemonic_text m) ≡ Some m

pub record Letters (profile : Profile) (m : Mnemonic) : Type 0 where
  pub a : ℕ
  pub b : ℕ
  pub c : ℕ
  pub spelled : mnemonic_text m ≡ a ∷ b ∷ c ∷ []
  pub first : Capital a
  pub second : Capital b
  pub third : Capital c
  pub named : mnemonic_named profile (a ∷ b ∷ c ∷ []) ≡ Some m

pub letters : (profile : Profile) (m : Mnemonic) → Named profile m → Letters profile m
unfolding mnemonic_text
letters profile Adc named = record { a = 65; b = 68; c = 67; spelled = refl; first = capital_a; second = capital_d; third = capital_c; named = named }
letters profile And named = record { a = 65; b = 78; c = 68; spelled = refl; first = capital_a; second = capital_n; third = capital_d; named = named }
letters profile Asl named = record { a = 65; b = 83; c = 76; spelled = refl; first = capital_a; second = capital_s; third = capital_l; named = named }
letters profile Bcc named = record { a = 66; b = 67; c = 67; spelled = refl; first = capital_b; second = capital_c; third = capital_c; named = named }
letters profile Bcs named = record { a = 66; b = 67; c = 83; spelled = refl; first = capital_b; second = capital_c; third = capital_s; named = named }
letters profile Beq named = record { a = 66; b = 69; c = 81; spelled = refl; first = capital_b; second = capital_e; third = capital_q; named = named }
letters profile Bit named = record { a = 66; b = 73; c = 84; spelled = refl; first = capital_b; second = capital_i; third = capital_t; named = named }
letters profile Bmi named = record { a = 66; b = 77; c = 73; spelled = refl; first = capital_b; second = capital_m; third = capital_i; named = named }
letters profile Bne named = record { a = 66; b = 78; c = 69; spelled = refl; first = capital_b; second = capital_n; third = capital_e; named = named }
letters profile Bpl named = record { a = 66; b = 80; c = 76; spelled = refl; first = capital_b; second = capital_p; third = capital_l; named = named }
letters profile Brk named = record { a = 66; b = 82; c = 75; spelled = refl; first = capital_b; second = capital_r; third = capital_k; named = named }
letters profile Bvc named = record { a = 66; b = 86; c = 67; spelled = refl; first = capital_b; second = capital_v; third = capital_c; named = named }
letters profile Bvs named = record { a = 66; b = 86; c = 83; spelled = refl; first = capital_b; second = capital_v; third = capital_s; named = named }
letters profile Clc named = record { a = 67; b = 76; c = 67; spelled = refl; first = capital_c; second = capital_l; third = capital_c; named = named }
letters profile Cld named = record { a = 67; b = 76; c = 68; spelled = refl; first = capital_c; second = capital_l; third = capital_d; named = named }
letters profile Cli named = record { a = 67; b = 76; c = 73; spelled = refl; first = capital_c; second = capital_l; third = capital_i; named = named }
letters profile Clv named = record { a = 67; b = 76; c = 86; spelled = refl; first = capital_c; second = capital_l; third = capital_v; named = named }
letters profile Cmp named = record { a = 67; b = 77; c = 80; spelled = refl; first = capital_c; second = capital_m; third = capital_p; named = named }
letters profile Cpx named = record { a = 67; b = 80; c = 88; spelled = refl; first = capital_c; second = capital_p; third = capital_x; named = named }
letters profile Cpy named = record { a = 67; b = 80; c = 89; spelled = refl; first = capital_c; second = capital_p; third = capital_y; named = named }
letters profile Dec named = record { a = 68; b = 69; c = 67; spelled = refl; first = capital_d; second = capital_e; third = capital_c; named = named }
letters profile Dex named = record { a = 68; b = 69; c = 88; spelled = refl; first = capital_d; second = capital_e; third = capital_x; named = named }
letters profile Dey named = record { a = 68; b = 69; c = 89; spelled = refl; first = capital_d; second = capital_e; third = capital_y; named = named }
letters profile Eor named = record { a = 69; b = 79; c = 82; spelled = refl; first = capital_e; second = capital_o; third = capital_r; named = named }
letters profile Inc named = record { a = 73; b = 78; c = 67; spelled = refl; first = capital_i; second = capital_n; third = capital_c; named = named }
letters profile Inx named = record { a = 73; b = 78; c = 88; spelled = refl; first = capital_i; second = capital_n; third = capital_x; named = named }
letters profile Iny named = record { a = 73; b = 78; c = 89; spelled = refl; first = capital_i; second = capital_n; third = capital_y; named = named }
letters profile Jmp named = record { a = 74; b = 77; c = 80; spelled = refl; first = capital_j; second = capital_m; third = capital_p; named = named }
letters profile Jsr named = record { a = 74; b = 83; c = 82; spelled = refl; first = capital_j; second = capital_s; third = capital_r; named = named }
letters profile Lda named = record { a = 76; b = 68; c = 65; spelled = refl; first = capital_l; second = capital_d; third = capital_a; named = named }
letters profile Ldx named = record { a = 76; b = 68; c = 88; spelled = refl; first = capital_l; second = capital_d; third = capital_x; named = named }
letters profile Ldy named = record { a = 76; b = 68; c = 89; spelled = refl; first = capital_l; second = capital_d; third = capital_y; named = named }
letters profile Lsr named = record { a = 76; b = 83; c = 82; spelled = refl; first = capital_l; second = capital_s; third = capital_r; named = named }
letters profile Nop named = record { a = 78; b = 79; c = 80; spelled = refl; first = capital_n; second = capital_o; third = capital_p; named = named }
letters profile Ora named = record { a = 79; b = 82; c = 65; spelled = refl; first = capital_o; second = capital_r; third = capital_a; named = named }
letters profile Pha named = record { a = 80; b = 72; c = 65; spelled = refl; first = capital_p; second = capital_h; third = capital_a; named = named }
letters profile Php named = record { a = 80; b = 72; c = 80; spelled = refl; first = capital_p; second = capital_h; third = capital_p; named = named }
letters profile Pla named = record { a = 80; b = 76; c = 65; spelled = refl; first = capital_p; second = capital_l; third = capital_a; named = named }
letters profile Plp named = record { a = 80; b = 76; c = 80; spelled = refl; first = capital_p; second = capital_l; third = capital_p; named = named }
letters profile Rol named = record { a = 82; b = 79; c = 76; spelled = refl; first = capital_r; second = capital_o; third = capital_l; named = named }
letters profile Ror named = record { a = 82; b = 79; c = 82; spelled = refl; first = capital_r; second = capital_o; third = capital_r; named = named }
letters profile Rti named = record { a = 82; b = 84; c = 73; spelled = refl; first = capital_r; second = capital_t; third = capital_i; named = named }
letters profile Rts named = record { a = 82; b = 84; c = 83; spelled = refl; first = capital_r; second = capital_t; third = capital_s; named = named }
letters profile Sbc named = record { a = 83; b = 66; c = 67; spelled = refl; first = capital_s; second = capital_b; third = capital_c; named = named }
letters profile Sec named = record { a = 83; b = 69; c = 67; spelled = refl; first = capital_s; second = capital_e; third = capital_c; named = named }
letters profile Sed named = record { a = 83; b = 69; c = 68; spelled = refl; first = capital_s; second = capital_e; third = capital_d; named = named }
letters profile Sei named = record { a = 83; b = 69; c = 73; spelled = refl; first = capital_s; second = capital_e; third = capital_i; named = named }
letters profile Sta named = record { a = 83; b = 84; c = 65; spelled = refl; first = capital_s; second = capital_t; third = capital_a; named = named }
letters profile Stx named = record { a = 83; b = 84; c = 88; spelled = refl; first = capital_s; second = capital_t; third = capital_x; named = named }
letters profile Sty named = record { a = 83; b = 84; c = 89; spelled = refl; first = capital_s; second = capital_t; third = capital_y; named = named }
letters profile Tax named = record { a = 84; b = 65; c = 88; spelled = refl; first = capital_t; second = capital_a; third = capital_x; named = named }
letters profile Tay named = record { a = 84; b = 65; c = 89; spelled = refl; first = capital_t; second = capital_a; third = capital_y; named = named }
letters profile Tsx named = record { a = 84; b = 83; c = 88; spelled = refl; first = capital_t; second = capital_s; third = capital_x; named = named }
letters profile Txa named = record { a = 84; b = 88; c = 65; spelled = refl; first = capital_t; second = capital_x; third = capital_a; named = named }
letters profile Txs named = record { a = 84; b = 88; c = 83; spelled = refl; first = capital_t; second = capital_x; third = capital_s; named = named }
letters profile Tya named = record { a = 84; b = 89; c = 65; spelled = refl; first = capital_t; second = capital_y; third = capital_a; named = named }
letters profile Bra named = record { a = 66; b = 82; c = 65; spelled = refl; first = capital_b; second = capital_r; third = capital_a; named = named }
letters profile Phx named = record { a = 80; b = 72; c = 88; spelled = refl; first = capital_p; second = capital_h; third = capital_x; named = named }
letters profile Phy named = record { a = 80; b = 72; c = 89; spelled = refl; first = capital_p; second = capital_h; third = capital_y; named = named }
letters profile Plx named = record { a = 80; b = 76; c = 88; spelled = refl; first = capital_p; second = capital_l; third = capital_x; named = named }
letters profile Ply named = record { a = 80; b = 76; c = 89; spelled = refl; first = capital_p; second = capital_l; third = capital_y; named = named }
letters profile Stz named = record { a = 83; b = 84; c = 90; spelled = refl; first = capital_s; second = capital_t; third = capital_z; named = named }
