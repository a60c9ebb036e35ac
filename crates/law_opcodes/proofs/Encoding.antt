-- The opcode table of each profile read both ways, computed for every opcode and for every mnemonic
-- in every mode.
use Rattle.std.proofs.Common.{◌≡◌, ℕ, zero, suc, ◌<◌, List, [], ◌∷◌, ◌++◌, map, length, refl, ap, subst, sym, ◌∙◌, rules, inl, inr, arith, get_or}
use Rattle.std.specs.Prelude.{Option, None, Some, Bool, true, false, ◌↔◌, ◌&&◌, ◌==◌, nat_lt, IfSome}
use Rattle.std.specs.List.{All, range_with_len}
use Rattle.std.proofs.Math.ListN.{get_or-map}
use Rattle.std.proofs.lemmas.List.FromFn.{get_or-map-range_with_len}
use Rattle.std.proofs.lemmas.Bool.Decides.{nat_tests}
use Rattle.std.proofs.lemmas.Bool.{cases_Bool}
use denote.Enum.Declared.{tag_of}
use denote.Enum.Bare.{same_true}
use Rattle.model.specs.contracts.instruction.Mnemonic.{the_type as mnemonic_type}
use Rattle.model.specs.contracts.instruction.Mode.{the_type as mode_type}
use Rattle.model.specs.declared.instruction.Profile.{Profile}
use Rattle.model.specs.declared.instruction.Profile.TheVariants.{N, C}
use Rattle.model.specs.declared.instruction.Mnemonic.{Mnemonic}
use Rattle.model.specs.declared.instruction.Mnemonic.TheVariants.{Adc, And, Asl, Bcc, Bcs, Beq, Bit, Bmi, Bne, Bpl, Brk, Bvc, Bvs, Clc, Cld, Cli, Clv, Cmp, Cpx, Cpy, Dec, Dex, Dey, Eor, Inc, Inx, Iny, Jmp, Jsr, Lda, Ldx, Ldy, Lsr, Nop, Ora, Pha, Php, Pla, Plp, Rol, Ror, Rti, Rts, Sbc, Sec, Sed, Sei, Sta, Stx, Sty, Tax, Tay, Tsx, Txa, Txs, Tya, Bra, Phx, Phy, Plx, Ply, Stz}
use Rattle.model.specs.declared.instruction.Mode.{Mode}
use Rattle.model.specs.declared.instruction.Mode.TheVariants.{Imp, Acc, Imm, Zp, ZpX, ZpY, Abs, AbsX, AbsY, IndX, IndY, Ind, Rel, IndZ}
use Rattle.model.specs.declared.instruction.Row.{Row}
use Rattle.model.specs.OpcodeTable.{Entry, row_at, find_row, table, documented_opcodes, added_opcodes, opcode_of, find_opcode, same_mnemonic, same_mode, IsRowOf}
use Rattle.model.specs.Mnemonics.{mnemonics, documented_mnemonics, added_mnemonics, mnemonic_text, named_among, mnemonic_named}

-- ---- every mnemonic and every mode

abbrev pub all_mnemonics : List Mnemonic
all_mnemonics = documented_mnemonics ++ added_mnemonics

abbrev pub all_modes : List Mode
all_modes =
    Imp ∷ Acc ∷ Imm ∷ Zp ∷ ZpX ∷ ZpY ∷ Abs ∷ AbsX ∷ AbsY ∷ IndX ∷ IndY ∷ Ind ∷ Rel ∷ IndZ ∷ []

-- each stands at its place
mnemonic_at : (m : Mnemonic) → get_or all_mnemonics (tag_of mnemonic_type m) Adc ≡ m
mnemonic_at Adc = refl
mnemonic_at And = refl
mnemonic_at Asl = refl
mnemonic_at Bcc = refl
mnemonic_at Bcs = refl
mnemonic_at Beq = refl
mnemonic_at Bit = refl
mnemonic_at Bmi = refl
mnemonic_at Bne = refl
mnemonic_at Bpl = refl
mnemonic_at Brk = refl
mnemonic_at Bvc = refl
mnemonic_at Bvs = refl
mnemonic_at Clc = refl
mnemonic_at Cld = refl
mnemonic_at Cli = refl
mnemonic_at Clv = refl
mnemonic_at Cmp = refl
mnemonic_at Cpx = refl
mnemonic_at Cpy = refl
mnemonic_at Dec = refl
mnemonic_at Dex = refl
mnemonic_at Dey = refl
mnemonic_at Eor = refl
mnemonic_at Inc = refl
mnemonic_at Inx = refl
mnemonic_at Iny = refl
mnemonic_at Jmp = refl
mnemonic_at Jsr = refl
mnemonic_at Lda = refl
mnemonic_at Ldx = refl
mnemonic_at Ldy = refl
mnemonic_at Lsr = refl
mnemonic_at Nop = refl
mnemonic_at Ora = refl
mnemonic_at Pha = refl
mnemonic_at Php = refl
mnemonic_at Pla = refl
mnemonic_at Plp = refl
mnemonic_at Rol = refl
mnemonic_at Ror = refl
mnemonic_at Rti = refl
mnemonic_at Rts = refl
mnemonic_at Sbc = refl
mnemonic_at Sec = refl
mnemonic_at Sed = refl
mnemonic_at Sei = refl
mnemonic_at Sta = refl
mnemonic_at Stx = refl
mnemonic_at Sty = refl
mnemonic_at Tax = refl
mnemonic_at Tay = refl
mnemonic_at Tsx = refl
mnemonic_at Txa = refl
mnemonic_at Txs = refl
mnemonic_at Tya = refl
mnemonic_at Bra = refl
mnemonic_at Phx = refl
mnemonic_at Phy = refl
mnemonic_at Plx = refl
mnemonic_at Ply = refl
mnemonic_at Stz = refl

mode_at : (d : Mode) → get_or all_modes (tag_of mode_type d) Imp ≡ d
mode_at Imp = refl
mode_at Acc = refl
mode_at Imm = refl
mode_at Zp = refl
mode_at ZpX = refl
mode_at ZpY = refl
mode_at Abs = refl
mode_at AbsX = refl
mode_at AbsY = refl
mode_at IndX = refl
mode_at IndY = refl
mode_at Ind = refl
mode_at Rel = refl
mode_at IndZ = refl

-- two columns that are equal are equal at each place
same_at : {X Y : Type 0} (f g : X → Y) (xs : List X) (i : ℕ) (x : X) → map f xs ≡ map g xs
    → f x ≡ g x → f (get_or xs i x) ≡ g (get_or xs i x)
same_at f g xs i x same first =
    sym (get_or-map f xs i x) ∙ ap (λ ys. get_or ys i (f x)) same ∙ ap (λ y. get_or (map g xs) i y) first ∙ get_or-map g xs i x

same_at_mode : {X : Type 0} (f g : Mode → X) → map f all_modes ≡ map g all_modes → (d : Mode)
    → f d ≡ g d
same_at_mode f g same d =
    ap f (sym (mode_at d)) ∙ same_at f g all_modes (tag_of mode_type d) Imp same (ap (λ ys. get_or ys 0 (f Imp)) same) ∙ ap g (mode_at d)

same_at_mnemonic : {X : Type 0} (f g : Mnemonic → X) → map f all_mnemonics ≡ map g all_mnemonics
    → (m : Mnemonic) → f m ≡ g m
same_at_mnemonic f g same m =
    ap f (sym (mnemonic_at m)) ∙ same_at f g all_mnemonics (tag_of mnemonic_type m) Adc same (ap (λ ys. get_or ys 0 (f Adc)) same) ∙ ap g (mnemonic_at m)

-- what is computed to be equal for all mnemonics in all modes is equal for each
pub same_at_each : {X : Type 0} (f g : Mnemonic → Mode → X)
    → map (λ m. map (f m) all_modes) all_mnemonics ≡ map (λ m. map (g m) all_modes) all_mnemonics
    → (m : Mnemonic) (d : Mode) → f m d ≡ g m d
same_at_each f g same m d = same_at_mode (f m) (g m) (same_at_mnemonic (λ n. map (f n) all_modes) (λ n. map (g n) all_modes) same m) d

-- ---- an opcode that is given for a mnemonic and a mode has the row

abbrev is_row_of : Mnemonic → Mode → Option Row → Bool
is_row_of m d None = false
is_row_of m d (Some row) = same_mnemonic row.mnemonic m && same_mode row.mode d

abbrev has_row : Profile → Mnemonic → Mode → Option ℕ → Bool
has_row profile m d None = true
has_row profile m d (Some opcode) = nat_lt opcode 256 && is_row_of m d (row_at profile opcode)

all_have_rows : (profile : Profile)
    → map (λ m. map (λ d. has_row profile m d (opcode_of profile m d)) all_modes) all_mnemonics
    ≡ map (λ m. map (λ d. true) all_modes) all_mnemonics
unfolding opcode_of find_opcode row_at find_row table documented_opcodes added_opcodes
all_have_rows N = refl
all_have_rows C = refl

each_has_row : (profile : Profile) (m : Mnemonic) (d : Mode)
    → has_row profile m d (opcode_of profile m d) ≡ true
each_has_row profile = same_at_each (λ m d. has_row profile m d (opcode_of profile m d)) (λ m d. true) (all_have_rows profile)

both : (s t : Bool) → (s && t) ≡ true → (s ≡ true) × (t ≡ true)
both true t h = (refl, h)
both false t h = cc

row_parts : (m : Mnemonic) (d : Mode) (row : Option Row) → is_row_of m d row ≡ true
    → IsRowOf m d row
row_parts m d None h = cc
row_parts m d (Some row) h =
    let parts = both (same_mnemonic row.mnemonic m) (same_mode row.mode d) h in
    (same_true mnemonic_type (search rules) _ _ parts.0, same_true mode_type (search rules) _ _ parts.1)

code_parts : (profile : Profile) (m : Mnemonic) (d : Mode) (code : Option ℕ)
    → has_row profile m d code ≡ true
    → IfSome code (λ opcode. (opcode < 256) × IsRowOf m d (row_at profile opcode))
code_parts profile m d None h = tt
code_parts profile m d (Some opcode) h =
    let parts = both (nat_lt opcode 256) (is_row_of m d (row_at profile opcode)) h in
    let below : nat_lt opcode 256 ≡ true = parts.0 in
    (grind (arith, nat_tests), row_parts m d (row_at profile opcode) parts.1)

-- the opcode of a mnemonic in a mode is a byte whose row has both
pub row_of_encoded : (profile : Profile) (m : Mnemonic) (d : Mode) → IfSome (opcode_of profile m d)
    (λ opcode. (opcode < 256) × IsRowOf m d (row_at profile opcode))
row_of_encoded profile m d = code_parts profile m d (opcode_of profile m d) (each_has_row profile m d)

-- ---- a row's opcode is the one that is given for its mnemonic and mode

abbrev is_code : ℕ → Option ℕ → Bool
is_code opcode None = false
is_code opcode (Some code) = code == opcode

abbrev has_code : Profile → ℕ → Option Row → Bool
has_code profile opcode None = true
has_code profile opcode (Some row) = is_code opcode (opcode_of profile row.mnemonic row.mode)

all_have_codes : (profile : Profile)
    → map (λ opcode. has_code profile opcode (row_at profile opcode))
    (range_with_len 0 256) ≡ map (λ opcode. true) (range_with_len 0 256)
unfolding opcode_of find_opcode row_at find_row table documented_opcodes added_opcodes
all_have_codes N = refl
all_have_codes C = refl

each_has_code : (profile : Profile) (opcode : ℕ) → opcode < 256
    → has_code profile opcode (row_at profile opcode) ≡ true
each_has_code profile opcode below =
    sym (get_or-map-range_with_len (λ k. has_code profile k (row_at profile k)) 0 256 opcode opcode true below (omega arith))
    ∙ ap (λ rows. get_or rows opcode true) (all_have_codes profile)
    ∙ get_or-map-range_with_len (λ k. true) 0 256 opcode opcode true below (omega arith)

is_code_parts : (opcode : ℕ) (code : Option ℕ) → is_code opcode code ≡ true → code ≡ Some opcode
is_code_parts opcode None h = cc
is_code_parts opcode (Some code) h =
    let same : code ≡ opcode = grind (arith, nat_tests) in
    ap Some same

has_code_parts : (profile : Profile) (opcode : ℕ) (m : Mnemonic) (d : Mode) (row : Option Row)
    → has_code profile opcode row ≡ true → IsRowOf m d row → opcode_of profile m d ≡ Some opcode
has_code_parts profile opcode m d None h is = absurd is
has_code_parts profile opcode m d (Some row) h is = rw (is.0, is.1) at (is_code_parts opcode (opcode_of profile row.mnemonic row.mode) h)

-- no pair of mnemonic and mode has another opcode than the one that is given for it
pub encoded_of_row : (profile : Profile) (m : Mnemonic) (d : Mode) (opcode : ℕ) → opcode < 256
    → IsRowOf m d (row_at profile opcode) → opcode_of profile m d ≡ Some opcode
encoded_of_row profile m d opcode below is = has_code_parts profile opcode m d (row_at profile opcode) (each_has_code profile opcode below) is

-- an opcode is the one of a mnemonic in a mode exactly where its row has both
pub encoded_exactly : (profile : Profile) (m : Mnemonic) (d : Mode) (opcode : ℕ) → opcode < 256
    → (opcode_of profile m d ≡ Some opcode) ↔ IsRowOf m d (row_at profile opcode)
encoded_exactly profile m d opcode below = (
  λ is. (subst (λ code. IfSome code (λ k. (k < 256) × IsRowOf m d (row_at profile k))) is (row_of_encoded profile m d)).1,
  encoded_of_row profile m
      d opcode below,
)

-- ---- the rows that profile C adds stand after those of profile N

abbrev or_else : {X : Type 0} → Option X → Option X → Option X
or_else None y = y
or_else (Some x) y = Some x

found_after : (opcode : ℕ) (front back : List Entry)
    → find_row opcode (front ++ back) ≡ or_else (find_row opcode front) (find_row opcode back)
unfolding find_row
found_after opcode [] back = refl
found_after opcode (e ∷ es) back = elim (cases_Bool (opcode == e.0)) [
  | inl t ↦ rw t refl
  | inr f ↦ rw f (found_after opcode es back)
]

row_in_c : (opcode : ℕ) → row_at C opcode ≡ or_else (row_at N opcode)
    (find_row opcode added_opcodes)
unfolding row_at table
row_in_c opcode = found_after opcode documented_opcodes added_opcodes

-- the row of an opcode in profile C is that of profile N, otherwise an added one
pub row_kept : (opcode : ℕ) (row : Row) → row_at N opcode ≡ Some row → row_at C opcode ≡ Some row
row_kept opcode row e = row_in_c opcode ∙ ap (λ (r : Option Row). or_else r (find_row opcode added_opcodes)) e

pub row_added : (opcode : ℕ) → row_at N opcode ≡ None
    → row_at C opcode ≡ find_row opcode added_opcodes
row_added opcode e = row_in_c opcode ∙ ap (λ (r : Option Row). or_else r (find_row opcode added_opcodes)) e

-- ---- names

all_equal : {X Y : Type 0} (f g : X → Y) (xs : List X) → map f xs ≡ map g xs
    → All (λ x. f x ≡ g x) xs
all_equal f g [] same k d below = absurd (omega (arith, below))
all_equal f g (x ∷ xs) same zero d below = cc
all_equal f g (x ∷ xs) same (suc k) d below = all_equal f g xs (cc) k d (omega (arith, below))

texts_name : (profile : Profile) → map (λ m. mnemonic_named profile (mnemonic_text m))
    (mnemonics profile) ≡ map (λ m. Some m) (mnemonics profile)
unfolding mnemonics mnemonic_named named_among mnemonic_text
texts_name N = refl
texts_name C = refl

-- each mnemonic of a profile is read from its own letters
pub mnemonics_named : (profile : Profile)
    → All (λ m. mnemonic_named profile (mnemonic_text m) ≡ Some m) (mnemonics profile)
mnemonics_named profile = all_equal (λ m. mnemonic_named profile (mnemonic_text m)) (λ m. Some m) (mnemonics profile) (texts_name profile)

-- what the letters of a mnemonic name, if it has an opcode
abbrev name_if : Profile → Mnemonic → Option ℕ → Option Mnemonic
name_if profile m None = Some m
name_if profile m (Some opcode) = mnemonic_named profile (mnemonic_text m)

all_named : (profile : Profile)
    → map (λ m. map (λ d. name_if profile m (opcode_of profile m d)) all_modes) all_mnemonics
    ≡ map (λ m. map (λ (d : Mode). Some m) all_modes) all_mnemonics
unfolding opcode_of find_opcode table documented_opcodes added_opcodes mnemonics mnemonic_named named_among mnemonic_text
all_named N = refl
all_named C = refl

-- each mnemonic that has an opcode in a profile is read there from its own letters
pub named_of_code : (profile : Profile) (m : Mnemonic) (d : Mode) (opcode : ℕ)
    → opcode_of profile m d ≡ Some opcode → mnemonic_named profile (mnemonic_text m) ≡ Some m
named_of_code profile m d opcode code = rw code at (same_at_each (λ m d. name_if profile m (opcode_of profile m d)) (λ m (d : Mode). Some m)
    (all_named profile) m d)

-- each mnemonic has three letters
pub length-mnemonic_text : (m : Mnemonic) → length (mnemonic_text m) ≡ 3
unfolding mnemonic_text
length-mnemonic_text Adc = refl
length-mnemonic_text And = refl
length-mnemonic_text Asl = refl
length-mnemonic_text Bcc = refl
length-mnemonic_text Bcs = refl
length-mnemonic_text Beq = refl
length-mnemonic_text Bit = refl
length-mnemonic_text Bmi = refl
length-mnemonic_text Bne = refl
length-mnemonic_text Bpl = refl
length-mnemonic_text Brk = refl
length-mnemonic_text Bvc = refl
length-mnemonic_text Bvs = refl
length-mnemonic_text Clc = refl
length-mnemonic_text Cld = refl
length-mnemonic_text Cli = refl
length-mnemonic_text Clv = refl
length-mnemonic_text Cmp = refl
length-mnemonic_text Cpx = refl
length-mnemonic_text Cpy = refl
length-mnemonic_text Dec = refl
length-mnemonic_text Dex = refl
length-mnemonic_text Dey = refl
length-mnemonic_text Eor = refl
length-mnemonic_text Inc = refl
length-mnemonic_text Inx = refl
length-mnemonic_text Iny = refl
length-mnemonic_text Jmp = refl
length-mnemonic_text Jsr = refl
length-mnemonic_text Lda = refl
length-mnemonic_text Ldx = refl
length-mnemonic_text Ldy = refl
length-mnemonic_text Lsr = refl
length-mnemonic_text Nop = refl
length-mnemonic_text Ora = refl
length-mnemonic_text Pha = refl
length-mnemonic_text Php = refl
length-mnemonic_text Pla = refl
length-mnemonic_text Plp = refl
length-mnemonic_text Rol = refl
length-mnemonic_text Ror = refl
length-mnemonic_text Rti = refl
length-mnemonic_text Rts = refl
length-mnemonic_text Sbc = refl
length-mnemonic_text Sec = refl
length-mnemonic_text Sed = refl
length-mnemonic_text Sei = refl
length-mnemonic_text Sta = refl
length-mnemonic_text Stx = refl
length-mnemonic_text Sty = refl
length-mnemonic_text Tax = refl
length-mnemonic_text Tay = refl
length-mnemonic_text Tsx = refl
length-mnemonic_text Txa = refl
length-mnemonic_text Txs = refl
length-mnemonic_text Tya = refl
length-mnemonic_text Bra = refl
length-mnemonic_text Phx = refl
length-mnemonic_text Phy = refl
length-mnemonic_text Plx = refl
length-mnemonic_text Ply = refl
length-mnemonic_text Stz = refl
