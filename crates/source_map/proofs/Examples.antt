-- Sites, a function and a name of files that ld65 wrote: cc65's own reader has these answers. Each is
-- computed.
use Rattle.std.proofs.Common.{◌≡◌, ℕ, ℤ, List, [], ◌∷◌, codes, pos, negsuc, Some, None, Option, true, false, refl}
use Rattle.debug_records.specs.Info.{Info, no_info}
use Rattle.debug_records.specs.Records.{CSymbol, Scope, Symbol}
use Rattle.debug_records.specs.declared.record.Storage.{Storage}
use Rattle.debug_records.specs.declared.record.Storage.TheVariants.{Auto, External}
use Rattle.source_map.specs.Functions.{function_at, functions_from, functions_of, head_of}
use Rattle.source_map.specs.Lines.{addresses_of_line}
use Rattle.source_map.specs.Names.{Named, address_of}
use Rattle.source_map.specs.declared.rows.Site.{Site}

abbrev site : ℕ → ℕ → ℕ → ℕ → Site
site file line address end = record { file = file; line = line; address = address; end = end }

-- ---- a line of a macro, which stands wherever it was used

abbrev macro_sites : List Site
macro_sites = site 1 8 0xE025 0xE02A ∷ site 1 4 0xE022 0xE025 ∷ site 1 9 0xE02A 0xE02F ∷ site 1 4 0xE02C 0xE02F ∷ site 1 4 0xE027 0xE02A
    ∷ site 0 4 0xE000 0xE002 ∷ site 1 3 0xE020 0xE022 ∷ []

pub in_macros : addresses_of_line macro_sites 1 4 ≡ 0xE022 ∷ 0xE027 ∷ 0xE02C ∷ []
in_macros = refl

-- the next line that has bytes stands for one that has none
pub behind_it : addresses_of_line macro_sites 1 5 ≡ 0xE025 ∷ []
behind_it = refl

pub behind_all : addresses_of_line macro_sites 1 10 ≡ []
behind_all = refl

-- ---- a `while` of C, at its condition and at its jump

pub of_a_loop : addresses_of_line (site 6 8 0x8191 0x819E ∷ site 6 9 0x8161 0x8191 ∷ site 6 8 0x815E 0x8161 ∷ []) 6 8 ≡ 0x815E ∷ 0x8191 ∷ []
of_a_loop = refl

-- ---- bytes among others of their line, and bytes that begin with them

pub among_others : addresses_of_line (site 0 7 0x0203 0x0205 ∷ site 0 7 0x0200 0x020A ∷ site 0 7 0x0200 0x0202 ∷ site 0 7 0x0209 0x020B ∷ []) 0 7
    ≡ 0x0200 ∷ 0x0209 ∷ []
among_others = refl

-- ---- a function of C with a parameter and two locals

abbrev name : List ℕ → Storage → ℤ → Option ℕ → Option CSymbol
name text storage offset symbol = Some (record { name = text; scope = 0; storage = storage; offset = offset; symbol = symbol })

abbrev bank : Info
bank = record no_info {
  symbols = Some (record { name = codes "_open_account"; value = Some 0x80E6; is_label = true }) ∷ [];
  scopes = Some (record { name = codes "_open_account"; size = Some 117; symbol = Some 0 }) ∷ [];
  c_symbols = name (codes "open_account") External (pos 0) (Some 0) ∷ name (codes "name") Auto (pos 2) None
      ∷ name (codes "balance") Auto (pos 0) None ∷ name (codes "a") Auto (negsuc 1) None ∷ [];
}

pub one_function : functions_of bank ≡ record {
  name = codes "open_account";
  start = 0x80E6;
  size = 117;
  locals = record { name = codes "name"; offset = 2; follows_register = false } ∷ record { name = codes "balance"; offset = 0; follows_register = false } ∷ record { name = codes "a"; offset = 0xFFFE; follows_register = false } ∷ [];
} ∷ []
unfolding functions_from function_at head_of
one_function = refl

-- ---- a name of C

abbrev named : List ℕ → ℕ → Named
named text address = record { text = text; address = address; is_label = true; has_byte = true }

pub main_of_c : address_of (named (codes "Main2") 0x0300 ∷ named (codes "_main") 0x8046 ∷ []) (codes "main") ≡ Some 0x8046
main_of_c = refl

pub own_name_first : address_of (named (codes "_main") 0x8046 ∷ named (codes "MAIN") 0x0300 ∷ []) (codes "main") ≡ Some 0x0300
own_name_first = refl
