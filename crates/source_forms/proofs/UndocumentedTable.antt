-- The constant has what the definition has, for all 256 bytes.
use Rattle.std.proofs.Common.{◌≡◌, ℕ, ◌<◌, ◌≤◌, ◌^◌, map, refl, ap, sym, ◌∙◌, arith, get_or}
use Rattle.std.specs.Prelude.{Option, None, Some, IfSome, Bool, true, nat_le}
use Rattle.std.proofs.lemmas.Bool.{leb-true}
use Rattle.source_forms.specs.declared.undocumented.Undocumented.{Undocumented}
use Rattle.std.specs.List.{range_with_len}
use Rattle.std.proofs.lemmas.List.FromFn.{get_or-map-range_with_len}
use Rattle.source_forms.specs.Undocumented.{find_undocumented, undocumented_opcodes}
use Rattle.source_forms.specs.declared.undocumented.TheConstants.{UNDOCUMENTED}

all : UNDOCUMENTED ≡ map (λ opcode. find_undocumented opcode undocumented_opcodes) (range_with_len 0 256)
unfolding find_undocumented undocumented_opcodes
all = refl

pub found : (opcode : ℕ) → opcode < 256 → get_or UNDOCUMENTED opcode None ≡ find_undocumented opcode undocumented_opcodes
found opcode below =
    ap (λ rows. get_or rows opcode None) all
    ∙ get_or-map-range_with_len (λ k. find_undocumented k undocumented_opcodes) 0 256 opcode opcode None below (omega arith)

-- each has at most 3 bytes
abbrev small : Option Undocumented → Bool
small None = true
small (Some u) = nat_le u.len 3

all_small : map (λ opcode. small (find_undocumented opcode undocumented_opcodes)) (range_with_len 0 256) ≡ map (λ opcode. true) (range_with_len 0 256)
unfolding find_undocumented undocumented_opcodes
all_small = refl

is_small : (opcode : ℕ) → opcode < 256 → small (find_undocumented opcode undocumented_opcodes) ≡ true
is_small opcode below =
    sym (get_or-map-range_with_len (λ k. small (find_undocumented k undocumented_opcodes)) 0 256 opcode opcode true below (omega arith))
    ∙ ap (λ rows. get_or rows opcode true) all_small
    ∙ get_or-map-range_with_len (λ k. true) 0 256 opcode opcode true below (omega arith)

len_of : (found : Option Undocumented) → small found ≡ true → IfSome found (λ u. u.len ≤ 3)
len_of None h = tt
len_of (Some u) h = leb-true u.len 3 h

pub len_at : (opcode : ℕ) → opcode < 2 ^ 8 → (found : Option Undocumented) → found ≡ find_undocumented opcode undocumented_opcodes
    → IfSome found (λ u. u.len ≤ 3)
len_at opcode below found is = len_of found (ap small is ∙ is_small opcode below)
