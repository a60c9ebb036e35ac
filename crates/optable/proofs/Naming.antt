-- Names of mnemonics looked up in the table.
use Rattle.std.proofs.Common.{◌≡◌, ◌≢◌, ℕ, ◌+◌, ◌<◌, List, [], ◌∷◌, length, map, take, drop, get_or, Bool, true, false, refl, ap, sym, ◌∙◌, add-one, arith}
use Rattle.std.specs.Prelude.{Some, None}
use Rattle.std.specs.Str.{bytes_eq, str_to_ascii_uppercase}
use Rattle.std.specs.Char.{to_ascii_uppercase}
use Rattle.std.proofs.Math.Seq.{drop-cons}
use Rattle.std.proofs.lemmas.List.{length-map}
use Rattle.std.proofs.lemmas.Slice.Eq.{bytes_eq-Decides}
use Rattle.model.specs.declared.instruction.Profile.{Profile}
use Rattle.model.specs.declared.instruction.Profile.TheVariants.{N, C}
use Rattle.model.specs.declared.instruction.Mnemonic.{Mnemonic}
use Rattle.model.specs.declared.instruction.Mnemonic.TheVariants.{Adc}
use Rattle.model.specs.contracts.instruction.Mnemonic.{the_type as mnemonic_type}
use denote.Enum.Declared.{tag_of}
use Rattle.model.specs.declared.instruction.Mode.TheVariants.{Imp}
use Rattle.model.specs.Mnemonics.{mnemonic_named, named_among, mnemonic_text, mnemonics}
use Rattle.law_opcodes.proofs.Encoding.{all_mnemonics, all_modes, length-mnemonic_text, same_at_each}
use Rattle.optable.specs.declared.names.TheConstants.{NAMES}
use Rattle.optable.specs.Names.{find_name}

-- the table has all mnemonics with their letters, in their order, and first those of profile N
pub looked_up_n : (text : List ℕ) → find_name (str_to_ascii_uppercase text) (take 56 NAMES) ≡ mnemonic_named N text
unfolding mnemonic_named named_among mnemonic_text mnemonics
looked_up_n text = refl

pub looked_up_c : (text : List ℕ) → find_name (str_to_ascii_uppercase text) NAMES ≡ mnemonic_named C text
unfolding mnemonic_named named_among mnemonic_text mnemonics
looked_up_c text = refl

-- each mnemonic's letters stand at its place
abbrev letters_in_table : Mnemonic → List ℕ
letters_in_table m = (get_or NAMES (tag_of mnemonic_type m) ([], Adc)).0

all_letters : map (λ m. map (λ d. letters_in_table m) all_modes) all_mnemonics ≡ map (λ m. map (λ d. mnemonic_text m) all_modes) all_mnemonics
unfolding mnemonic_text
all_letters = refl

pub letters_at : (m : Mnemonic) → letters_in_table m ≡ mnemonic_text m
letters_at m = same_at_each (λ n d. letters_in_table n) (λ n d. mnemonic_text n) all_letters m Imp

-- ---- one name of the table

pub found_at : (letters : List ℕ) (ns : List (List ℕ × Mnemonic)) (i : ℕ) (d : List ℕ × Mnemonic) → i < length ns → bytes_eq (get_or ns i d).0 letters ≡ true
    → find_name letters (drop i ns) ≡ find_name letters ns → Some (get_or ns i d).1 ≡ find_name letters ns
found_at letters ns i d below same kept = rw same at (rw (drop-cons ns i d below) at kept)

pub passed_at : (letters : List ℕ) (ns : List (List ℕ × Mnemonic)) (i : ℕ) (d : List ℕ × Mnemonic) → i < length ns → bytes_eq (get_or ns i d).0 letters ≡ false
    → find_name letters (drop i ns) ≡ find_name letters ns → find_name letters (drop (i + 1) ns) ≡ find_name letters ns
passed_at letters ns i d below same kept = rw add-one (rw same at (rw (drop-cons ns i d below) at kept))

-- ---- texts of another length

false_if : (b : Bool) → (b ≡ true → ⊥) → b ≡ false
false_if true h = absurd (h refl)
false_if false h = refl

other_letters : (m : Mnemonic) (text : List ℕ) → length text ≢ 3 → bytes_eq (mnemonic_text m) (str_to_ascii_uppercase text) ≡ false
other_letters m text other = false_if _ (λ same.
    let e : mnemonic_text m ≡ str_to_ascii_uppercase text = (bytes_eq-Decides (mnemonic_text m) (str_to_ascii_uppercase text)).0 same in
    let lengths : length (mnemonic_text m) ≡ length text = simp length-map at (ap length e) in
    other (sym lengths ∙ length-mnemonic_text m))

none_among : (text : List ℕ) (ms : List Mnemonic) → length text ≢ 3 → named_among text ms ≡ None
unfolding named_among
none_among text [] other = refl
none_among text (m ∷ ms) other = rw (other_letters m text other) (none_among text ms other)

pub none_named : (profile : Profile) (text : List ℕ) → length text ≢ 3 → None ≡ mnemonic_named profile text
unfolding mnemonic_named
none_named profile text other = sym (none_among text (mnemonics profile) other)

-- ---- texts of three bytes

pub capitals_is : (text : List ℕ) (d : ℕ) → length text ≡ 3 → to_ascii_uppercase (get_or text 0 d) ∷ to_ascii_uppercase (get_or text 1 d)
    ∷ to_ascii_uppercase (get_or text 2 d) ∷ [] ≡ str_to_ascii_uppercase text
capitals_is [] d len = absurd (omega arith)
capitals_is (p ∷ []) d len = absurd (omega arith)
capitals_is (p ∷ q ∷ []) d len = absurd (omega arith)
capitals_is (p ∷ q ∷ r ∷ []) d len = refl
capitals_is (p ∷ q ∷ r ∷ s ∷ rest) d len = absurd (omega arith)
