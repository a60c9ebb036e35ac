-- A line that stands alone: what is gathered of it.
use Rattle.std.proofs.Common.{◌≡◌, ℕ, ◌+◌, ◌≤◌, Bool, true, false, [], ◌∷◌, ◌++◌, length, Option, Some, None, Ok, Err, refl, sym, ◌∙◌, ap, arith}
use Rattle.std.specs.Prelude.{nat_lt, nat_le, not}
use Rattle.std.specs.List.{flat_map}
use Rattle.model.specs.Layout.{PlacedLine, size_of}
use Rattle.model.specs.Bytes.{lower, lowest, bytes_in, kinds_in, kind_if, line_bytes, pieces_of}
use Rattle.model.specs.OneLineAssembly.{no_numbers, bytes_alone}
use Rattle.model.specs.declared.source_fault.AsmFaultKind.{AsmFaultKind}
use Rattle.model.specs.declared.source_fault.AsmFaultKind.TheVariants.{PastEnd}
use Rattle.emission.specs.Gathering.{Gathering, nothing_gathered, with_pieces, with_fault_if}
use Rattle.emission.proofs.Gathers.{both, gathered_is, lowest-append, lower_nothing}
use Rattle.emission.proofs.BytesFitSize.{line_size}
use Rattle.std.proofs.lemmas.Bool.{le-leb, lt-leb, ltb-false, ltb-true}

-- past the end, or not
past_is : (n : ℕ) (t : Bool) → nat_lt 65536 n ≡ t → not (nat_le n 65536) ≡ t
past_is n true e = rw (lt-leb n 65536 (ltb-true 65536 n e)) refl
past_is n false e = rw (le-leb n 65536 (ltb-false 65536 n e)) refl

abbrev pub kinds_alone : PlacedLine → Option AsmFaultKind
kinds_alone p = lowest (kinds_in (pieces_of no_numbers p.address p.content) ++ kind_if (not (nat_le (p.address + size_of p.content) 65536)) PastEnd ∷ [])

abbrev pub gathered_alone : PlacedLine → Gathering
gathered_alone p = with_fault_if (with_pieces nothing_gathered (pieces_of no_numbers p.address p.content))
    (kind_if (nat_lt 65536 (p.address + size_of p.content)) PastEnd)

-- the size that was counted
pub same_alone : (p : PlacedLine) (g : Gathering) (count : ℕ)
    → g ≡ with_fault_if (with_pieces nothing_gathered (pieces_of no_numbers p.address p.content)) (kind_if (nat_lt 65536 (p.address + count)) PastEnd)
    → count ≡ size_of p.content → g ≡ gathered_alone p
same_alone p g count is counted = is ∙ ap (λ (n : ℕ). with_fault_if (with_pieces nothing_gathered (pieces_of no_numbers p.address p.content))
    (kind_if (nat_lt 65536 (p.address + n)) PastEnd)) counted

-- it is the line's bytes, and its value fault
alone_is : (p : PlacedLine) → gathered_alone p ≡ both (line_bytes no_numbers p) (kinds_alone p)
unfolding line_bytes lowest lower
alone_is p =
    let pieces = pieces_of no_numbers p.address p.content in
    let past = nat_lt 65536 (p.address + size_of p.content) in
    ap (λ (g : Gathering). with_fault_if g (kind_if past PastEnd)) (gathered_is nothing_gathered pieces)
    ∙ ap (λ (k : Option AsmFaultKind). both (flat_map bytes_in pieces) (lower (lowest (kinds_in pieces)) k)) (sym (lower_nothing (kind_if past PastEnd)))
    ∙ ap (λ (t : Bool). both (flat_map bytes_in pieces) (lower (lowest (kinds_in pieces)) (lower (kind_if t PastEnd) None)))
    (sym (past_is (p.address + size_of p.content) past refl))
    ∙ ap (both (flat_map bytes_in pieces)) (sym (lowest-append (kinds_in pieces) (kind_if (not (nat_le (p.address + size_of p.content) 65536)) PastEnd ∷ [])))

pub alone_faulty : (p : PlacedLine) (g : Gathering) (kind : AsmFaultKind) → g ≡ gathered_alone p → g.kind ≡ Some kind → bytes_alone p ≡ Err kind
alone_faulty p g kind is met =
    let same : kinds_alone p ≡ Some kind = sym (ap (λ (x : Gathering). x.kind) (is ∙ alone_is p)) ∙ met in
    rw same refl

pub alone_right : (p : PlacedLine) (g : Gathering) → g ≡ gathered_alone p → g.kind ≡ None → bytes_alone p ≡ Ok g.bytes
alone_right p g is met =
    let same : kinds_alone p ≡ None = sym (ap (λ (x : Gathering). x.kind) (is ∙ alone_is p)) ∙ met in
    let bytes : g.bytes ≡ line_bytes no_numbers p = ap (λ (x : Gathering). x.bytes) (is ∙ alone_is p) in
    rw (same, bytes) refl

-- it has no more bytes than its size says
pub alone_short : (p : PlacedLine) (g : Gathering) → g ≡ gathered_alone p → length g.bytes ≤ size_of p.content
alone_short p g is =
    let bytes : g.bytes ≡ line_bytes no_numbers p = ap (λ (x : Gathering). x.bytes) (is ∙ alone_is p) in
    rw bytes (omega (arith, line_size no_numbers p))
