-- Pieces gathered from left to right, and what is wrong with a line.
use Rattle.std.proofs.Common.{◌≡◌, ℕ, ◌+◌, ◌≤◌, ◌<◌, Bool, true, false, List, [], ◌∷◌, ◌++◌, map, length, drop, get_or, Option, Some, None, Ok, Err, refl, sym, ◌∙◌, ap, append_assoc, append-nil, arith}
use Rattle.std.specs.Prelude.{nat_le, if◌then◌else◌}
use Rattle.std.specs.List.{flat_map}
use Rattle.std.proofs.lemmas.List.{drop_more, drop_all}
use Rattle.model.specs.State.{Map}
use Rattle.model.specs.FaultNames.{source_fault_number}
use Rattle.model.specs.Image.{with_bytes}
use Rattle.model.specs.Value.{Numbers}
use Rattle.model.specs.Layout.{PlacedLine, size_of}
use Rattle.model.specs.Bytes.{BytesOrFault, lower, lowest, bytes_in, kinds_in, place_kinds, line_bytes, pieces_of, value_fault}
use Rattle.model.specs.declared.source_fault.AsmFaultKind.{AsmFaultKind}
use Rattle.emission.specs.Gathering.{line_gathering, Gathering, nothing_gathered, with_piece, with_pieces, with_fault_if, with_faults}
use Rattle.law_sources.specs.Judging.{image_with_line}
use borrow.Author.Tests.{leb-true, leb-false}

-- ---- loops over values

-- one value more
pub gathered_step : {A B : Type 0} (f : B → BytesOrFault) (view : A → B) (xs : List A) (i : ℕ) (x : A) (g new : Gathering) (piece : BytesOrFault)
    (total : Gathering)
    → i < length xs → x ≡ get_or xs i x → new ≡ with_piece g piece → piece ≡ f (view x)
    → with_pieces g (map f (map view (drop i xs))) ≡ total → with_pieces new (map f (map view (drop (i + 1) xs))) ≡ total
unfolding with_pieces
gathered_step {A = A} f view xs i x g new piece total within is now means so_far =
    let rest = drop (i + 1) xs in
    let cut : drop i xs ≡ x ∷ rest = drop_more xs i x within ∙ ap (λ (y : A). y ∷ rest) (sym is) in
    let opened : with_pieces (with_piece g (f (view x))) (map f (map view rest)) ≡ total = rw cut at so_far in
    rw (now, means) opened

-- no value more
pub gathered_end : {A B : Type 0} (f : B → BytesOrFault) (view : A → B) (xs : List A) (i : ℕ) (g total : Gathering) → length xs ≤ i
    → with_pieces g (map f (map view (drop i xs))) ≡ total → g ≡ total
unfolding with_pieces
gathered_end f view xs i g total past so_far = rw (drop_all i xs past) at so_far

-- ---- the lowest kind

pub lower_nothing : (a : Option AsmFaultKind) → lower a None ≡ a
unfolding lower
lower_nothing None = refl
lower_nothing (Some a) = refl

abbrev number : AsmFaultKind → ℕ
number k = source_fault_number k

lower_three : (a b c : AsmFaultKind) → lower (lower (Some a) (Some b)) (Some c) ≡ lower (Some a) (lower (Some b) (Some c))
unfolding lower
lower_three a b c = by (nat_le (number a) (number b)) (nat_le (number b) (number c)) (nat_le (number a) (number c)) refl refl refl
  where
    by : (t u v : Bool) → nat_le (number a) (number b) ≡ t → nat_le (number b) (number c) ≡ u → nat_le (number a) (number c) ≡ v
        → lower (if t then Some a else Some b) (Some c) ≡ lower (Some a) (if u then Some b else Some c)
    by true true true e f g = rw (g, e) refl
    by true true false e f g = absurd (omega (arith, leb-true (number a) (number b) e, leb-true (number b) (number c) f, leb-false (number a) (number c) g))
    by true false v e f g = refl
    by false true v e f g = rw (f, e) refl
    by false false false e f g = rw (f, g) refl
    by false false true e f g = absurd (omega (arith, leb-false (number a) (number b) e, leb-false (number b) (number c) f, leb-true (number a) (number c) g))

pub lower_again : (a b c : Option AsmFaultKind) → lower (lower a b) c ≡ lower a (lower b c)
unfolding lower
lower_again None b c = refl
lower_again (Some a) None c = refl
lower_again (Some a) (Some b) None = lower_nothing (lower (Some a) (Some b))
lower_again (Some a) (Some b) (Some c) = lower_three a b c

pub lowest-append : (xs ys : List (Option AsmFaultKind)) → lowest (xs ++ ys) ≡ lower (lowest xs) (lowest ys)
unfolding lowest lower
lowest-append [] ys = refl
lowest-append (x ∷ xs) ys = ap (lower x) (lowest-append xs ys) ∙ sym (lower_again x (lowest xs) (lowest ys))

abbrev pub both : List ℕ → Option AsmFaultKind → Gathering
both bytes kind = record { bytes = bytes; kind = kind }

pub gathered_is : (g : Gathering) (ps : List BytesOrFault) → with_pieces g ps ≡ both (g.bytes ++ flat_map bytes_in ps) (lower g.kind (lowest (kinds_in ps)))
unfolding with_pieces lowest lower
gathered_is g [] = ap (λ (x : List ℕ). both x g.kind) (sym (append-nil g.bytes)) ∙ ap (both (g.bytes ++ [])) (sym (lower_nothing g.kind))
gathered_is g (Ok bs ∷ ps) =
    gathered_is (with_piece g (Ok bs)) ps
    ∙ ap (λ (x : List ℕ). both x (lower g.kind (lowest (kinds_in ps)))) (append_assoc g.bytes bs (flat_map bytes_in ps))
gathered_is g (Err k ∷ ps) =
    gathered_is (with_piece g (Err k)) ps
    ∙ ap (both (g.bytes ++ flat_map bytes_in ps)) (lower_again g.kind (Some k) (lowest (kinds_in ps)))

noted_is : (g : Gathering) (ks : List (Option AsmFaultKind)) → with_faults g ks ≡ both g.bytes (lower g.kind (lowest ks))
unfolding lowest
noted_is g [] = ap (both g.bytes) (sym (lower_nothing g.kind))
noted_is g (k ∷ ks) = noted_is (with_fault_if g k) ks ∙ ap (both g.bytes) (lower_again g.kind k (lowest ks))

-- ---- the whole line

-- it is the line's bytes and its value fault
pub line_is : (m : Map) (numbers : Numbers) (image : List (Option ℕ)) (p : PlacedLine)
    → line_gathering m numbers image p ≡ both (line_bytes numbers p) (value_fault m numbers image p)
unfolding line_bytes value_fault lower
line_is m numbers image p =
    let pieces = pieces_of numbers p.address p.content in
    let places = place_kinds m image p.address (size_of p.content) in
    ap (λ (g : Gathering). with_faults g places) (gathered_is nothing_gathered pieces)
    ∙ noted_is (both (flat_map bytes_in pieces) (lowest (kinds_in pieces))) places
    ∙ ap (both (flat_map bytes_in pieces)) (sym (lowest-append (kinds_in pieces) places))

pub put_faulty : (m : Map) (numbers : Numbers) (image : List (Option ℕ)) (p : PlacedLine) (g : Gathering) (kind : AsmFaultKind)
    → g ≡ line_gathering m numbers image p → g.kind ≡ Some kind
    → image_with_line m numbers image p ≡ Err kind
unfolding image_with_line
put_faulty m numbers image p g kind is met =
    let same : value_fault m numbers image p ≡ Some kind = sym (ap (λ (x : Gathering). x.kind) (is ∙ line_is m numbers image p)) ∙ met in
    rw same refl

pub put_right : (m : Map) (numbers : Numbers) (image : List (Option ℕ)) (p : PlacedLine) (g : Gathering) → g ≡ line_gathering m numbers image p → g.kind ≡ None
    → image_with_line m numbers image p ≡ Ok (with_bytes image p.address g.bytes)
unfolding image_with_line
put_right m numbers image p g is met =
    let same : value_fault m numbers image p ≡ None = sym (ap (λ (x : Gathering). x.kind) (is ∙ line_is m numbers image p)) ∙ met in
    let bytes : g.bytes ≡ line_bytes numbers p = ap (λ (x : Gathering). x.bytes) (is ∙ line_is m numbers image p) in
    rw (same, bytes) refl
