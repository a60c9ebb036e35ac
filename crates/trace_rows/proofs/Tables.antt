-- Tables that grow row by row.
use Rattle.std.proofs.Common.{◌≡◌, ◌∙◌, ℕ, suc, ◌+◌, ◌<◌, ◌≤◌, Bool, true, false, List, [], ◌∷◌, ◌++◌, length, drop, get_or, refl, sym, ap, subst, append_assoc, add-one, drop-cons}
use Rattle.std.proofs.lemmas.List.{append-nil}
use Rattle.std.specs.Prelude.{if◌then◌else◌, slice_index, slice_index_or}
use Rattle.std.proofs.Math.ListN.{drop_of_length-le}
use Rattle.std.specs.List.{flat_map}
use Rattle.accesses.specs.Tallies.{Counts}
use Rattle.accesses.specs.declared.tally.Count.{Count}
use Rattle.trace_rows.specs.declared.lines.SourceLine.{SourceLine}
use Rattle.trace_rows.specs.declared.sites.Label.{Label}
use Rattle.trace_rows.specs.declared.sites.Sites.{Sites}
use Rattle.trace_rows.specs.Sites.{index_at}
use Rattle.trace_rows.specs.Counts.{add_cycles, address_row, counts_below, elsewhere_rows, is_elsewhere, is_unreached, label_row, label_rows, line_text, nothing_counted, unreached_rows, with_rows}

-- A text with the rows that are left: the first of all rows gets a head before it.
abbrev pub with_rest : Bool → List ℕ → List ℕ → List (List ℕ) → List ℕ
with_rest true text headed rows = with_rows text headed rows
with_rest false text headed rows = text ++ flat_map (λ r. r) rows

pub no_rest : (is_first : Bool) (text headed : List ℕ) (rows : List (List ℕ)) → rows ≡ [] → with_rest is_first text headed rows ≡ text
no_rest true text headed rows e = ap (with_rows text headed) e
no_rest false text headed rows e = ap (λ (r : List (List ℕ)). text ++ flat_map (λ x. x) r) e ∙ append-nil text

pub next_row : (is_first : Bool) (text headed after headed_after row : List ℕ) (rows : List (List ℕ))
    → after ≡ (if is_first then headed else text) ++ row → with_rest false after headed_after rows ≡ with_rest is_first text headed (row ∷ rows)
next_row true text headed after headed_after row rows e = ap (λ t. t ++ flat_map (λ r. r) rows) e ∙ append_assoc headed row (flat_map (λ r. r) rows)
next_row false text headed after headed_after row rows e = ap (λ t. t ++ flat_map (λ r. r) rows) e ∙ append_assoc text row (flat_map (λ r. r) rows)

-- ---- lines that were never reached

pub reached : (counts : Counts) (line : SourceLine) (lines : List SourceLine) → is_unreached counts line ≡ false
    → unreached_rows counts (line ∷ lines) ≡ unreached_rows counts lines
unfolding unreached_rows
reached counts line lines e = ap (λ b. if b then line_text line ∷ unreached_rows counts lines else unreached_rows counts lines) e

pub not_reached : (counts : Counts) (line : SourceLine) (lines : List SourceLine) → is_unreached counts line ≡ true
    → unreached_rows counts (line ∷ lines) ≡ line_text line ∷ unreached_rows counts lines
unfolding unreached_rows
not_reached counts line lines e = ap (λ b. if b then line_text line ∷ unreached_rows counts lines else unreached_rows counts lines) e

pub no_lines : (counts : Counts) (lines : List SourceLine) → lines ≡ [] → unreached_rows counts lines ≡ []
unfolding unreached_rows
no_lines counts lines e = ap (unreached_rows counts) e

-- ---- addresses elsewhere

pub passed : (sites : Sites) (counts : Counts) (address left after : ℕ) → left ≡ suc after → is_elsewhere sites counts address ≡ false
    → elsewhere_rows sites counts address left ≡ elsewhere_rows sites counts (address + 1) after
unfolding elsewhere_rows
passed sites counts address left after l e = ap (elsewhere_rows sites counts address) l
    ∙ ap (λ b. if b then address_row counts address ∷ elsewhere_rows sites counts (address + 1) after else elsewhere_rows sites counts (address + 1) after) e

pub elsewhere : (sites : Sites) (counts : Counts) (address left after : ℕ) → left ≡ suc after → is_elsewhere sites counts address ≡ true
    → elsewhere_rows sites counts address left ≡ address_row counts address ∷ elsewhere_rows sites counts (address + 1) after
unfolding elsewhere_rows
elsewhere sites counts address left after l e = ap (elsewhere_rows sites counts address) l
    ∙ ap (λ b. if b then address_row counts address ∷ elsewhere_rows sites counts (address + 1) after else elsewhere_rows sites counts (address + 1) after) e

pub no_addresses : (sites : Sites) (counts : Counts) (address left : ℕ) → left ≡ 0 → elsewhere_rows sites counts address left ≡ []
unfolding elsewhere_rows
no_addresses sites counts address left e = ap (elsewhere_rows sites counts address) e

-- ---- counts

pub count_is : (count : Count) (v w : ℕ) → count.visits ≡ v → count.cycles ≡ w → count ≡ record { visits = v; cycles = w }
count_is count v w e f = subst (λ x. count ≡ record { visits = x; cycles = w }) e (subst (λ y. count ≡ record { visits = count.visits; cycles = y }) f refl)

pub next_address : (sites : Sites) (counts : Counts) (address : ℕ)
    → counts_below sites counts (address + 1) ≡ add_cycles (counts_below sites counts address) (index_at sites.label_of.items address)
    (slice_index counts.cycles address)
unfolding counts_below
next_address sites counts address = ap (counts_below sites counts) (add-one address)

pub no_labels : (sites : Sites) (counts : List Count) (index : ℕ) (labels : List Label) → labels ≡ [] → label_rows sites counts index labels ≡ []
unfolding label_rows
no_labels sites counts index labels e = ap (label_rows sites counts index) e

pub next_label : (sites : Sites) (counts : List Count) (index : ℕ) (label : Label) (labels : List Label)
    → label_rows sites counts index (label ∷ labels) ≡ label_row sites label (slice_index_or counts index nothing_counted)
    ++ label_rows sites counts (index + 1) labels
unfolding label_rows
next_label sites counts index label labels = refl

pub label_step : (sites : Sites) (counts : List Count) (index i : ℕ) (labels : List Label) (label : Label) (text new whole : List ℕ)
    → drop i labels ≡ label ∷ drop (i + 1) labels → new ≡ text ++ label_row sites label (slice_index_or counts index nothing_counted)
    → text ++ label_rows sites counts index (drop i labels) ≡ whole → new ++ label_rows sites counts (index + 1) (drop (i + 1) labels) ≡ whole
label_step sites counts index i labels label text new whole d n w =
    ap (λ t. t ++ label_rows sites counts (index + 1) (drop (i + 1) labels)) n
    ∙ append_assoc text (label_row sites label (slice_index_or counts index nothing_counted)) (label_rows sites counts (index + 1) (drop (i + 1) labels))
    ∙ sym (ap (λ ls. text ++ label_rows sites counts index ls) d ∙ ap (λ ls. text ++ ls) (next_label sites counts index label (drop (i + 1) labels)))
    ∙ w

-- ---- the rest of a list

pub rest_at : {T : Type 0} (xs ys : List T) (i : ℕ) (x : T) → ys ≡ xs → i < length ys → x ≡ get_or ys i x → drop i xs ≡ x ∷ drop (i + 1) xs
rest_at xs ys i x e h g = subst (λ zs. drop i zs ≡ x ∷ drop (i + 1) zs) e
    (drop-cons ys i x h ∙ ap (λ y. y ∷ drop (suc i) ys) (sym g) ∙ ap (λ n. x ∷ drop n ys) (sym (add-one i)))

pub rest_past : {T : Type 0} (xs ys : List T) (i : ℕ) → ys ≡ xs → length ys ≤ i → drop i xs ≡ []
rest_past xs ys i e h = subst (λ zs. drop i zs ≡ []) e (drop_of_length-le ys h)
