-- A source has one listing, and what is listed where it is asked for is that.
use Rattle.std.proofs.Common.{◌≡◌, ◌∙◌, ℕ, List, [], Option, Some, None, IfSome, ap, sym}
use Rattle.std.specs.Prelude.{Bool, true, false, if◌then◌else◌, map, option_map, unwrap_or}
use Rattle.model.specs.Layout.{extents_of}
use Rattle.model.specs.Listing.{IsListing, listing_text, address_and_bytes}
use Rattle.model.specs.Source.{OneAssignment, OneImage, first_context, read_lines}
use Rattle.model.specs.State.{Map}

pub one_listing : OneAssignment → OneImage → (m : Map) (source t u : List ℕ) → IsListing m source t → IsListing m source u → t ≡ u
one_listing assigned imaged m source t u a b =
    let same = assigned (read_lines m.profile source) (first_context m.profile) a.placed b.placed a.all b.all a.laid b.laid in
    let image = imaged m source a.image b.image
    (record { size = a.size; placed = a.placed; all = a.all; laid = a.laid; made = a.made })
    (record { size = b.size; placed = b.placed; all = b.all; laid = b.laid; made = b.made }) in
    a.rows ∙ (λ i. listing_text (read_lines m.profile source) (map (address_and_bytes (image i)) (extents_of (same.0 i))) (same.1 i).names) ∙ sym b.rows

pub one_asked : {V : Type 0} (items : V → List ℕ) (found : Option V) (is_listed : Bool) (m : Map) (source whole : List ℕ) → OneAssignment → OneImage
    → option_map items found ≡ (if is_listed then Some whole else None) → IsListing m source whole
    → IfSome found (λ l. (other : List ℕ) → IsListing m source other → items l ≡ other)
one_asked items None is_listed m source whole assigned imaged is listed = tt
one_asked items (Some l) true m source whole assigned imaged is listed =
    λ other h. ap (λ o. unwrap_or o []) is ∙ one_listing assigned imaged m source whole other listed h
one_asked items (Some l) false m source whole assigned imaged is listed = absurd cc
