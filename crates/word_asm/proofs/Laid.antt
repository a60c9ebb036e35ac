-- Lines that can be laid out are found where they are laid out, with the names that they define.
use Rattle.std.proofs.Common.{◌≡◌, ℕ, Bool, true, false, List, [], ◌∷◌, Option, Some, None, refl, sym, ap, ◌∙◌}
use Rattle.std.specs.Prelude.{if◌then◌else◌, option_map}
use Rattle.model.specs.State.{Map}
use Rattle.model.specs.AllFaults.{Mending, fixed_by, found_lines}
use Rattle.model.specs.Layout.{Context, IsLaidOut, PlacedLine, extent_of, extents_of}
use Rattle.model.specs.Source.{Denotes}
use Rattle.word_asm.specs.Found.{extents_found, names_found, places_found}
use Rattle.word_asm.specs.Texts.{AreSymbols, IsMapAsked, map_text, symbols_text}
use Rattle.word_asm.specs.declared.format.SymbolsFormat.{SymbolsFormat}

places_laid : (m : Mending) (lines : List (List ℕ)) (before : Context) (placed : List PlacedLine) (all : Context) → IsLaidOut before lines placed all
    → extents_found (found_lines m before lines) ≡ extents_of placed
places_laid m [] before placed all h = rw h.0 refl
places_laid m (line ∷ lines) before [] all h = absurd h
places_laid m (line ∷ lines) before (p ∷ ps) all h = rw h.1 (ap (λ (x : List (ℕ × ℕ)). extent_of p ∷ x) (places_laid m lines h.0 ps all h.2))

fixed_laid : (m : Mending) (lines : List (List ℕ)) (before : Context) (placed : List PlacedLine) (all : Context) → IsLaidOut before lines placed all
    → fixed_by m before lines ≡ all
fixed_laid m [] before placed all h = sym h.1
fixed_laid m (line ∷ lines) before [] all h = absurd h
fixed_laid m (line ∷ lines) before (p ∷ ps) all h = rw h.1 (fixed_laid m lines h.0 ps all h.2)

-- the names that are asked for
pub symbols_asked : (bus_map : Map) (source : List ℕ) (image : List (Option ℕ)) → Denotes bus_map source image
    → (format : Option SymbolsFormat) (text : Option (List ℕ))
    → text ≡ option_map (λ f. symbols_text f (names_found bus_map source)) format → AreSymbols bus_map source format text
symbols_asked bus_map source image d (Some format) (Some text) e = record {
  placed = d.placed;
  all = d.all;
  laid = d.laid;
  rows = some_is text _ e ∙ ap (λ (x : Context). symbols_text format x.names) (fixed_laid _ _ _ d.placed d.all d.laid);
}
  where
    some_is : (a b : List ℕ) → Some a ≡ Some b → a ≡ b
    some_is a b h = cc
symbols_asked bus_map source image d (Some format) None e = absurd (no_some _ e)
  where
    no_some : (a : List ℕ) → None ≡ Some a → ⊥
    no_some a h = cc
symbols_asked bus_map source image d None (Some text) e = absurd (no_some _ (sym e))
  where
    no_some : (a : List ℕ) → None ≡ Some a → ⊥
    no_some a h = cc
symbols_asked bus_map source image d None None e = tt

-- the places that are asked for
pub map_asked : (bus_map : Map) (source : List ℕ) (image : List (Option ℕ)) → Denotes bus_map source image → (is_mapped : Bool) (text : Option (List ℕ))
    → text ≡ (if is_mapped then Some (map_text 1 (places_found bus_map source)) else None) → IsMapAsked bus_map source is_mapped text
map_asked bus_map source image d true (Some text) e = record {
  placed = d.placed;
  all = d.all;
  laid = d.laid;
  rows = some_is text _ e ∙ ap (λ (x : List (ℕ × ℕ)). map_text 1 x) (places_laid _ _ _ d.placed d.all d.laid);
}
  where
    some_is : (a b : List ℕ) → Some a ≡ Some b → a ≡ b
    some_is a b h = cc
map_asked bus_map source image d true None e = absurd (no_some _ e)
  where
    no_some : (a : List ℕ) → None ≡ Some a → ⊥
    no_some a h = cc
map_asked bus_map source image d false (Some text) e = absurd (no_some _ (sym e))
  where
    no_some : (a : List ℕ) → None ≡ Some a → ⊥
    no_some a h = cc
map_asked bus_map source image d false None e = tt
