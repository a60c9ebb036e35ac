-- A worked listing, computed from the definition.
use Rattle.std.proofs.Common.{◌≡◌, [], ◌∷◌, refl, codes}
use Rattle.std.specs.Prelude.{pos, negsuc}
use Rattle.std.specs.Fmt.{digits}
use Rattle.model.specs.Text.{spaced_bytes}
use Rattle.model.specs.Listing.{listing_text}

worked : listing_text (codes "start: NOP" ∷ codes "n1 = -1" ∷ codes "big: .BYTE 1,2,3,4" ∷ []) ((0, 0xEA ∷ []) ∷ (1, []) ∷ (1, 1 ∷ 2 ∷ 3 ∷ 4 ∷ []) ∷ [])
    ((codes "start", pos 0) ∷ (codes "n1", negsuc 0) ∷ (codes "big", pos 1) ∷ [])
    ≡ codes "0000  EA        start: NOP\n0001            n1 = -1\n0001  01 02 03  big: .BYTE 1,2,3,4\n0004  04\n\nstart = $0000\nn1 = -1\nbig = $0001\n"
unfolding spaced_bytes digits
worked = refl
