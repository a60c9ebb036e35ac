-- A map without a port: no image has a byte at its port, since no address reaches it.
use Rattle.std.proofs.Common.{◌≡◌, ℕ, ◌+◌, List, Option, None, false, refl, ap, arith}
use Rattle.std.specs.Prelude.{is_some, length}
use Rattle.std.proofs.lemmas.List.{get_or_past}
use Rattle.model.specs.Image.{IsImage, has_byte}
use Rattle.model.specs.State.{Map, has_port_byte, no_port}

past_end : (image : List (Option ℕ)) (k : ℕ) → IsImage image → has_byte image (no_port + k) ≡ false
unfolding has_byte
past_end image k is = ap (λ (c : Option ℕ). is_some c) (get_or_past image (no_port + k) None (omega (arith, is.size)))

pub spared_without : (m : Map) (image : List (Option ℕ)) → m.port ≡ no_port → IsImage image → has_port_byte m image ≡ false
unfolding has_port_byte
spared_without m image at is = rw (at, past_end image 0 is, past_end image 1 is, past_end image 2 is, past_end image 3 is) refl
