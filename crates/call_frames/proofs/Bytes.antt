-- Bytes that are appended one after another.
use Rattle.std.proofs.Common.{◌≡◌, ◌∙◌, ℕ, suc, ◌+◌, ◌%◌, List, ◌++◌, append_assoc, ap, sym}
use Rattle.std.specs.Prelude.{slice_index}
use Rattle.std.specs.List.{flat_map}
use Rattle.call_frames.specs.Values.{bytes_of}

pub bytes_more : (f : ℕ → List ℕ) (memory : List ℕ) (at n m : ℕ) (text new whole : List ℕ) → n ≡ suc m → new ≡ text ++ f (slice_index memory at)
    → text ++ flat_map f (bytes_of memory at n) ≡ whole → new ++ flat_map f (bytes_of memory ((at + 1) % 65536) m) ≡ whole
bytes_more f memory at n m text new whole one grown before =
    ap (λ t. t ++ flat_map f (bytes_of memory ((at + 1) % 65536) m)) grown
    ∙ (append_assoc text (f (slice_index memory at)) (flat_map f (bytes_of memory ((at + 1) % 65536) m))
    ∙ (ap (λ k. text ++ flat_map f (bytes_of memory at k)) (sym one) ∙ before))
