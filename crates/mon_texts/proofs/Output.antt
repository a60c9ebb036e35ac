-- The bytes of the console's output, shown one after another.
use Rattle.std.proofs.Common.{◌≡◌, ◌∙◌, ℕ, suc, ◌+◌, ◌<◌, List, ◌∷◌, ◌++◌, length, drop, sym, ap, arith, append_assoc}
use Rattle.std.proofs.Math.Seq.{drop-cons}
use Rattle.std.proofs.lemmas.Option.{unwrap_or-slice_get}
use Rattle.std.specs.List.{flat_map, slice_get}
use Rattle.std.specs.Option.{unwrap_or}

pub shown_next : (f : ℕ → List ℕ) (out : List ℕ) (index byte : ℕ) (text next whole : List ℕ)
    → index < length out → byte ≡ unwrap_or (slice_get out index) 0 → next ≡ text ++ f byte
    → text ++ flat_map f (drop index out) ≡ whole
    → next ++ flat_map f (drop (index + 1) out) ≡ whole
shown_next f out index byte text next whole within e grown before =
    let after : suc index ≡ index + 1 = omega arith in
    let there : drop index out ≡ byte ∷ drop (index + 1) out
    = drop-cons out index 0 within
    ∙ (sym (ap (λ b. b ∷ drop (suc index) out) (e ∙ unwrap_or-slice_get out index 0))
    ∙ ap (λ k. byte ∷ drop k out) after) in
    ap (λ t. t ++ flat_map f (drop (index + 1) out)) grown
    ∙ (append_assoc text (f byte) _ ∙ (sym (ap (λ xs. text ++ flat_map f xs) there) ∙ before))
