-- The way along a line to the routine that it names.
use Rattle.std.proofs.Common.{◌≡◌, ◌∙◌, ℕ, zero, suc, ◌+◌, true, false, List, [], refl, sym, ap, arith}
use Rattle.t65_reader.specs.RowText.{behind_word, is_call, routine_in}
use Rattle.t65_values.specs.ValueText.{after_word, word_of}

pub none_named : (n : ℕ) (text : List ℕ) → n ≡ 0 → routine_in n text ≡ []
unfolding routine_in
none_named zero text h = refl
none_named (suc n) text h = absurd (omega (arith, h))

pub named_here : (n m : ℕ) (text name : List ℕ) → n ≡ m + 1 → is_call (word_of text) ≡ true → name ≡ word_of (after_word text) → routine_in n text ≡ name
unfolding routine_in
named_here zero m text name e h is = absurd (omega (arith, e))
named_here (suc n) m text name e h is = rw h (sym is)

pub named_later : (n m : ℕ) (text rest : List ℕ) → n ≡ m + 1 → is_call (word_of text) ≡ false → rest ≡ behind_word text → routine_in n text ≡ routine_in m rest
unfolding routine_in
named_later zero m text rest e h is = absurd (omega (arith, e))
named_later (suc n) m text rest e h is =
    let same : n ≡ m = omega (arith, e) in
    rw h (ap (λ (i : ℕ). routine_in i (behind_word text)) same ∙ ap (routine_in m) (sym is))
