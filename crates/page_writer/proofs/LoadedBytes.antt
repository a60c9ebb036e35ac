-- Stretches of addresses, one address after another.
use Rattle.std.proofs.Common.{◌≡◌, ◌∙◌, ◌+◌, ◌<◌, ℕ, Bool, true, false, List, [], ◌∷◌, ◌++◌, length, drop, drop-cons, drop_of_length-le, Result, Ok, Err, OnOk, add-one, ap, refl, sym, append_assoc, arith}
use Rattle.accesses.specs.Writing.{is_written}
use Rattle.page_writer.specs.Facts.{loaded_facts, stretch_fact}

pub written_here : (cells : List Bool) (address : ℕ) → address < length cells → drop address cells ≡ is_written cells address ∷ drop (address + 1) cells
written_here cells address inside = drop-cons cells address false inside ∙ ap (λ (k : ℕ). is_written cells address ∷ drop k cells) (sym (add-one address))

longer : (address len : ℕ) (b : Bool) (cells : List Bool) → b ≡ true → loaded_facts address len (b ∷ cells) ≡ loaded_facts (address + 1) (len + 1) cells
unfolding loaded_facts
longer address len b cells is = rw is refl

ended : (address len : ℕ) (b : Bool) (cells : List Bool) → b ≡ false
    → loaded_facts address len (b ∷ cells) ≡ stretch_fact address len ++ loaded_facts (address + 1) 0 cells
unfolding loaded_facts
ended address len b cells is = rw is refl

pub at_end : (address len : ℕ) → loaded_facts address len [] ≡ stretch_fact address len
unfolding loaded_facts
at_end address len = refl

-- An address that was written makes a stretch longer.
pub one_longer : (text old : List ℕ) (address len : ℕ) (cells : List Bool) → address < length cells → is_written cells address ≡ true
    → text ++ loaded_facts address len (drop address cells) ≡ old → text ++ loaded_facts (address + 1) (len + 1) (drop (address + 1) cells) ≡ old
one_longer text old address len cells inside is h =
    ap (λ (l : List ℕ). text ++ l) (sym (ap (loaded_facts address len) (written_here cells address inside)
    ∙ longer address len (is_written cells address) (drop (address + 1) cells) is)) ∙ h

-- One that was not ends it.
pub one_ended : (text now old : List ℕ) (address len : ℕ) (cells : List Bool) → address < length cells → is_written cells address ≡ false
    → now ≡ text ++ stretch_fact address len
    → text ++ loaded_facts address len (drop address cells) ≡ old → now ++ loaded_facts (address + 1) 0 (drop (address + 1) cells) ≡ old
one_ended text now old address len cells inside is more h =
    ap (λ (l : List ℕ). l ++ loaded_facts (address + 1) 0 (drop (address + 1) cells)) more
    ∙ append_assoc text (stretch_fact address len) (loaded_facts (address + 1) 0 (drop (address + 1) cells))
    ∙ ap (λ (l : List ℕ). text ++ l) (sym (ap (loaded_facts address len) (written_here cells address inside)
    ∙ ended address len (is_written cells address) (drop (address + 1) cells) is))
    ∙ h

-- At the end the last stretch is told.
pub all_told : {X E : Type 0} (r : Result X E) (n : ℕ) (text now old : List ℕ) (address len : ℕ) (cells : List Bool) → address ≡ n → length cells ≡ n
    → text ++ loaded_facts address len (drop address cells) ≡ old → OnOk r (now ≡ text ++ stretch_fact n len) → OnOk r (now ≡ old)
all_told (Err e) n text now old address len cells at size h more = tt
all_told (Ok x) n text now old address len cells at size h more =
    let gone : drop n cells ≡ [] = drop_of_length-le cells (omega (arith, size)) in
    more ∙ ap (λ (l : List ℕ). text ++ l) (sym (ap (λ (k : ℕ). loaded_facts k len (drop k cells)) at ∙ ap (loaded_facts n len) gone ∙ at_end n len)) ∙ h
