-- What was told of sources that a debug file names.
use Rattle.std.proofs.Common.{◌≡◌, ℕ, List, ◌++◌, Option, Some, Bor, option_map, subst, sym}
use Rattle.debug_files.specs.Changed.{Sought, TellsChanged, TellsOf, TellsSought}

pub told_of : (file : Option (Bor (List ℕ))) (path : Bor (List ℕ)) (sought : Sought) (held now : Option (List ℕ)) → file ≡ Some path
    → TellsSought path.now sought held now → TellsOf (option_map (λ f. f.now) file) sought held now
told_of file path sought held now is told =
    subst (λ (f : Option (Bor (List ℕ))). TellsOf (option_map (λ p. p.now) f) sought held now) (sym is) told

pub told_changed : (file : Option (Bor (List ℕ))) (path : Bor (List ℕ)) (sought : Sought) (held now : Option (List ℕ)) → file ≡ Some path
    → TellsSought path.now sought held now → TellsChanged (option_map (λ f. f.now) file) held now
told_changed file path sought held now is told =
    subst (λ (f : Option (Bor (List ℕ))). TellsChanged (option_map (λ p. p.now) f) held now) (sym is) (sought, told)

-- A text of seven parts, each said otherwise.
pub parts_told : (Told : List ℕ → Type 0) (a b c d e f g one two three four five six seven : List ℕ) → a ≡ one → b ≡ two → c ≡ three → d ≡ four
    → e ≡ five → f ≡ six → g ≡ seven → Told (a ++ (b ++ (c ++ (d ++ (e ++ (f ++ g))))))
    → Told (one ++ (two ++ (three ++ (four ++ (five ++ (six ++ seven))))))
parts_told Told a b c d e f g one two three four five six seven p q r s t u v told =
    let first = subst (λ (x : List ℕ). Told (x ++ (b ++ (c ++ (d ++ (e ++ (f ++ g))))))) p told in
    let second = subst (λ (x : List ℕ). Told (one ++ (x ++ (c ++ (d ++ (e ++ (f ++ g))))))) q first in
    let third = subst (λ (x : List ℕ). Told (one ++ (two ++ (x ++ (d ++ (e ++ (f ++ g))))))) r second in
    let fourth = subst (λ (x : List ℕ). Told (one ++ (two ++ (three ++ (x ++ (e ++ (f ++ g))))))) s third in
    let fifth = subst (λ (x : List ℕ). Told (one ++ (two ++ (three ++ (four ++ (x ++ (f ++ g))))))) t fourth in
    let sixth = subst (λ (x : List ℕ). Told (one ++ (two ++ (three ++ (four ++ (five ++ (x ++ g))))))) u fifth in
    subst (λ (x : List ℕ). Told (one ++ (two ++ (three ++ (four ++ (five ++ (six ++ x))))))) v sixth
