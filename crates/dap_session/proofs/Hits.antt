-- The numbers of breakpoints at an address, one after another.
use Rattle.std.proofs.Common.{◌≡◌, ◌∙◌, ℕ, ◌+◌, ◌<◌, ◌≤◌, List, [], ◌∷◌, ◌++◌, length, drop, get_or, refl, sym, ap, append_assoc, append-nil, add-one, drop-cons}
use Rattle.std.proofs.lemmas.List.{drop_all}
use Rattle.std.specs.List.{flat_map}
use Rattle.dap_messages.specs.declared.listed.Placed.{Placed}
use Rattle.dap_session.specs.Stands.{id_if, ids_at}

pub hits_more : (pc : ℕ) (all : List Placed) (i : ℕ) (d : Placed) (found new whole : List ℕ) → i < length all → new ≡ found ++ id_if pc (get_or all i d)
    → found ++ ids_at pc (drop i all) ≡ whole → new ++ ids_at pc (drop (i + 1) all) ≡ whole
hits_more pc all i d found new whole within put so_far =
    let rest = drop (i + 1) all in
    let here : drop i all ≡ get_or all i d ∷ rest = rw (add-one, drop-cons all i d within) refl in
    ap (λ (ids : List ℕ). ids ++ ids_at pc rest) put ∙ append_assoc found (id_if pc (get_or all i d)) (ids_at pc rest)
    ∙ sym (ap (λ (ps : List Placed). found ++ ids_at pc ps) here) ∙ so_far

pub hits_done : (pc : ℕ) (all : List Placed) (i : ℕ) (found whole : List ℕ) → length all ≤ i → found ++ ids_at pc (drop i all) ≡ whole → found ≡ whole
hits_done pc all i found whole past so_far =
    sym (append-nil found) ∙ sym (ap (λ (ps : List Placed). found ++ ids_at pc ps) (drop_all i all past)) ∙ so_far
