-- Breakpoints of a list, each with the number behind that of the one before.
use Rattle.std.proofs.Common.{◌≡◌, ◌∙◌, Option, ℕ, ◌+◌, ◌<◌, ◌≤◌, List, [], ◌∷◌, ◌++◌, length, drop, get_or, refl, sym, ap, append_assoc, append-nil, add-one, drop-cons}
use Rattle.std.proofs.lemmas.List.{drop_all}
use Rattle.dap_messages.specs.Messages.{next_number}
use Rattle.dap_messages.specs.declared.counting.Counting.{Counting}
use Rattle.dap_messages.specs.declared.listed.Placed.{Placed}
use Rattle.dap_messages.specs.SeenAnswers.{SeenItem}
use Rattle.dap_views.specs.Answered.{answer_of, answers_of, placed_at, placed_of}
use Rattle.dap_views.specs.declared.wanted.Wanted.{Wanted}
use Rattle.model.specs.Session.{Session}

cut : (all : List Wanted) (i : ℕ) (e : Wanted) → i < length all → drop i all ≡ get_or all i e ∷ drop (i + 1) all
cut all i e within = rw (add-one, drop-cons all i e within) refl

pub answers_more : (session : Session) (counting : Counting) (all : List Wanted) (i id next : ℕ) (e : Wanted) (found whole : List SeenItem)
    → i < length all → e ≡ get_or all i e → next ≡ next_number id
    → found ++ answers_of session counting id (drop i all) ≡ whole
    → (found ++ answer_of session counting id e ∷ []) ++ answers_of session counting next (drop (i + 1) all) ≡ whole
unfolding answers_of
answers_more session counting all i id next e found whole within is number so_far =
    let rest = drop (i + 1) all in
    let here : drop i all ≡ e ∷ rest = cut all i e within ∙ ap (λ (w : Wanted). w ∷ rest) (sym is) in
    append_assoc found (answer_of session counting id e ∷ []) (answers_of session counting next rest)
    ∙ ap (λ n. found ++ answer_of session counting id e ∷ answers_of session counting n rest) number
    ∙ sym (ap (λ (ws : List Wanted). found ++ answers_of session counting id ws) here) ∙ so_far

pub answers_done : (session : Session) (counting : Counting) (all : List Wanted) (i id : ℕ) (found whole : List SeenItem) → length all ≤ i
    → found ++ answers_of session counting id (drop i all) ≡ whole → found ≡ whole
unfolding answers_of
answers_done session counting all i id found whole past so_far =
    sym (append-nil found) ∙ sym (ap (λ (ws : List Wanted). found ++ answers_of session counting id ws) (drop_all i all past)) ∙ so_far

pub placed_more : (file : Option ℕ) (all : List Wanted) (i id next : ℕ) (e : Wanted) (found new whole : List Placed) → i < length all → e ≡ get_or all i e
    → next ≡ next_number id → new ≡ found ++ placed_at file id e.addresses.items
    → found ++ placed_of file id (drop i all) ≡ whole → new ++ placed_of file next (drop (i + 1) all) ≡ whole
unfolding placed_of
placed_more file all i id next e found new whole within is number put so_far =
    let rest = drop (i + 1) all in
    let here : drop i all ≡ e ∷ rest = cut all i e within ∙ ap (λ (w : Wanted). w ∷ rest) (sym is) in
    (λ j. put j ++ placed_of file (number j) rest) ∙ append_assoc found (placed_at file id e.addresses.items) (placed_of file (next_number id) rest)
    ∙ sym (ap (λ (ws : List Wanted). found ++ placed_of file id ws) here) ∙ so_far

pub placed_done : (file : Option ℕ) (all : List Wanted) (i id : ℕ) (found whole : List Placed) → length all ≤ i
    → found ++ placed_of file id (drop i all) ≡ whole → found ≡ whole
unfolding placed_of
placed_done file all i id found whole past so_far =
    sym (append-nil found) ∙ sym (ap (λ (ws : List Wanted). found ++ placed_of file id ws) (drop_all i all past)) ∙ so_far
