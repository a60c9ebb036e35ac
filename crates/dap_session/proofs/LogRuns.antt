-- Log points one after another.
use Rattle.std.proofs.Common.{◌≡◌, ◌∙◌, ℕ, ◌+◌, ◌-◌, ◌<◌, ◌≤◌, suc, Bool, false, List, [], ◌∷◌, length, drop, get_or, map, Option, refl, sym, ap, add-one, drop-cons, take}
use Rattle.std.proofs.lemmas.List.{drop_all, length-map, take-map}
use Rattle.dap_messages.specs.Messages.{Said, next_number, said_of}
use Rattle.dap_messages.specs.declared.listed.FileLines.{FileLines}
use Rattle.dap_messages.specs.declared.listed.Placed.{Placed}
use Rattle.dap_messages.specs.declared.message.Message.{Message}
use Rattle.dap_messages.specs.declared.request.SourceBreakpoint.{SourceBreakpoint}
use Rattle.dap_session.specs.Logs.{id_or, last_from, text_among, text_from, text_of_list, text_or}
use Rattle.dap_session.specs.Passes.{GoesPast, Passes, but_last, has_ended}
use Rattle.dap_session.specs.declared.client.Client.{Client}
use Rattle.dap_session.specs.declared.passing.Further.{Further}

-- ---- the last breakpoint at an address

pub last_more : (pc : ℕ) (all : List Placed) (i : ℕ) (d : Placed) (found new whole : Option ℕ) → i < length all → new ≡ id_or (get_or all i d) pc found
    → last_from found pc (drop i all) ≡ whole → last_from new pc (drop (i + 1) all) ≡ whole
unfolding last_from
last_more pc all i d found new whole within put so_far =
    let rest = drop (i + 1) all in
    let here : drop i all ≡ get_or all i d ∷ rest = rw (add-one, drop-cons all i d within) refl in
    ap (λ (f : Option ℕ). last_from f pc rest) put ∙ sym (ap (λ (ps : List Placed). last_from found pc ps) here) ∙ so_far

pub last_done : (pc : ℕ) (all : List Placed) (i : ℕ) (found whole : Option ℕ) → length all ≤ i → last_from found pc (drop i all) ≡ whole → found ≡ whole
unfolding last_from
last_done pc all i found whole past so_far = sym (ap (λ (ps : List Placed). last_from found pc ps) (drop_all i all past)) ∙ so_far

-- ---- the text of a number

pub text_more : (all : List SourceBreakpoint) (i : ℕ) (e : SourceBreakpoint) (id number next : ℕ) (found new whole : Option (List ℕ)) → i < length all
    → e ≡ get_or all i e
    → new ≡ text_or e number id found → next ≡ next_number number
    → text_from found id number (drop i all) ≡ whole → text_from new id next (drop (i + 1) all) ≡ whole
unfolding text_from
text_more all i e id number next found new whole within is put counted so_far =
    let rest = drop (i + 1) all in
    let here : drop i all ≡ get_or all i e ∷ rest = rw (add-one, drop-cons all i e within) refl in
    (λ j. text_from (put j) id (counted j) rest)
    ∙ ap (λ (b : SourceBreakpoint). text_from (text_or b number id found) id (next_number number) rest) is
    ∙ sym (ap (λ (bs : List SourceBreakpoint). text_from found id number bs) here) ∙ so_far

pub text_done : (all : List SourceBreakpoint) (i id number : ℕ) (found whole : Option (List ℕ)) → length all ≤ i
    → text_from found id number (drop i all) ≡ whole → found ≡ whole
unfolding text_from
text_done all i id number found whole past so_far = sym (ap (λ (bs : List SourceBreakpoint). text_from found id number bs) (drop_all i all past)) ∙ so_far

-- ---- of one of some lists

pub list_more : (all : List FileLines) (i : ℕ) (e : FileLines) (id : ℕ) (found new whole : Option (List ℕ)) → i < length all → e ≡ get_or all i e
    → new ≡ text_of_list e id found → text_among found id (drop i all) ≡ whole → text_among new id (drop (i + 1) all) ≡ whole
unfolding text_among
list_more all i e id found new whole within is put so_far =
    let rest = drop (i + 1) all in
    let here : drop i all ≡ get_or all i e ∷ rest = rw (add-one, drop-cons all i e within) refl in
    ap (λ (f : Option (List ℕ)). text_among f id rest) put
    ∙ ap (λ (l : FileLines). text_among (text_of_list l id found) id rest) is
    ∙ sym (ap (λ (ls : List FileLines). text_among found id ls) here) ∙ so_far

pub list_done : (all : List FileLines) (i id : ℕ) (found whole : Option (List ℕ)) → length all ≤ i
    → text_among found id (drop i all) ≡ whole → found ≡ whole
unfolding text_among
list_done all i id found whole past so_far = sym (ap (λ (ls : List FileLines). text_among found id ls) (drop_all i all past)) ∙ so_far

-- ---- messages but for the last

pub said_rest : (ms rest : List Message) (n : ℕ) → n ≡ length ms → rest ≡ take (n - 1) ms → map said_of rest ≡ but_last (map said_of ms)
said_rest ms rest n count is =
    ap (map said_of) is ∙ sym (take-map said_of (n - 1) ms) ∙ ap (λ (k : ℕ). take (k - 1) (map said_of ms)) (count ∙ sym (length-map ms said_of))

-- ---- a move that goes on

pub passes_none : (further : Further) (old : Client) (said : List Said) → Passes 0 further old said old said
unfolding Passes
passes_none further old said = (refl, refl)

pub passes_more : (n : ℕ) (further : Further) (old : Client) (said : List Said) (between : Client) (so_far : List Said) (new : Client) (more : List Said)
    → Passes n further old said between so_far → has_ended further between ≡ false → GoesPast further between so_far new more
    → Passes (suc n) further old said new more
unfolding Passes
passes_more n further old said between so_far new more passes on goes = (between, so_far, passes, on, goes)
