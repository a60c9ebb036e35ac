-- Bytes that tell of states tell of one more, once its record is behind them.
use Rattle.std.proofs.Common.{◌≡◌, ◌∙◌, ℕ, List, [], ◌∷◌, ◌++◌, refl, sym, ap, subst}
use Rattle.std.specs.Prelude.{reverse}
use Rattle.std.specs.List.{AllByRecursion, flat_map}
use Rattle.std.proofs.lemmas.List.{append-nil, reverse-append}
use Rattle.std.proofs.lemmas.List.Concat.{flat_map-append}
use Rattle.model.specs.State.{State}
use Rattle.page_data.specs.Changes.{Tells, back, forth, states_by}
use Rattle.page_data.specs.Format.{Change, IsSmall, bytes_of, changes_by, changes_in}
use Rattle.page_data.proofs.Reading.{read_again}

-- the last of some states, and where changes lead
abbrev last_or : State → List State → State
last_or s [] = s
last_or s (t ∷ states) = last_or t states

abbrev end_by : (Change → State → State) → State → List Change → State
end_by by s [] = s
end_by by s (c ∷ changes) = end_by by (by c s) changes

last_pushed : (s : State) (states : List State) (t : State) → last_or s (states ++ t ∷ []) ≡ t
last_pushed s [] t = refl
last_pushed s (r ∷ states) t = last_pushed r states t

last_end : (by : Change → State → State) (d s : State) (changes : List Change) → last_or d (states_by by s changes) ≡ end_by by s changes
unfolding states_by
last_end by d s [] = refl
last_end by d s (c ∷ changes) = last_end by s (by c s) changes

states_pushed : (by : Change → State → State) (s : State) (changes : List Change) (c : Change)
    → states_by by s (changes ++ c ∷ []) ≡ states_by by s changes ++ by c (end_by by s changes) ∷ []
unfolding states_by
states_pushed by s [] c = refl
states_pushed by s (b ∷ changes) c = ap (λ (l : List State). s ∷ l) (states_pushed by (by b s) changes c)

small_pushed : (changes : List Change) (c : Change) → AllByRecursion IsSmall changes → IsSmall c → AllByRecursion IsSmall (changes ++ c ∷ [])
small_pushed [] c all small = (small, tt)
small_pushed (b ∷ changes) c all small = (all.0, small_pushed changes c all.1 small)

states_back : (next : State) (c : Change) (changes : List Change) → states_by back next (c ∷ changes) ≡ next ∷ states_by back (back c next) changes
unfolding states_by
states_back next c changes = refl

pub told_more : (start now next : State) (bytes : List ℕ) (earlier : List State) (c : Change) → IsSmall c → forth c now ≡ next → back c next ≡ now
    → Tells start bytes earlier now
    → Tells start (bytes ++ bytes_of c) (earlier ++ now ∷ []) next × (changes_in (bytes ++ bytes_of c) ≡ changes_in bytes ++ c ∷ [])
told_more start now next bytes earlier c small ahead behind h =
    let changes = changes_in bytes in
    let all : AllByRecursion IsSmall (changes ++ c ∷ []) = small_pushed changes c h.small small in
    let spelt : bytes ++ bytes_of c ≡ flat_map bytes_of (changes ++ c ∷ []) =
    ap (λ (l : List ℕ). l ++ bytes_of c) h.written
    ∙ ap (λ (l : List ℕ). flat_map bytes_of changes ++ l) (sym (append-nil (bytes_of c)))
    ∙ sym (flat_map-append bytes_of changes (c ∷ [])) in
    let read : changes_in (bytes ++ bytes_of c) ≡ changes ++ c ∷ [] = ap changes_in spelt ∙ read_again (changes ++ c ∷ []) all in
    let last : end_by forth start changes ≡ now = sym (last_end forth start start changes) ∙ ap (last_or start) h.forwards ∙ last_pushed start earlier now in (
      record {
        written = spelt ∙ ap (flat_map bytes_of) (sym read);
        small = subst (AllByRecursion IsSmall) (sym read) all;
        forwards =
            ap (states_by forth start) read ∙ states_pushed forth start changes c
            ∙ ap (λ (x : State). states_by forth start changes ++ forth c x ∷ []) last
            ∙ ap (λ (x : State). states_by forth start changes ++ x ∷ []) ahead
            ∙ ap (λ (l : List State). l ++ next ∷ []) h.forwards;
        backwards =
            ap (λ (l : List Change). states_by back next (reverse l)) read
            ∙ ap (states_by back next) (reverse-append changes (c ∷ []))
            ∙ states_back next c (reverse changes)
            ∙ ap (λ (x : State). next ∷ states_by back x (reverse changes)) behind
            ∙ ap (λ (l : List State). next ∷ l) h.backwards
            ∙ sym (reverse-append (earlier ++ now ∷ []) (next ∷ []));
      },
      read,
    )

-- nothing tells of the start alone
pub told_none : (start : State) → Tells start [] [] start
unfolding states_by changes_by
told_none start = record { written = refl; small = tt; forwards = refl; backwards = refl }
