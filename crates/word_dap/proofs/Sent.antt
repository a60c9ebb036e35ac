-- Messages sent one after another.
use Rattle.std.proofs.Common.{◌≡◌, ◌∙◌, ℕ, zero, suc, ◌+◌, ◌<◌, ◌≤◌, List, [], ◌∷◌, ◌++◌, length, get_or, drop, take, map, refl, sym, ap, add-one, append-nil, append_assoc, arith, drop-cons, subst}
use Rattle.std.proofs.lemmas.Grind.{common_steps}
use Rattle.serde_json.specs.Data.{Data}
use Rattle.serde_json.specs.Written.{compact_text}
use Rattle.json_messages.specs.Messages.{framed}
use Rattle.word_dap.specs.Sent.{AreBegun, AreSent, IsSent}
use Rattle.dap_messages.specs.Messages.{Said, data_of, next_number, said_of}
use Rattle.dap_messages.specs.declared.message.Message.{Message}

sent_none : (sent : ℕ) (request : Data) → AreSent sent request [] sent []
unfolding AreSent
sent_none sent request = (refl, refl)

sent_first : (sent : ℕ) (request : Data) (s : Said) (rest : List Said) (total : ℕ) (front behind : List ℕ) → IsSent (next_number sent) request s front
    → AreSent (next_number sent) request rest total behind → AreSent sent request (s ∷ rest) total (front ++ behind)
unfolding AreSent
sent_first sent request s rest total front behind one more = (front, behind, one, more, refl)

pub sent_end : (sent : ℕ) (request : Data) (ms : List Message) (i : ℕ) → length ms ≤ i → AreSent sent request (map said_of (drop i ms)) sent []
sent_end sent request ms i h =
    let e : drop i ms ≡ [] = grind (arith, common_steps) in
    rw e (sent_none sent request)

pub sent_step : (sent : ℕ) (request : Data) (ms : List Message) (i : ℕ) (m : Message) → i < length ms → m ≡ get_or ms i m → (front : List ℕ)
    → IsSent (next_number sent) request (said_of m) front → (total : ℕ) (behind : List ℕ)
    → AreSent (next_number sent) request (map said_of (drop (i + 1) ms)) total behind → AreSent sent request (map said_of (drop i ms)) total (front ++ behind)
sent_step sent request ms i m h is front one total behind more =
    let cons : drop i ms ≡ get_or ms i m ∷ drop (i + 1) ms = rw add-one (drop-cons ms i m h) in
    let e : drop i ms ≡ m ∷ drop (i + 1) ms = cons ∙ ap (λ x. x ∷ drop (i + 1) ms) (sym is) in
    rw e (sent_first sent request (said_of m) (map said_of (drop (i + 1) ms)) total front behind one more)

-- ---- beginnings

-- There is a text of each message.
pub sent_all : (sent : ℕ) (request : Data) (said : List Said) → (total : ℕ) × (all : List ℕ) × AreSent sent request said total all
unfolding AreSent
sent_all sent request [] = (sent, [], (refl, refl))
sent_all sent request (s ∷ rest) =
    let more = sent_all (next_number sent) request rest in
    let text = compact_text (data_of (next_number sent) request s) in
    (more.0, framed text ++ more.1, (framed text, more.1, (text, (λ none. refl), refl), more.2, refl))

-- One message is begun.
pub sent_begun : (sent : ℕ) (request : Data) (ms : List Message) (i : ℕ) (m : Message) → i < length ms → m ≡ get_or ms i m → (all front rest : List ℕ)
    → IsSent (next_number sent) request (said_of m) all → all ≡ front ++ rest → AreBegun sent request (map said_of (drop i ms)) front
sent_begun sent request ms i m h is all front rest one begun =
    let more = sent_all (next_number sent) request (map said_of (drop (i + 1) ms)) in (
      more.0,
      all ++ more.1,
      rest ++ more.1,
      sent_step sent request ms i m h is all one more.0 more.1 more.2,
      ap (λ (l : List ℕ). l ++ more.1) begun ∙ append_assoc front rest more.1,
    )

-- Nothing is a beginning, and all are one.
pub begun_none : (sent : ℕ) (request : Data) (said : List Said) → AreBegun sent request said []
begun_none sent request said = let all = sent_all sent request said in (all.0, all.1, all.1, all.2, refl)

pub begun_whole : (sent : ℕ) (request : Data) (said : List Said) (total : ℕ) (all : List ℕ) → AreSent sent request said total all
    → AreBegun sent request said all
begun_whole sent request said total all h = (total, all, [], h, sym (append-nil all))

-- The first messages are a beginning of all.
sent_longer : (n sent : ℕ) (request : Data) (said : List Said) (total : ℕ) (all : List ℕ) → AreSent sent request (take n said) total all → (t : ℕ)
    × (more : List ℕ) × AreSent sent request said t (all ++ more)
unfolding AreSent
sent_longer zero sent request [] total all h = (sent, [], (refl, ap (λ (l : List ℕ). l ++ []) h.1))
sent_longer zero sent request (s ∷ rest) total all h =
    let whole = sent_all sent request (s ∷ rest) in
    (whole.0, whole.1, subst (λ (l : List ℕ). AreSent sent request (s ∷ rest) whole.0 (l ++ whole.1)) (sym h.1) whole.2)
sent_longer (suc n) sent request [] total all h = (sent, [], (refl, ap (λ (l : List ℕ). l ++ []) h.1))
sent_longer (suc n) sent request (s ∷ rest) total all h =
    let longer = sent_longer n (next_number sent) request rest total h.1 h.3 in
    (longer.0, longer.1, (h.0, h.1 ++ longer.1, h.2, longer.2, ap (λ (l : List ℕ). l ++ longer.1) h.4 ∙ append_assoc h.0 h.1 longer.1))

pub begun_longer : (n sent : ℕ) (request : Data) (said : List Said) (written : List ℕ) → AreBegun sent request (take n said) written
    → AreBegun sent request said written
begun_longer n sent request said written b =
    let longer = sent_longer n sent request said b.0 b.1 b.3 in
    (longer.0, b.1 ++ longer.1, b.2 ++ longer.1, longer.2, ap (λ (l : List ℕ). l ++ longer.1) b.4 ∙ append_assoc written b.2 longer.1)

-- What was written before stands in front.
pub begun_behind : (sent request_sent : ℕ) (request : Data) (said rest : List Said) (first written : List ℕ)
    → ((total : ℕ) (behind : List ℕ) → AreSent sent request rest total behind → AreSent request_sent request said total (first ++ behind))
    → AreBegun sent request rest written → AreBegun request_sent request said (first ++ written)
begun_behind sent request_sent request said rest first written more b =
    (b.0, first ++ b.1, b.2, more b.0 b.1 b.3, ap (λ (l : List ℕ). first ++ l) b.4 ∙ sym (append_assoc first written b.2))

-- The value that is made of a message, under its number.
pub made_of : {d : Data} (number sent : ℕ) (request : Data) (s : Said) → number ≡ next_number sent → d ≡ data_of number request s
    → d ≡ data_of (next_number sent) request s
made_of number sent request s is made = made ∙ ap (λ (n : ℕ). data_of n request s) is
