-- Values written one after another.
use Rattle.std.proofs.Common.{◌≡◌, ◌∙◌, ℕ, ◌+◌, ◌<◌, ◌≤◌, List, [], ◌∷◌, ◌++◌, length, get_or, drop, append_assoc, map, refl, sym, ap, add-one, drop-cons}
use Rattle.std.proofs.lemmas.List.{drop_all}
use Rattle.json_messages.specs.Bodies.{IsTextOf}
use Rattle.word_lsp.specs.Writing.{AreWritten}
use Rattle.json_messages.specs.Messages.{framed}
use Rattle.serde_json.specs.Data.{Data}
use Rattle.serde_json.specs.Written.{compact_text}
use Rattle.serde_json.specs.View.{view}
use Rattle.serde_json.specs.declared.value.Value.{Value}

pub written_none : AreWritten [] []
unfolding AreWritten
written_none = refl

written_first : (d : Data) (ds : List Data) (text behind : List ℕ) → IsTextOf d text → AreWritten ds behind → AreWritten (d ∷ ds) (framed text ++ behind)
unfolding AreWritten
written_first d ds text behind one more = (text, behind, one, more, refl)

pub written_end : (vs : List Value) (i : ℕ) → length vs ≤ i → AreWritten (map view (drop i vs)) []
written_end vs i past = rw (drop_all i vs past) written_none

pub written_step : (vs : List Value) (i : ℕ) (v : Value) → i < length vs → v ≡ get_or vs i v → (text behind : List ℕ) → IsTextOf (view v) text
    → AreWritten (map view (drop (i + 1) vs)) behind → AreWritten (map view (drop i vs)) (framed text ++ behind)
written_step vs i v within is text behind one more =
    let cons : drop i vs ≡ get_or vs i v ∷ drop (i + 1) vs = rw add-one (drop-cons vs i v within) in
    let e : drop i vs ≡ v ∷ drop (i + 1) vs = cons ∙ ap (λ (x : Value). x ∷ drop (i + 1) vs) (sym is) in
    rw e (written_first (view v) (map view (drop (i + 1) vs)) text behind one more)

-- each value has a text
pub some_written : (ds : List Data) → (written : List ℕ) × AreWritten ds written
unfolding AreWritten
some_written [] = ([], refl)
some_written (d ∷ ds) = let more = some_written ds in (framed (compact_text d) ++ more.0, (compact_text d, more.0, λ _. refl, more.1, refl))

-- a beginning of one text behind others is a beginning of all of them
pub front_behind : (before text front rest more : List ℕ) → text ≡ front ++ rest → before ++ (text ++ more) ≡ (before ++ front) ++ (rest ++ more)
front_behind before text front rest more is =
    ap (λ (t : List ℕ). before ++ (t ++ more)) is ∙ ap (λ (t : List ℕ). before ++ t) (append_assoc front rest more)
    ∙ sym (append_assoc before front (rest ++ more))
