-- The marks of all documents, told one after another.
use Rattle.std.proofs.Common.{◌≡◌, ◌∙◌, ℕ, ◌+◌, ◌<◌, ◌≤◌, List, [], ◌∷◌, ◌++◌, length, get_or, drop, append_assoc, map, refl, sym, ap, subst, add-one, drop-cons}
use Rattle.std.proofs.lemmas.List.{drop_all, map-append}
use Rattle.model.specs.State.{Map}
use Rattle.serde_json.specs.Data.{Data}
use Rattle.serde_json.specs.View.{view}
use Rattle.serde_json.specs.declared.value.Value.{Value}
use Rattle.word_lsp.specs.Messages.{AreToldOfAll, IsMarked}
use Rattle.word_lsp.specs.State.{Opened, document_view}
use Rattle.word_lsp.specs.declared.documents.Document.{Document}

told_none : (bus_map : Map) → AreToldOfAll bus_map [] []
unfolding AreToldOfAll
told_none bus_map = refl

told_first : (bus_map : Map) (d : Opened) (ds : List Opened) (v : Data) (rest : List Data) → IsMarked bus_map d.0 d.1 v → AreToldOfAll bus_map ds rest
    → AreToldOfAll bus_map (d ∷ ds) (v ∷ rest)
unfolding AreToldOfAll
told_first bus_map d ds v rest one more = (v, rest, one, more, refl)

pub told_end : (bus_map : Map) (docs : List Document) (i : ℕ) → length docs ≤ i → AreToldOfAll bus_map (map document_view (drop i docs)) []
told_end bus_map docs i past = rw (drop_all i docs past) (told_none bus_map)

pub told_step : (bus_map : Map) (docs : List Document) (i : ℕ) (d : Document) → i < length docs → d ≡ get_or docs i d
    → (v : Data) (behind : List Data) → IsMarked bus_map (document_view d).0 (document_view d).1 v
    → AreToldOfAll bus_map (map document_view (drop (i + 1) docs)) behind → AreToldOfAll bus_map (map document_view (drop i docs)) (v ∷ behind)
told_step bus_map docs i d within is v behind one more =
    let cons : drop i docs ≡ get_or docs i d ∷ drop (i + 1) docs = rw add-one (drop-cons docs i d within) in
    let e : drop i docs ≡ d ∷ drop (i + 1) docs = cons ∙ ap (λ (x : Document). x ∷ drop (i + 1) docs) (sym is) in
    rw e (told_first bus_map (document_view d) (map document_view (drop (i + 1) docs)) v behind one more)

-- a value is put behind those that are told
pub told_more : (bus_map : Map) (docs : List Document) (told new : List Value) (one : Value) (behind : List Data) → new ≡ told ++ one ∷ []
    → AreToldOfAll bus_map (map document_view docs) (map view told ++ (view one ∷ behind))
    → AreToldOfAll bus_map (map document_view docs) (map view new ++ behind)
told_more bus_map docs told new one behind is all =
    let same : map view told ++ (view one ∷ behind) ≡ map view new ++ behind
    = sym (ap (λ (vs : List Value). map view vs ++ behind) is ∙ ap (λ (vs : List Data). vs ++ behind) (map-append view told (one ∷ []))
    ∙ append_assoc (map view told) (view one ∷ []) behind) in
    subst (λ (vs : List Data). AreToldOfAll bus_map (map document_view docs) vs) same all
