-- The paths of sources, one after another.
use Rattle.std.proofs.Common.{◌≡◌, ◌∙◌, ℕ, ◌+◌, ◌<◌, ◌≤◌, List, [], ◌∷◌, ◌++◌, length, map, get_or, sym, ap, take}
use Rattle.std.proofs.lemmas.List.{map-append, take_all, take_more}
use Rattle.dap_session.specs.Paths.{path_of}
use Rattle.dap_views.specs.declared.source.FilePath.{FilePath}
use Rattle.source_map.specs.Lines.{SourceView, source_view}
use Rattle.source_map.specs.declared.source_files.SourceFile.{SourceFile}

pub path_more : (g : SourceView → List ℕ) (all : List SourceFile) (i : ℕ) (e : SourceFile) (file : FilePath) (old new : List FilePath) → i < length all
    → e ≡ get_or all i e → path_of file ≡ g (source_view e) → new ≡ old ++ file ∷ []
    → map path_of old ≡ map g (map source_view (take i all)) → map path_of new ≡ map g (map source_view (take (i + 1) all))
path_more g all i e file old new within is path put so_far =
    let before = map g (map source_view (take i all)) in
    let one : path_of file ≡ g (source_view (get_or all i e)) = path ∙ ap (λ (s : SourceFile). g (source_view s)) is in
    let more : map source_view (take (i + 1) all) ≡ map source_view (take i all) ++ source_view (get_or all i e) ∷ []
    = ap (map source_view) (take_more all i e within) ∙ map-append source_view (take i all) (get_or all i e ∷ []) in
    ap (map path_of) put ∙ map-append path_of old (file ∷ []) ∙ ap (λ (ps : List (List ℕ)). ps ++ path_of file ∷ []) so_far
    ∙ ap (λ (p : List ℕ). before ++ p ∷ []) one
    ∙ sym (ap (map g) more ∙ map-append g (map source_view (take i all)) (source_view (get_or all i e) ∷ []))

pub paths_done : (g : SourceView → List ℕ) (all : List SourceFile) (i : ℕ) (files : List FilePath) → length all ≤ i
    → map path_of files ≡ map g (map source_view (take i all)) → map path_of files ≡ map g (map source_view all)
paths_done g all i files past so_far = so_far ∙ ap (λ (xs : List SourceFile). map g (map source_view xs)) (take_all i all past)
