-- Blocks, one after another.
use Rattle.std.proofs.Common.{◌≡◌, ℕ, ◌+◌, ◌<◌, ◌≤◌, List, [], ◌∷◌, ◌++◌, length, take, get_or, Option, refl, sym, ap, subst, ◌∙◌, append_assoc, append-nil}
use Rattle.std.proofs.lemmas.List.{take_more, take_all}
use Rattle.source_notes.specs.Blocks.{AreBlocks, BlockKind, IsBlock, block_of}
use Rattle.source_notes.specs.Lines.{line_of, line_or_none}
use Rattle.source_notes.specs.declared.note.Note.{Note}

module _ {T : Type 0} (kind : BlockKind T) (file : List ℕ) (lines : List (List ℕ)) where
  -- one block more
  more : (all : List T) (one : T) (text block : List ℕ) → AreBlocks kind file lines all text → IsBlock kind file lines one block
      → AreBlocks kind file lines (all ++ one ∷ []) (text ++ block)
  more [] one text block e is = (block, [], is, rw e (sym (append-nil block)), refl)
  more (first ∷ all) one text block h is =
      (h.0, h.1 ++ block, h.2, ap (λ (x : List ℕ). x ++ block) h.3 ∙ append_assoc h.0 h.1 block, more all one h.1 block h.4 is)

  -- a block after those so far
  pub block_done : (all : List T) (i : ℕ) (d : T) (text new : List ℕ) (line : Option (List ℕ)) (shown : List ℕ) (note : Note)
      → i < length all → AreBlocks kind file lines (take i all) text
      → line ≡ line_of lines (kind.number (get_or all i d))
      → shown ≡ line_or_none line
      → kind.Fits (get_or all i d) shown note
      → new ≡ text ++ block_of file (kind.number (get_or all i d)) (kind.title (get_or all i d)) line note
      → AreBlocks kind file lines (take (i + 1) all) new
  block_done all i d text new line shown note within so_far found same fits e =
      let one = get_or all i d in
      let block : List ℕ = block_of file (kind.number one) (kind.title one) line note in
      let is : IsBlock kind file lines one block = record {
        note = note;
        fits = subst (λ (t : List ℕ). kind.Fits one t note) (same ∙ ap line_or_none found) fits;
        text = ap (λ (l : Option (List ℕ)). block_of file (kind.number one) (kind.title one) l note) found;
      } in
      rw (take_more all i d within, e) (more (take i all) one text block so_far is)

  -- none is left
  pub all_done : (all : List T) (i : ℕ) (text : List ℕ) → length all ≤ i → AreBlocks kind file lines (take i all) text → AreBlocks kind file lines all text
  all_done all i text past h = rw (take_all i all past) at h
