-- What stamps tell of checkpoints stays true as memory, stamps and checkpoints change.
use Rattle.std.proofs.Common.{◌≡◌, ℕ, ◌+◌, ◌-◌, ◌≤◌, List, [], ◌∷◌, ◌++◌, length, drop, slice_get, slice_index, Some, sym, ap, ◌∙◌, subst, arith, length-append, length-drop, inl, inr}
use Rattle.std.proofs.lemmas.Option.{slice_get_within}
use Rattle.circular_buffer.proofs.Places.{below_or_not, slice_get-append_left, slice_get-drop, slice_get-last}
use Rattle.circular_buffer.specs.Buffer.{last_item}
use Rattle.model.specs.State.{Bus, State}
use Rattle.model.specs.Checkpoint.{Checkpoint, checkpoint_of, saved_of}
use Rattle.bus.specs.Pages.{AreSameBelow, StaySame}
use Rattle.debugger.specs.Pages.{number_at, TellsPages}
use Rattle.debugger.specs.declared.pages.Pages.{Pages}

abbrev pages_of : List ℕ → ℕ → ℕ → Pages
pages_of stamps now spare = record { stamps = stamps; now = now; spare = spare }

-- a bus under another name
pub stamped : (now : ℕ) (old new : List ℕ) (restored before : Bus) (after : List ℕ) → restored ≡ before → StaySame now old new restored.memory after
    → StaySame now old new before.memory after
stamped now old new restored before after is same = subst (λ (b : Bus). StaySame now old new b.memory after) is same

-- memory changed in stamped pages
pub tells_on : (now spare : ℕ) (old new : List ℕ) (used unused : List Checkpoint) (before after : List ℕ) → StaySame now old new before after
    → TellsPages (pages_of old now spare) used unused before → TellsPages (pages_of new now spare) used unused after
tells_on now spare old new used unused before after same told = record {
  within = told.within;
  kept = λ i c at. let inside = slice_get_within used i c at in same (number_at now (length used) i) (omega (arith, inside)) c.bus.memory (told.kept i c at);
  spare = λ c at. same spare told.within c.bus.memory (told.spare c at);
}

-- all pages are stamped
pub tells_nothing : (now : ℕ) (stamps : List ℕ) (used unused : List Checkpoint) (memory : List ℕ)
    → ((since : ℕ) → since ≤ now → (xs ys : List ℕ) → AreSameBelow since stamps xs ys) → TellsPages (pages_of stamps now 0) used unused memory
tells_nothing now stamps used unused memory all = record {
  within = omega arith;
  kept = λ i c at. let inside = slice_get_within used i c at in all (number_at now (length used) i) (omega (arith, inside)) c.bus.memory memory;
  spare = λ c at. all 0 (omega arith) c.bus.memory memory;
}

-- the first checkpoint let go
pub tells_let_go : (now spare number : ℕ) (stamps : List ℕ) (used unused left more : List Checkpoint) (c : Checkpoint) (memory : List ℕ)
    → slice_get used 0 ≡ Some c → left ≡ drop 1 used → more ≡ unused ++ c ∷ [] → number ≡ now - (length used - 1)
    → TellsPages (pages_of stamps now spare) used unused memory → TellsPages (pages_of stamps now number) left more memory
tells_let_go now spare number stamps used unused left more c memory first rest pushed is told =
    let some = slice_get_within used 0 c first in
    let fewer : length left ≡ length used - 1 = ap length rest ∙ length-drop 1 used in
    record {
      within = omega arith;
      kept = λ i d at.
          let same : number_at now (length used) (i + 1) ≡ number_at now (length left) i = omega (arith, fewer, some) in
          let next : i + 1 ≡ 1 + i = omega arith in
          subst (λ n. AreSameBelow n stamps d.bus.memory memory) same
          (told.kept (i + 1) d (sym (slice_get-drop 1 used i (i + 1) next) ∙ ap (λ l. slice_get l i) (sym rest) ∙ at));
      spare = λ d at.
          let place : length (unused ++ c ∷ []) - 1 ≡ length unused = omega (arith, length-append unused (c ∷ [])) in
          let last : Some c ≡ Some d = sym (slice_get-last unused c (length (unused ++ c ∷ []) - 1) place) ∙ ap last_item (sym pushed) ∙ at in
          let same : number_at now (length used) 0 ≡ number = omega (arith, some, is) in
          subst (λ n. AreSameBelow n stamps d.bus.memory memory) same (told.kept 0 d (first ∙ last));
    }

-- a checkpoint at the current state put after the others
pub tells_mark : (now more spare : ℕ) (stamps : List ℕ) (used unused left all : List Checkpoint) (s : State) → more ≤ now + 1
    → all ≡ used ++ checkpoint_of s ∷ []
    → TellsPages (pages_of stamps now spare) used unused s.bus.memory → TellsPages (pages_of stamps more 0) all left s.bus.memory
unfolding checkpoint_of saved_of
tells_mark now more spare stamps used unused left all s grown is told = subst (λ l. TellsPages (pages_of stamps more 0) l left s.bus.memory) (sym is) (record {
  within = omega arith;
  kept = λ i c at. elim (below_or_not i (length used)) [
    | inl h ↦ (let long = length-append used (checkpoint_of s ∷ []) in
        λ k inside below. told.kept i c (sym (slice_get-append_left used (checkpoint_of s ∷ []) i h) ∙ at) k inside (omega (arith, below, long, grown)))
    | inr h ↦ (
        let inside = slice_get_within (used ++ checkpoint_of s ∷ []) i c at in
        let place : i ≡ length used = omega (arith, inside, h, length-append used (checkpoint_of s ∷ [])) in
        let same : Some (checkpoint_of s) ≡ Some c = sym (slice_get-last used (checkpoint_of s) i place) ∙ at in
        let this : checkpoint_of s ≡ c = cc in
        λ k within below. ap (λ (d : Checkpoint). slice_index d.bus.memory k) (sym this))
  ];
  spare = λ c at k within below. absurd (omega (arith, below));
})

-- the checkpoint that a session starts with
pub tells_first : (p : Pages) (used unused : List Checkpoint) (s : State) → p.now ≡ 1 → p.spare ≡ 0 → used ≡ checkpoint_of s ∷ []
    → TellsPages p used unused s.bus.memory
tells_first p used unused s now spare is =
    let told = tells_mark 0 p.now 0 p.stamps [] [] unused used s (omega (arith, now)) is (record {
      within = omega arith;
      kept = λ i c at k within below. absurd (omega (arith, slice_get_within [] i c at));
      spare = λ c at k within below. absurd (omega (arith, below));
    }) in
    record { within = omega (arith, spare); kept = told.kept; spare = λ c at k within below. absurd (omega (arith, below, spare)) }
