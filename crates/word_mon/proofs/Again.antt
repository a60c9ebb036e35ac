-- Lines that are served again, and why a file is not loaded again.
use Rattle.std.proofs.Common.{◌≡◌, ◌⊎◌, ◌∙◌, ◌<◌, ℕ, ◌+◌, Bool, false, true≢false, List, [], ◌∷◌, Option, None, Some, Result, Ok, Err, Bor, option_map, unwrap_or, inl, inr, refl, sym, ap, subst, length, get_or, drop}
use Rattle.std.proofs.lemmas.List.{drop_more}
use Rattle.std.specs.Prelude.{OnOk}
use Rattle.arguments.specs.declared.load_fault.LoadFault.{LoadFault}
use Rattle.arguments.specs.declared.load_fault.LoadFault.TheVariants.{Refused}
use Rattle.arguments.specs.declared.refusal.Refusal.{Refusal}
use Rattle.arguments.specs.declared.refusal.Refusal.TheVariants.{OutOfMemory}
use Rattle.arguments_play.specs.Mon.{MonAsked, mon_view}
use Rattle.word_mon.specs.Files.{EndsReload, IsReloaded, Repeats, ServesAgain, is_memory}
use Rattle.word_mon.specs.Notes.{SeenNote, notes_after, placed_in}
use Rattle.debug_files.specs.Loaded.{EndsDebugInfo}
use Rattle.word_mon.specs.Starts.{EndsNamed, StartsMon}
use Rattle.word_mon.specs.declared.terminal.Terminal.{Terminal}
use Rattle.mon_dispatch.specs.Lines.{Follows}
use Rattle.mon_dispatch.specs.declared.lines.Outcome.{Outcome}
use Rattle.mon_lines.specs.Lines.{line_of}
use Rattle.mon_session.specs.declared.mon_state.MonState.{MonState}

pub on_ok_map : {X E : Type 0} (r : Result X E) (P Q : Type 0) → (P → Q) → OnOk r P → OnOk r Q
on_ok_map (Ok x) P Q f p = f p
on_ok_map (Err e) P Q f p = tt

-- ---- lines that are served again

pub again_none : (a : MonState) (noted : List SeenNote) → Repeats [] a noted a noted
unfolding Repeats
again_none a noted = (refl, refl)

-- one more line, before those behind it
pub again_more : (notes : List SeenNote) (i : ℕ) (note : SeenNote) (outcome : Outcome) (a b : MonState)
    (noted more : List SeenNote) → i < length notes → note ≡ get_or notes i note
    → Follows (line_of a.places note.pc note.line) outcome a b
    → more ≡ notes_after b (placed_in (line_of a.places note.pc note.line)) note.pc note.line noted
    → (new : MonState) (left : List SeenNote) → Repeats (drop (i + 1) notes) b more new left
    → Repeats (drop i notes) a noted new left
unfolding Repeats
again_more notes i note outcome a b noted more h at follows is new left p =
    subst (λ l. Repeats l a noted new left) (sym (drop_more notes i note h ∙ ap (λ n. n ∷ drop (i + 1) notes) (sym at)))
    (b, outcome, follows, subst (λ n. Repeats (drop (i + 1) notes) b n new left) is p)

-- a session that has begun, put in place of another
pub reloads : (a b : Terminal) (fresh ready : MonState) (loaded : List Bool) (text line said : List ℕ)
    (notes left : List SeenNote) → StartsMon (mon_view a.words.now) fresh loaded line
    → text ≡ a.mon.text.items → said ≡ line → notes ≡ a.notes.items
    → ServesAgain text said notes fresh ready left
    → b.mon ≡ ready → b.loaded ≡ loaded → b.notes.items ≡ left → b.view ≡ a.view
    → b.words ≡ a.words → IsReloaded a b
reloads a b fresh ready loaded text line said notes left starts t s n again mon known items view words = (
  fresh,
  line,
  subst (λ (k : List Bool). StartsMon (mon_view a.words.now) fresh k line) (sym known) starts,
  subst (λ (x : List ℕ). ServesAgain x line a.notes.items fresh b.mon b.notes.items) t
      (subst (λ (x : List ℕ). ServesAgain text x a.notes.items fresh b.mon b.notes.items) s
      (subst (λ (x : List SeenNote). ServesAgain text said x fresh b.mon b.notes.items) n
      (subst (λ (d : MonState). ServesAgain text said notes fresh d b.notes.items) (sym mon)
      (subst (λ (x : List SeenNote). ServesAgain text said notes fresh ready x) (sym items) again)))),
  view,
  words,
)

-- ---- why a file is not loaded again

pub ends_reload : (symbols : Option (Bor (List ℕ))) (other : Bor (List ℕ)) (asked : MonAsked)
    (fault : Refusal) → asked.symbols ≡ option_map (λ s. s.now) symbols
    → (fault ≡ OutOfMemory) ⊎ EndsNamed (option_map (λ s. s.now) symbols) asked.file fault
    → (Refused fault ≡ Refused OutOfMemory)
    ⊎ EndsReload asked (unwrap_or symbols other).now (Refused fault)
ends_reload symbols other asked fault is (inl memory) = inl (ap Refused memory)
ends_reload None other asked fault is (inr ends) = absurd ends
ends_reload (Some path) other asked fault is (inr ends) = inr (inr (inl (fault, refl, is, ends)))

pub debug_ends_reload : (debug : Option (Bor (List ℕ))) (other : Bor (List ℕ)) (asked : MonAsked)
    (fault : LoadFault) → asked.debug_info ≡ option_map (λ s. s.now) debug
    → EndsDebugInfo (option_map (λ s. s.now) debug) fault
    → (fault ≡ Refused OutOfMemory) ⊎ EndsReload asked (unwrap_or debug other).now fault
debug_ends_reload None other asked fault is ends = absurd ends
debug_ends_reload (Some path) other asked fault is ends = inr (inr (inr (is, ends)))

-- memory did not run out
pub ends_then : (asked : MonAsked) (path : List ℕ) (fault : LoadFault) → is_memory fault ≡ false
    → (fault ≡ Refused OutOfMemory) ⊎ EndsReload asked path fault → EndsReload asked path fault
ends_then asked path fault is_not (inl e) = absurd (true≢false (sym (ap is_memory e) ∙ is_not))
ends_then asked path fault is_not (inr ends) = ends
