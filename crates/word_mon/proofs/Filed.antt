-- What is said of a line, with files and without.
use Rattle.std.proofs.Common.{◌≡◌, ◌∙◌, ℕ, Bool, List, [], ◌∷◌, ◌++◌, append_assoc, append-nil, None, Result, Ok, Err, inl, inr, ap, sym}
use Rattle.word_mon.specs.Attended.{Obeys, ObeysRead}
use Rattle.word_mon.specs.Files.{IsReloaded, Reloads, Repeats, ServesAgain}
use Rattle.word_mon.specs.Notes.{SeenNote, notes_after, placed_in}
use Rattle.word_mon.specs.Screens.{said_again}
use Rattle.word_mon.specs.declared.terminal.Terminal.{Terminal}
use Rattle.mon_dispatch.specs.Lines.{Follows, Says, Serves, Tells}
use Rattle.mon_dispatch.specs.LineTexts.{behind_text, line_text, slip_line}
use Rattle.mon_dispatch.specs.declared.lines.Outcome.{Outcome}
use Rattle.mon_lines.specs.Lines.{SeenCommand, SeenLine, SeenSlip, draw, line_of, page, reload, save}
use Rattle.mon_lines.specs.declared.command.Command.{Command}
use Rattle.mon_lines.specs.declared.command.Command.TheVariants as variant
use Rattle.mon_session.specs.EventTexts.{shown_text}
use Rattle.mon_session.specs.declared.mon_state.MonState.{MonState}

-- something is said by each line that can be read
tells_say : (command : Command) (a b : MonState) → Tells command a b → (said : List ℕ) × Says said a b
tells_say variant.Where a b p = (_, p.2)
tells_say (variant.Locals number) a b p = (_, p.2)
tells_say command a b p = (line_text command a, p)

-- something is said of each line
says_of : (read : Result SeenCommand SeenSlip) (outcome : Outcome) (a b : MonState)
    → Follows read outcome a b → (said : List ℕ) × Says said a b
says_of (Ok seen) outcome a b p = tells_say p.0 a b p.4
says_of (Err slip) outcome a b p = (slip_line slip, p.2)

serves_say : (read : SeenLine) (is_over : Bool) (a b : MonState) → Serves read is_over a b
    → (said : List ℕ) × Says said a b
serves_say read is_over a b s =
    let f = says_of read.asked s.1 a s.0 s.2 in
    let behind = behind_text s.1 read.decimal s.0 in (
      f.0 ++ behind,
      s.5 ∙ ap (λ t. t ++ behind) f.1 ∙ append_assoc a.text.items f.0 behind,
    )

-- lines that are served again say something
repeats_say : (notes : List SeenNote) (a : MonState) (noted : List SeenNote) (b : MonState)
    (left : List SeenNote) → Repeats notes a noted b left → (said : List ℕ) × Says said a b
unfolding Repeats
repeats_say [] a noted b left p =
    ([], ap (λ (d : MonState). d.text.items) p.0 ∙ sym (append-nil a.text.items))
repeats_say (note ∷ notes) a noted b left p =
    let read = line_of a.places note.pc note.line in
    let first = says_of read p.1 a p.0 p.2 in
    let rest = repeats_say notes p.0 (notes_after p.0 (placed_in read) note.pc note.line noted) b left p.3 in (
      first.0 ++ rest.0,
      rest.1 ∙ ap (λ t. t ++ rest.0) first.1 ∙ append_assoc a.text.items first.0 rest.0,
    )

again_says : (old line : List ℕ) (notes : List SeenNote) (fresh new : MonState)
    (left : List SeenNote) → ServesAgain old line notes fresh new left
    → (said : List ℕ) × (new.text.items ≡ old ++ said)
unfolding ServesAgain
again_says old line notes fresh new left p =
    let again = repeats_say notes p.0 [] p.4 left p.5 in
    let first = p.2 ++ line in
    let shown = shown_text p.4.session.current p.4.places.names None in (
      first ++ (again.0 ++ shown),
      p.7 ∙ ap (λ t. t ++ shown) (again.1 ∙ ap (λ t. t ++ again.0) p.3)
          ∙ append_assoc (old ++ first) again.0 shown ∙ append_assoc old first (again.0 ++ shown),
    )

reloaded_says : (a b : Terminal) → IsReloaded a b → (said : List ℕ) × Says said a.mon b.mon
reloaded_says a b p = again_says a.mon.text.items p.1 a.notes.items p.0 b.mon b.notes.items p.3

reloads_say : (a b : Terminal) → Reloads a b → (said : List ℕ) × Says said a.mon b.mon
reloads_say a b (inl p) = reloaded_says a b p
reloads_say a b (inr p) = (p.4.0, p.4.3)

-- something is said of what is asked for of files
none_said : (a b : Terminal) → b ≡ a → (said : List ℕ) × Says said a.mon b.mon
none_said a b p =
    ([], ap (λ (s : Terminal). s.mon.text.items) p ∙ sym (append-nil a.mon.text.items))

command_says : (command : SeenCommand) (a b : Terminal) → Obeys command a b
    → (said : List ℕ) × Says said a.mon b.mon
command_says (save file stretch) a b p = (p.1, p.2)
command_says (page file) a b p = p.shown.1
command_says reload a b p = reloads_say a b p
command_says (draw drawing) a b p = (said_again drawing a.answered.items, p.1)
command_says command a b p = none_said a b p

obeys_say : (asked : Result SeenCommand SeenSlip) (a b : Terminal) → ObeysRead asked a b
    → (said : List ℕ) × Says said a.mon b.mon
obeys_say (Ok command) a b p = command_says command a b p
obeys_say (Err slip) a b p = none_said a b p

-- of a line and of its files
pub both_say : (read : SeenLine) (is_over : Bool) (a b c : Terminal)
    → Serves read is_over a.mon b.mon → ObeysRead read.asked b c
    → (said : List ℕ) × Says said a.mon c.mon
both_say read is_over a b c p q =
    let first = serves_say read is_over a.mon b.mon p in
    let rest = obeys_say read.asked b c q in (
      first.0 ++ rest.0,
      rest.1 ∙ ap (λ t. t ++ rest.0) first.1 ∙ append_assoc a.mon.text.items first.0 rest.0,
    )

-- no screen comes or goes
reloads_view : (a b : Terminal) → Reloads a b → b.view ≡ a.view
reloads_view a b (inl p) = p.4
reloads_view a b (inr p) = p.0.1

command_keeps_view : (command : SeenCommand) (a b : Terminal) → Obeys command a b → b.view ≡ a.view
command_keeps_view (save file stretch) a b p = p.0.1
command_keeps_view (page file) a b p = p.view
command_keeps_view reload a b p = reloads_view a b p
command_keeps_view (draw drawing) a b p = p.0.1
command_keeps_view command a b p = ap (λ (s : Terminal). s.view) p

pub obeys_view : (asked : Result SeenCommand SeenSlip) (a b : Terminal) → ObeysRead asked a b
    → b.view ≡ a.view
obeys_view (Ok command) a b p = command_keeps_view command a b p
obeys_view (Err slip) a b p = ap (λ (s : Terminal). s.view) p
