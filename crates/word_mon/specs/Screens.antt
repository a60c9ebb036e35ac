-- What is written of a session: its text, or a screen. Source: mos65.
use Rattle.std.specs.Prelude.{◌≡◌, ℕ, Bool, true, false, List, [], ◌++◌, Option, None, Some}
use Rattle.word_mon.specs.declared.terminal.Terminal.{Terminal}
use Rattle.word_mon.specs.Views.{has_pages_of, meant_by}
use Rattle.mon_lines.specs.declared.command.Drawing.{Drawing}
use Rattle.mon_lines.specs.declared.command.Drawing.TheVariants.{More, Clear, Size}
use Rattle.mon_screen.specs.View.{view_text}
use Rattle.mon_screen.specs.declared.view.View.{View}
use Rattle.mon_session.specs.Course.{ShowsOnly}
use Rattle.mon_session.specs.declared.mon_state.MonState.{MonState}

-- Only the text has changed.
abbrev pub Rests : Terminal → Terminal → Type 0
Rests old new = ShowsOnly old.mon new.mon × (new.view ≡ old.view) × (new.notes ≡ old.notes)
    × (new.loaded ≡ old.loaded) × (new.words ≡ old.words) × (new.answered ≡ old.answered)

-- ---- what is written

-- The text, or a screen with it if one is drawn.
abbrev pub drawn : Option View → MonState → List ℕ → List ℕ
drawn None mon text = text
drawn (Some view) mon text = view_text view mon.session.current mon.places text

-- What is written of a line, of which so much is said. A line that ends the session draws no
-- screen, and has no prompt behind it.
abbrev pub answer_text : Bool → List ℕ → Terminal → List ℕ → List ℕ
answer_text true prompt terminal said = said
answer_text false prompt terminal said = drawn terminal.view terminal.mon said ++ prompt

-- The answer that is kept for the screen: what was said, if one is drawn.
abbrev pub answered_after : Option View → List ℕ → List ℕ → List ℕ
answered_after None said before = before
answered_after (Some view) said before = said

-- What was said is kept, and nothing else changes.
pub record IsKept (old new : Terminal) : Type 0 where
  pub answered : new.answered.items
      ≡ answered_after old.view old.mon.text.items old.answered.items
  pub mon : new.mon ≡ old.mon
  pub view : new.view ≡ old.view
  pub notes : new.notes ≡ old.notes
  pub loaded : new.loaded ≡ old.loaded
  pub words : new.words ≡ old.words

-- What a line says that has the screen drawn again: what it showed of an answer, or nothing.
abbrev pub said_again : Drawing → List ℕ → List ℕ
said_again More answered = answered
said_again Clear answered = []
said_again (Size columns rows) answered = answered

-- The line that a typed one stands for at a terminal.
abbrev pub meant : Terminal → List ℕ → List ℕ
meant terminal line = meant_by (has_pages_of terminal.view terminal.answered.items) line

-- A terminal at which no screen is drawn.
abbrev pub without_screen : Terminal → Terminal
without_screen terminal = record terminal { view = None }
