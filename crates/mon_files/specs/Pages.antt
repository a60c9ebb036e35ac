-- The page of what a session holds, and what the line does that asks for it. Source: mos65.
use Rattle.std.specs.Prelude.{◌≡◌, ℕ, nat_lt, if◌then◌else◌, List, length}
use Rattle.model.specs.Session.{Session}
use Rattle.mon_dispatch.specs.Lines.{Says}
use Rattle.mon_files.specs.Held.{oldest, shown_again}
use Rattle.mon_files.specs.declared.wording.TheConstants.{HERE}
use Rattle.mon_session.specs.Course.{Course, KeepsStops, course_of}
use Rattle.mon_session.specs.declared.mon_state.MonState.{MonState}
use Rattle.page_data.specs.Events.{HoldsSession}
use Rattle.page_writer.specs.Viewer.{IsViewer}
use Rattle.page_writer.specs.Page.{AreSafe, page_text}
use Rattle.page_writer.specs.declared.page.Template.{Template}
use Rattle.page_writer.specs.declared.page.Texts.{Texts}

-- A text is the page of a session: the viewer's parts, and between them facts, a source, the data
-- of what is held, and where they end. Nothing between the parts ends a script or begins markup.
pub record IsPageOf (before after : Session) (text : List ℕ) : Type 0 where
  pub template : Template
  pub viewer : IsViewer template
  pub texts : Texts
  pub bytes : List ℕ
  pub whole : text ≡ page_text template texts bytes HERE.now
  pub safe : AreSafe texts bytes HERE.now
  pub held : HoldsSession (oldest before) bytes after

-- What becomes of a session whose page is written: if it holds an event, it goes back and comes
-- again.
abbrev pub after_page : Course → Course
after_page course = if nat_lt 0 (length course.0.earlier) then shown_again course else course

-- Something is said of the page. The session goes back over the events that it holds, and comes again
-- by the same.
abbrev pub ShowsPage : MonState → MonState → Type 0
ShowsPage old new = KeepsStops old new × ((said : List ℕ) × Says said old new)
    × (course_of new ≡ after_page (course_of old))
