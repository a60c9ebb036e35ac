-- Lines of the console. Source: Debug Adapter Protocol 1.65, "Evaluate Request"; mos65.
use Rattle.std.specs.Prelude.{ℕ, ◌≡◌, ⊤, is_ok, Bool, true, false, List, [], ◌∷◌, string_bytes, Option, Some, None}
use Rattle.std.specs.Str.Lossy.{utf8_lossy}
use Rattle.dap_messages.specs.SeenAnswers.{SeenAnswer, evaluated_body}
use Rattle.dap_messages.specs.Events.{terminated}
use Rattle.dap_messages.specs.Messages.{Said, done, event}
use Rattle.dap_session.specs.declared.client.Client.{Client}
use Rattle.dap_session.specs.declared.fault.Fault.{Fault}
use Rattle.dap_session.specs.declared.fault.Fault.TheVariants as fault
use Rattle.dap_session.specs.Told.{IsDone}
use Rattle.dap_views.specs.Locals.{IsLocalLook, frame_number}
use Rattle.dap_views.specs.Looks.{look_at}
use Rattle.mon_dispatch.specs.Lines.{Serves, read_at}
use Rattle.mon_lines.specs.Lines.{SeenLine}
use Rattle.mon_session.specs.Course.{ShowsOnly}
use Rattle.mon_session.specs.declared.mon_state.MonState.{MonState}

-- ---- a line of `mon`

-- A line that was read is served, and this is what it says.
abbrev pub ServesRead : SeenLine → Bool → MonState → MonState → List ℕ → Type 0
ServesRead line is_over old new said = (begun : MonState) × (served : MonState)
    × ShowsOnly old begun × (begun.text.items ≡ [])
    × Serves line is_over begun served
    × ShowsOnly served new × (said ≡ utf8_lossy served.text.items)

-- Whether a text can be read as a line.
abbrev pub is_line : MonState → List ℕ → Bool
is_line mon text = is_ok (read_at mon text).asked

-- A line that ends the session is said to have ended it.
abbrev pub over : Said
over = event terminated

-- ---- what is looked at

-- What it shows is answered.
abbrev pub Looks : MonState → List ℕ → List Said → Type 0
Looks mon text said = (v : SeenAnswer)
    × (look_at mon.session.current mon.places text ≡ Some v) × (said ≡ done v ∷ [])

-- ---- which of them is asked for

-- A line is served, what it says is answered, and it is noted whether it ends the session; or what is
-- looked at is answered, and nothing is changed.
abbrev pub EvaluatesAs : Bool → List ℕ → Client → Client → List Said → Type 0
EvaluatesAs true text old new said = (is_over : Bool) × (words : List ℕ)
    × ServesRead (read_at old.mon text) is_over old.mon new.mon words
    × IsDone (evaluated_body words) said × (new.told.is_over ≡ is_over)
EvaluatesAs false text old new said = (new ≡ old) × Looks old.mon text said

-- A local of the frame that is named comes before what the text names otherwise.
abbrev pub LooksBy : Option SeenAnswer → MonState → List ℕ → List Said → Type 0
LooksBy (Some v) mon text said = said ≡ done v ∷ []
LooksBy None mon text said = Looks mon text said

abbrev pub LooksIn : Option ℕ → MonState → List ℕ → List Said → Type 0
LooksIn frame mon text said = (local : Option SeenAnswer)
    × IsLocalLook mon.session.current mon.places (frame_number frame) text local
    × LooksBy local mon text said

-- A text of the console is served as a line if it can be read as one. Any other text is looked at.
abbrev pub Evaluates : Bool → Option ℕ → List ℕ → Client → Client → List Said → Type 0
Evaluates true frame text old new said = EvaluatesAs (is_line old.mon text) text old new said
Evaluates false frame text old new said = (new ≡ old) × LooksIn frame old.mon text said

-- ---- what a refused request changes: nothing of the session

abbrev pub ShowsIfRefused : Fault → MonState → MonState → Type 0
ShowsIfRefused (fault.Refused words) old new = ShowsOnly old new
ShowsIfRefused fault.OutOfMemory old new = ⊤

-- A request is refused with these words, or memory ran out.
abbrev pub IsRefusal : List ℕ → Fault → Type 0
IsRefusal words (fault.Refused own) = string_bytes own ≡ words
IsRefusal words fault.OutOfMemory = ⊤
