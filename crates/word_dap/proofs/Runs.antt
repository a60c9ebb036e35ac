-- Runs that go on.
use Rattle.std.proofs.Common.{◌≡◌, ◌∙◌, ℕ, ◌-◌, suc, Bool, true, false, List, [], ◌++◌, length, append_assoc, inr, map, Option, Some, None, refl, subst, sym, ap, take}
use Rattle.std.proofs.lemmas.List.{length-map, take-map}
use Rattle.clap.specs.Words.{Text}
use Rattle.word_dap.specs.Slices.{GoesOn, IsRun, IsRunCut, MayRunOn, RunsOn, but_last}
use Rattle.word_dap.specs.Attended.{Turns, status_of}
use Rattle.word_dap.specs.Sent.{AreBegun}
use Rattle.json_messages.specs.Sessions.{BeginsTurn}
use Rattle.word_dap.specs.Served.{Answers, ServesBody}
use Rattle.dap_messages.specs.Messages.{Said, said_of}
use Rattle.dap_messages.specs.declared.message.Message.{Message}
use Rattle.word_dap.specs.declared.adapter.Adapter.{Adapter}
use Rattle.serde_json.specs.Data.{Data}

pub runs_none : (run : Bool) (request : Data) (said : List Said) (a : Adapter) (n : ℕ) → RunsOn 0 run request said a n said a n []
unfolding RunsOn
runs_none run request said a n = (refl, refl, refl, refl)

pub runs_more : (again : ℕ) (run : Bool) (request : Data) (said : List Said) (a : Adapter) (n : ℕ) (more : List Said) (b : Adapter) (m : ℕ)
    (last : List Said) (c : Adapter) (k : ℕ) (front behind : List ℕ) → RunsOn again run request said a n more b m front
    → GoesOn run request more b m last c k behind → RunsOn (suc again) run request said a n last c k (front ++ behind)
unfolding RunsOn
runs_more again run request said a n more b m last c k front behind runs on = (more, b, m, front, behind, runs, on, refl)

-- the messages but the last say what all say but for the last
pub said_rest : (ms rest : List Message) (n : ℕ) → n ≡ length ms → rest ≡ take (n - 1) ms → map said_of rest ≡ but_last (map said_of ms)
said_rest ms rest n count is =
    ap (map said_of) is ∙ sym (take-map said_of (n - 1) ms) ∙ ap (λ (k : ℕ). take (k - 1) (map said_of ms)) (count ∙ sym (length-map ms said_of))

pub may_not : (seen : Option Text) → MayRunOn seen 0
may_not None = refl
may_not (Some file) = tt

pub turn_ends : (seen : Option Text) (body : List ℕ) (a : Adapter) (n : ℕ) (b : Adapter) (m : ℕ) (written : List ℕ)
    → Answers seen body a n b m true written → Turns seen body (a, n) (b, m) (Some 0) written
unfolding Turns
turn_ends seen body a n b m written h = (true, h, refl)

pub turn_goes_on : (seen : Option Text) (body : List ℕ) (a : Adapter) (n : ℕ) (b : Adapter) (m : ℕ) (written : List ℕ)
    → Answers seen body a n b m false written → Turns seen body (a, n) (b, m) None written
unfolding Turns
turn_goes_on seen body a n b m written h = (false, h, refl)

pub answers : (seen : Option Text) (body : List ℕ) (a : Adapter) (n : ℕ) (request : Data) (said : List Said) (run : Bool) (b : Adapter) (end : Bool)
    (c : Adapter) (m : ℕ) (written : List ℕ) → ServesBody body a b request said run end → IsRun seen run request said b n c m written
    → Answers seen body a n c m end written
unfolding Answers
answers seen body a n request said run b end c m written serves runs = (request, said, run, b, serves, runs)

-- ---- beginnings

-- A beginning of what is sent is one of a run.
pub run_begun : (seen : Option Text) (run : Bool) (request : Data) (said : List Said) (b : Adapter) (n again : ℕ) (last : List Said) (c : Adapter)
    (k : ℕ) (front behind : List ℕ) → MayRunOn seen again → RunsOn again run request said b n last c k front → AreBegun k request last behind
    → IsRunCut seen run request said b n (front ++ behind)
run_begun seen run request said b n again last c k front behind may runs begun = (again, may, last, c, k, front, behind, runs, begun, refl)

-- What was written of a run that is cut short is a beginning of an answer.
begins_by : (seen : Option Text) (body : List ℕ) (a : Adapter) (n : ℕ) (request : Data) (said : List Said) (run : Bool) (b : Adapter) (end : Bool)
    (again : ℕ) (last : List Said) (c : Adapter) (k : ℕ) (front behind : List ℕ) → ServesBody body a b request said run end → MayRunOn seen again
    → RunsOn again run request said b n last c k front → AreBegun k request last behind → BeginsTurn (Turns seen) body (a, n) (front ++ behind)
unfolding Turns
begins_by seen body a n request said run b end again last c k front behind serves may runs begun = inr (
  (c, begun.0),
  status_of end,
  front ++ begun.1,
  begun.2,
  (end, answers seen body a n request said run b end c begun.0 (front ++ begun.1) serves (again, may, last, k, front, begun.1, runs, begun.3, refl), refl),
  ap (λ (l : List ℕ). front ++ l) begun.4 ∙ sym (append_assoc front behind begun.2),
)

pub begins : (seen : Option Text) (body : List ℕ) (a : Adapter) (n : ℕ) (request : Data) (said : List Said) (run : Bool) (b : Adapter) (end : Bool)
    (written : List ℕ) → ServesBody body a b request said run end → IsRunCut seen run request said b n written → BeginsTurn (Turns seen) body (a, n) written
begins seen body a n request said run b end written serves cut =
    subst (BeginsTurn (Turns seen) body (a, n)) (sym cut.9) (begins_by seen body a n request said run b end cut.0 cut.2 cut.3 cut.4 cut.5 cut.6 serves
    cut.1 cut.7 cut.8)
