-- What is told by tables that were found.
use Rattle.std.proofs.Common.{◌≡◌, ◌∙◌, ℕ, List, [], ◌++◌, Option, Result, Ok, Err, ap, map, subst}
use Rattle.std.specs.List.{flat_map}
use Rattle.std.specs.Prelude.{⊤, OnOk}
use Rattle.std.specs.declared.alloc.AllocError.{AllocError}
use Rattle.c_frames.specs.declared.locals.Auto.{Auto}
use Rattle.c_frames.specs.declared.walk.Frame.{Frame}
use Rattle.call_frames.specs.Tables.{AreTablesIn, TablesView}
use Rattle.model.specs.State.{State}
use Rattle.call_frames.specs.Found.{autos_of}
use Rattle.source_map.specs.Functions.{FunctionView, LocalView, local_view}
use Rattle.source_map.specs.Lines.{PlacesView}
use Rattle.source_map.specs.declared.functions.CLocal.{CLocal}
use Rattle.mon_calls.specs.Calls.{ShowsCalls, frames_in, where_text}
use Rattle.mon_calls.specs.Locals.{ShowsLocals, if_any, local_text, locals_text, rows_of}

pub told_calls : (r : Result ⊤ AllocError) (s : State) (places : PlacesView) (old new : List ℕ) (found : Option TablesView) (frames : List Frame)
    → AreTablesIn s.bus.memory places found → frames ≡ frames_in found s.regs → OnOk r (new ≡ old ++ where_text s places frames)
    → OnOk r (ShowsCalls s places old new)
told_calls (Ok x) s places old new found frames tables is said = (found, tables, said ∙ ap (λ fs. old ++ where_text s places fs) is)
told_calls (Err e) s places old new found frames tables is said = tt

pub told_locals : (r : Result ⊤ AllocError) (s : State) (places : PlacesView) (number : Option ℕ) (old new : List ℕ) (found : Option TablesView)
    → AreTablesIn s.bus.memory places found → OnOk r (new ≡ old ++ locals_text s places number found) → OnOk r (ShowsLocals s places number old new)
told_locals (Ok x) s places number old new found tables said = (found, tables, said)
told_locals (Err e) s places number old new found tables said = tt

-- ---- rows that were found

pub rows_known : (t : TablesView) (memory : List ℕ) (frame : Frame) (function : FunctionView) (locals : List CLocal) (autos : List Auto) (start made : List ℕ)
    → start ≡ [] → map local_view locals ≡ function.locals → autos ≡ autos_of (map local_view locals)
    → made ≡ start ++ flat_map (local_text t memory frame autos) (map local_view locals) → made ≡ rows_of t memory frame function
rows_known t memory frame function locals autos start made none known found is =
    is ∙ (ap (λ s. s ++ flat_map (local_text t memory frame autos) (map local_view locals)) none
    ∙ (ap (λ (ls : List LocalView). flat_map (local_text t memory frame autos) ls) known
    ∙ ap (λ (os : List Auto). flat_map (local_text t memory frame os) function.locals) (found ∙ ap (λ (ls : List LocalView). autos_of ls) known)))

pub from_nothing : (start made rest : List ℕ) → start ≡ [] → made ≡ start ++ rest → made ≡ rest
from_nothing start made rest none is = is ∙ ap (λ s. s ++ rest) none

pub told_if_any : (r : Result ⊤ AllocError) (words old new found rows : List ℕ) → found ≡ rows → OnOk r (new ≡ old ++ if_any words found)
    → OnOk r (new ≡ old ++ if_any words rows)
told_if_any r words old new found rows is said = subst (λ (l : List ℕ). OnOk r (new ≡ old ++ if_any words l)) is said
