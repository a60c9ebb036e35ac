use Rattle.std.proofs.Common.{◌≡◌, ℤ, List, ap, map, refl, rules, subst, w64}
use Rattle.std.proofs.lemmas.Int.{to_z-of_z}
use mir.Val.{SFits}
use Rattle.dap_messages.specs.SeenAnswers.{answer_view, breakpoints_body, item_view}
use Rattle.dap_messages.specs.declared.item.Item.{Item}
use Rattle.dap_messages.specs.declared.counting.Counting.{Counting}
use Rattle.dap_views.specs.Frames.{AreFrames}
use Rattle.dap_views.specs.Rows.{disassembled}
use Rattle.dap_views.specs.declared.source.FilePath.{FilePath}
use Rattle.std.specs.Result.{IfOk}
use Rattle.dap_session.proofs.answering.shown.Goals as goal

pub returns-in-Threads : goal.returns-in-Threads
returns-in-Threads g c = rw c.in-Threads.is refl

pub returns-in-Scopes : goal.returns-in-Scopes
returns-in-Scopes g c = rw c.in-Scopes.is c.scopes_shown.ensures

pub returns-in-Variables : goal.returns-in-Variables
returns-in-Variables g c = rw c.in-Variables.is c.variables_shown.ensures

pub returns-in-ReadMemory : goal.returns-in-ReadMemory
returns-in-ReadMemory g c = rw c.in-ReadMemory.is c.memory_shown.ensures

pub returns-in-DataBreakpointInfo : goal.returns-in-DataBreakpointInfo
returns-in-DataBreakpointInfo g c = rw c.in-DataBreakpointInfo.is c.data_shown.ensures

pub returns-in-Completions : goal.returns-in-Completions
returns-in-Completions g c = rw c.in-Completions.is c.completions.ensures

pub returns-in-Pause : goal.returns-in-Pause
returns-in-Pause g c = rw c.in-Pause.is refl

pub returns-in-Cancel : goal.returns-in-Cancel
returns-in-Cancel g c = rw c.in-Cancel.is refl

pub returns-in-StackTrace : goal.returns-in-StackTrace
returns-in-StackTrace g c =
    let source = c.source_of-source.ensures in
    let from = c.source_of-source.result in
    let mon = c.args.client.now.mon in
    let page = c.in-StackTrace.page in
    rw c.in-StackTrace.is
    (subst (λ (k : Counting). IfOk c.frames_shown.result
    (λ v. AreFrames mon.session.current mon.places c.args.client.now.files.items k page (answer_view v))) source.counting
    (subst (λ (fs : List FilePath). IfOk c.frames_shown.result
    (λ v. AreFrames mon.session.current mon.places fs from.counting page (answer_view v))) source.files c.frames_shown.ensures))

pub returns-in-Disassemble : goal.returns-in-Disassemble
returns-in-Disassemble g c =
    let source = c.source_of-source.ensures in
    let from = c.source_of-source.result in
    let asked = c.in-Disassemble in
    let fits : SFits w64 asked.offset = search rules in
    let same = to_z-of_z w64 asked.offset fits in
    rw (c.in-Disassemble.is, ← source.files, ← source.counting)
    (subst (λ (z : ℤ). IfOk c.disassembled.result (λ v. answer_view v
    ≡ disassembled c.args.client.now.mon from.files.now from.counting asked.address z asked.count)) same c.disassembled.ensures)

pub returns-in-GotoTargets : goal.returns-in-GotoTargets
returns-in-GotoTargets g c =
    let source = c.source_of-source.ensures in
    rw (c.in-GotoTargets.is, ← source.files, ← source.counting) c.goto_targets.ensures

pub returns-in-BreakpointLocations : goal.returns-in-BreakpointLocations
returns-in-BreakpointLocations g c =
    let source = c.source_of-source.ensures in
    rw (c.in-BreakpointLocations.is, ← source.files, ← source.counting) c.breakpoint_locations.ensures

pub returns-in-LoadedSources : goal.returns-in-LoadedSources
returns-in-LoadedSources g c = rw (c.in-LoadedSources.is, ← c.as_slice.ensures.value) c.sources_shown.ensures

pub returns-in-ExceptionInfo : goal.returns-in-ExceptionInfo
returns-in-ExceptionInfo g c = rw (c.in-ExceptionInfo.is, ← c.as_str.ensures.value) c.exception.ensures

pub returns-in-SetExceptionBreakpoints : goal.returns-in-SetExceptionBreakpoints
returns-in-SetExceptionBreakpoints g c = rw c.in-SetExceptionBreakpoints.is
    (ap (λ (list : List Item). breakpoints_body (map item_view list)) c.new.ensures.items)
