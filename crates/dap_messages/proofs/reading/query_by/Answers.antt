use Rattle.std.proofs.Common.{◌∙◌, rules, w64}
use Rattle.std.proofs.lemmas.Int.{to_z-of_z}
use Rattle.dap_messages.specs.Seen.{completions, disassemble, goto_targets, read_memory, scopes, stack_trace, variables}
use Rattle.dap_messages.proofs.reading.query_by.Goals as goal

pub returns-in-StackTrace : goal.returns-in-StackTrace
returns-in-StackTrace c = rw c.in-StackTrace.is (λ i. stack_trace (c.page_in.ensures i))

pub returns-in-Scopes : goal.returns-in-Scopes
returns-in-Scopes c = rw c.in-Scopes.is (λ i. scopes (c.number_at.ensures i))

pub returns-in-ReadMemory : goal.returns-in-ReadMemory
returns-in-ReadMemory c = rw c.in-ReadMemory.is (λ i. read_memory (c.memory_in.ensures i) (c.count_in.ensures i))

pub returns-in-Variables : goal.returns-in-Variables
returns-in-Variables c = rw c.in-Variables.is
    (λ i. variables (c.scope_in.ensures i) (c.page_in-in-Variables.ensures i))

pub returns-in-Disassemble : goal.returns-in-Disassemble
returns-in-Disassemble c = rw c.in-Disassemble.is
    (λ i. disassemble (c.memory_in-in-Disassemble.ensures i)
    ((to_z-of_z w64 c.offset_at.result (search rules) ∙ c.offset_at.ensures) i) (c.count_in-in-Disassemble.ensures i))

pub returns-in-GotoTargets : goal.returns-in-GotoTargets
returns-in-GotoTargets c = rw c.in-GotoTargets.is
    (λ i. goto_targets (c.text_or.ensures i) (c.number_at-in-GotoTargets.ensures i))

pub returns-in-BreakpointLocations : goal.returns-in-BreakpointLocations
returns-in-BreakpointLocations c = rw c.in-BreakpointLocations.is c.locations_query.ensures

pub returns-in-DataBreakpointInfo : goal.returns-in-DataBreakpointInfo
returns-in-DataBreakpointInfo c = rw c.in-DataBreakpointInfo.is c.data_query.ensures

pub returns-in-Completions : goal.returns-in-Completions
returns-in-Completions c = rw c.in-Completions.is
    (λ i. completions (c.text_or-in-Completions.ensures i) (c.number_at-in-Completions.ensures i))
