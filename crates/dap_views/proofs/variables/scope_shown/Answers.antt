use Rattle.std.proofs.Common.{◌+◌, ◌-◌, ◌∙◌, List, ap, subst}
use Rattle.dap_messages.specs.SeenAnswers.{SeenItem}
use Rattle.dap_views.specs.Pages.{IsPage}
use Rattle.dap_views.specs.Scopes.{cells, symbols_shown}
use Rattle.dap_views.specs.Variables.{flags_shown, registers_shown}
use Rattle.model.specs.declared.registers.Regs.{Regs}
use Rattle.source_map.specs.Names.{Named}
use Rattle.dap_views.proofs.variables.scope_shown.Goals as goal

pub returns-in-Registers : goal.returns-in-Registers
returns-in-Registers c = rw c.in-Registers.is (λ asked is.
    subst (λ (ds : List SeenItem). IsPage asked ds c.registers.result) (ap (λ (regs : Regs). registers_shown regs) c.regs.ensures)
    (c.registers.ensures asked is))

pub returns-in-Flags : goal.returns-in-Flags
returns-in-Flags c = rw c.in-Flags.is (λ asked is.
    subst (λ (ds : List SeenItem). IsPage asked ds c.flags.result) (ap (λ (regs : Regs). flags_shown regs.flags) c.regs-in-Flags.ensures)
    (c.flags.ensures asked is))

pub returns-in-Symbols : goal.returns-in-Symbols
returns-in-Symbols c = rw c.in-Symbols.is (λ asked is.
    subst (λ (ds : List SeenItem). IsPage asked ds c.symbols.result)
    (ap (λ (names : List Named). symbols_shown c.args.mon.now.session.current.bus.memory names) (c.all.ensures ∙ c.names.ensures))
    (c.symbols.ensures asked is))

pub returns-in-Stack : goal.returns-in-Stack
returns-in-Stack c = rw c.in-Stack.is (λ asked is.
    subst (λ (ds : List SeenItem). IsPage asked ds c.cells.result)
    (ap (λ s. cells c.args.mon.now.session.current.bus.memory (257 + s) (512 - (257 + s)))
    (c.from.ensures ∙ ap (λ (regs : Regs). regs.s) c.regs-in-Stack.ensures)) (c.cells.ensures asked is))

pub returns-in-ZeroPage : goal.returns-in-ZeroPage
returns-in-ZeroPage c = rw c.in-ZeroPage.is c.cells-in-ZeroPage.ensures

pub returns-in-Machine : goal.returns-in-Machine
returns-in-Machine c = rw c.in-Machine.is c.machine.ensures

pub returns-in-Word : goal.returns-in-Word
returns-in-Word c = rw c.in-Word.is c.word_shown.ensures
