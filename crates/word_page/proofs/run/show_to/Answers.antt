use Rattle.std.proofs.Common.{◌∙◌, ap, option_map, inl, Option}
use Rattle.assembler.specs.Assembly.{AssemblyView}
use Rattle.model.specs.declared.registers.Regs.{Regs}
use Rattle.word_page.specs.Asked.{page_view}
use Rattle.word_page.specs.Done.{start_in}
use Rattle.word_page.proofs.Running.{shown, told_at}
use Rattle.word_run.specs.Known.{known_by}
use Rattle.word_page.proofs.run.show_to.Goals as goal

pub returns-in-Ok : goal.returns-in-Ok
returns-in-Ok g c =
    let ran = c.in-Ok.ensures.ran in
    let end = c.in-Ok.played in
    let now = c.show_run.new.loaded.session in
    let file = c.args.words.now.file.file.now in
    let debug = option_map (λ p. p.now) c.args.debug in
    let source = c.args.loaded.now.assembly in
    let told = told_at (known_by file (option_map (λ a. a.now) c.as_ref-assembly.result) debug) (known_by file source debug) (record {
      held = g.E.Write.contents c.args.errors.now;
      now = g.E.Write.contents c.tell_ending.new.errors;
    }) end.ending end.steps c.regs-pc.result.pc now.current.regs.pc
    (ap (λ (a : Option AssemblyView). known_by file a debug) (c.as_ref-assembly.ensures.value ∙ c.in-Ok.ensures.assembly))
    (ap (λ (r : Regs). r.pc) c.regs-pc.ensures) c.tell_ending.ensures.told in
    shown (page_view c.args.words.now) debug (known_by file source debug) c.args.until
    (start_in c.args.words.now.is_free c.args.loaded.now.session c.args.loaded.now.written) now (record {
      held = g.E.Write.contents c.args.errors.now;
      now = g.E.Write.contents c.tell_ending.new.errors;
    }) end c.status_of_ending.result ran.0 ran.1 c.in-Ok.ensures.apart ran.2 c.status_of_ending.ensures told

pub returns-in-Err : goal.returns-in-Err
returns-in-Err g c = inl c.tell.ensures
