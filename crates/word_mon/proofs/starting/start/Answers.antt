use Rattle.std.proofs.Common.{◌∙◌, ap, Option, subst}
use Rattle.arguments.specs.Asked.{file_view, map_of}
use Rattle.arguments_play.specs.Mon.{mon_view}
use Rattle.assembler.specs.Assembly.{AssemblyView}
use Rattle.word_mon.proofs.Starts.{names_end}
use Rattle.word_mon.specs.Starts.{IsWarningLine, with_names}
use Rattle.word_mon.proofs.starting.start.Goals as goal

pub returns-clause-made : goal.returns-clause-made
returns-clause-made g c =
    let made = c.in_ok-mon.ensures.made in
    let named = c.in_ok-names.ensures.named in (
      c.in_ok-known.known.places,
      c.in_ok-known.ensures.places,
      named.0,
      named.1,
      record {
        session = rw made at c.new.ensures.session;
        events = rw made at c.new.ensures.events;
        breaks = rw made at c.new.ensures.breaks;
        watches = rw made at c.new.ensures.watches;
        changes = rw made at c.new.ensures.changes;
        displays = rw made at c.new.ensures.displays;
        text = rw made at c.new.ensures.text;
        places = (rw made at c.new.ensures.places) ∙ named.2;
      },
    )

pub returns-clause-warned : goal.returns-clause-warned
returns-clause-warned g c =
    subst (λ (o : Option AssemblyView). IsWarningLine (map_of (file_view c.args.words.now.file)) o c.args.loaded.fill
    (mon_view c.args.words.now).debug_info c.warning_line_of-warning_line.result.items)
    c.as_ref-source.ensures.value c.warning_line_of-warning_line.ensures

pub returns-in_err-names-clause-refused : goal.returns-in_err-names-clause-refused
returns-in_err-names-clause-refused g c =
    names_end (mon_view c.args.words.now).symbols (mon_view c.args.words.now).debug_info (file_view c.args.words.now.file) c.in_err-names.field-0.0
    c.from_residual-in_err-names.result
    c.in_err-names.ensures.refused c.from_residual-in_err-names.ensures.1
