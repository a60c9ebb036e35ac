use Rattle.std.proofs.Common.{◌≡◌, List, Option, Some, option_map, subst, ℕ}
use Rattle.arguments.specs.Asked.{file_view, map_of}
use Rattle.loading.specs.Warned.{TellsWarnings}
use Rattle.word_mon.proofs.starting.warning_line_of.Goals as goal

pub returns : goal.returns
returns c = (
  c.tell_warnings.new.errors.items,
  subst (λ (held : List ℕ). TellsWarnings (map_of (file_view c.args.words.now.file)) (option_map (λ a. a.now) c.args.assembly) 0 c.args.fill (record {
    held = Some held;
    now = Some c.tell_warnings.new.errors.items;
  })) c.new-line.ensures.items c.tell_warnings.ensures,
  c.tell_changed.ensures.told,
)
