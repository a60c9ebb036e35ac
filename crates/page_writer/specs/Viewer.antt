-- The viewer of a page. Source: mos65.
use Rattle.std.specs.Prelude.{◌≡◌}
use Rattle.page_writer.specs.declared.pieces.TheConstants.{BEFORE_END, BEFORE_RUN, BEFORE_SOURCE, HEAD, TAIL}
use Rattle.page_writer.specs.declared.page.Template.{Template}

-- The parts of a template are the pieces that `tools/viewer` makes of the files in viewer/.
pub record IsViewer (template : Template) : Type 0 where
  pub head : template.head.now ≡ HEAD.now
  pub before_source : template.before_source.now ≡ BEFORE_SOURCE.now
  pub before_run : template.before_run.now ≡ BEFORE_RUN.now
  pub before_end : template.before_end.now ≡ BEFORE_END.now
  pub tail : template.tail.now ≡ TAIL.now
