use Rattle.std.proofs.Common.{refl}
use Rattle.word_mon.proofs.Again.{on_ok_map}
use Rattle.word_mon.proofs.terminal.show.Goals as goal

pub returns-clause-shown : goal.returns-clause-shown
returns-clause-shown g c = on_ok_map c.show_page.result _ _ (λ shown. record {
  shown = shown;
  view = refl;
  notes = refl;
  loaded = refl;
  words = refl;
}) c.show_page.ensures.shown
