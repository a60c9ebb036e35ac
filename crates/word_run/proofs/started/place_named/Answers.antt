use Rattle.std.proofs.Common.{List, ℕ, Option, sym, subst}
use Rattle.std.specs.Borrow.{Bor}
use Rattle.std.specs.Prelude.{option_map}
use Rattle.model.specs.Writers.{AppendsFront}
use Rattle.word_run.specs.Told.{unplaced_line}
use Rattle.word_run.proofs.started.place_named.Goals as goal

pub returns-in-None-place_known-clause-told : goal.returns-in-None-place_known-clause-told
returns-in-None-place_known-clause-told g c =
    let T : Option (Bor (List ℕ)) → Type 0 = λ word. AppendsFront (g.E.Write.contents c.args.errors.now)
    (g.E.Write.contents c.tell_unplaced.new.errors) (unplaced_line (option_map (λ p. p.now) c.args.debug) (option_map (λ w. w.now) word)) in
    subst T (sym c.in-Some.is) c.tell_unplaced.ensures
