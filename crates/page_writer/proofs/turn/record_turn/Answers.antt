use Rattle.std.proofs.Common.{◌≡◌, ◌∙◌, ◌++◌, ◌<◌, ◌^◌, [], length, List, ℕ, refl, sym, ap, subst}
use Rattle.console.specs.Turns.{known}
use Rattle.page_data.specs.Format.{bytes_of}
use Rattle.page_data.specs.Steps.{change_of}
use Rattle.page_writer.proofs.Turning.{turn_step}
use Rattle.page_writer.proofs.turn.record_turn.Goals as goal

pub returns-in-Ok-Some-clause-ok : goal.returns-in-Ok-Some-clause-ok
returns-in-Ok-Some-clause-ok c =
    let turn = rw c.in-Ok-Some.field-0-is at c.in-Ok-Some.ensures.ok in
    record { told = turn.0; consumes = turn.1; over = turn.2; once = turn.3; turn = turn.4; records = refl }

pub returns-in-Ok-clause-ok : goal.returns-in-Ok-clause-ok
returns-in-Ok-clause-ok c =
    let s = c.args.session.now in
    let t = c.take_turn.new.session in
    let turn = rw c.in-Ok-None.field-0-is at c.in-Ok-None.ensures.ok in
    let given : c.read_of-given.result.now ≡ turn.0 = c.read_of-given.ensures.read turn.0 turn.1 in
    let made = turn_step s t (known c.args.player.now) (known c.take_turn.new.player) turn.0 c.is_state.ensures (turn.4 [] (λ is. refl)) in
    record {
      told = turn.0;
      consumes = turn.1;
      over = turn.2;
      once = turn.3;
      turn = turn.4;
      records = record {
        sound = c.is_state.ensures;
        few = subst (λ (l : List ℕ). length l < 2 ^ 64) given c.read_of-given.ensures.few;
        made = made;
        pushed = c.in-Ok.ensures.ok s.current c.look_ahead-ahead.ensures
            ∙ ap (λ (l : List ℕ). c.args.pending.now.items ++ bytes_of (change_of l s.current t.current)) given;
      };
    }
