use Rattle.std.proofs.Common.{◌≡◌, drop}
use Rattle.t65_runner.specs.Passes.{given_all}
use Rattle.t65_failures.specs.Failures.{refusal_text}
use Rattle.t65_failures.proofs.detail.push_given.Given as goal

abbrev pub invariant-loop-item : goal.invariant-loop-item
invariant-loop-item l = record {
  text : l.text ≡ l.fn.text;
  given : given_all l.values (drop l.item-index l.items) l.session ≡ given_all l.values l.items l.fn.session;
  told : refusal_text l.about l.values (drop l.item-index l.items) l.session ≡ refusal_text l.about l.values l.items l.fn.session;
  stops : l.session.breaks ≡ l.fn.session.breaks;
}
