use Rattle.std.proofs.Common.{◌∙◌, ap, refl}
use Rattle.std.specs.Str.Lossy.{utf8_lossy}
use Rattle.dap_session.proofs.console.serve_line.Goals as goal

pub returns : goal.returns
returns c = (
  record c.args.mon.now { text = c.clear.new.self },
  c.serve.new.mon,
  (refl, refl, refl, refl, refl),
  c.clear.ensures.items,
  c.in_ok-is_over.ensures,
  (refl, refl, refl, refl, refl),
  c.in_ok-said.ensures.lossy ∙ ap utf8_lossy c.as_slice.ensures.value,
)
