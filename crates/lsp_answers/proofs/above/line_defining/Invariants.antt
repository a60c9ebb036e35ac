use Rattle.std.proofs.Common.{◌≡◌, drop}
use Rattle.lsp_answers.specs.Above.{line_defining}
use Rattle.name_uses.specs.Views.{use_views}
use Rattle.lsp_answers.proofs.above.line_defining.Given as goal

abbrev pub invariant-loop-one : goal.invariant-loop-one
invariant-loop-one l = line_defining (use_views l.uses) l.name l.other ≡ line_defining (use_views (drop l.one-index l.uses)) l.name l.other
