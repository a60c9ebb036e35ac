use Rattle.std.proofs.Common.{◌∙◌, List, ap, ℕ}
use Rattle.dap_views.specs.Named.{without_behind}
use Rattle.dap_views.proofs.named.meant_at.Goals as goal

pub returns : goal.returns
returns c = c.without_behind.ensures ∙ ap (λ (behind : List ℕ). without_behind behind c.args.text.now) (c.as_slice.ensures.value ∙ c.in_ok-behind.ensures)
