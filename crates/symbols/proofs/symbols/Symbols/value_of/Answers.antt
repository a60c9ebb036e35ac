use Rattle.std.proofs.Common.{ap, ◌∙◌, List, ℕ, ℤ}
use Rattle.model.specs.Names.{Definitions, number_in}
use Rattle.symbols.proofs.Lookups.{lookup_named}
use Rattle.symbols.proofs.symbols.Symbols.value_of.Goals as goal

pub returns : goal.returns
returns c =
    c.copied.ensures ∙ c.get.ensures.value ∙ lookup_named c.self.inside.map.entries c.args.name.now
    ∙ ap (λ (es : Definitions). number_in es c.args.name.now) c.self.view_is
