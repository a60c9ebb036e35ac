use Rattle.std.proofs.Common.{◌∙◌, ℕ, Option, ap}
use Rattle.std.proofs.lemmas.Result.{IfOk-weaker}
use Rattle.dap_views.specs.Watches.{data_by, range_from}
use Rattle.dap_views.proofs.watches.place_data.Goals as goal

pub returns : goal.returns
returns c = IfOk-weaker c.data_of.result _ _ (λ v is. is ∙ ap data_by (c.range_from.ensures
    ∙ ap (λ (place : Option ℕ). range_from place c.args.count) c.place_meant.ensures)) c.data_of.ensures
