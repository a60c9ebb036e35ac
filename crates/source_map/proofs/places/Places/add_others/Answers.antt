use Rattle.std.proofs.Common.{◌∙◌, ◌++◌, ap, take}
use Rattle.std.proofs.lemmas.Result.{IfErr-weaker}
use Rattle.source_map.specs.Lines.{PlacesView}
use Rattle.source_map.specs.Names.{other_names}
use Rattle.source_map.proofs.places.Places.add_others.Goals as goal

pub returns-clause-err : goal.returns-clause-err
returns-clause-err c = IfErr-weaker c.append_others.result _ _ (λ _ h. (
  h.0,
  λ i. record {
    names = (h.1 ∙ ap (λ (v : PlacesView). v.names ++ other_names (take h.0 c.args.names.now)) c.self.view_is) i;
    lines = (c.self.view_is i).lines;
    sites = (c.self.view_is i).sites;
    sources = (c.self.view_is i).sources;
    is_whole = (c.self.view_is i).is_whole;
    functions = (c.self.view_is i).functions;
  },
)) c.append_others.ensures.err
