use Rattle.std.proofs.Common.{◌∙◌, ◌++◌, ap, take}
use Rattle.std.proofs.lemmas.Result.{IfErr-weaker}
use Rattle.source_map.specs.Lines.{PlacesView}
use Rattle.source_map.specs.Names.{named_numbers, names_of}
use Rattle.source_map.proofs.places.Places.add_names.Goals as goal

pub returns-clause-err : goal.returns-clause-err
returns-clause-err c = IfErr-weaker c.append.result _ _ (λ _ h. (
  h.0,
  λ i. record {
    names = (h.1 ∙ ap (λ (v : PlacesView). v.names ++ names_of c.args.assembly.now.image (take h.0 (named_numbers c.args.assembly.now))) c.self.view_is) i;
    lines = (c.self.view_is i).lines;
    sites = (c.self.view_is i).sites;
    sources = (c.self.view_is i).sources;
    is_whole = (c.self.view_is i).is_whole;
    functions = (c.self.view_is i).functions;
  },
)) c.append.ensures.err
