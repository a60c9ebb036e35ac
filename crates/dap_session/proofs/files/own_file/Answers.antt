use Rattle.std.proofs.Common.{◌∙◌, ◌∷◌, ◌++◌, [], List, ap, map}
use Rattle.std.specs.Prelude.{ℕ}
use Rattle.dap_session.specs.Paths.{path_of}
use Rattle.dap_views.specs.declared.source.FilePath.{FilePath}
use Rattle.dap_session.proofs.files.own_file.Goals as goal

pub returns : goal.returns
returns c =
    ap (map path_of) (c.in_ok-push.ensures.items ∙ ap (λ (files : List FilePath). files ++ c.in_ok-named.named ∷ []) c.new-files.ensures.items)
    ∙ ap (λ (path : List ℕ). path ∷ []) (c.in_ok-named.ensures ∙ c.in_ok-whole.ensures.ok)
