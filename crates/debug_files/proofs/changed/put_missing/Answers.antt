use Rattle.std.proofs.Common.{◌∙◌, List, ℕ, ◌++◌}
use Rattle.arguments.specs.FaultLines.{line_of}
use Rattle.debug_files.proofs.Told.{parts_told}
use Rattle.model.specs.Writers.{AppendsFront}
use Rattle.debug_files.proofs.changed.put_missing.Goals as goal

pub returns : goal.returns
returns g c =
    parts_told (λ rest. AppendsFront (g.E.Write.contents c.args.errors.now) (g.E.Write.contents c.put_named.new.errors) (line_of c.args.file.now rest))
    _ _ _ _ _ _ _ _ _ _ _ _ _ _ c.as_bytes.ensures.value (c.as_slice.ensures.value ∙ c.number_text-missing.ensures) c.as_bytes-2.ensures.value
    (c.as_slice-2.ensures.value ∙ c.number_text-count.ensures) c.as_bytes-3.ensures.value c.as_slice-3.ensures.value c.as_bytes-4.ensures.value
    c.put_named.ensures
