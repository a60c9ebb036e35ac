use Rattle.std.proofs.Common.{[], ◌∷◌, codes, map}
use Rattle.arguments.specs.Words.{texts}
use Rattle.debug_images.specs.Parts.{part_view}
use Rattle.debug_images.specs.Words.{part_words}
use Rattle.debug_images.proofs.Joined.{joined}
use Rattle.debug_images.proofs.expanding.with_parts.Goals as goal

pub returns : goal.returns
returns c = joined (part_words c.args.file.now (map part_view c.args.parts.now)) (codes "--debug-info" ∷ c.args.file.now ∷ []) (texts c.args.rest.now)
    _ _ _ c.in_ok-words.ensures c.in_ok-push_words.ensures c.in_ok-push_words-2.ensures
