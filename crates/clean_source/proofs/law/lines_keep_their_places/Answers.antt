use Rattle.clean_source.proofs.Lines.{line_keeps_places, lines_are_cleaned}
use Rattle.clean_source.proofs.law.lines_keep_their_places.Goals as goal

pub returns : goal.returns
returns c = record { lines = lines_are_cleaned; columns = line_keeps_places }
