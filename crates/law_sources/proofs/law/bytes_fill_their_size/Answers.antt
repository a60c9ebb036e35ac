use Rattle.law_sources.proofs.Sizes.{bytes_fill}
use Rattle.law_sources.proofs.law.bytes_fill_their_size.Goals as goal

pub returns : goal.returns
returns c = bytes_fill
