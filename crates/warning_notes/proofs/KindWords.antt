-- A word is no longer than its text.
use Rattle.std.proofs.lemmas.List.Sums.{prefix_len-le-length}

pub ruleset word_steps = prefix_len-le-length
