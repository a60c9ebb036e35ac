-- The command line is of the kind whose parse clap's definitions say.
use Rattle.std.proofs.Common.{◌≡◌, true, refl}
use Rattle.clap.proofs.OnLiterals.{clap_on_literals}
use Rattle.clap.specs.Words.{is_simple, is_simple_and_free}
use Rattle.word_convert.specs.DebugCommandLine.{debug}

pub debug_free : is_simple_and_free debug ≡ true
unfolding clap_on_literals
debug_free = refl

pub debug_simple : is_simple debug ≡ true
unfolding clap_on_literals
debug_simple = refl
