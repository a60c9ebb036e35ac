-- The command line is of the kind whose parse clap's definitions say.
use Rattle.std.proofs.Common.{◌≡◌, true, refl}
use Rattle.clap.proofs.OnLiterals.{clap_on_literals}
use Rattle.clap.specs.Words.{is_simple, is_simple_and_free}
use Rattle.word_convert.specs.CommandLine.{convert}

pub convert_free : is_simple_and_free convert ≡ true
unfolding clap_on_literals
convert_free = refl

pub convert_simple : is_simple convert ≡ true
unfolding clap_on_literals
convert_simple = refl
