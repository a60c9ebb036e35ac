-- The command line is of the kind whose parse clap's definitions say.
use Rattle.std.proofs.Common.{◌≡◌, true, refl}
use Rattle.clap.proofs.OnLiterals.{clap_on_literals}
use Rattle.clap.specs.Words.{is_simple, is_simple_and_free}
use Rattle.word_convert.specs.ListingCommandLine.{dis}

pub dis_free : is_simple_and_free dis ≡ true
unfolding clap_on_literals
dis_free = refl

pub dis_simple : is_simple dis ≡ true
unfolding clap_on_literals
dis_simple = refl
