-- The command lines are of the kind whose parse clap's definitions say.
use Rattle.std.proofs.Common.{◌≡◌, true, refl}
use Rattle.clap.proofs.OnLiterals.{clap_on_literals}
use Rattle.clap.specs.Words.{is_simple, is_simple_and_free}
use Rattle.tape_words.specs.CommandLines.{cmp, info, mend}

pub info_free : is_simple_and_free info ≡ true
unfolding clap_on_literals
info_free = refl

pub info_simple : is_simple info ≡ true
unfolding clap_on_literals
info_simple = refl

pub cmp_free : is_simple_and_free cmp ≡ true
unfolding clap_on_literals
cmp_free = refl

pub cmp_simple : is_simple cmp ≡ true
unfolding clap_on_literals
cmp_simple = refl

pub mend_free : is_simple_and_free mend ≡ true
unfolding clap_on_literals
mend_free = refl

pub mend_simple : is_simple mend ≡ true
unfolding clap_on_literals
mend_simple = refl
