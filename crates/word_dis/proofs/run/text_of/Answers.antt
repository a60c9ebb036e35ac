use Rattle.std.proofs.Common.{option_map, subst}
use Rattle.word_dis.specs.Views.{source_view}
use Rattle.word_dis.specs.Written.{IsWritten}
use Rattle.word_dis.proofs.Images.{with_image, with_names}
use Rattle.word_dis.proofs.run.text_of.Goals as goal

pub returns-in-Ok-written-clause-source : goal.returns-in-Ok-written-clause-source
returns-in-Ok-written-clause-source g c =
    let same = with_names (λ b. b.now) (λ a. a.names) c.as_ref.result c.in_ok-names.names.assembly c.as_ref.ensures.value in
    let made = subst (λ n. IsWritten (source_view c.args.words.now) c.in-Ok.image n c.in-Ok-written.source.text.items c.in-Ok-written.source.at_port
    c.in-Ok-written.source.left_out) same c.in-Ok-written.ensures in
    with_image (source_view c.args.words.now) c.in-Ok.image (option_map (λ a. a.names) c.in_ok-names.names.assembly)
    c.in_ok-names.names.left_out.items _ _ _ c.in-Ok.ensures.found c.in_ok-names.ensures.given made
