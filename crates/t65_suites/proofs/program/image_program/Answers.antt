use Rattle.std.specs.Prelude.{option_map}
use Rattle.arguments.specs.Asked.{file_view}
use Rattle.t65_suites.proofs.Programs.{of_image}
use Rattle.t65_suites.proofs.program.image_program.Goals as goal

pub returns-in-Ok-names_for-clause-program : goal.returns-in-Ok-names_for-clause-program
returns-in-Ok-names_for-clause-program g c =
    of_image (file_view c.args.words.now) (option_map (λ s. s.now) c.args.symbols) c.args.map.now c.in-Ok.image c.in-Ok-names_for.names c.with_image.result
    c.requires.map c.requires.is_map c.requires.form c.in-Ok.ensures.found c.in-Ok.ensures.spared c.in-Ok-names_for.ensures.names c.with_image.ensures
