-- The debug information that words ask for. Source: mos65.
use Rattle.std.specs.Prelude.{Option, Some, None}
use Rattle.arguments.specs.Asked.{FileAsked}
use Rattle.arguments.specs.declared.file_options.FileForm.{FileForm}
use Rattle.arguments.specs.declared.file_options.FileForm.TheVariants.{Source}
use Rattle.clap.specs.Words.{Text}

-- Debug information is that of an image.
abbrev pub debug_asked : FileForm → Option Text → Option (Option Text)
debug_asked Source (Some file) = None
debug_asked form file = Some file

abbrev pub debug_for : Option FileAsked → Option Text → Option (Option Text)
debug_for None debug = None
debug_for (Some file) debug = debug_asked file.form debug
