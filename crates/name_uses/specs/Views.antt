-- Names without where they lie in memory.
use Rattle.std.specs.Prelude.{List, map}
use Rattle.name_uses.specs.Uses.{Use}
use Rattle.name_uses.specs.declared.name_use.NameUse.{NameUse}

abbrev pub use_view : NameUse → Use
use_view u = record { line = u.line; start = u.start; text = u.text.now; defines = u.defines }

abbrev pub use_views : List NameUse → List Use
use_views uses = map use_view uses
