-- The image of a source's assembly.
use Rattle.std.proofs.Common.{◌≡◌, ℕ, Bool, Option, None, Some, refl, sym, subst}
use Rattle.arguments.specs.declared.file_options.FileForm.TheVariants.{Source}
use Rattle.assembler.specs.Assembly.{AssemblyView, IsAssembled}
use Rattle.loading.specs.Loads.{IsImageOf}
use Rattle.model.specs.State.{Map}

-- The image of a source's assembly is one that a file can have.
pub image_of_source : (omits : Bool) (bus_map : Map) (a : AssemblyView) (fill : Option ℕ) (held : Option AssemblyView) → held ≡ Some a → fill ≡ None
    → IsAssembled bus_map a → IsImageOf Source omits bus_map fill a.image held
image_of_source omits bus_map a fill held is whole assembled = subst (IsImageOf Source omits bus_map fill a.image) (sym is) (assembled, refl, whole)
