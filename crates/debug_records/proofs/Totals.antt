-- How many bytes the spans of lines have, added one after another.
use Rattle.std.specs.Prelude.{ℕ, ◌+◌, List}
use Rattle.std.specs.List.{fold}
use Rattle.debug_records.specs.Info.{Info, use_size}
use Rattle.debug_records.specs.declared.info.Use.{Use}

-- the bytes of some uses, behind so many others
abbrev pub total_of : Info → ℕ → List Use → ℕ
total_of info total uses = fold (λ a used. a + use_size info used) total uses
