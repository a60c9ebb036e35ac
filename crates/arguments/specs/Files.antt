-- Why a file is not read or written. No clause can say whether memory is there, nor what is in a
-- file. Source: mos65.
use Rattle.std.specs.Prelude.{⊤}
use Rattle.arguments.specs.declared.refusal.Refusal.{Refusal}
use Rattle.arguments.specs.declared.refusal.Refusal.TheVariants.{OutOfMemory, Read, Write, WriteFile}

-- Why a file is not read.
abbrev pub EndsReading : Refusal → Type 0
EndsReading OutOfMemory = ⊤
EndsReading (Read fault) = ⊤
EndsReading fault = ⊥

-- Why a file is not written.
abbrev pub EndsWriting : Refusal → Type 0
EndsWriting OutOfMemory = ⊤
EndsWriting Write = ⊤
EndsWriting (WriteFile fault) = ⊤
EndsWriting fault = ⊥
