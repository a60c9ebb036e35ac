-- The exit status of a word that ends without an answer. Source: mos65.
use Rattle.std.specs.Prelude.{ℕ}
use Rattle.arguments.specs.declared.load_fault.LoadFault.{LoadFault}
use Rattle.arguments.specs.declared.load_fault.LoadFault.TheVariants.{AtPort, Faults, LooksLikeCapture, LooksLikeHex, LooksLikeRaw, LooksLikeSRecords, LooksLikeTape, NoImage, Refused}
use Rattle.arguments.specs.declared.refusal.Refusal.{Refusal}
use Rattle.arguments.specs.declared.refusal.Refusal.TheVariants.{Words, Map, Source, Tape, Session, OutOfMemory, Read, Write, WriteFile}

-- 1 for a source or a tape, 2 for the words or the map, 3 for memory, 4 for reading or writing
abbrev pub status_of : Refusal → ℕ
status_of Words = 2
status_of (Map fault) = 2
status_of (Source fault) = 1
status_of (Tape fault) = 1
status_of (Session fault) = 1
status_of OutOfMemory = 3
status_of (Read fault) = 4
status_of Write = 4
status_of (WriteFile fault) = 4

-- 1 for a source with faults and for a file that is no image, 2 for an image that is given as a
-- source; otherwise that of the refusal
abbrev pub status_of_load : LoadFault → ℕ
status_of_load LooksLikeTape = 2
status_of_load LooksLikeHex = 2
status_of_load LooksLikeSRecords = 2
status_of_load LooksLikeRaw = 2
status_of_load LooksLikeCapture = 2
status_of_load (NoImage place what number note) = 1
status_of_load (Faults fault text) = 1
status_of_load (AtPort first last free) = 1
status_of_load (Refused refusal) = status_of refusal
