-- Why a trace is cut short.
use Rattle.arguments.specs.Files.{EndsWriting}
use Rattle.arguments.specs.declared.refusal.Refusal.{Refusal}
use Rattle.arguments.specs.declared.refusal.Refusal.TheVariants.{Words, Map, Source, Tape, Session, OutOfMemory, Read, Write, WriteFile}
use Rattle.word_trace.specs.Traces.{IsOfStreams}

-- A file that is not written may cut a trace short.
pub ends_writing : (refusal : Refusal) → EndsWriting refusal → IsOfStreams refusal
ends_writing Words ends = absurd ends
ends_writing (Map fault) ends = absurd ends
ends_writing (Source fault) ends = absurd ends
ends_writing (Tape fault) ends = absurd ends
ends_writing (Session fault) ends = absurd ends
ends_writing OutOfMemory ends = tt
ends_writing (Read why) ends = absurd ends
ends_writing Write ends = tt
ends_writing (WriteFile why) ends = tt
