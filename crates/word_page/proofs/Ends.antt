-- Why there is no whole page, from why a file is not read or written.
use Rattle.arguments.specs.Files.{EndsReading, EndsWriting}
use Rattle.arguments.specs.declared.refusal.Refusal.{Refusal}
use Rattle.arguments.specs.declared.refusal.Refusal.TheVariants.{Map, OutOfMemory, Read, Session, Source, Tape, Words, Write, WriteFile}
use Rattle.word_page.specs.Done.{EndsFile}

pub reading_ends : (r : Refusal) → EndsReading r → EndsFile r
reading_ends OutOfMemory h = tt
reading_ends (Read why) h = tt
reading_ends Words h = absurd h
reading_ends (Map fault) h = absurd h
reading_ends (Source fault) h = absurd h
reading_ends (Tape fault) h = absurd h
reading_ends (Session fault) h = absurd h
reading_ends Write h = absurd h
reading_ends (WriteFile why) h = absurd h

pub unwritten_ends : (r : Refusal) → EndsWriting r → EndsFile r
unwritten_ends OutOfMemory h = tt
unwritten_ends Write h = tt
unwritten_ends (WriteFile why) h = tt
unwritten_ends Words h = absurd h
unwritten_ends (Map fault) h = absurd h
unwritten_ends (Source fault) h = absurd h
unwritten_ends (Tape fault) h = absurd h
unwritten_ends (Session fault) h = absurd h
unwritten_ends (Read why) h = absurd h
