-- What was read from the words, as what they ask for.
use Rattle.std.specs.Prelude.{option_map}
use Rattle.program.specs.Asked.{AsmAsked, Asked, DebugAsked, DisAsked, asm, debug, dis}
use Rattle.program.specs.declared.asked.AsmWords.{AsmWords}
use Rattle.program.specs.declared.asked.DebugWords.{DebugWords}
use Rattle.program.specs.declared.asked.DisWords.{DisWords}
use Rattle.program.specs.declared.asked.Words.{Words}
use Rattle.program.specs.declared.asked.Words.TheVariants.{Asm, Debug, Dis}

abbrev pub asm_view : AsmWords → AsmAsked
asm_view w = record {
  source = w.source.now;
  tape = w.tape.now;
  listing = option_map (λ s. s.now) w.listing;
  port = w.port;
  profile = w.profile;
}

abbrev pub dis_view : DisWords → DisAsked
dis_view w = record { tape = w.tape.now; first = w.first; last = w.last; profile = w.profile }

abbrev pub debug_view : DebugWords → DebugAsked
debug_view w = record {
  file = w.file.now;
  is_tape = w.is_tape;
  history = w.history;
  port = w.port;
  rom = w.rom;
  profile = w.profile;
}

abbrev pub view : Words → Asked
view (Asm w) = asm (asm_view w)
view (Dis w) = dis (dis_view w)
view (Debug w) = debug (debug_view w)
