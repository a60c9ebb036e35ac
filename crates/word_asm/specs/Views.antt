-- What was read from the words, as what they ask for.
use Rattle.std.specs.Prelude.{option_map}
use Rattle.program.specs.Views.{asm_view}
use Rattle.word_asm.specs.Asked.{FilesAsked, ImageFiles}
use Rattle.word_asm.specs.declared.asked.ImageNames.{ImageNames}
use Rattle.word_asm.specs.declared.asked.FilesWords.{FilesWords}

abbrev pub images_view : ImageNames → ImageFiles
images_view w = record {
  raw = option_map (λ s. s.now) w.raw;
  hex = option_map (λ s. s.now) w.hex;
  srec = option_map (λ s. s.now) w.srec;
  fill = w.fill;
}

abbrev pub files_view : FilesWords → FilesAsked
files_view w = record {
  asm = asm_view w.asm;
  symbols = option_map (λ s. s.now) w.symbols;
  format = w.format;
  map = option_map (λ s. s.now) w.map;
  images = images_view w.images;
  cleans = w.cleans;
}
