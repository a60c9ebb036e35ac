-- What the words of `page` ask for, by the values that clap's definition of a parse finds among
-- them. Source: mos65.
use Rattle.std.specs.Prelude.{ℕ, Bool, false, ◌||◌, List, Option, Some, None, codes, if◌then◌else◌, option_map}
use Rattle.std.specs.Str.{bytes_eq}
use Rattle.arguments.specs.Asked.{FileAsked, file_asked, file_view, is_flag}
use Rattle.arguments.specs.FileNames.{names_image}
use Rattle.arguments.specs.Values.{steps_asked}
use Rattle.arguments.specs.Words.{value_in}
use Rattle.arguments_play.specs.Debug.{debug_for}
use Rattle.clap.specs.Words.{Text}
use Rattle.model.specs.Commands.{address_of, decimal_of}
use Rattle.word_page.specs.CommandLine.{page}
use Rattle.word_page.specs.declared.words.OpeningWords.{OpeningWords}
use Rattle.word_page.specs.declared.words.PageWords.{PageWords}

-- ---- what a page shows when it is opened

pub record OpeningAsked : Type 0 where
  pub step : Option ℕ
  pub screen : Option ℕ
  pub notes : Option Text

-- A step, if a word says one: one to seven decimal digits.
abbrev pub step_asked : Option Text → Option (Option ℕ)
step_asked None = Some None
step_asked (Some word) = option_map Some (decimal_of word)

-- The first address of a screen, if a word says one: four hex digits.
abbrev pub screen_asked : Option Text → Option (Option ℕ)
screen_asked None = Some None
screen_asked (Some word) = option_map Some (address_of word)

abbrev pub opening_of : Option (Option ℕ) → Option (Option ℕ) → Option Text → Option OpeningAsked
opening_of (Some step) (Some screen) notes
    = Some (record { step = step; screen = screen; notes = notes })
opening_of step screen notes = None

-- What the values of the names ask for, where each is one that its name can have.
abbrev pub opening_asked : (Text → Option Text) → Option OpeningAsked
opening_asked value = opening_of (step_asked (value (codes "at")))
    (screen_asked (value (codes "screen"))) (value (codes "notes"))

-- What was read from the words, as what they ask for.
abbrev pub opening_view : OpeningWords → OpeningAsked
opening_view w = record {
  step = w.step;
  screen = w.screen;
  notes = option_map (λ s. s.now) w.notes;
}

-- ---- all words

pub record PageAsked : Type 0 where
  pub file : FileAsked
  pub out : Text
  pub symbols : Option Text
  pub debug_info : Option Text
  pub source_root : Option Text
  pub input : Option Text
  pub until : Option Text
  pub steps : ℕ
  pub title : Option Text
  pub opening : OpeningAsked
  pub is_free : Bool

-- The most steps that are asked for: 100,000 where no word says it.
abbrev pub page_steps : Option Text → Option ℕ
page_steps None = Some 100000
page_steps (Some word) = steps_asked (Some word)

abbrev pub names_file : Option Text → Text → Bool
names_file None name = false
names_file (Some word) name = bytes_eq word name

-- The page has the name of a file that is read: of FILE, of the names, of the debug information, of
-- the input, or of the notes.
abbrev pub is_read : Text → Option Text → Option Text → Option Text → Option Text → Text → Bool
is_read file symbols debug input notes out = bytes_eq file out || names_file symbols out
    || names_file debug out || names_file input out || names_file notes out

-- The page has such a name, or that of an image: `page` takes one image.
abbrev pub is_taken : Text → Option Text → Option Text → Option Text → Option Text → Text → Bool
is_taken file symbols debug input notes out
    = names_image out || is_read file symbols debug input notes out

abbrev pub page_of : Option FileAsked → Option Text → Option Text → Option (Option Text)
    → Option Text → Option Text → Option Text → Option ℕ → Option Text → Option OpeningAsked → Bool
    → Option PageAsked
page_of (Some file) (Some out) symbols (Some debug) root input until (Some steps) title (Some opening) is_free
    = if is_taken file.file symbols debug input opening.notes out then None else Some (record {
      file = file;
      out = out;
      symbols = symbols;
      debug_info = debug;
      source_root = root;
      input = input;
      until = until;
      steps = steps;
      title = title;
      opening = opening;
      is_free = is_free;
    })
page_of file out symbols debug root input until steps title opening is_free = None

-- What the values of the names ask for, where each is one that its name can have, and the page has
-- the name of no image and of no file that is read.
abbrev pub page_asked : (Text → Option Text) → Option PageAsked
page_asked value = page_of (file_asked value) (value (codes "OUT")) (value (codes "symbols"))
    (debug_for (file_asked value) (value (codes "debug-info"))) (value (codes "source-root"))
    (value (codes "input")) (value (codes "until")) (page_steps (value (codes "steps")))
    (value (codes "title")) (opening_asked value) (is_flag (value (codes "free")))

-- What the words ask for, where the values that clap finds are right.
abbrev pub words_in : List Text → Option PageAsked
words_in words = page_asked (value_in page words)

-- What was read from the words, as what they ask for.
abbrev pub page_view : PageWords → PageAsked
page_view w = record {
  file = file_view w.file;
  out = w.out.now;
  symbols = option_map (λ s. s.now) w.symbols;
  debug_info = option_map (λ s. s.now) w.debug_info;
  source_root = option_map (λ s. s.now) w.source_root;
  input = option_map (λ s. s.now) w.input;
  until = option_map (λ s. s.now) w.until;
  steps = w.steps;
  title = option_map (λ s. s.now) w.title;
  opening = opening_view w.opening;
  is_free = w.is_free;
}
