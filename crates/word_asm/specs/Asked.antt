-- What the words of `asm` with further files ask for, and which words these are. Source: mos65.
use Rattle.std.specs.Prelude.{ℕ, Bool, false, List, [], ◌∷◌, Option, Some, None, codes, ◌||◌, if◌then◌else◌, is_some, not, ◌&&◌}
use Rattle.std.specs.Str.{bytes_eq}
use Rattle.arguments.specs.Asked.{is_flag}
use Rattle.arguments.specs.Given.{has_option}
use Rattle.clap.specs.Words.{Text}
use Rattle.program.specs.Asked.{AsmAsked, asm_asked}
use Rattle.image_files.specs.Options.{fill_asked}
use Rattle.word_asm.specs.declared.format.SymbolsFormat.{SymbolsFormat}
use Rattle.word_asm.specs.declared.format.SymbolsFormat.TheVariants.{Plain, Vice}

-- ---- whether more is asked for than a tape and a listing

-- `--symbols`, `--symbols-format` or `--map`.
abbrev pub asks_for_tables : List Text → Bool
asks_for_tables words = has_option (codes "symbols") words
    || has_option (codes "symbols-format") words || has_option (codes "map") words

-- `--bin`, `--hex`, `--srec` or `--fill`.
abbrev pub asks_for_images : List Text → Bool
asks_for_images words = has_option (codes "bin") words || has_option (codes "hex") words
    || has_option (codes "srec") words || has_option (codes "fill") words

-- An option for a further file, or `--utf8`.
abbrev pub asks_for_files : List Text → Bool
asks_for_files words = asks_for_tables words || asks_for_images words
    || has_option (codes "utf8") words

-- ---- what is asked for

-- The files to write the image to in other forms, and the byte that gaps of bytes alone are filled
-- with.
pub record ImageFiles : Type 0 where
  pub raw : Option Text
  pub hex : Option Text
  pub srec : Option Text
  pub fill : ℕ

pub record FilesAsked : Type 0 where
  pub asm : AsmAsked
  pub symbols : Option Text
  pub format : SymbolsFormat
  pub map : Option Text
  pub images : ImageFiles
  pub cleans : Bool

-- The format that is asked for: plain where no word says it.
abbrev pub format_asked : Option (List ℕ) → Option SymbolsFormat
format_asked None = Some Plain
format_asked (Some word) = if bytes_eq word (codes "plain") then Some Plain
    else if bytes_eq word (codes "vice") then Some Vice else None

-- The byte that gaps are filled with: $FF where no word says it, as an erased EPROM.
abbrev pub fill_of : Option (Option ℕ) → Option ℕ
fill_of None = None
fill_of (Some None) = Some 255
fill_of (Some (Some fill)) = Some fill

abbrev pub images_of : Option Text → Option Text → Option Text → Option ℕ → Option ImageFiles
images_of raw hex srec None = None
images_of raw hex srec (Some fill)
    = Some (record { raw = raw; hex = hex; srec = srec; fill = fill })

abbrev pub images_asked : (Text → Option Text) → Option ImageFiles
images_asked value = images_of (value (codes "bin")) (value (codes "hex")) (value (codes "srec"))
    (fill_of (fill_asked (value (codes "fill"))))

-- One of the files has a name.
abbrev pub is_among : Text → List (Option Text) → Bool
is_among name [] = false
is_among name (None ∷ files) = is_among name files
is_among name (Some file ∷ files) = bytes_eq file name || is_among name files

-- A file has the name of one of the others.
abbrev pub is_again : Option Text → List (Option Text) → Bool
is_again None files = false
is_again (Some file) files = is_among file files

-- Two of the files have one name.
abbrev pub has_twice : List (Option Text) → Bool
has_twice [] = false
has_twice (file ∷ files) = is_again file files || has_twice files

-- All files of the words.
abbrev pub names_of : AsmAsked → Option Text → Option Text → ImageFiles → List (Option Text)
names_of asm symbols map images = Some asm.source ∷ Some asm.tape ∷ asm.listing ∷ symbols ∷ map
    ∷ images.raw ∷ images.hex ∷ images.srec ∷ []

-- An option without the one that it is about: a format without a file of names, a byte to fill with
-- without a file of bytes alone.
abbrev pub is_lone : Option Text → Option Text → Bool
is_lone option about = is_some option && not (is_some about)

abbrev pub files_of : Option AsmAsked → Option Text → Option Text → Option ImageFiles
    → Option SymbolsFormat → Option Text → Option Text → Bool → Option FilesAsked
files_of (Some asm) symbols map (Some images) (Some format) named fill cleans =
    if is_lone named symbols || is_lone fill images.raw
    || has_twice (names_of asm symbols map images) then None
    else Some (record {
      asm = asm;
      symbols = symbols;
      format = format;
      map = map;
      images = images;
      cleans = cleans;
    })
files_of asm symbols map images format named fill cleans = None

-- What the values of the names ask for, where each is one that its name can have: what `asm` does,
-- and the files. With `--utf8` the source is cleaned first.
abbrev pub files_asked : (Text → Option Text) → Option FilesAsked
files_asked value = files_of (asm_asked value) (value (codes "symbols")) (value (codes "map"))
    (images_asked value) (format_asked (value (codes "symbols-format")))
    (value (codes "symbols-format")) (value (codes "fill")) (is_flag (value (codes "utf8")))
