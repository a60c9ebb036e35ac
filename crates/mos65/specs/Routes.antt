-- Which call serves the words of the program. An option is told in both of its forms, `--name` and
-- `--name=value`, at any place before `--`. Source: mos65.
use Rattle.std.specs.Prelude.{Bool, true, false, List, [], ◌∷◌, ◌||◌, bytes_eq, codes, if◌then◌else◌}
use Rattle.arguments.specs.Given.{has_option}
use Rattle.word_asm.specs.Asked.{asks_for_files}
use Rattle.clap.specs.Words.{Text}
use Rattle.mos65.specs.declared.routes.Route.{Route}
use Rattle.mos65.specs.declared.routes.Route.TheVariants as to
use Rattle.word_debug.specs.Strict.{is_strict}

-- A single word asks for help.
abbrev pub asks_for_help : List Text → Bool
asks_for_help (word ∷ []) = bytes_eq word (codes "--help") || bytes_eq word (codes "-h")
asks_for_help words = false

-- An option says that a file is an image: `--image`, `--bin` or `--prg`.
abbrev pub asks_for_image : List Text → Bool
asks_for_image words = has_option (codes "image") words || has_option (codes "bin") words
    || has_option (codes "prg") words

-- The words that one call each serves, by their names.
unfoldable pub added : List (Text × Route)
added = (codes "check", to.Check) ∷ (codes "info", to.Info) ∷ (codes "cmp", to.Cmp)
    ∷ (codes "mend", to.Mend) ∷ (codes "convert", to.Convert) ∷ (codes "test", to.Test)
    ∷ (codes "mon", to.Mon) ∷ (codes "run", to.Run) ∷ (codes "trace", to.Trace)
    ∷ (codes "page", to.Page) ∷ (codes "lsp", to.Lsp)
    ∷ (codes "dap", to.Dap) ∷ []

-- The first of these of a name; the whole command line has all others.
abbrev pub find : Text → List (Text × Route) → Route
find name [] = to.Whole
find name (row ∷ rows) = if bytes_eq name row.0 then row.1 else find name rows

-- `asm`, `dis` and `debug` as promised, unless a word after them asks for what is beside that.
abbrev pub asm_route : List Text → Route
asm_route rest = if asks_for_help rest then to.Whole
    else if asks_for_files rest then to.AsmFiles else to.Program

-- Options of `dis` say how control is followed, what ranges have, and labels, names, marks or
-- addresses.
abbrev pub asks_for_following : List Text → Bool
asks_for_following rest = has_option (codes "follow") rest
    || has_option (codes "follow-only") rest || has_option (codes "inline") rest

abbrev pub asks_for_ranges : List Text → Bool
asks_for_ranges rest = has_option (codes "data") rest || has_option (codes "text") rest
    || has_option (codes "words") rest || has_option (codes "rts-words") rest

abbrev pub asks_for_names : List Text → Bool
asks_for_names rest = has_option (codes "labels") rest || has_option (codes "symbols") rest
    || has_option (codes "marks") rest || has_option (codes "addresses") rest

-- An option is among the words that only a source has. Without `--source` it is refused.
abbrev pub asks_for_source : List Text → Bool
asks_for_source rest = has_option (codes "source") rest || has_option (codes "fill") rest
    || asks_for_following rest || asks_for_ranges rest || asks_for_names rest

abbrev pub dis_route : List Text → Route
dis_route rest = if asks_for_help rest then to.Whole
    else if asks_for_source rest then to.DisSource
    else if asks_for_image rest then to.DisImage else to.Program

-- A session, by whether it is strict and whether it is on an image.
abbrev pub session_route : Bool → Bool → Route
session_route true true = to.StrictImage
session_route true false = to.StrictDebug
session_route false true = to.DebugImage
session_route false false = to.Program

abbrev pub debug_route : List Text → Route
debug_route rest = if asks_for_help rest then to.Whole
    else session_route (is_strict rest) (asks_for_image rest)

abbrev pub route_of : List Text → Route
route_of [] = to.Whole
route_of (name ∷ rest) = if bytes_eq name (codes "asm") then asm_route rest
    else if bytes_eq name (codes "dis") then dis_route rest
    else if bytes_eq name (codes "debug") then debug_route rest
    else find name added
