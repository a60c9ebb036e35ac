-- What the words of `dis` with `--source` ask for, by the values that clap's definition of a parse
-- finds among them. Source: mos65.
use Rattle.std.specs.Prelude.{ℕ, Bool, true, List, [], ◌∷◌, Option, Some, None, codes, is_some, option_map}
use Rattle.arguments.specs.Asked.{is_flag}
use Rattle.arguments.specs.FileNames.{name_of}
use Rattle.arguments.specs.Values.{profile_asked}
use Rattle.clap.specs.Words.{Text}
use Rattle.image_files.specs.Options.{fill_asked, form_said}
use Rattle.image_reader.specs.declared.form.Form.{Form}
use Rattle.marks_files.specs.Marks.{Marks}
use Rattle.marks_files.specs.Values.{addresses_of, range_of, routine_of}
use Rattle.model.specs.Commands.{address_of}
use Rattle.model.specs.declared.instruction.Profile.{Profile}
use Rattle.reached.specs.declared.inline.Inline.{Inline}

-- The ranges of numbers, of letters, of addresses, and of addresses less 1 to which RTS goes.
pub record Ranges : Type 0 where
  pub numbers : List (ℕ × ℕ)
  pub letters : List (ℕ × ℕ)
  pub addresses : List (ℕ × ℕ)
  pub returns : List (ℕ × ℕ)

-- Where control comes in: from some addresses in place of the vectors, from more addresses; and the
-- routines whose calls are followed by data.
pub record Following : Type 0 where
  pub only : Option (List ℕ)
  pub more : Option (List ℕ)
  pub routines : List Inline

-- What the words say of the image stands beside what is asked for, as a file of marks adds to it.
pub record SourceAsked : Type 0 where
  pub tape : Text
  pub form : Option Form
  pub first : ℕ
  pub last : ℕ
  pub said : Marks
  pub only : Option (List ℕ)
  pub labels : Bool
  pub addresses : Bool
  pub symbols : Option Text
  pub marks : Option Text
  pub profile : Profile
  pub fill : Option ℕ

-- The addresses of a list that may be missing.
abbrev pub listed : Option (List ℕ) → List ℕ
listed None = []
listed (Some starts) = starts

-- What the ranges and the addresses of the words say.
abbrev pub said_of : Ranges → Following → Marks
said_of ranges following = record {
  numbers = ranges.numbers;
  letters = ranges.letters;
  addresses = ranges.addresses;
  returns = ranges.returns;
  instructions = [];
  splits = [];
  follows = is_some following.more;
  entries = listed following.more;
  routines = following.routines;
  names = [];
  definitions = [];
  remarks = [];
  texts = [];
}

-- What each of some words is, where each is one that it can be.
abbrev pub before_all : {A : Type 0} → Option A → Option (List A) → Option (List A)
before_all None rest = None
before_all (Some first) rest = option_map (λ others. first ∷ others) rest

abbrev pub all_of : {A : Type 0} → (List ℕ → Option A) → List (List ℕ) → Option (List A)
all_of read [] = Some []
all_of read (word ∷ words) = before_all (read word) (all_of read words)

-- The ranges that an option asks for: none where it is not there.
abbrev pub ranges_asked : Option (List (List ℕ)) → Option (List (ℕ × ℕ))
ranges_asked None = Some []
ranges_asked (Some words) = all_of range_of words

-- The addresses that an option asks for, if it is there.
abbrev pub addresses_asked : Option (List (List ℕ)) → Option (Option (List ℕ))
addresses_asked None = Some None
addresses_asked (Some words) = option_map Some (all_of address_of words)

-- The routines that an option asks for: none where it is not there.
abbrev pub routines_asked : Option (List (List ℕ)) → Option (List Inline)
routines_asked None = Some []
routines_asked (Some words) = all_of routine_of words

-- The addresses to write: all where neither is said.
abbrev pub bounds_asked : Option (List ℕ) → Option (List ℕ) → Option (ℕ × ℕ)
bounds_asked None None = Some (0, 65535)
bounds_asked (Some low) (Some high) = addresses_of (address_of low) (address_of high)
bounds_asked low high = None

abbrev pub ranges_of_values : Option (List (ℕ × ℕ)) → Option (List (ℕ × ℕ))
    → Option (List (ℕ × ℕ)) → Option (List (ℕ × ℕ)) → Option Ranges
ranges_of_values (Some numbers) (Some letters) (Some addresses) (Some returns) =
    Some (record {
      numbers = numbers;
      letters = letters;
      addresses = addresses;
      returns = returns;
    })
ranges_of_values numbers letters addresses returns = None

-- The ranges that all values of the names ask for.
abbrev pub all_ranges_asked : (Text → Option (List Text)) → Option Ranges
all_ranges_asked values = ranges_of_values (ranges_asked (values (codes "data")))
    (ranges_asked (values (codes "text"))) (ranges_asked (values (codes "words")))
    (ranges_asked (values (codes "rts-words")))

abbrev pub following_of_values : Option (Option (List ℕ)) → Option (Option (List ℕ))
    → Option (List Inline) → Option Following
following_of_values (Some only) (Some more) (Some routines) =
    Some (record { only = only; more = more; routines = routines })
following_of_values only more routines = None

-- Where the values of the names say that control comes in.
abbrev pub following_asked : (Text → Option (List Text)) → Option Following
following_asked values = following_of_values (addresses_asked (values (codes "follow-only")))
    (addresses_asked (values (codes "follow"))) (routines_asked (values (codes "inline")))

-- A source is written where that is asked for: the other options go with it.
abbrev pub source_of_values : Bool → Option Text → Option (Option Form) → Option (ℕ × ℕ)
    → Option Ranges → Option Following → Option Profile → Option (Option ℕ)
    → (Text → Option Text) → Option SourceAsked
source_of_values true (Some tape) (Some form) (Some bounds) (Some ranges) (Some following)
    (Some profile) (Some fill) value =
    Some (record {
      tape = tape;
      form = form;
      first = bounds.0;
      last = bounds.1;
      said = said_of ranges following;
      only = following.only;
      labels = is_flag (value (codes "labels"));
      addresses = is_flag (value (codes "addresses"));
      symbols = value (codes "symbols");
      marks = value (codes "marks");
      profile = profile;
      fill = fill;
    })
source_of_values is_source tape form bounds ranges following profile fill value = None

-- What the first values and all values of the names ask for, where each is one that its name can
-- have.
abbrev pub source_asked : (Text → Option Text) → (Text → Option (List Text)) → Option SourceAsked
source_asked value values = source_of_values (is_flag (value (codes "source")))
    (option_map name_of (value (codes "TAPE"))) (form_said (value (codes "TAPE")) value)
    (bounds_asked (value (codes "LO")) (value (codes "HI")))
    (all_ranges_asked values) (following_asked values)
    (profile_asked (value (codes "profile"))) (fill_asked (value (codes "fill"))) value
