-- The words with which a line begins, and what they are about. Source: mos65.
use Rattle.std.specs.Prelude.{ℕ, ◌==◌, ◌&&◌, nat_le, Bool, true, false, codes, if◌then◌else◌, List, [], ◌∷◌, length, map, take, Option, Some, None}
use Rattle.std.specs.Borrow.{Bor}
use Rattle.std.specs.List.{list_all}
use Rattle.std.specs.Str.{bytes_eq, str_eq_ignore_ascii_case}
use Rattle.mon_line_parts.specs.declared.topic.Topic.{Topic}
use Rattle.mon_line_parts.specs.declared.topic.Topic.TheVariants as topic
use Rattle.mon_line_parts.specs.declared.topic.TheConstants.{ALIASES, NEAREST, SUBJECTS, WORDS}

-- A word, and what a line is about that begins with it.
abbrev pub TopicWord : Type 0
TopicWord = List ℕ × Topic

-- The same without where the word lies in memory.
abbrev pub row_view : Bor (List ℕ) × Topic → TopicWord
row_view row = (row.0.now, row.1)

-- The words, but for `?`. They stand in the code, in the table `WORDS`.
unfoldable pub words : List TopicWord
words = map (λ row. (row.0.now, row.1)) WORDS

-- Words of other debuggers, which are not to be shortened: those that mean what a word does, and those
-- that no word does the same as, each with the one that comes nearest.
unfoldable pub aliases : List TopicWord
aliases = map (λ row. (row.0.now, row.1)) ALIASES

unfoldable pub nearest : List TopicWord
nearest = map (λ row. (row.0.now, row.1)) NEAREST

-- What stands behind `info` of gdb.
unfoldable pub subjects : List TopicWord
subjects = map (λ row. (row.0.now, row.1)) SUBJECTS

-- ---- the topic of a first word

-- What the first word is about that is a text, capitals or not.
abbrev pub whole : List ℕ → List TopicWord → Option Topic
whole text [] = None
whole text (row ∷ rows) = if str_eq_ignore_ascii_case row.0 text then Some row.1
    else whole text rows

-- Whether a word begins with a text, capitals or not.
abbrev pub begins_with : List ℕ → List ℕ → Bool
begins_with word text = nat_le (length text) (length word)
    && str_eq_ignore_ascii_case (take (length text) word) text

-- What the words are about that begin with a text.
abbrev pub begun : List ℕ → List TopicWord → List Topic
begun text [] = []
begun text (row ∷ rows) = if begins_with row.0 text then row.1 ∷ begun text rows
    else begun text rows

-- The topics, counted from 0.
abbrev pub place_of : Topic → ℕ
place_of topic.Step = 0
place_of topic.Over = 1
place_of topic.Out = 2
place_of topic.Until = 3
place_of topic.Go = 4
place_of topic.Back = 5
place_of topic.Rback = 6
place_of topic.Redo = 7
place_of topic.Where = 8
place_of topic.History = 9
place_of topic.Break = 10
place_of topic.Watch = 11
place_of topic.List = 12
place_of topic.Delete = 13
place_of topic.Regs = 14
place_of topic.Flags = 15
place_of topic.Mem = 16
place_of topic.Dis = 17
place_of topic.Find = 18
place_of topic.Stack = 19
place_of topic.Set = 20
place_of topic.Put = 21
place_of topic.Asm = 22
place_of topic.«Type» = 23
place_of topic.Screen = 24
place_of topic.Irq = 25
place_of topic.Nmi = 26
place_of topic.Reset = 27
place_of topic.Help = 28
place_of topic.Quit = 29
place_of topic.Trace = 30
place_of topic.Display = 31
place_of topic.Undisplay = 32
place_of topic.Save = 33
place_of topic.Reload = 34
place_of topic.Page = 35
place_of topic.Line = 36
place_of topic.Locals = 37

abbrev pub is_same : Topic → Topic → Bool
is_same one other = place_of one == place_of other

-- The topic that all of some have in common, and whether there are topics that have none.
abbrev pub common : List Topic → Option Topic × Bool
common [] = (None, false)
common (first ∷ others) = if list_all (is_same first) others then (Some first, false)
    else (None, true)

abbrev pub or_common : Option Topic → List Topic → Option Topic × Bool
or_common (Some one) topics = (Some one, false)
or_common None topics = common topics

-- The topic of the word that a text is, otherwise of the words that it begins, if they have one in
-- common; and whether they have more than one.
abbrev pub by_words : List ℕ → List TopicWord → Option Topic × Bool
by_words text rows = or_common (whole text rows) (begun text rows)

abbrev pub or_words : Option Topic → Option Topic × Bool → Option Topic × Bool
or_words (Some one) other = (Some one, false)
or_words None other = other

-- A word of another debugger counts as it is written.
abbrev pub by_tables : List ℕ → Option Topic × Bool
by_tables text = or_words (whole text aliases) (by_words text words)

-- The topic of a first word. A text without a byte begins none.
unfoldable pub topic_of : List ℕ → Option Topic × Bool
topic_of text =
    if bytes_eq text (codes "?") then (Some topic.Help, false)
    else if length text == 0 then (None, false)
    else by_tables text

-- ---- words of other debuggers

-- The topic of the word that comes nearest to one that no word does the same as.
unfoldable pub nearest_of : List ℕ → Option Topic
nearest_of text = whole text nearest

-- The topic of what `info` shows with a word behind it.
unfoldable pub subject_of : List ℕ → Option Topic
subject_of text = whole text subjects
