-- What help says of the words of `mon`. Source: mos65.
use Rattle.std.specs.Prelude.{ℕ, Bool, true, false, if◌then◌else◌, List, [], ◌∷◌, ◌++◌, Option, Some, None, codes}
use Rattle.std.specs.List.{flat_map}
use Rattle.mon_line_parts.specs.Help.{effect_of, example_of, form_of}
use Rattle.mon_line_parts.specs.declared.topic.Topic.{Topic}
use Rattle.mon_line_parts.specs.declared.topic.Topic.TheVariants as topic
use Rattle.mon_line_parts.specs.declared.topic.TheConstants.{TOPICS}
use Rattle.formatting.specs.Padding.{padded}
use Rattle.mon_texts.specs.declared.help.TheConstants.{FIRST}
use Rattle.mon_texts.specs.declared.wording.TheConstants.{ADDRESS_FORMS, EMPTY_LINE, EXAMPLE, EXAMPLE_LINE, MORE_WORDS}

-- The topics, in the order in which help lists them.
unfoldable pub all_topics : List Topic
all_topics = TOPICS

-- The topics that a person needs first.
unfoldable pub first_topics : List Topic
first_topics = FIRST

-- How a line about a topic is written, and what it does, in columns.
unfoldable pub form_row : Topic → List ℕ
form_row topic = padded 34 (form_of topic) ++ effect_of topic ++ codes "\n"

-- A row for each topic, what an address may be, and what an empty line does.
unfoldable pub all_help : List ℕ
all_help = flat_map form_row all_topics
    ++ ADDRESS_FORMS.now
    ++ EMPTY_LINE.now

-- How a line about a topic is written, what it does, and an example.
unfoldable pub topic_help : Topic → List ℕ
topic_help topic = form_of topic ++ codes "  " ++ effect_of topic ++ EXAMPLE_LINE.now
    ++ example_of topic ++ codes "\n"

-- A row for each topic that a person needs first, the other words, what an address may be, and what
-- an empty line does.
unfoldable pub first_help : List ℕ
first_help = flat_map form_row first_topics ++ MORE_WORDS.now ++ ADDRESS_FORMS.now ++ EMPTY_LINE.now

abbrev pub is_help : Topic → Bool
is_help topic.Help = true
is_help about = false

-- The first words; all words, by the word `help`; or one of them.
abbrev pub help_text : Option Topic → List ℕ
help_text None = first_help
help_text (Some about) = if is_help about then all_help else topic_help about

-- An example, if it is known what a line is about.
abbrev pub example_text : Option Topic → List ℕ
example_text None = []
example_text (Some topic) = EXAMPLE.now ++ example_of topic
