-- What can stand in a line of the console for the word that is typed. Source: Debug Adapter
-- Protocol 1.65, "Completions Request", "CompletionItem"; which words and names, mos65.
use Rattle.std.specs.Prelude.{ℕ, ◌+◌, ◌-◌, nat_lt, Bool, if◌then◌else◌, List, [], ◌∷◌, length, take, drop, Option, Some, None}
use Rattle.std.specs.List.{flat_map, list_all}
use Rattle.std.specs.Str.Lossy.{utf8_lossy}
use Rattle.dap_messages.specs.SeenAnswers.{SeenAnswer, SeenItem, completion_item, targets_body}
use Rattle.dap_messages.specs.Counting.{first_column}
use Rattle.dap_messages.specs.declared.counting.Counting.{Counting}
use Rattle.model.specs.Token.{is_blank, is_word_byte}
use Rattle.mon_line_parts.specs.Topics.{TopicWord, begins_with, words}
use Rattle.mon_line_parts.specs.declared.topic.Topic.TheVariants as topic
use Rattle.source_map.specs.Names.{Named}

-- ---- the text before the column

-- How many bytes stand before a column: none if there is no column.
abbrev pub bytes_before : Counting → Option ℕ → ℕ
bytes_before counting (Some column) = column - first_column counting
bytes_before counting None = 0

abbrev pub front_of : Counting → List ℕ → Option ℕ → List ℕ
front_of counting text column = take (bytes_before counting column) text

-- ---- the word that is typed: the letters, digits and `_` at the end

-- How many they are, where so many stand in front of the text.
unfoldable pub typed_bytes : ℕ → List ℕ → ℕ
typed_bytes n [] = n
typed_bytes n (b ∷ text) = typed_bytes (if is_word_byte b then n + 1 else 0) text

abbrev pub before_typed : List ℕ → List ℕ
before_typed front = take (length front - typed_bytes 0 front) front

abbrev pub typed_in : List ℕ → List ℕ
typed_in front = drop (length front - typed_bytes 0 front) front

-- ---- what begins with it, capitals or not

abbrev pub if_begun : ℕ → List ℕ → List ℕ → List SeenItem
if_begun start typed name = if begins_with name typed
    then completion_item (utf8_lossy name) start (length typed) ∷ [] else []

-- A word of `mon`. `trace` is one of `mos65`.
abbrev pub word_begun : ℕ → List ℕ → TopicWord → List SeenItem
word_begun start typed (name, topic.Trace) = []
word_begun start typed (name, other) = if_begun start typed name

-- The words in the order of their table, the names in the order of their definition.
abbrev pub words_begun : ℕ → List ℕ → List SeenItem
words_begun start typed = flat_map (word_begun start typed) words

abbrev pub names_begun : ℕ → List ℕ → List Named → List SeenItem
names_begun start typed names = flat_map (λ name. if_begun start typed name.text) names

-- ---- what is offered

-- The column behind a text.
abbrev pub column_behind : Counting → List ℕ → ℕ
column_behind counting text = length text + first_column counting

-- The words of `mon` for the first word of a line, and names of the program behind it.
abbrev pub begun_behind : Counting → List Named → List ℕ → List ℕ → List SeenItem
begun_behind counting names before typed = if list_all is_blank before
    then words_begun (column_behind counting before) typed
    else names_begun (column_behind counting before) typed names

-- A column counts the units of UTF-16, which are bytes in a text of ASCII: nothing is offered in
-- another.
abbrev pub is_ascii : List ℕ → Bool
is_ascii text = list_all (λ b. nat_lt b 128) text

abbrev pub offered : Counting → List Named → List ℕ → List SeenItem
offered counting names front = if is_ascii front
    then begun_behind counting names (before_typed front) (typed_in front)
    else []

abbrev pub completions : Counting → List Named → List ℕ → Option ℕ → SeenAnswer
completions counting names text column
    = targets_body (offered counting names (front_of counting text column))
