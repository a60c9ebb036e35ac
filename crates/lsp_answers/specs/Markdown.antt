-- What is said, in Markdown. Source: Language Server Protocol 3.17, "MarkupContent"; CommonMark
-- 0.31, "Fenced code blocks", "Hard line breaks", "Backslash escapes".
use Rattle.std.specs.Prelude.{ℕ, ◌==◌, if◌then◌else◌, List, [], ◌∷◌, ◌++◌}
use Rattle.std.specs.List.{flat_map}
use Rattle.lsp_answers.specs.declared.markdown.TheConstants.{BACKSLASH, FENCE, FENCE_END, LINE_BREAK}

-- The end of a line breaks it, and a backslash is one.
abbrev pub marked : ℕ → List ℕ
marked b = if b == 10 then LINE_BREAK.now else if b == 92 then BACKSLASH.now else b ∷ []

-- Lines of a source in a block, and words behind it. A line that has a name or a mnemonic does not
-- end the block.
abbrev pub markdown : List ℕ → List ℕ → List ℕ
markdown lines words = FENCE.now ++ lines ++ FENCE_END.now ++ flat_map marked words
