-- What the server can do. Source: Language Server Protocol 3.17, "Initialize Request".
use Rattle.std.specs.Prelude.{true, [], ◌∷◌, codes, map, if◌then◌else◌}
use Rattle.lsp_hints.specs.Colours.{modifiers, types}
use Rattle.lsp_messages.specs.declared.asked.Client.{Client}
use Rattle.json_messages.specs.Values.{count, list_of, object_of, word}
use Rattle.serde_json.specs.Data.{Data, boolean}

abbrev pub yes : Data
yes = boolean true

-- Documents are opened and closed, and a change may have a part of the text, which is the number 2.
unfoldable pub sync : Data
sync = object_of ((codes "change", count 2) ∷ (codes "openClose", yes) ∷ [])

-- The colours of a whole text, and of some of its lines, by the legend.
unfoldable pub colours : Data
colours = object_of ((codes "full", yes) ∷ (
  codes "legend",
  object_of ((codes "tokenModifiers", list_of (map word modifiers))
      ∷ (codes "tokenTypes", list_of (map word types)) ∷ []),
) ∷ (codes "range", yes) ∷ [])

-- A blank and a comma ask for the forms of an operation.
unfoldable pub signatures : Data
signatures = object_of ((
  codes "triggerCharacters",
  list_of (word (codes " ") ∷ word (codes ",") ∷ []),
) ∷ [])

-- Changes mend what is marked.
unfoldable pub fixes : Data
fixes = object_of ((
  codes "codeActionKinds",
  list_of (word (codes "quickfix") ∷ []),
) ∷ [])

-- A client that prepares renames may ask whether a name can get another one.
unfoldable pub renames : Client → Data
renames client = if client.prepares
    then object_of ((codes "prepareProvider", yes) ∷ [])
    else yes

unfoldable pub served : Client → Data
served client = object_of ((codes "codeActionProvider", fixes)
    ∷ (codes "completionProvider", object_of []) ∷ (codes "definitionProvider", yes)
    ∷ (codes "documentHighlightProvider", yes) ∷ (codes "documentSymbolProvider", yes)
    ∷ (codes "foldingRangeProvider", yes) ∷ (codes "hoverProvider", yes)
    ∷ (codes "inlayHintProvider", yes) ∷ (codes "positionEncoding", word (codes "utf-16"))
    ∷ (codes "referencesProvider", yes) ∷ (codes "renameProvider", renames client)
    ∷ (codes "semanticTokensProvider", colours) ∷ (codes "signatureHelpProvider", signatures)
    ∷ (codes "textDocumentSync", sync) ∷ (codes "workspaceSymbolProvider", yes) ∷ [])

abbrev pub capabilities : Client → Data
capabilities client = object_of ((codes "capabilities", served client)
    ∷ (codes "serverInfo", object_of ((codes "name", word (codes "mos65")) ∷ [])) ∷ [])
