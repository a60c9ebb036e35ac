use Rattle.lsp_hints.proofs.Starts.{definition_else, definition_then, no_definition}
use Rattle.lsp_hints.proofs.paint.starts_definition.Goals as goal

pub returns-in_default : goal.returns-in_default
returns-in_default c = no_definition c.args.tokens.now c.in_default.len_below

pub returns-then-is_symbol : goal.returns-then-is_symbol
returns-then-is_symbol c = definition_then c.args.tokens.now _ c.is_symbol.result c.in-len2-up.len_at_least c.is_symbol.ensures c.if-is_symbol.true

pub returns-else-is_symbol : goal.returns-else-is_symbol
returns-else-is_symbol c = definition_else c.args.tokens.now _ _ c.is_symbol.result c.is_symbol-else-is_symbol.result c.in-len2-up.len_at_least
    c.is_symbol.ensures c.if-is_symbol.false c.is_symbol-else-is_symbol.ensures
