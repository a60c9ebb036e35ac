use Rattle.std.proofs.Common.{arith}
use Rattle.lsp_hints.proofs.Starts.{label_else, label_then, no_label}
use Rattle.lsp_hints.proofs.labels.is_label.Goals as goal

pub bounds-tokens-1 : goal.bounds-tokens-1
bounds-tokens-1 c = omega (arith, c.in-len2-up.len_at_least)

pub returns-in_default : goal.returns-in_default
returns-in_default c = no_label c.args.profile c.args.tokens.now c.in_default.len_below

pub returns-then-is_name_token : goal.returns-then-is_name_token
returns-then-is_name_token c = label_then c.args.profile c.args.tokens.now _ _ c.is_name_token.result c.is_symbol.result c.in-len2-up.len_at_least
    c.is_name_token.ensures c.if-is_name_token.true c.is_symbol.ensures

pub returns-else-is_name_token : goal.returns-else-is_name_token
returns-else-is_name_token c = label_else c.args.profile c.args.tokens.now _ c.is_name_token.result c.in-len2-up.len_at_least c.is_name_token.ensures
    c.if-is_name_token.false
