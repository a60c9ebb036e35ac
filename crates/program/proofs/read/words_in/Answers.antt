use Rattle.std.proofs.Common.{rules, ap, None, option_map, ◌≡◌, ◌∙◌}
use Rattle.clap.specs.Words.{found_of}
use Rattle.program.proofs.Found.{asm_found, debug_found, dis_found}
use Rattle.program.specs.Asked.{asm, debug, dis}
use Rattle.program.proofs.read.words_in.Goals as goal

pub returns-in_err-dis_words-in-dis-default : goal.returns-in_err-dis_words-in-dis-default
returns-in_err-dis_words-in-dis-default c =
    let none : c.from_residual-in_err-dis_words-in-dis-default.result ≡ None = search rules in
    rw none (ap (option_map dis) c.in_err-dis_words-in-dis-default.ensures
    ∙ dis_found c.args.matches.now (found_of c.in_ok-found.field-0.1.now) c.in_ok-found.field-0.0.now
    c.in_ok-found.ensures.name c.in_ok-found.ensures.rows c.in-dis-default.is-dis-0)

pub returns-in_ok-dis_words-in-dis-default : goal.returns-in_ok-dis_words-in-dis-default
returns-in_ok-dis_words-in-dis-default c =
    ap (option_map dis) c.in_ok-dis_words-in-dis-default.ensures
    ∙ dis_found c.args.matches.now (found_of c.in_ok-found.field-0.1.now) c.in_ok-found.field-0.0.now
    c.in_ok-found.ensures.name c.in_ok-found.ensures.rows c.in-dis-default.is-dis-0

pub returns-in-Some : goal.returns-in-Some
returns-in-Some c =
    ap (option_map asm) c.in-Some.ensures ∙ asm_found c.args.matches.now (found_of c.in_ok-found.field-0.1.now) c.in_ok-found.field-0.0.now
    c.in_ok-found.ensures.name c.in_ok-found.ensures.rows c.in-asm-default.is-asm-0

pub returns-in-None : goal.returns-in-None
returns-in-None c =
    ap (option_map asm) c.in-None.ensures ∙ asm_found c.args.matches.now (found_of c.in_ok-found.field-0.1.now) c.in_ok-found.field-0.0.now
    c.in_ok-found.ensures.name c.in_ok-found.ensures.rows c.in-asm-default.is-asm-0

pub returns-in-Some-debug_words : goal.returns-in-Some-debug_words
returns-in-Some-debug_words c =
    ap (option_map debug) c.in-Some-debug_words.ensures ∙ debug_found c.args.matches.now (found_of c.in_ok-found.field-0.1.now) c.in_ok-found.field-0.0.now
    c.in_ok-found.ensures.name c.in_ok-found.ensures.rows c.in-debug-default.is-debug-0

pub returns-in-None-debug_words : goal.returns-in-None-debug_words
returns-in-None-debug_words c =
    ap (option_map debug) c.in-None-debug_words.ensures ∙ debug_found c.args.matches.now (found_of c.in_ok-found.field-0.1.now) c.in_ok-found.field-0.0.now
    c.in_ok-found.ensures.name c.in_ok-found.ensures.rows c.in-debug-default.is-debug-0
