use Rattle.std.proofs.Common.{Err, Ok, ap, subst, take, ◌⊎◌}
use Rattle.assembler.specs.Assembly.{out_of_memory}
use Rattle.model.specs.OneLineAssembly.{one_line}
use Rattle.model.specs.Writers.{Writes}
use Rattle.law_sources.specs.Judging.{on_line}
use Rattle.std.specs.Prelude.{◌≡◌}
use Rattle.engine.proofs.Assembling as lemmas
use Rattle.engine.proofs.asm.assemble_patch.Goals as goal

pub returns-in-Ok-clause-writes : goal.returns-in-Ok-clause-writes
returns-in-Ok-clause-writes g c =
    let exact = subst (λ p. on_line 1 (one_line p c.args.address c.args.text.now) ≡ Ok (take c.in-Ok.line.count c.in-Ok.line.bytes)) c.profile.ensures
    c.in-Ok.ensures.exact in
    let is = lemmas.assembled c.args.session.now c.args.address (one_line c.args.session.now.current.bus.map.profile c.args.address c.args.text.now)
    c.in-Ok.line.bytes c.in-Ok.line.count c.in-Ok.ensures.few exact in
    subst (λ t. Writes (g.W.Write.contents c.args.writer.now) (g.W.Write.contents c.happen.new.writer) t c.happen.result) (ap (λ a. a.written) is)
    c.happen.ensures.writes

pub returns-in-Ok-clause-after : goal.returns-in-Ok-clause-after
returns-in-Ok-clause-after g c other =
    let exact = subst (λ p. on_line 1 (one_line p c.args.address c.args.text.now) ≡ Ok (take c.in-Ok.line.count c.in-Ok.line.bytes)) c.profile.ensures
    c.in-Ok.ensures.exact in
    let is = lemmas.assembled c.args.session.now c.args.address (one_line c.args.session.now.current.bus.map.profile c.args.address c.args.text.now)
    c.in-Ok.line.bytes c.in-Ok.line.count c.in-Ok.ensures.few exact in
    subst (λ t. c.happen.new.session ≡ t) (ap (λ a. a.session) is) c.happen.ensures.after

pub returns-in-Err-clause-writes : goal.returns-in-Err-clause-writes
returns-in-Err-clause-writes g c =
    let exact = subst (λ p. (c.in-Err.fault ≡ out_of_memory) ⊎ (on_line 1 (one_line p c.args.address c.args.text.now) ≡ Err c.in-Err.fault))
    c.profile.ensures c.in-Err.ensures.exact in
    lemmas.refused (g.W.Write.contents c.args.writer.now) (g.W.Write.contents c.refuse_text.new.writer) c.args.session.now c.args.address
    (one_line c.args.session.now.current.bus.map.profile c.args.address c.args.text.now) c.in-Err.fault c.refuse_text.result exact
    (λ out. ((c.refuse_text.ensures.memory out).0, ap (λ w. g.W.Write.contents w) (c.refuse_text.ensures.memory out).1)) c.refuse_text.ensures.writes

pub returns-in-Err-clause-after : goal.returns-in-Err-clause-after
returns-in-Err-clause-after g c other =
    let exact = subst (λ p. (c.in-Err.fault ≡ out_of_memory) ⊎ (on_line 1 (one_line p c.args.address c.args.text.now) ≡ Err c.in-Err.fault))
    c.profile.ensures c.in-Err.ensures.exact in
    lemmas.refused_session (g.W.Write.contents c.args.writer.now) (g.W.Write.contents c.refuse_text.new.writer) c.args.session.now c.args.address
    (one_line c.args.session.now.current.bus.map.profile c.args.address c.args.text.now) c.in-Err.fault c.refuse_text.result exact
    (λ out. ((c.refuse_text.ensures.memory out).0, ap (λ w. g.W.Write.contents w) (c.refuse_text.ensures.memory out).1)) other
