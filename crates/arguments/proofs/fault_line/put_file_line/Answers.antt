use Rattle.std.proofs.Common.{◌≡◌, ◌⊎◌, ℕ, List, inl, inr, refl, subst, sym}
use Rattle.arguments.specs.FaultLines.{file_line, named_line, source_line}
use Rattle.arguments.specs.declared.refusal.ReadFault.{ReadFault}
use Rattle.arguments.specs.declared.refusal.Refusal.{Refusal}
use Rattle.arguments.specs.declared.refusal.Refusal.TheVariants.{Source, Tape, Session, Read, Write, WriteFile}
use Rattle.arguments.specs.declared.write_fault.WriteFault.{WriteFault}
use Rattle.model.specs.Writers.{AppendsFront}
use Rattle.model.specs.declared.session_fault.SessionFault.{SessionFault}
use Rattle.model.specs.declared.source_fault.AsmFault.{AsmFault}
use Rattle.model.specs.declared.tape.TapeFault.{TapeFault}
use Rattle.arguments.proofs.fault_line.put_file_line.Goals as goal

of_source : (file : List ℕ) (refusal : Refusal) (fault : AsmFault) → refusal ≡ Source fault → file_line file refusal ≡ source_line file fault
unfolding file_line
of_source file refusal fault is = rw is refl

of_file : (file : List ℕ) (refusal : Refusal)
    → ((f : TapeFault) × (refusal ≡ Tape f)) ⊎ (((f : SessionFault) × (refusal ≡ Session f))
    ⊎ (((f : ReadFault) × (refusal ≡ Read f)) ⊎ ((refusal ≡ Write) ⊎ ((f : WriteFault) × (refusal ≡ WriteFile f)))))
    → file_line file refusal ≡ named_line file refusal
unfolding file_line
of_file file refusal (inl (f, is)) = rw is refl
of_file file refusal (inr (inl (f, is))) = rw is refl
of_file file refusal (inr (inr (inl (f, is)))) = rw is refl
of_file file refusal (inr (inr (inr (inl is)))) = rw is refl
of_file file refusal (inr (inr (inr (inr (f, is))))) = rw is refl

pub returns-in-Source : goal.returns-in-Source
returns-in-Source g c =
    subst (AppendsFront (g.E.Write.contents c.args.errors.now) (g.E.Write.contents c.put_source_line.new.errors))
    (sym (of_source c.args.file.now c.args.refusal c.in-Source.fault c.in-Source.is)) c.put_source_line.ensures

pub returns-in-Tape : goal.returns-in-Tape
returns-in-Tape g c =
    subst (AppendsFront (g.E.Write.contents c.args.errors.now) (g.E.Write.contents c.put_named_line.new.errors))
    (sym (of_file c.args.file.now c.args.refusal c.in-Tape.is)) c.put_named_line.ensures
