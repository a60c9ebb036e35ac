-- What the outcome of an assembler's or a tape's reader makes of the status, the fault that is told,
-- and what stands in the slot.
use Rattle.std.proofs.Common.{◌≡◌, ℕ, ◌+◌, ◌<◌, List, length, Option, Some, None, Result, Ok, Err, ap, arith, refl, subst, sym, ◌⊎◌, inl, inr}
use Rattle.law_sources.specs.Judging.{too_large}
use Rattle.assembler.specs.Assembly.{AssemblyView, out_of_memory}
use Rattle.clean_source.specs.Cleaned.{cleaned}
use Rattle.model.specs.FaultNames.{source_fault_number}
use Rattle.model.specs.Session.{Session}
use Rattle.model.specs.Source.{Denotes, HasFault}
use Rattle.model.specs.State.{Map}
use Rattle.model.specs.Tape.{FirstFault, TapeDenotes}
use Rattle.model.specs.TapeFault.{tape_fault_number}
use Rattle.model.specs.TapeFault.{out_of_memory as no_memory}
use Rattle.model.specs.declared.source_fault.AsmFault.{AsmFault}
use Rattle.model.specs.declared.tape.TapeFault.{TapeFault}
use Rattle.mos65_c.specs.Answers.{AnswersSource, AnswersStart, AnswersTape, IsAssembly, Tells, no_fault, source_fault, tape_fault}
use Rattle.mos65_c.specs.declared.names.Fault.{Fault}

-- A part answered a value, so it answered no fault.
pub no_err : {A E : Type 0} (a : A) (f : E) → Ok a ≡ Err f → ⊥
no_err a f e = absurd cc

pub not_refused : {A E : Type 0} (a : A) (f g : E) → (Ok a ≡ Err f) ⊎ (Ok a ≡ Err g) → ⊥
not_refused a f g (inl e) = absurd cc
not_refused a f g (inr e) = absurd cc

abbrev made : AssemblyView → Result AssemblyView AsmFault
made a = Ok a

abbrev failed : AsmFault → Result AssemblyView AsmFault
failed fault = Err fault

-- ---- a source

assembled_here : (map : Map) (source : List ℕ) (a : AssemblyView)
    → IsAssembly map (cleaned source) a
    → ((f : AsmFault) → HasFault map (cleaned source) f → (made a ≡ Err f) ⊎ (made a ≡ Err out_of_memory))
    → (1048576 < length source → made a ≡ Err too_large)
    → AnswersSource map source 0 no_fault (Some a)
assembled_here map source a is faulty large = record {
  ok = λ e. (refl, a, refl, is);
  same = λ e. absurd (e refl);
  memory = λ e. refl;
  refused = λ e other. absurd (e refl);
  right = λ image denotes e other. absurd (e refl);
  faulty = λ f has. absurd (not_refused a _ _ (faulty f has));
  large = λ above. absurd (no_err a _ (large above));
}

-- The assembly was made, and memory for its slot was refused.
unheld_here : (map : Map) (source : List ℕ) (a : AssemblyView)
    → ((f : AsmFault) → HasFault map (cleaned source) f → (made a ≡ Err f) ⊎ (made a ≡ Err out_of_memory))
    → (1048576 < length source → made a ≡ Err too_large)
    → AnswersSource map source 3 no_fault None
unheld_here map source a faulty large = record {
  ok = λ e. absurd cc;
  same = λ e. refl;
  memory = λ e. refl;
  refused = λ e other. absurd (other refl);
  right = λ image denotes e other. absurd (other refl);
  faulty = λ f has. absurd (not_refused a _ _ (faulty f has));
  large = λ above. absurd (no_err a _ (large above));
}

abbrev fault_in : Result AssemblyView AsmFault → AsmFault
fault_in (Ok a) = out_of_memory
fault_in (Err fault) = fault

abbrev source_told : AsmFault → ℕ → Fault
source_told refusal number = record { status = 300 + number; line = refusal.line; offset = 0 }

tells_source : (refusal : AsmFault) (number : ℕ) → number ≡ source_fault_number refusal.kind
    → Tells (source_fault refusal) (300 + number) (source_told refusal number)
tells_source refusal number is = (ap (λ n. 300 + n) is, ap (λ n. source_told refusal n) is)

-- Another name of the refusal tells the same.
tells_same : (refusal f : AsmFault) (number : ℕ) → number ≡ source_fault_number refusal.kind
    → failed refusal ≡ Err f → Tells (source_fault f) (300 + number) (source_told refusal number)
tells_same refusal f number is e =
    let same : refusal ≡ f = ap fault_in e in
    subst (λ g. Tells (source_fault g) (300 + number) (source_told refusal number)) same (tells_source refusal number is)

told_one_of : (refusal f : AsmFault) (number : ℕ) → number ≡ source_fault_number refusal.kind
    → (failed refusal ≡ Err f) ⊎ (failed refusal ≡ Err out_of_memory)
    → Tells (source_fault f) (300 + number) (source_told refusal number)
    ⊎ Tells (source_fault out_of_memory) (300 + number) (source_told refusal number)
told_one_of refusal f number is (inl e) = inl (tells_same refusal f number is e)
told_one_of refusal f number is (inr e) = inr (tells_same refusal out_of_memory number is e)

above_300 : (number : ℕ) → 300 + number ≡ 0 → ⊥
above_300 number e = omega arith

beside_3 : (number : ℕ) → 300 + number ≡ 3 → ⊥
beside_3 number e = omega arith

source_refused_here : (map : Map) (source : List ℕ) (refusal : AsmFault) (number : ℕ)
    → number ≡ source_fault_number refusal.kind
    → ((refusal ≡ out_of_memory) ⊎ HasFault map (cleaned source) refusal)
    → ((image : List (Option ℕ)) → Denotes map (cleaned source) image → refusal ≡ out_of_memory)
    → ((f : AsmFault) → HasFault map (cleaned source) f → (failed refusal ≡ Err f) ⊎ (failed refusal ≡ Err out_of_memory))
    → (1048576 < length source → failed refusal ≡ Err too_large)
    → AnswersSource map source (300 + number) (source_told refusal number) None
source_refused_here map source refusal number is either only faulty large = record {
  ok = λ e. absurd (above_300 number e);
  same = λ e. refl;
  memory = λ e. absurd (beside_3 number e);
  refused = λ e other. (refusal, either, tells_source refusal number is);
  right = λ image denotes e other. tells_same refusal out_of_memory number is (ap (λ f. failed f) (only image denotes));
  faulty = λ f has. told_one_of refusal f number is (faulty f has);
  large = λ above. tells_same refusal too_large number is (large above);
}

-- The same where the map, the fault that is told and what stands in the slot have other names.
named_source : (own map : Map) → own ≡ map → (source : List ℕ) (status : ℕ) (fault told : Fault) → fault ≡ told
    → (now then : Option AssemblyView) → now ≡ then → AnswersSource own source status told then
    → AnswersSource map source status fault now
named_source own map is source status fault told same now then stands answers =
    subst (λ m. AnswersSource m source status fault now) is
    (subst (λ f. AnswersSource own source status f now) (sym same)
    (subst (λ x. AnswersSource own source status told x) (sym stands) answers))

pub assembled : (own map : Map) → own ≡ map → (source : List ℕ) (a : AssemblyView)
    (fault : Fault) → fault ≡ no_fault → (now : Option AssemblyView) → now ≡ Some a
    → IsAssembly own (cleaned source) a
    → ((f : AsmFault) → HasFault own (cleaned source) f → (made a ≡ Err f) ⊎ (made a ≡ Err out_of_memory))
    → (1048576 < length source → made a ≡ Err too_large)
    → AnswersSource map source 0 fault now
assembled own map is source a fault same now stands right faulty large =
    named_source own map is source 0 fault no_fault same now (Some a) stands (assembled_here own source a right faulty large)

pub unheld : (own map : Map) → own ≡ map → (source : List ℕ) (a : AssemblyView)
    (fault : Fault) → fault ≡ no_fault → (now : Option AssemblyView) → now ≡ None
    → ((f : AsmFault) → HasFault own (cleaned source) f → (made a ≡ Err f) ⊎ (made a ≡ Err out_of_memory))
    → (1048576 < length source → made a ≡ Err too_large)
    → AnswersSource map source 3 fault now
unheld own map is source a fault same now stands faulty large =
    named_source own map is source 3 fault no_fault same now None stands (unheld_here own source a faulty large)

pub source_refused : (own map : Map) → own ≡ map → (source : List ℕ) (refusal : AsmFault)
    (now : Option AssemblyView) → now ≡ None → (number : ℕ)
    → number ≡ source_fault_number refusal.kind
    → ((refusal ≡ out_of_memory) ⊎ HasFault own (cleaned source) refusal)
    → ((image : List (Option ℕ)) → Denotes own (cleaned source) image → refusal ≡ out_of_memory)
    → ((f : AsmFault) → HasFault own (cleaned source) f → (failed refusal ≡ Err f) ⊎ (failed refusal ≡ Err out_of_memory))
    → (1048576 < length source → failed refusal ≡ Err too_large)
    → AnswersSource map source (300 + number) (source_told refusal number) now
source_refused own map is source refusal now stands number counts either only faulty large =
    named_source own map is source (300 + number) (source_told refusal number) _ refl now None stands
    (source_refused_here own source refusal number counts either only faulty large)

-- ---- a tape

abbrev image_read : List (Option ℕ) → Result (List (Option ℕ)) TapeFault
image_read image = Ok image

abbrev tape_failed : TapeFault → Result (List (Option ℕ)) TapeFault
tape_failed fault = Err fault

abbrev image_in : List (Option ℕ) → Result (List (Option ℕ)) TapeFault → List (Option ℕ)
image_in other (Ok image) = image
image_in other (Err fault) = other

abbrev tape_fault_in : Result (List (Option ℕ)) TapeFault → TapeFault
tape_fault_in (Ok image) = no_memory
tape_fault_in (Err fault) = fault

same_image : (map : Map) (history : ℕ) (i image : List (Option ℕ)) (status : ℕ) (now : Option Session)
    → AnswersStart map history i status now
    → (image_read i ≡ Ok image) ⊎ (image_read i ≡ Err no_memory)
    → AnswersStart map history image status now
same_image map history i image status now starts (inl e) =
    let same : i ≡ image = ap (λ r. image_in i r) e in
    subst (λ x. AnswersStart map history x status now) same starts
same_image map history i image status now starts (inr e) = absurd cc

tape_read_here : (map : Map) (history : ℕ) (tape : List ℕ) (i : List (Option ℕ)) (status : ℕ) (now : Option Session)
    → AnswersStart map history i status now
    → TapeDenotes tape i
    → ((image : List (Option ℕ)) → TapeDenotes tape image → (image_read i ≡ Ok image) ⊎ (image_read i ≡ Err no_memory))
    → ((f : TapeFault) → FirstFault tape f.kind f.offset → (image_read i ≡ Err f) ⊎ (image_read i ≡ Err no_memory))
    → AnswersTape map history tape status no_fault now
tape_read_here map history tape i status now starts denotes only faulty = record {
  ok = λ e. (refl, i, denotes, starts.ok e);
  same = λ e. starts.same e;
  right = λ image other. inl (refl, same_image map history i image status now starts (only image other));
  faulty = λ f first. absurd (not_refused i _ _ (faulty f first));
}

abbrev tape_told : TapeFault → ℕ → Fault
tape_told refusal number = record { status = 400 + number; line = 0; offset = refusal.offset }

tells_tape : (refusal f : TapeFault) (number : ℕ) → number ≡ tape_fault_number refusal.kind
    → tape_failed refusal ≡ Err f → Tells (tape_fault f) (400 + number) (tape_told refusal number)
tells_tape refusal f number is e =
    let same : refusal ≡ f = ap tape_fault_in e in
    let own : Tells (tape_fault refusal) (400 + number) (tape_told refusal number) = (ap (λ n. 400 + n) is, ap (λ n. tape_told refusal n) is) in
    subst (λ g. Tells (tape_fault g) (400 + number) (tape_told refusal number)) same own

tape_told_one_of : (refusal f : TapeFault) (number : ℕ) → number ≡ tape_fault_number refusal.kind
    → (tape_failed refusal ≡ Err f) ⊎ (tape_failed refusal ≡ Err no_memory)
    → Tells (tape_fault f) (400 + number) (tape_told refusal number)
    ⊎ Tells (tape_fault no_memory) (400 + number) (tape_told refusal number)
tape_told_one_of refusal f number is (inl e) = inl (tells_tape refusal f number is e)
tape_told_one_of refusal f number is (inr e) = inr (tells_tape refusal no_memory number is e)

tape_for_memory : (refusal : TapeFault) (image : List (Option ℕ)) (number : ℕ) → number ≡ tape_fault_number refusal.kind
    → (tape_failed refusal ≡ Ok image) ⊎ (tape_failed refusal ≡ Err no_memory)
    → Tells (tape_fault no_memory) (400 + number) (tape_told refusal number)
tape_for_memory refusal image number is (inl e) = absurd cc
tape_for_memory refusal image number is (inr e) = tells_tape refusal no_memory number is e

above_400 : (number : ℕ) → 400 + number ≡ 0 → ⊥
above_400 number e = omega arith

tape_refused_here : (map : Map) (history : ℕ) (tape : List ℕ) (refusal : TapeFault) (number : ℕ)
    → number ≡ tape_fault_number refusal.kind
    → ((image : List (Option ℕ)) → TapeDenotes tape image → (tape_failed refusal ≡ Ok image) ⊎ (tape_failed refusal ≡ Err no_memory))
    → ((f : TapeFault) → FirstFault tape f.kind f.offset → (tape_failed refusal ≡ Err f) ⊎ (tape_failed refusal ≡ Err no_memory))
    → AnswersTape map history tape (400 + number) (tape_told refusal number) None
tape_refused_here map history tape refusal number is only faulty = record {
  ok = λ e. absurd (above_400 number e);
  same = λ e. refl;
  right = λ image denotes. inr (tape_for_memory refusal image number is (only image denotes));
  faulty = λ f first. tape_told_one_of refusal f number is (faulty f first);
}

named_tape : (own map : Map) → own ≡ map → (history : ℕ) (tape : List ℕ) (status : ℕ) (fault told : Fault) → fault ≡ told
    → (now then : Option Session) → now ≡ then → AnswersTape own history tape status told then
    → AnswersTape map history tape status fault now
named_tape own map is history tape status fault told same now then stands answers =
    subst (λ m. AnswersTape m history tape status fault now) is
    (subst (λ f. AnswersTape own history tape status f now) (sym same)
    (subst (λ x. AnswersTape own history tape status told x) (sym stands) answers))

pub tape_read : (own map : Map) → own ≡ map → (history : ℕ) (tape : List ℕ) (i : List (Option ℕ)) (status : ℕ)
    (fault : Fault) → fault ≡ no_fault → (now : Option Session)
    → AnswersStart own history i status now
    → TapeDenotes tape i
    → ((image : List (Option ℕ)) → TapeDenotes tape image → (image_read i ≡ Ok image) ⊎ (image_read i ≡ Err no_memory))
    → ((f : TapeFault) → FirstFault tape f.kind f.offset → (image_read i ≡ Err f) ⊎ (image_read i ≡ Err no_memory))
    → AnswersTape map history tape status fault now
tape_read own map is history tape i status fault same now starts denotes only faulty =
    named_tape own map is history tape status fault no_fault same now now refl
    (tape_read_here own history tape i status now starts denotes only faulty)

pub tape_refused : (own map : Map) → own ≡ map → (history : ℕ) (tape : List ℕ) (refusal : TapeFault)
    (now : Option Session) → now ≡ None → (number : ℕ)
    → number ≡ tape_fault_number refusal.kind
    → ((image : List (Option ℕ)) → TapeDenotes tape image → (tape_failed refusal ≡ Ok image) ⊎ (tape_failed refusal ≡ Err no_memory))
    → ((f : TapeFault) → FirstFault tape f.kind f.offset → (tape_failed refusal ≡ Err f) ⊎ (tape_failed refusal ≡ Err no_memory))
    → AnswersTape map history tape (400 + number) (tape_told refusal number) now
tape_refused own map is history tape refusal now stands number counts only faulty =
    named_tape own map is history tape (400 + number) (tape_told refusal number) _ refl now None stands
    (tape_refused_here own history tape refusal number counts only faulty)
