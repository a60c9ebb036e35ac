-- From what is known of an image in its form to what is known of the bytes.
use Rattle.std.proofs.Common.{◌≡◌, ◌∙◌, ◌⊎◌, ℕ, List, Option, Result, Ok, Err, IfErr, IfOk, inl, inr, refl, sym, ap, subst}
use Rattle.arguments.specs.declared.refusal.Refusal.TheVariants as refusal
use Rattle.image_reader.specs.Images.{Denotes, HasFault}
use Rattle.image_reader.specs.declared.fault.ImageFault.{ImageFault}
use Rattle.image_reader.specs.declared.fault.ImageFault.TheVariants as fault
use Rattle.image_reader.specs.declared.form.Form.{Form}
use Rattle.image_files.specs.declared.form.OtherText.{OtherText}
use Rattle.image_files.specs.Bytes.{IsFaulty, IsImage, IsNoImage, as_refusal, form_by, of_fault}
use Rattle.image_files.specs.declared.refusal.ImageRefusal.{ImageRefusal}
use Rattle.image_files.specs.declared.refusal.ImageRefusal.TheVariants.{NoImage, Refused}
use Rattle.image_files.specs.declared.refusal.NoImage.TheVariants.{Record, PastEnd, NoAddress, Looks, TooLong}

abbrev Cells : Type 0
Cells = List (Option ℕ)

abbrev pub Memory : ImageRefusal
Memory = Refused refusal.OutOfMemory

one_form : (said : Option Form) (bytes : List ℕ) (one other : Form) → form_by said bytes ≡ Ok one → form_by said bytes ≡ Ok other → one ≡ other
one_form said bytes one other p q = cc

no_form : {A : Type 0} (said : Option Form) (bytes : List ℕ) (form : Form) (like : OtherText) → form_by said bytes ≡ Ok form → form_by said bytes ≡ Err like → A
no_form said bytes form like p q = absurd (clash p q)
  where
    clash : form_by said bytes ≡ Ok form → form_by said bytes ≡ Err like → ⊥
    clash p q = cc

one_like : (said : Option Form) (bytes : List ℕ) (one other : OtherText) → form_by said bytes ≡ Err one → form_by said bytes ≡ Err other → one ≡ other
one_like said bytes one other p q = cc

abbrev Read : Type 0
Read = Result Cells ImageFault

-- ---- bytes in their form

module _ (said : Option Form) (bytes : List ℕ) (form : Form) (read : Read) (told : form_by said bytes ≡ Ok form) where
  in_form : (f : ImageFault) → IsFaulty said bytes f → HasFault form bytes f
  in_form f is = subst (λ g. HasFault g bytes f) (one_form said bytes is.0 form is.1 told) is.2

  -- why bytes denote none is a fault in their form
  fault_of : (why : ImageRefusal) → IsNoImage said bytes why → (f : ImageFault) × (why ≡ of_fault f) × HasFault form bytes f
  fault_of (NoImage (Looks like)) is = no_form said bytes form like told is
  fault_of (NoImage (Record f)) is = (fault.Record f, refl, in_form (fault.Record f) is)
  fault_of (NoImage PastEnd) is = (fault.PastEnd, refl, in_form fault.PastEnd is)
  fault_of (NoImage NoAddress) is = (fault.NoAddress, refl, in_form fault.NoAddress is)
  fault_of (NoImage TooLong) is = absurd is
  fault_of (Refused (refusal.Tape f)) is = (fault.Tape f, refl, in_form (fault.Tape f) is)
  fault_of (Refused refusal.Words) is = absurd is
  fault_of (Refused (refusal.Map f)) is = absurd is
  fault_of (Refused (refusal.Source f)) is = absurd is
  fault_of (Refused (refusal.Session f)) is = absurd is
  fault_of (Refused refusal.OutOfMemory) is = absurd is
  fault_of (Refused (refusal.Read f)) is = absurd is
  fault_of (Refused refusal.Write) is = absurd is
  fault_of (Refused (refusal.WriteFile f)) is = absurd is

  -- a fault in their form is why they denote none
  fault_by : (f : ImageFault) → (f ≡ fault.OutOfMemory) ⊎ HasFault form bytes f → (of_fault f ≡ Memory) ⊎ IsNoImage said bytes (of_fault f)
  fault_by f (inl memory) = inl (ap of_fault memory)
  fault_by (fault.Record f) (inr has) = inr (form, told, has)
  fault_by (fault.Tape f) (inr has) = inr (form, told, has)
  fault_by fault.PastEnd (inr has) = inr (form, told, has)
  fault_by fault.NoAddress (inr has) = inr (form, told, has)
  fault_by fault.OutOfMemory (inr has) = inl refl

  pub only_in : ((cells : Cells) → Denotes form bytes cells → (read ≡ Ok cells) ⊎ (read ≡ Err fault.OutOfMemory))
      → (cells : Cells) → IsImage said bytes cells → (as_refusal read ≡ Ok cells) ⊎ (as_refusal read ≡ Err Memory)
  only_in only cells is = elim (only cells (subst (λ f. Denotes f bytes cells) (one_form said bytes is.0 form is.1 told) is.2)) [
    | inl e ↦ inl (ap as_refusal e)
    | inr e ↦ inr (ap as_refusal e)
  ]

  pub refused_in : ((f : ImageFault) → HasFault form bytes f → (read ≡ Err f) ⊎ (read ≡ Err fault.OutOfMemory))
      → (why : ImageRefusal) → IsNoImage said bytes why → (as_refusal read ≡ Err why) ⊎ (as_refusal read ≡ Err Memory)
  refused_in refused why is = let g = fault_of why is in elim (refused g.0 g.2) [
    | inl e ↦ inl (ap as_refusal e ∙ ap Err (sym g.1))
    | inr e ↦ inr (ap as_refusal e)
  ]

pub found_in : (said : Option Form) (bytes : List ℕ) (form : Form) (read : Read) → form_by said bytes ≡ Ok form → IfOk read (Denotes form bytes)
    → IfOk (as_refusal read) (IsImage said bytes)
found_in said bytes form (Ok cells) told denotes = (form, told, denotes)
found_in said bytes form (Err f) told denotes = tt

pub fault_in : (said : Option Form) (bytes : List ℕ) (form : Form) (read : Read) → form_by said bytes ≡ Ok form
    → IfErr read (λ f. (f ≡ fault.OutOfMemory) ⊎ HasFault form bytes f)
    → IfErr (as_refusal read) (λ why. (why ≡ Memory) ⊎ IsNoImage said bytes why)
fault_in said bytes form (Ok cells) told has = tt
fault_in said bytes form (Err f) told has = fault_by said bytes form (Err f) told f has

-- ---- bytes that tell no form

pub only_other : (said : Option Form) (bytes : List ℕ) (like : OtherText) (A : Type 0) (cells : Cells) → form_by said bytes ≡ Err like
    → IsImage said bytes cells → A
only_other said bytes like A cells told is = no_form said bytes is.0 like is.1 told

pub refused_other : (said : Option Form) (bytes : List ℕ) (like : OtherText) (why : ImageRefusal) → form_by said bytes ≡ Err like
    → IsNoImage said bytes why → NoImage (Looks like) ≡ why
refused_other said bytes like (NoImage (Looks other)) told is = ap (λ l. NoImage (Looks l)) (one_like said bytes like other told is)
refused_other said bytes like (NoImage (Record f)) told is = no_form said bytes is.0 like is.1 told
refused_other said bytes like (NoImage PastEnd) told is = no_form said bytes is.0 like is.1 told
refused_other said bytes like (NoImage NoAddress) told is = no_form said bytes is.0 like is.1 told
refused_other said bytes like (NoImage TooLong) told is = absurd is
refused_other said bytes like (Refused (refusal.Tape f)) told is = no_form said bytes is.0 like is.1 told
refused_other said bytes like (Refused refusal.Words) told is = absurd is
refused_other said bytes like (Refused (refusal.Map f)) told is = absurd is
refused_other said bytes like (Refused (refusal.Source f)) told is = absurd is
refused_other said bytes like (Refused (refusal.Session f)) told is = absurd is
refused_other said bytes like (Refused refusal.OutOfMemory) told is = absurd is
refused_other said bytes like (Refused (refusal.Read f)) told is = absurd is
refused_other said bytes like (Refused refusal.Write) told is = absurd is
refused_other said bytes like (Refused (refusal.WriteFile f)) told is = absurd is
