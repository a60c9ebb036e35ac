-- What the exit status says of words that are refused, and of words that are not.
use Rattle.std.proofs.Common.{◌≡◌, ◌∙◌, ◌≤◌, ◌⊎◌, ℕ, inl, inr, List, [], ◌∷◌, sym, subst}
use Rattle.clap.specs.Words.{App, IsAmong, Text, fault_of, kind_of}
use Rattle.clap.specs.declared.error.kind.ErrorKind.{ErrorKind}
use Rattle.clap.specs.declared.error.kind.ErrorKind.TheVariants as kind
use Rattle.arguments.specs.Words.{AsksForHelp, Fits, IsRefusalOf, IsStatusOf, Refuses}
use Rattle.arguments.specs.declared.fault.WordsFault.{WordsFault}
use Rattle.arguments.specs.declared.fault.WordsFault.TheVariants.{Help, OutOfMemory, Usage, Value, Wrong}

abbrev Usual : ℕ → Type 0
Usual status = (status ≡ 2) ⊎ (status ≡ 3)

abbrev Helped : ℕ → Type 0
Helped status = (status ≡ 0) ⊎ (status ≡ 3) ⊎ (status ≡ 4)

-- Help that is asked for leaves no other kind of fault.
not_help : (k : ErrorKind) (words : List Text) (app : App) → ¬ (k ≡ kind.DisplayHelp) → IsAmong k (fault_of app words)
    → fault_of app words ≡ kind.DisplayHelp ∷ [] → ⊥
not_help k words app other among is = elim (subst (IsAmong k) is among) [
  | inl same ↦ other same
  | inr none ↦ absurd none
]

usage_of : (app : App) (words : List Text) (W : Type 0) (fault : WordsFault) (status : ℕ) → IsRefusalOf app words W fault → IsStatusOf fault status
    → ¬ Fits app words → ¬ AsksForHelp app words → Usual status
usage_of app words W (Help text) status is said misfits help = absurd (help is.1)
usage_of app words W (Usage text) status is said misfits help = inl said
usage_of app words W Value status is said misfits help = inl said
usage_of app words W (Wrong which) status is said misfits help = inl said
usage_of app words W OutOfMemory status is said misfits help = inr said

help_of : (app : App) (words : List Text) (W : Type 0) (fault : WordsFault) (status : ℕ) → IsRefusalOf app words W fault → IsStatusOf fault status
    → fault_of app words ≡ kind.DisplayHelp ∷ [] → Helped status
help_of app words W (Help text) status is (inl zero) asks = inl zero
help_of app words W (Help text) status is (inr four) asks = inr (inr four)
help_of app words W (Usage text) status is said asks = absurd (not_help (kind_of text) words app is.0 is.1 asks)
help_of app words W Value status is said asks = let no : [] ≡ kind.DisplayHelp ∷ [] = sym is.0 ∙ asks in absurd cc
help_of app words W (Wrong which) status is said asks = let no : [] ≡ kind.DisplayHelp ∷ [] = sym is.0 ∙ asks in absurd cc
help_of app words W OutOfMemory status is said asks = inr (inl said)

value_of : (app : App) (words : List Text) (W : Type 0) (fault : WordsFault) (status : ℕ) → IsRefusalOf app words W fault → IsStatusOf fault status
    → Fits app words → Usual status
value_of app words W (Help text) status is said fits = absurd (subst (IsAmong kind.DisplayHelp) fits is.1)
value_of app words W (Usage text) status is said fits = absurd (subst (IsAmong (kind_of text)) fits is.1)
value_of app words W Value status is said fits = inl said
value_of app words W (Wrong which) status is said fits = inl said
value_of app words W OutOfMemory status is said fits = inr said

-- Words that were refused, with the input and, but for help, the output left alone.
pub refuses : (app : App) (words : List Text) (W : Type 0) (fault : WordsFault) (status : ℕ) (Unread Unwritten : Type 0)
    → IsRefusalOf app words W fault → IsStatusOf fault status
    → Unread → (1 ≤ status → status ≤ 3 → Unwritten) → Refuses app words W status Unread Unwritten
refuses app words W fault status Unread Unwritten is said unread unwritten = record {
  untaken = λ h. (unread, unwritten);
  unasked = λ h. (unread, unwritten);
  usage = usage_of app words W fault status is said;
  help = help_of app words W fault status is said;
  value = λ fits wrong. value_of app words W fault status is said fits;
}

-- Words that fit, with right values, say nothing of words that are refused.
pub not_refused : (app : App) (words : List Text) (W : Type 0) (status : ℕ) (Unread Unwritten : Type 0) → Fits app words → (W → ⊥)
    → Refuses app words W status Unread Unwritten
not_refused app words W status Unread Unwritten fits right = record {
  untaken = λ h. absurd (h fits);
  unasked = λ h. absurd (right h);
  usage = λ h k. absurd (h fits);
  help = λ h. let no : [] ≡ kind.DisplayHelp ∷ [] = sym fits ∙ h in absurd cc;
  value = λ h wrong. absurd (right wrong);
}
