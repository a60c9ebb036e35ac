-- Commands by how many words they have are the rows of the table of commands.
use Rattle.std.proofs.Common.{◌≡◌, ℕ, Bool, true, false, List, [], ◌∷◌, refl, sym, subst, codes, Option, Some, None, ◌⊎◌, inl, inr}
use Rattle.std.specs.Str.{bytes_eq}
use Rattle.std.proofs.lemmas.Bool.{cases_Bool}
use Rattle.std.proofs.lemmas.Slice.Eq.{bytes_eq-Decides}
use Rattle.model.specs.declared.command.Command.TheVariants.{Bad}
use Rattle.model.specs.Commands.{address_of, command_of_words, patch_command}
use Rattle.commands.specs.Groups.{plain_command, pair_command, triple_command, long_command}

-- what holds of a name, and of each word that is not that name, holds of each word
by_name : (P : List ℕ → Type 0) (name w : List ℕ) → P name → (bytes_eq w name ≡ false → P w) → P w
by_name P name w p f = elim (cases_Bool (bytes_eq w name)) [
  | inl t ↦ subst P (sym ((bytes_eq-Decides w name).0 t)) p
  | inr e ↦ f e
]

-- a command of one word
pub plain_row : (w : List ℕ) → plain_command w ≡ command_of_words (w ∷ [])
unfolding plain_command command_of_words
plain_row w =
    let P : List ℕ → Type 0 = (λ v. plain_command v ≡ command_of_words (v ∷ [])) in
    by_name P (codes "regs") w refl (λ regs_not.
    by_name P (codes "step") w refl (λ step_not.
    by_name P (codes "reset") w refl (λ reset_not.
    by_name P (codes "nmi") w refl (λ nmi_not.
    by_name P (codes "out") w refl (λ out_not.
    by_name P (codes "breaks") w refl (λ breaks_not.
    by_name P (codes "quit") w refl (λ quit_not.
    by_name P (codes "irq") w refl (λ irq_not.
    by_name P (codes "in") w refl (λ in_not.
    by_name P (codes "run") w refl (λ run_not.
    by_name P (codes "back") w refl (λ back_not.
    by_name P (codes "break") w refl (λ break_not.
    by_name P (codes "unbreak") w refl (λ unbreak_not.
    by_name P (codes "watch") w refl (λ watch_not.
    by_name P (codes "unwatch") w refl (λ unwatch_not.
    by_name P (codes "mem") w refl (λ mem_not.
    by_name P (codes "set") w refl (λ set_not.
    by_name P (codes "patch") w refl (λ patch_not.
    by_name P (codes "dis") w refl (λ dis_not.
    rw (
      regs_not,
      step_not,
      reset_not,
      nmi_not,
      out_not,
      breaks_not,
      quit_not,
      irq_not,
      in_not,
      run_not,
      back_not,
      break_not,
      unbreak_not,
      watch_not,
      unwatch_not,
      mem_not,
      set_not,
      patch_not,
      dis_not,
    ) refl)))))))))))))))))))

-- a patch with no byte
no_bytes : (address : Option ℕ) → patch_command address (Some []) ≡ Bad
no_bytes (Some n) = refl
no_bytes None = refl

-- a command of two words
pub pair_row : (w a : List ℕ) → pair_command w a ≡ command_of_words (w ∷ a ∷ [])
unfolding pair_command command_of_words
pair_row w a =
    let P : List ℕ → Type 0 = (λ v. pair_command v a ≡ command_of_words (v ∷ a ∷ [])) in
    by_name P (codes "regs") w refl (λ regs_not.
    by_name P (codes "step") w refl (λ step_not.
    by_name P (codes "reset") w refl (λ reset_not.
    by_name P (codes "nmi") w refl (λ nmi_not.
    by_name P (codes "out") w refl (λ out_not.
    by_name P (codes "breaks") w refl (λ breaks_not.
    by_name P (codes "quit") w refl (λ quit_not.
    by_name P (codes "irq") w refl (λ irq_not.
    by_name P (codes "in") w refl (λ in_not.
    by_name P (codes "run") w refl (λ run_not.
    by_name P (codes "back") w refl (λ back_not.
    by_name P (codes "break") w refl (λ break_not.
    by_name P (codes "unbreak") w refl (λ unbreak_not.
    by_name P (codes "watch") w refl (λ watch_not.
    by_name P (codes "unwatch") w refl (λ unwatch_not.
    by_name P (codes "mem") w refl (λ mem_not.
    by_name P (codes "set") w refl (λ set_not.
    by_name P (codes "patch") w (sym (no_bytes (address_of a))) (λ patch_not.
    by_name P (codes "dis") w refl (λ dis_not.
    rw (
      regs_not,
      step_not,
      reset_not,
      nmi_not,
      out_not,
      breaks_not,
      quit_not,
      irq_not,
      in_not,
      run_not,
      back_not,
      break_not,
      unbreak_not,
      watch_not,
      unwatch_not,
      mem_not,
      set_not,
      patch_not,
      dis_not,
    ) refl)))))))))))))))))))

-- a command of three words
pub triple_row : (w a b : List ℕ) → triple_command w a b ≡ command_of_words (w ∷ a ∷ b ∷ [])
unfolding triple_command command_of_words
triple_row w a b =
    let P : List ℕ → Type 0 = (λ v. triple_command v a b ≡ command_of_words (v ∷ a ∷ b ∷ [])) in
    by_name P (codes "regs") w refl (λ regs_not.
    by_name P (codes "step") w refl (λ step_not.
    by_name P (codes "reset") w refl (λ reset_not.
    by_name P (codes "nmi") w refl (λ nmi_not.
    by_name P (codes "out") w refl (λ out_not.
    by_name P (codes "breaks") w refl (λ breaks_not.
    by_name P (codes "quit") w refl (λ quit_not.
    by_name P (codes "irq") w refl (λ irq_not.
    by_name P (codes "in") w refl (λ in_not.
    by_name P (codes "run") w refl (λ run_not.
    by_name P (codes "back") w refl (λ back_not.
    by_name P (codes "break") w refl (λ break_not.
    by_name P (codes "unbreak") w refl (λ unbreak_not.
    by_name P (codes "watch") w refl (λ watch_not.
    by_name P (codes "unwatch") w refl (λ unwatch_not.
    by_name P (codes "mem") w refl (λ mem_not.
    by_name P (codes "set") w refl (λ set_not.
    by_name P (codes "patch") w refl (λ patch_not.
    by_name P (codes "dis") w refl (λ dis_not.
    rw (
      regs_not,
      step_not,
      reset_not,
      nmi_not,
      out_not,
      breaks_not,
      quit_not,
      irq_not,
      in_not,
      run_not,
      back_not,
      break_not,
      unbreak_not,
      watch_not,
      unwatch_not,
      mem_not,
      set_not,
      patch_not,
      dis_not,
    ) refl)))))))))))))))))))

-- a command of more than three words
pub long_row : (w a b c : List ℕ) (ws : List (List ℕ)) → long_command w a (b ∷ c ∷ ws) ≡ command_of_words (w ∷ a ∷ b ∷ c ∷ ws)
unfolding long_command command_of_words
long_row w a b c ws =
    let P : List ℕ → Type 0 = (λ v. long_command v a (b ∷ c ∷ ws) ≡ command_of_words (v ∷ a ∷ b ∷ c ∷ ws)) in
    by_name P (codes "regs") w refl (λ regs_not.
    by_name P (codes "step") w refl (λ step_not.
    by_name P (codes "reset") w refl (λ reset_not.
    by_name P (codes "nmi") w refl (λ nmi_not.
    by_name P (codes "out") w refl (λ out_not.
    by_name P (codes "breaks") w refl (λ breaks_not.
    by_name P (codes "quit") w refl (λ quit_not.
    by_name P (codes "irq") w refl (λ irq_not.
    by_name P (codes "in") w refl (λ in_not.
    by_name P (codes "run") w refl (λ run_not.
    by_name P (codes "back") w refl (λ back_not.
    by_name P (codes "break") w refl (λ break_not.
    by_name P (codes "unbreak") w refl (λ unbreak_not.
    by_name P (codes "watch") w refl (λ watch_not.
    by_name P (codes "unwatch") w refl (λ unwatch_not.
    by_name P (codes "mem") w refl (λ mem_not.
    by_name P (codes "set") w refl (λ set_not.
    by_name P (codes "patch") w refl (λ patch_not.
    by_name P (codes "dis") w refl (λ dis_not.
    rw (
      regs_not,
      step_not,
      reset_not,
      nmi_not,
      out_not,
      breaks_not,
      quit_not,
      irq_not,
      in_not,
      run_not,
      back_not,
      break_not,
      unbreak_not,
      watch_not,
      unwatch_not,
      mem_not,
      set_not,
      patch_not,
      dis_not,
    ) refl)))))))))))))))))))
