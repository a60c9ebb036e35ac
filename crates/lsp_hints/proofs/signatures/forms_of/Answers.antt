use Rattle.std.proofs.Common.{◌≡◌, ◌∷◌, [], Bor, IfOk, List, ℕ, subst}
use Rattle.json_messages.specs.Values.{list_of}
use Rattle.lsp_hints.specs.Signatures.{signature_data}
use Rattle.serde_json.specs.View.{view}
use Rattle.lsp_hints.proofs.signatures.forms_of.Goals.{in-Bytes, in-Words, in-WordsHighFirst, in-Reserve, in-Finish, in-Origin, in-Definition}
use Rattle.lsp_hints.proofs.signatures.forms_of.Goals as goal

pub returns : goal.returns
returns c =
    let has = c.build.ensures _ (c.with.ensures _ _ c.new.ensures (c.signature.ensures _ c.from_str.ensures.ok)) in
    elim c.match-operation.branch [
      | in-Bytes w ↦ rw (w.in-Bytes.is) (subst (λ (form : Bor (List ℕ)). IfOk c.build.result (λ v. view v ≡ list_of (signature_data form.now ∷ [])))
          w.form-is has)
      | in-Words w ↦ rw (w.in-Words.is) (subst (λ (form : Bor (List ℕ)). IfOk c.build.result (λ v. view v ≡ list_of (signature_data form.now ∷ [])))
          w.form-is has)
      | in-WordsHighFirst w ↦ rw (w.in-WordsHighFirst.is) (subst
          (λ (form : Bor (List ℕ)). IfOk c.build.result (λ v. view v ≡ list_of (signature_data form.now ∷ []))) w.form-is has)
      | in-Reserve w ↦ rw (w.in-Reserve.is) (subst (λ (form : Bor (List ℕ)).
          IfOk c.build.result (λ v. view v ≡ list_of (signature_data form.now ∷ []))) w.form-is has)
      | in-Finish w ↦ rw (w.in-Finish.is) (subst (λ (form : Bor (List ℕ)). IfOk c.build.result (λ v. view v ≡ list_of (signature_data form.now ∷ [])))
          w.form-is has)
      | in-Origin w ↦ rw (w.in-Origin.is) (subst (λ (form : Bor (List ℕ)). IfOk c.build.result (λ v. view v ≡ list_of (signature_data form.now ∷ [])))
          w.form-is has)
      | in-Definition w ↦ rw (w.in-Definition.is) (subst (λ (form : Bor (List ℕ)).
          IfOk c.build.result (λ v. view v ≡ list_of (signature_data form.now ∷ []))) w.form-is has)
    ]
