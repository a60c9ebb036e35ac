-- The text that is read in the place of a source, and what comes of it.
use Rattle.std.proofs.Common.{◌≡◌, ℕ, ◌<◌, List, length, Option, Result, Ok, Err, IfErr, IfOk, refl, subst, ◌⊎◌}
use Rattle.std.proofs.lemmas.Bool.{lt-ltb}
use Rattle.assembler.specs.Assembly.{AssemblyView, IsImageOrMemory, listing_of, out_of_memory}
use Rattle.clean_source.specs.Cleaned.{cleaned}
use Rattle.model.specs.Layout.{Context, IsLaidOut, PlacedLine}
use Rattle.model.specs.Listing.{IsListing}
use Rattle.model.specs.Source.{Denotes, HasFault, first_context, most_bytes, read_lines}
use Rattle.model.specs.State.{Map}
use Rattle.model.specs.declared.source_fault.AsmFault.{AsmFault}
use Rattle.mos65_c.specs.Answers.{AssemblesText}

-- One that is too large is read as it is.
pub large_stays : (source : List ℕ) → 1048576 < length source → cleaned source ≡ source
unfolding cleaned
large_stays source large = rw (lt-ltb most_bytes (length source) large) refl

-- What the assembler answers of a text, under another name of the text.
pub of_text : (map : Map) (source text : List ℕ) → text ≡ source → (result : Result AssemblyView AsmFault)
    → IfOk result (λ a. Denotes map text a.image)
    → IfOk result (λ a. IsListing map text (listing_of a))
    → IfOk result (λ a. (placed : List PlacedLine) (all : Context)
    → IsLaidOut (first_context map.profile) (read_lines map.profile text) placed all → a.names ≡ all.names)
    → ((image : List (Option ℕ)) → Denotes map text image → IsImageOrMemory result image)
    → IfErr result (λ f. (f ≡ out_of_memory) ⊎ HasFault map text f)
    → ((f : AsmFault) → HasFault map text f → (result ≡ Err f) ⊎ (result ≡ Err out_of_memory))
    → AssemblesText map source result
of_text map source text same (Ok a) denoted listed names only refused faulty =
    subst (λ t. AssemblesText map t (Ok a)) same (record {
      ok = record { image = denoted; listed = listed; names = names };
      only = only;
      refused = refused;
      faulty = faulty;
    })
of_text map source text same (Err f) denoted listed names only refused faulty =
    subst (λ t. AssemblesText map t (Err f)) same (record { ok = denoted; only = only; refused = refused; faulty = faulty })
