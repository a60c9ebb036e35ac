-- What is known of an address, if something is known.
use Rattle.std.proofs.Common.{◌≡◌, ℕ, List, [], Option, None, Some, inl, inr, subst, sym}
use Rattle.assembler.specs.Assembly.{AssemblyView}
use Rattle.source_map.specs.Lines.{PlacesView, places_of}
use Rattle.word_run.specs.Known.{known_by}
use Rattle.word_run.specs.Told.{IsSite, site_text}

-- Nothing may be said of any address.
pub no_site : (known : Option PlacesView) (address : ℕ) (site : List ℕ) → site ≡ [] → IsSite known address site
no_site None address site is = is
no_site (Some places) address site is = inr is

pub source_site : (file : List ℕ) (assembly : Option AssemblyView) (a : AssemblyView) (places : PlacesView) (address : ℕ) (site : List ℕ)
    → assembly ≡ Some a → places ≡ places_of file a → site ≡ site_text places address → IsSite (known_by file assembly None) address site
source_site file assembly a places address site source same is =
    let by_source : IsSite (Some (places_of file a)) address site = subst (λ (p : PlacesView). IsSite (Some p) address site) same (inl is) in
    subst (λ x. IsSite (known_by file x None) address site) (sym source) by_source

pub debug_site : (file : List ℕ) (assembly : Option AssemblyView) (debug : Option PlacesView) (places : PlacesView) (address : ℕ) (site : List ℕ)
    → debug ≡ Some places → site ≡ site_text places address → IsSite (known_by file assembly debug) address site
debug_site file assembly debug places address site known is = subst (λ x. IsSite (known_by file assembly x) address site) (sym known) (inl is)

pub none_site : (file : List ℕ) (assembly : Option AssemblyView) (debug : Option PlacesView) (address : ℕ) (site : List ℕ)
    → debug ≡ None → IsSite (known_by file assembly None) address site → IsSite (known_by file assembly debug) address site
none_site file assembly debug address site none is = subst (λ x. IsSite (known_by file assembly x) address site) (sym none) is
