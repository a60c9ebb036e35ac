-- What is told of warnings, if there is a source.
use Rattle.std.proofs.Common.{◌≡◌, ◌⊎◌, ◌++◌, ℕ, List, [], Option, None, Some, inl, refl, subst, sym}
use Rattle.std.specs.Borrow.{Bor}
use Rattle.std.specs.Prelude.{option_map}
use Rattle.assembler.specs.Assembly.{AssemblyView}
use Rattle.loading.specs.Told.{Heard, Tells}
use Rattle.loading.specs.Warned.{IsCount, OnlyWarned, TellsWarnings, left_text, warned_text}
use Rattle.model.proofs.Written.{front_none}
use Rattle.model.specs.State.{Map}

pub none_told : (bus_map : Map) (assembly : Option AssemblyView) (lost : ℕ) (fill : Option ℕ) (heard : Heard) → assembly ≡ None
    → Tells heard (left_text lost fill) → TellsWarnings bus_map assembly lost fill heard
none_told bus_map assembly lost fill heard is told = subst (λ (o : Option AssemblyView). TellsWarnings bus_map o lost fill heard) (sym is) told

pub some_told : (bus_map : Map) (assembly : Option (Bor AssemblyView)) (a : Bor AssemblyView) (heard : Heard) (count lost : ℕ) (fill : Option ℕ)
    → assembly ≡ Some a → IsCount bus_map a.now.source count → Tells heard (warned_text count ++ left_text lost fill)
    → TellsWarnings bus_map (option_map (λ x. x.now) assembly) lost fill heard
some_told bus_map assembly a heard count lost fill is counted told =
    subst (λ (o : Option (Bor AssemblyView)). TellsWarnings bus_map (option_map (λ x. x.now) o) lost fill heard) (sym is) (count, counted, told)

nothing : warned_text 0 ≡ []
unfolding warned_text
nothing = refl

-- Nothing else was told.
only_by : (base : Option ℕ) (bus_map : Map) (assembly : Option AssemblyView) (lost : ℕ) (fill : Option ℕ) (heard : Heard) → (fill ≡ None) ⊎ (fill ≡ base)
    → TellsWarnings bus_map assembly lost fill heard → OnlyWarned base heard.held heard.now
only_by base bus_map None lost fill heard left told =
    (0, lost, fill, left, subst (λ (text : List ℕ). Tells heard (text ++ left_text lost fill)) (sym nothing) told)
only_by base bus_map (Some a) lost fill heard left told = (told.0, lost, fill, left, told.2)

pub only_warned : {E : Type 0} (contents : E → Option (List ℕ)) (base : Option ℕ) (bus_map : Map) (assembly : Option AssemblyView) (lost : ℕ)
    (fill : Option ℕ) (first told last : E) → last ≡ told → (fill ≡ None) ⊎ (fill ≡ base)
    → TellsWarnings bus_map assembly lost fill (record { held = contents first; now = contents told })
    → OnlyWarned base (contents first) (contents last)
only_warned contents base bus_map assembly lost fill first told last same left warned =
    subst (λ e. OnlyWarned base (contents first) (contents e)) (sym same)
    (only_by base bus_map assembly lost fill (record { held = contents first; now = contents told }) left warned)

pub untold : {E : Type 0} (contents : E → Option (List ℕ)) (base : Option ℕ) (first last : E) → last ≡ first
    → OnlyWarned base (contents first) (contents last)
untold contents base first last same = subst (λ e. OnlyWarned base (contents first) (contents e)) (sym same)
    (0, 0, None, inl refl, front_none (contents first) (warned_text 0 ++ left_text 0 None))
