use Rattle.std.proofs.Common.{◌≡◌, None, subst, sym}
use Rattle.arguments.specs.Asked.{file_view, map_of}
use Rattle.loading.specs.Loads.{IsLoaded, IsSparedFile}
use Rattle.model.specs.Event.{start}
use Rattle.model.specs.Session.{new_session}
use Rattle.model.specs.State.{Map}
use Rattle.loading.proofs.Ends.{image_loaded, memory_residual}
use Rattle.loading.proofs.named.load_image.Goals as goal

pub returns-in_err-loaded-clause-refused : goal.returns-in_err-loaded-clause-refused
returns-in_err-loaded-clause-refused g c =
    memory_residual (file_view c.args.words.now) c.in_err-loaded.field-0.0 c.from_residual-in_err-loaded.result c.in_err-loaded.ensures.refused
    c.from_residual-in_err-loaded.ensures.1

pub returns-clause-loaded : goal.returns-clause-loaded
returns-clause-loaded g c =
    let spared = c.in_ok-spared.spared in
    let image = spared.image in
    let on_map = subst (λ (m : Map). IsSparedFile c.said_of-said.result c.args.words.now.omits_fill m spared.fill image) c.in_ok-map.ensures.map
    c.in_ok-spared.ensures.found in
    let found = subst (λ said. IsSparedFile said c.args.words.now.omits_fill (map_of (file_view c.args.words.now)) spared.fill image)
    c.said_of-said.ensures on_map in (
      subst (λ fill. IsLoaded (file_view c.args.words.now) fill image None) (sym c.in_ok-loaded.ensures.fill)
          (image_loaded (file_view c.args.words.now) spared.fill image c.in_ok-map.ensures.is_map c.requires.form found),
      c.in_ok-loaded.ensures.assembly,
      subst (λ m. c.in_ok-loaded.loaded.session ≡ new_session 0 (start m image)) c.in_ok-map.ensures.map c.in_ok-loaded.ensures.started,
      c.in_ok-loaded.ensures.bytes,
    )
