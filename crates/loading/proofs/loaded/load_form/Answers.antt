use Rattle.std.proofs.Common.{◌≡◌, ℕ, List, Option}
use Rattle.accesses.specs.Writing.{bytes_in}
use Rattle.loading.proofs.Ends.{refused_as, started_as}
use Rattle.loading.specs.declared.loaded.Loaded.{Loaded}
use Rattle.model.specs.Event.{start}
use Rattle.model.specs.Session.{new_session}
use Rattle.loading.proofs.loaded.load_form.Goals as goal

pub returns-clause-started : goal.returns-clause-started
returns-clause-started g c =
    started_as c.args.words.now.form c.args.words.now.omits_fill c.args.map (λ (x : Loaded). x.fill) (λ (x : Loaded). x.assembly)
    (λ (x : Loaded) (image : List (Option ℕ)). x.session ≡ new_session c.args.history (start c.args.map image))
    (λ (x : Loaded) (image : List (Option ℕ)). x.written ≡ bytes_in image)
    c.load_image.result c.requires.form (rw c.said_of-said.ensures at c.load_image.ensures.started)

pub returns-clause-refused : goal.returns-clause-refused
returns-clause-refused g c =
    refused_as c.args.words.now.form c.args.words.now.omits_fill c.args.map c.args.words.now.file.now c.load_image.result c.requires.form
    (rw c.said_of-said.ensures at c.load_image.ensures.refused)
