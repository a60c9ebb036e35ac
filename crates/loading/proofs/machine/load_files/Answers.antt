use Rattle.std.proofs.Common.{◌≡◌, List, Option, ℕ}
use Rattle.accesses.specs.Writing.{bytes_in}
use Rattle.arguments.specs.Asked.{file_view, map_of}
use Rattle.loading.proofs.Machines.{alone_begun, alone_ends, alone_named, several_begun, several_ends, several_named}
use Rattle.loading.specs.declared.loaded.Loaded.{Loaded}
use Rattle.model.specs.Event.{start}
use Rattle.model.specs.Session.{new_session}
use Rattle.loading.proofs.machine.load_files.Goals as goal

pub returns-in-None-clause-started : goal.returns-in-None-clause-started
returns-in-None-clause-started g c =
    alone_begun (file_view c.args.words.now) c.args.others (λ (image : List (Option ℕ)) (x : Loaded). x.session
    ≡ new_session c.args.history (start (map_of (file_view c.args.words.now)) image))
    (λ (image : List (Option ℕ)) (x : Loaded). x.written ≡ bytes_in image) c.alone_with_history.result c.in-None.is c.alone_with_history.ensures.started

pub returns-in-None-clause-refused : goal.returns-in-None-clause-refused
returns-in-None-clause-refused g c = alone_ends (file_view c.args.words.now) c.args.others c.alone_with_history.result c.in-None.is
    c.alone_with_history.ensures.refused

pub returns-in-Some-clause-started : goal.returns-in-Some-clause-started
returns-in-Some-clause-started g c =
    several_begun (file_view c.args.words.now) c.args.others c.in-Some.field-0
    (λ (image : List (Option ℕ)) (x : Loaded). x.session ≡ new_session c.args.history (start (map_of (file_view c.args.words.now)) image))
    (λ (image : List (Option ℕ)) (x : Loaded). x.written ≡ bytes_in image) c.several_alone.result c.in-Some.is c.several_alone.ensures.started

pub returns-in-Some-clause-refused : goal.returns-in-Some-clause-refused
returns-in-Some-clause-refused g c = several_ends (file_view c.args.words.now) c.args.others c.in-Some.field-0 c.several_alone.result c.in-Some.is
    c.several_alone.ensures.refused

pub returns-in-None-clause-named : goal.returns-in-None-clause-named
returns-in-None-clause-named g c = alone_named (file_view c.args.words.now) c.args.others c.alone_with_history.result c.in-None.is
    c.alone_with_history.ensures.named

pub returns-in-Some-clause-named : goal.returns-in-Some-clause-named
returns-in-Some-clause-named g c = several_named (file_view c.args.words.now) c.args.others c.in-Some.field-0 c.several_alone.result c.in-Some.is
