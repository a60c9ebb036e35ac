use Rattle.std.specs.Prelude.{option_map}
use Rattle.arguments.specs.Asked.{file_view}
use Rattle.arguments.specs.OtherFiles.{others_view}
use Rattle.loading.proofs.Machines.{alone_started, machine_idle, machine_silent, several_started}
use Rattle.loading.proofs.machine.load_machine.Goals as goal

pub returns-in-None-clause-started : goal.returns-in-None-clause-started
returns-in-None-clause-started g c =
    alone_started (file_view c.args.words.now) c.args.others (option_map (λ s. s.now) c.args.symbols) c.load_alone.result c.in-None.is
    c.load_alone.ensures.started

pub returns-in-None-clause-idle : goal.returns-in-None-clause-idle
returns-in-None-clause-idle g c =
    machine_idle (file_view c.args.words.now) (others_view c.args.others) (option_map (λ s. s.now) c.args.symbols) c.load_alone.result
    (alone_started (file_view c.args.words.now) c.args.others (option_map (λ s. s.now) c.args.symbols) c.load_alone.result c.in-None.is
    c.load_alone.ensures.started)

pub returns-in-None-clause-silent : goal.returns-in-None-clause-silent
returns-in-None-clause-silent g c =
    machine_silent (file_view c.args.words.now) (others_view c.args.others) (option_map (λ s. s.now) c.args.symbols) c.load_alone.result
    (alone_started (file_view c.args.words.now) c.args.others (option_map (λ s. s.now) c.args.symbols) c.load_alone.result c.in-None.is
    c.load_alone.ensures.started)

pub returns-in-Some-clause-started : goal.returns-in-Some-clause-started
returns-in-Some-clause-started g c =
    several_started (file_view c.args.words.now) c.args.others c.in-Some.field-0 (option_map (λ s. s.now) c.args.symbols) c.load_several.result
    c.in-Some.is c.load_several.ensures.started

pub returns-in-Some-clause-idle : goal.returns-in-Some-clause-idle
returns-in-Some-clause-idle g c =
    machine_idle (file_view c.args.words.now) (others_view c.args.others) (option_map (λ s. s.now) c.args.symbols) c.load_several.result
    (several_started (file_view c.args.words.now) c.args.others c.in-Some.field-0 (option_map (λ s. s.now) c.args.symbols) c.load_several.result
    c.in-Some.is c.load_several.ensures.started)

pub returns-in-Some-clause-silent : goal.returns-in-Some-clause-silent
returns-in-Some-clause-silent g c =
    machine_silent (file_view c.args.words.now) (others_view c.args.others) (option_map (λ s. s.now) c.args.symbols) c.load_several.result
    (several_started (file_view c.args.words.now) c.args.others c.in-Some.field-0 (option_map (λ s. s.now) c.args.symbols) c.load_several.result
    c.in-Some.is c.load_several.ensures.started)
