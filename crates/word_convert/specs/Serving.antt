-- The refusal of a fault that ends serving. Source: mos65.
use Rattle.arguments.specs.declared.refusal.ReadFault.TheVariants.{Other}
use Rattle.arguments.specs.declared.refusal.Refusal.{Refusal}
use Rattle.arguments.specs.declared.refusal.Refusal.TheVariants.{OutOfMemory, Read, Write}
use Rattle.engine.specs.declared.fault.EngineFault.{EngineFault}
use Rattle.engine.specs.declared.fault.EngineFault.TheVariants as engine_fault

abbrev pub of_serving : EngineFault → Refusal
of_serving engine_fault.Read = Read Other
of_serving engine_fault.Write = Write
of_serving fault = OutOfMemory
