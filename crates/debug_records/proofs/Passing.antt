-- A refusal that is passed on.
use Rattle.std.proofs.Common.{◌≡◌, Result, Ok, Err, ap}
use Rattle.debug_records.specs.Faults.{◌>>=◌, Refuses, RefusesInfo}
use Rattle.debug_records.specs.declared.fault.DebugError.{DebugError}
use Rattle.debug_records.specs.declared.fault.DebugError.TheVariants as debug
use Rattle.debug_records.specs.declared.fault.DebugFault.{DebugFault}
use Rattle.debug_records.specs.declared.fault.LineError.{LineError}
use Rattle.debug_records.specs.declared.fault.LineError.TheVariants as error
use Rattle.debug_records.specs.declared.fault.LineFault.{LineFault}

-- where the fault of a part is that of the whole
pub passed_on : {B D : Type 0} (why : LineError) (part : Result B LineFault) (whole : Result D LineFault)
    → ((fault : LineFault) → part ≡ Err fault → whole ≡ Err fault) → Refuses why part → Refuses why whole
passed_on (error.Fault fault) part whole same h = same fault h
passed_on error.Memory part whole same h = tt

pub passed_on_in_file : {B D : Type 0} (why : DebugError) (part : Result B DebugFault) (whole : Result D DebugFault)
    → ((fault : DebugFault) → part ≡ Err fault → whole ≡ Err fault) → RefusesInfo why part → RefusesInfo why whole
passed_on_in_file (debug.Fault fault) part whole same h = same fault h
passed_on_in_file debug.OutOfMemory part whole same h = tt

-- the first step of several
pub first_refused : {B D : Type 0} (why : LineError) (part : Result B LineFault) (next : B → Result D LineFault) → Refuses why part
    → Refuses why (part >>= next)
first_refused (error.Fault fault) part next h = ap (λ r. r >>= next) h
first_refused error.Memory part next h = tt

pub first_refused_in_file : {B D : Type 0} (why : DebugError) (part : Result B DebugFault) (next : B → Result D DebugFault) → RefusesInfo why part
    → RefusesInfo why (part >>= next)
first_refused_in_file (debug.Fault fault) part next h = ap (λ r. r >>= next) h
first_refused_in_file debug.OutOfMemory part next h = tt
