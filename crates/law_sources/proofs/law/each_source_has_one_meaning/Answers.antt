use Rattle.law_sources.proofs.OneMeaning.{each_source, one_image, one_fault, image_or_fault}
use Rattle.law_sources.proofs.law.each_source_has_one_meaning.Goals as goal

pub returns-clause-each : goal.returns-clause-each
returns-clause-each c = each_source

pub returns-clause-image : goal.returns-clause-image
returns-clause-image c = one_image

pub returns-clause-fault : goal.returns-clause-fault
returns-clause-fault c = one_fault

pub returns-clause-either : goal.returns-clause-either
returns-clause-either c = image_or_fault
