use Rattle.papertape.proofs.OneReading.{each_text, one_image, one_fault, image_or_fault}
use Rattle.papertape.proofs.law.each_text_has_one_reading.Goals as goal

pub returns-clause-each : goal.returns-clause-each
returns-clause-each c = each_text

pub returns-clause-image : goal.returns-clause-image
returns-clause-image c = one_image

pub returns-clause-fault : goal.returns-clause-fault
returns-clause-fault c = one_fault

pub returns-clause-either : goal.returns-clause-either
returns-clause-either c = image_or_fault
